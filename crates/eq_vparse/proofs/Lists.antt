-- Lists that are read turn by turn: with commas between their parts, or up to a token that stops them.
use Rattle.std.proofs.Common.{◌≡◌, ℕ, zero, suc, ◌+◌, ◌<◌, ◌≤◌, Bool, true, false, cond, List, [], ◌∷◌, ◌++◌, length, drop, ◌⊎◌, refl, sym, ap, subst, ◌∙◌, inl, inr, append_assoc, arith}
use Rattle.std.proofs.lemmas.Bool.{cases_Bool}
use Rattle.std.proofs.lemmas.List.{append-nil, length-append}
use Rattle.eq_vlex.specs.declared.mark.Mark.TheVariants.{Comma}
use Rattle.eq_vlex.specs.declared.token.TokenKind.{TokenKind}
use Rattle.eq_vlex.specs.declared.token.TokenKind.TheVariants as token
use Rattle.eq_vparse.specs.Tests.{is_mark}
use Rattle.eq_vparse.specs.Reading.{Reading, read, stopped}
use Rattle.eq_vparse.specs.Looping.{Turn, again, ended, turned, iterate, loop, after, comma_turn, comma_list, turn_until, repeat_until}
use Rattle.eq_vparse.specs.Rules.{Rule, mark, separated, AreMany, ◌>>=◌}
use Rattle.eq_vparse.proofs.Standing.{mark_stands, mark_here}
use Rattle.eq_vparse.proofs.Looping.{Progresses}
use Rattle.eq_vparse.proofs.Agreement.{same_value, same_left, never_read, SoundInto, CompleteInto, put_all}

-- ---- parts with commas between them

abbrev pub AreSeparated : {A : Type 0} → Rule A → List TokenKind → A → List A → Type 0
AreSeparated g ts a [] = g.sentence ts a
AreSeparated g ts a (b ∷ rest) = (us : List TokenKind) × (vs : List TokenKind) × (ts ≡ us ++ token.Mark Comma ∷ vs) × g.sentence us a × AreSeparated g vs b rest

abbrev pub behind_comma : {A : Type 0} → Rule A → Rule A
behind_comma g = mark Comma >>= λ _. g

parted : {A : Type 0} (g : Rule A) (ts : List TokenKind) (a : A) (rest : List A) → AreSeparated g ts a rest
    → (us : List TokenKind) × (vs : List TokenKind) × (ts ≡ us ++ vs) × g.sentence us a × AreMany (behind_comma g) vs rest
parted g ts a [] h = (ts, [], sym (append-nil ts), h, refl)
parted g ts a (b ∷ rest) h =
    let more = parted g h.1 b rest h.4 in
    let c : List TokenKind = token.Mark Comma ∷ [] in
    let whole : token.Mark Comma ∷ h.1 ≡ (c ++ more.0) ++ more.1 = ap (λ (x : List TokenKind). token.Mark Comma ∷ x) more.2 in
    (h.0, token.Mark Comma ∷ h.1, h.2, h.3, (c ++ more.0, more.1, whole, (c, more.0, tt, refl, refl, more.3), more.4))

pub to_separated : {A : Type 0} (g : Rule A) (ts : List TokenKind) (a : A) (rest : List A) → AreSeparated g ts a rest → (separated g).sentence ts (a ∷ rest)
to_separated g ts a rest h =
    let p = parted g ts a rest h in
    (p.0, p.1, a, p.2, p.3, (p.1, [], rest, sym (append-nil p.1), p.4, (refl, refl)))

joined_again : {A : Type 0} (g : Rule A) (us vs : List TokenKind) (a : A) (rest : List A) → g.sentence us a → AreMany (behind_comma g) vs rest → AreSeparated g (us ++ vs) a rest
joined_again g us vs a [] h m = subst (λ (x : List TokenKind). g.sentence x a) (sym (append-nil us) ∙ ap (λ (x : List TokenKind). us ++ x) (sym m)) h
joined_again g us vs a (b ∷ rest) h m =
    let s = m.3 in
    let front : m.0 ≡ token.Mark Comma ∷ s.1 = s.3 ∙ ap (λ (x : List TokenKind). x ++ s.1) s.4 in
    let whole : us ++ vs ≡ us ++ token.Mark Comma ∷ (s.1 ++ m.1) = ap (λ (x : List TokenKind). us ++ x) (m.2 ∙ ap (λ (x : List TokenKind). x ++ m.1) front) in
    (us, s.1 ++ m.1, whole, h, joined_again g s.1 m.1 b rest s.5 m.4)

pub from_separated : {A : Type 0} (g : Rule A) (ts : List TokenKind) (list : List A) → (separated g).sentence ts list
    → (a : A) × (rest : List A) × (list ≡ a ∷ rest) × AreSeparated g ts a rest
from_separated g ts list h =
    let m = h.5 in
    let end : h.1 ≡ m.0 = m.3 ∙ ap (λ (x : List TokenKind). m.0 ++ x) m.5.0 ∙ append-nil m.0 in
    let whole : h.0 ++ m.0 ≡ ts = ap (λ (x : List TokenKind). h.0 ++ x) (sym end) ∙ sym h.3 in
    (h.2, m.2, m.5.1, subst (λ (x : List TokenKind). AreSeparated g x h.2 m.2) whole (joined_again g h.0 m.0 h.2 m.2 h.4 m.4))

-- ---- a turn that begins with a reading

after_read : {S A B : Type 0} (o : Reading A) (f : A → List TokenKind → Turn S B) (goes : S → List TokenKind → Reading B) (b : B) (r : List TokenKind) → turned (after o f) goes ≡ read b r
    → (a : A) × (m : List TokenKind) × (o ≡ read a m) × (turned (f a m) goes ≡ read b r)
after_read (read a m) f goes b r e = (a, m, refl, e)
after_read (stopped s) f goes b r e = absurd (never_read s b r e)

after_again : {S A B : Type 0} (o : Reading A) (f : A → List TokenKind → Turn S B) (s : S) (r : List TokenKind) → after o f ≡ again s r
    → (a : A) × (m : List TokenKind) × (o ≡ read a m) × (f a m ≡ again s r)
after_again (read a m) f s r e = (a, m, refl, e)
after_again (stopped x) f s r e = absurd cc

-- ---- lists with commas

module _ {S A : Type 0} (g : Rule A) (put : S → A → S) (p : S → List TokenKind → Reading S) where
  comma_sound_in : SoundInto g put p → (n : ℕ) (s : S) (ts : List TokenKind) (s' : S) (r : List TokenKind) → iterate n (comma_turn p) s ts ≡ read s' r
      → (us : List TokenKind) × (a : A) × (rest : List A) × (ts ≡ us ++ r) × AreSeparated g us a rest × (s' ≡ put_all put (put s a) rest)
  comma_sound_in sound zero s ts s' r e = absurd (never_read _ s' r e)
  comma_sound_in sound (suc n) s ts s' r e =
      let o = after_read (p s ts) (λ more left. if_comma more left) (iterate n (comma_turn p)) s' r e in
      let h = sound s ts o.0 o.1 o.2 in
      elim (cases_Bool (is_mark Comma o.1)) [
        | inl y ↦
            let e' : iterate n (comma_turn p) o.0 (drop 1 o.1) ≡ read s' r = subst (λ b. turned (cond b (again o.0 (drop 1 o.1)) (ended (read o.0 o.1))) (iterate n (comma_turn p)) ≡ read s' r) y o.3 in
            let k = comma_sound_in sound n o.0 (drop 1 o.1) s' r e' in
            let left : o.1 ≡ token.Mark Comma ∷ (k.0 ++ r) = mark_stands Comma o.1 y ∙ ap (λ (x : List TokenKind). token.Mark Comma ∷ x) k.3 in
            let whole : ts ≡ (h.0 ++ token.Mark Comma ∷ k.0) ++ r = h.2 ∙ ap (λ (x : List TokenKind). h.0 ++ x) left ∙ sym (append_assoc h.0 (token.Mark Comma ∷ k.0) r) in
            (h.0 ++ token.Mark Comma ∷ k.0, h.1, k.1 ∷ k.2, whole, (h.0, k.0, refl, h.3, k.4), k.5 ∙ ap (λ (x : S). put_all put (put x k.1) k.2) h.4)
        | inr n' ↦
            let e' : read o.0 o.1 ≡ read s' r = subst (λ b. turned (cond b (again o.0 (drop 1 o.1)) (ended (read o.0 o.1))) (iterate n (comma_turn p)) ≡ read s' r) n' o.3 in
            (h.0, h.1, [], h.2 ∙ ap (λ (x : List TokenKind). h.0 ++ x) (same_left o.0 s' o.1 r e'), h.3, sym (same_value o.0 s' o.1 r e') ∙ h.4)
      ]
    where
      if_comma : S → List TokenKind → Turn S S
      if_comma more left = cond (is_mark Comma left) (again more (drop 1 left)) (ended (read more left))

  pub comma_sound : SoundInto g put p → (s : S) (ts : List TokenKind) (s' : S) (r : List TokenKind) → comma_list p s ts ≡ read s' r
      → (us : List TokenKind) × (list : List A) × (ts ≡ us ++ r) × (separated g).sentence us list × (s' ≡ put_all put s list)
  unfolding loop
  comma_sound sound s ts s' r e =
      let h = comma_sound_in sound (suc (length ts)) s ts s' r e in
      (h.0, h.1 ∷ h.2, h.3, to_separated g h.0 h.1 h.2 h.4, h.5)

  comma_complete_in : (G F : List TokenKind → Type 0) → CompleteInto g put p G → ((ts : List TokenKind) → G (token.Mark Comma ∷ ts)) → ((ts : List TokenKind) → F ts → G ts) → ((ts : List TokenKind) → F ts → is_mark Comma ts ≡ false)
      → (rest : List A) (n : ℕ) (s : S) (us : List TokenKind) (a : A) (r : List TokenKind) → AreSeparated g us a rest → F r → length (us ++ r) < n
      → iterate n (comma_turn p) s (us ++ r) ≡ read (put_all put (put s a) rest) r
  comma_complete_in G F complete comma follows ends rest zero s us a r h fr lt = absurd (omega arith)
  comma_complete_in G F complete comma follows ends [] (suc n) s us a r h fr lt = rw (complete s us a r h (follows r fr), ends r fr) refl
  comma_complete_in G F complete comma follows ends (b ∷ rest) (suc n) s us a r h fr lt =
      let whole : us ++ r ≡ h.0 ++ token.Mark Comma ∷ (h.1 ++ r) = ap (λ (x : List TokenKind). x ++ r) h.2 ∙ append_assoc h.0 (token.Mark Comma ∷ h.1) r in
      let long : length (us ++ r) ≡ length h.0 + suc (length (h.1 ++ r)) = ap length whole ∙ length-append h.0 (token.Mark Comma ∷ (h.1 ++ r)) in
      rw (whole, complete s h.0 a (token.Mark Comma ∷ (h.1 ++ r)) h.3 (comma (h.1 ++ r)), mark_here Comma (h.1 ++ r))
      (comma_complete_in G F complete comma follows ends rest n (put s a) h.1 b r h.4 fr (omega arith))

  pub comma_complete : (G F : List TokenKind → Type 0) → CompleteInto g put p G → ((ts : List TokenKind) → G (token.Mark Comma ∷ ts)) → ((ts : List TokenKind) → F ts → G ts) → ((ts : List TokenKind) → F ts → is_mark Comma ts ≡ false)
      → (s : S) (us : List TokenKind) (list : List A) (r : List TokenKind) → (separated g).sentence us list → F r → comma_list p s (us ++ r) ≡ read (put_all put s list) r
  unfolding loop
  comma_complete G F complete comma follows ends s us list r h fr =
      let k = from_separated g us list h in
      let P : List A → Type 0 = λ x. loop (comma_turn p) s (us ++ r) ≡ read (put_all put s x) r in
      subst P (sym k.2) (comma_complete_in G F complete comma follows ends k.1 (suc (length (us ++ r))) s us k.0 r k.3 fr (omega arith))

  -- what the first turn of a list reads, and how it goes on
  pub comma_opens : (s : S) (ts : List TokenKind) (s' : S) (r : List TokenKind) → comma_list p s ts ≡ read s' r
      → (more : S) × (m : List TokenKind) × (p s ts ≡ read more m) × (((is_mark Comma m ≡ true) × (iterate (length ts) (comma_turn p) more (drop 1 m) ≡ read s' r)) ⊎ ((is_mark Comma m ≡ false) × (read more m ≡ read s' r)))
  unfolding loop
  comma_opens s ts s' r e =
      let o = after_read (p s ts) (λ more left. cond (is_mark Comma left) (again more (drop 1 left)) (ended (read more left))) (iterate (length ts) (comma_turn p)) s' r e in (
        o.0,
        o.1,
        o.2,
        elim (cases_Bool (is_mark Comma o.1)) [
          | inl y ↦ inl (y, subst (λ b. turned (cond b (again o.0 (drop 1 o.1)) (ended (read o.0 o.1))) (iterate (length ts) (comma_turn p)) ≡ read s' r) y o.3)
          | inr n ↦ inr (n, subst (λ b. turned (cond b (again o.0 (drop 1 o.1)) (ended (read o.0 o.1))) (iterate (length ts) (comma_turn p)) ≡ read s' r) n o.3)
        ],
      )

  -- what is left is no longer than what there was
  pub comma_left : SoundInto g put p → (n : ℕ) (s : S) (ts : List TokenKind) (s' : S) (r : List TokenKind) → iterate n (comma_turn p) s ts ≡ read s' r → length r ≤ length ts
  comma_left sound n s ts s' r e =
      let h = comma_sound_in sound n s ts s' r e in
      let long : length ts ≡ length h.0 + length r = ap length h.3 ∙ length-append h.0 r in
      omega arith

  pub comma_progress : SoundInto g put p → Progresses (comma_turn p)
  comma_progress sound s ts s' left e =
      let o = after_again (p s ts) (λ more rest. cond (is_mark Comma rest) (again more (drop 1 rest)) (ended (read more rest))) s' left e in
      let h = sound s ts o.0 o.1 o.2 in
      let long : length ts ≡ length h.0 + length o.1 = ap length h.2 ∙ length-append h.0 o.1 in
      elim (cases_Bool (is_mark Comma o.1)) [
        | inl y ↦
            let e' : again o.0 (drop 1 o.1) ≡ again s' left = subst (λ b. cond b (again o.0 (drop 1 o.1)) (ended (read o.0 o.1)) ≡ again s' left) y o.3 in
            let one : length o.1 ≡ suc (length (drop 1 o.1)) = ap length (mark_stands Comma o.1 y) in
            let same : drop 1 o.1 ≡ left = cc in
            let short : length (drop 1 o.1) ≡ length left = ap length same in
            omega arith
        | inr n ↦ absurd (never (subst (λ b. cond b (again o.0 (drop 1 o.1)) (ended (read o.0 o.1)) ≡ again s' left) n o.3))
      ]
    where
      never : {x : S} {y : List TokenKind} {o : Reading S} → ended o ≡ again x y → ⊥
      never e = absurd cc

  -- ---- lists up to a stop

  until_sound_in : (stops : List TokenKind → Bool) → SoundInto g put p → (n : ℕ) (s : S) (ts : List TokenKind) (s' : S) (r : List TokenKind) → iterate n (turn_until stops p) s ts ≡ read s' r
      → (us : List TokenKind) × (list : List A) × (ts ≡ us ++ r) × AreMany g us list × (s' ≡ put_all put s list) × (stops r ≡ true)
  until_sound_in stops sound zero s ts s' r e = absurd (never_read _ s' r e)
  until_sound_in stops sound (suc n) s ts s' r e =
      elim (cases_Bool (stops ts)) [
        | inl y ↦
            let e' : read s ts ≡ read s' r = subst (λ b. turned (cond b (ended (read s ts)) (after (p s ts) again)) (iterate n (turn_until stops p)) ≡ read s' r) y e in
            let left : ts ≡ r = same_left s s' ts r e' in
            ([], [], left, refl, sym (same_value s s' ts r e'), subst (λ (x : List TokenKind). stops x ≡ true) left y)
        | inr n' ↦
            let e' : turned (after (p s ts) again) (iterate n (turn_until stops p)) ≡ read s' r = subst (λ b. turned (cond b (ended (read s ts)) (after (p s ts) again)) (iterate n (turn_until stops p)) ≡ read s' r) n' e in
            let o = after_read (p s ts) again (iterate n (turn_until stops p)) s' r e' in
            let h = sound s ts o.0 o.1 o.2 in
            let k = until_sound_in stops sound n o.0 o.1 s' r o.3 in
            let whole : ts ≡ (h.0 ++ k.0) ++ r = h.2 ∙ ap (λ (x : List TokenKind). h.0 ++ x) k.2 ∙ sym (append_assoc h.0 k.0 r) in
            (h.0 ++ k.0, h.1 ∷ k.1, whole, (h.0, k.0, refl, h.3, k.3), k.4 ∙ ap (λ (x : S). put_all put x k.1) h.4, k.5)
      ]

  pub until_sound : (stops : List TokenKind → Bool) → SoundInto g put p → (s : S) (ts : List TokenKind) (s' : S) (r : List TokenKind) → repeat_until stops p s ts ≡ read s' r
      → (us : List TokenKind) × (list : List A) × (ts ≡ us ++ r) × AreMany g us list × (s' ≡ put_all put s list) × (stops r ≡ true)
  unfolding loop
  until_sound stops sound s ts s' r e = until_sound_in stops sound (suc (length ts)) s ts s' r e

  until_complete_in : (stops : List TokenKind → Bool) (G F : List TokenKind → Type 0) → CompleteInto g put p G
      → ((us : List TokenKind) (a : A) (r : List TokenKind) → g.sentence us a → stops (us ++ r) ≡ false) → ((us : List TokenKind) (a : A) → g.sentence us a → 0 < length us)
      → ((vs : List TokenKind) (list : List A) (r : List TokenKind) → AreMany g vs list → F r → G (vs ++ r)) → ((r : List TokenKind) → F r → stops r ≡ true)
      → (list : List A) (n : ℕ) (s : S) (us r : List TokenKind) → AreMany g us list → F r → length (us ++ r) < n → iterate n (turn_until stops p) s (us ++ r) ≡ read (put_all put s list) r
  until_complete_in stops G F complete starts some follows ends list zero s us r h fr lt = absurd (omega arith)
  until_complete_in stops G F complete starts some follows ends [] (suc n) s us r h fr lt = rw (h, ends r fr) refl
  until_complete_in stops G F complete starts some follows ends (a ∷ list) (suc n) s us r h fr lt =
      let whole : us ++ r ≡ h.0 ++ (h.1 ++ r) = ap (λ (x : List TokenKind). x ++ r) h.2 ∙ append_assoc h.0 h.1 r in
      let long : length (us ++ r) ≡ length h.0 + length (h.1 ++ r) = ap length whole ∙ length-append h.0 (h.1 ++ r) in
      let more : 0 < length h.0 = some h.0 a h.3 in
      rw (whole, starts h.0 a (h.1 ++ r) h.3, complete s h.0 a (h.1 ++ r) h.3 (follows h.1 list r h.4 fr))
      (until_complete_in stops G F complete starts some follows ends list n (put s a) h.1 r h.4 fr (omega arith))

  pub until_complete : (stops : List TokenKind → Bool) (G F : List TokenKind → Type 0) → CompleteInto g put p G
      → ((us : List TokenKind) (a : A) (r : List TokenKind) → g.sentence us a → stops (us ++ r) ≡ false) → ((us : List TokenKind) (a : A) → g.sentence us a → 0 < length us)
      → ((vs : List TokenKind) (list : List A) (r : List TokenKind) → AreMany g vs list → F r → G (vs ++ r)) → ((r : List TokenKind) → F r → stops r ≡ true)
      → (s : S) (us : List TokenKind) (list : List A) (r : List TokenKind) → AreMany g us list → F r → repeat_until stops p s (us ++ r) ≡ read (put_all put s list) r
  unfolding loop
  until_complete stops G F complete starts some follows ends s us list r h fr =
      until_complete_in stops G F complete starts some follows ends list (suc (length (us ++ r))) s us r h fr (omega arith)

  pub until_progress : (stops : List TokenKind → Bool) → SoundInto g put p → ((us : List TokenKind) (a : A) → g.sentence us a → 0 < length us) → Progresses (turn_until stops p)
  until_progress stops sound some s ts s' left e =
      elim (cases_Bool (stops ts)) [
        | inl y ↦ absurd (never (subst (λ b. cond b (ended (read s ts)) (after (p s ts) again) ≡ again s' left) y e))
        | inr n ↦
            let o = after_again (p s ts) again s' left (subst (λ b. cond b (ended (read s ts)) (after (p s ts) again) ≡ again s' left) n e) in
            let h = sound s ts o.0 o.1 o.2 in
            let long : length ts ≡ length h.0 + length o.1 = ap length h.2 ∙ length-append h.0 o.1 in
            let more : 0 < length h.0 = some h.0 h.1 h.3 in
            let same : o.1 ≡ left = cc in
            let short : length o.1 ≡ length left = ap length same in
            omega arith
      ]
    where
      never : {x : S} {y : List TokenKind} {o : Reading S} → ended o ≡ again x y → ⊥
      never e = absurd cc
