-- Each turn of the reading of a target: the part that it reads, and that it takes a token.
use Rattle.std.proofs.Common.{◌≡◌, ℕ, suc, ◌+◌, ◌<◌, Bool, true, false, cond, List, [], ◌∷◌, ◌++◌, length, drop, refl, sym, ap, subst, ◌∙◌, inl, inr, length-append, arith}
use Rattle.std.specs.Prelude.{◌==◌, ◌⊎◌}
use Rattle.std.proofs.lemmas.Bool.{cases_Bool}
use Rattle.eq_vlex.specs.declared.mark.Mark.{Mark}
use Rattle.eq_vlex.specs.declared.mark.Mark.TheVariants.{LeftBracket, RightBracket, LeftBrace, RightBrace, Colon, Comma}
use Rattle.eq_vlex.specs.declared.token.TokenKind.{TokenKind}
use Rattle.eq_vlex.specs.declared.token.TokenKind.TheVariants as token
use Rattle.eq_vparse.specs.declared.tree.Target.{Target}
use Rattle.eq_vparse.specs.declared.tree.Target.TheVariants.{Net, Bit, Part}
use Rattle.eq_vparse.specs.declared.tree.Target.TheViews.{Concat}
use Rattle.eq_vparse.specs.Tests.{is_mark}
use Rattle.eq_vparse.specs.Reading.{Reading, read, stopped, next, ◌>>=◌, done, name_at, decimal_at, takes, expect}
use Rattle.eq_vparse.specs.Looping.{Turn, again, ended, after, turned, loop}
use Rattle.eq_vparse.specs.TargetReading.{part_to, selected, part_at, Braced, place, wanted}
use Rattle.eq_vparse.proofs.Standing.{mark_stands}
use Rattle.eq_vparse.proofs.Agreement.{same_value, same_left, next_read, name_sound, decimal_sound, mark_sound}
use Rattle.eq_vparse.proofs.Looping.{Progresses, loop-is}

-- ---- parts

-- the tokens of a part that is no concatenation
abbrev pub IsNet : List TokenKind → Target → Type 0
IsNet us t = (n : List ℕ) × (us ≡ token.Word n ∷ []) × (t ≡ Net n)

abbrev pub IsBit : List TokenKind → Target → Type 0
IsBit us t = (n : List ℕ) × (d : ℕ) × (us ≡ token.Word n ∷ token.Mark LeftBracket ∷ token.Decimal d ∷ token.Mark RightBracket ∷ []) × (t ≡ Bit n d)

abbrev pub IsPart : List TokenKind → Target → Type 0
IsPart us t = (n : List ℕ) × (l : ℕ) × (r : ℕ) × (us ≡ token.Word n ∷ token.Mark LeftBracket ∷ token.Decimal l ∷ token.Mark Colon ∷ token.Decimal r ∷ token.Mark RightBracket ∷ []) × (t ≡ Part n l r)

abbrev pub IsPlain : List TokenKind → Target → Type 0
IsPlain us t = IsNet us t ⊎ IsBit us t ⊎ IsPart us t

-- what a test of a mark decides
pub taken : {A : Type 0} (m : Mark) (ts : List TokenKind) (f : Bool → List TokenKind → Reading A) (a : A) (r : List TokenKind) → next (takes m ts) f ≡ read a r
    → ((ts ≡ token.Mark m ∷ drop 1 ts) × (f true (drop 1 ts) ≡ read a r)) ⊎ ((is_mark m ts ≡ false) × (f false ts ≡ read a r))
unfolding takes
taken m ts f a r e = elim (cases_Bool (is_mark m ts)) [
  | inl y ↦ inl (mark_stands m ts y, subst (λ b. next (cond b (read true (drop 1 ts)) (read false ts)) f ≡ read a r) y e)
  | inr n ↦ inr (n, subst (λ b. next (cond b (read true (drop 1 ts)) (read false ts)) f ≡ read a r) n e)
]

-- a token that is wanted
pub expected : {A : Type 0} (m : Mark) (ts : List TokenKind) (f : Unit {0} → List TokenKind → Reading A) (a : A) (r : List TokenKind) → next (expect m ts) f ≡ read a r
    → (rest : List TokenKind) × (ts ≡ token.Mark m ∷ rest) × (f tt rest ≡ read a r)
expected m ts f a r e =
    let n = next_read (expect m ts) f a r e in
    let s = mark_sound m ts n.0 n.1 n.2 in
    (n.1, s.1 ∙ ap (λ (x : List TokenKind). x ++ n.1) s.2, n.3)

pub number : {A : Type 0} (ts : List TokenKind) (f : ℕ → List TokenKind → Reading A) (a : A) (r : List TokenKind) → next (decimal_at ts) f ≡ read a r
    → (d : ℕ) × (rest : List TokenKind) × (ts ≡ token.Decimal d ∷ rest) × (f d rest ≡ read a r)
number ts f a r e =
    let n = next_read (decimal_at ts) f a r e in
    let s = decimal_sound ts n.0 n.1 n.2 in
    (n.0, n.1, s.1 ∙ ap (λ (x : List TokenKind). x ++ n.1) s.2, n.3)

pub word : {A : Type 0} (ts : List TokenKind) (f : List ℕ → List TokenKind → Reading A) (a : A) (r : List TokenKind) → next (name_at ts) f ≡ read a r
    → (w : List ℕ) × (rest : List TokenKind) × (ts ≡ token.Word w ∷ rest) × (f w rest ≡ read a r)
word ts f a r e =
    let n = next_read (name_at ts) f a r e in
    let s = name_sound ts n.0 n.1 n.2 in
    (n.0, n.1, s.1 ∙ ap (λ (x : List TokenKind). x ++ n.1) s.2, n.3)

part_to_sound : (n : List ℕ) (l : ℕ) (ts : List TokenKind) (t : Target) (r : List TokenKind) → part_to n l ts ≡ read t r
    → (k : ℕ) × (ts ≡ token.Mark Colon ∷ token.Decimal k ∷ token.Mark RightBracket ∷ r) × (t ≡ Part n l k)
unfolding part_to
part_to_sound n l ts t r e =
    let a = expected Colon ts (λ _. decimal_at >>= λ k. expect RightBracket >>= λ _. done (Part n l k)) t r e in
    let b = number a.0 (λ k. expect RightBracket >>= λ _. done (Part n l k)) t r a.2 in
    let c = expected RightBracket b.1 (λ _. done (Part n l b.0)) t r b.3 in
    let same : c.0 ≡ r = same_left (Part n l b.0) t c.0 r c.2 in
    let behind : b.1 ≡ token.Mark RightBracket ∷ r = c.1 ∙ ap (λ (x : List TokenKind). token.Mark RightBracket ∷ x) same in
    let whole : ts ≡ token.Mark Colon ∷ token.Decimal b.0 ∷ token.Mark RightBracket ∷ r = a.1 ∙ ap (λ (x : List TokenKind). token.Mark Colon ∷ x) (b.2 ∙ ap (λ (x : List TokenKind). token.Decimal b.0 ∷ x) behind) in
    (b.0, whole, sym (same_value (Part n l b.0) t c.0 r c.2))

pub part_sound : (ts : List TokenKind) (t : Target) (r : List TokenKind) → part_at ts ≡ read t r → (us : List TokenKind) × (ts ≡ us ++ r) × IsPlain us t
unfolding part_at selected
part_sound ts t r e =
    let a = word ts (λ n. takes LeftBracket >>= λ bracket. cond bracket (selected n) (done (Net n))) t r e in
    let n = a.0 in
    elim (taken LeftBracket a.1 (λ bracket. cond bracket (selected n) (done (Net n))) t r a.3) [
      | inl b ↦
          let c = number (drop 1 a.1) (λ d. takes RightBracket >>= λ alone. cond alone (done (Bit n d)) (part_to n d)) t r b.1 in
          let d = c.0 in
          elim (taken RightBracket c.1 (λ alone. cond alone (done (Bit n d)) (part_to n d)) t r c.3) [
            | inl g ↦
                let same : drop 1 c.1 ≡ r = same_left (Bit n d) t (drop 1 c.1) r g.1 in
                let whole : ts ≡ token.Word n ∷ token.Mark LeftBracket ∷ token.Decimal d ∷ token.Mark RightBracket ∷ r =
                a.2 ∙ ap (λ (x : List TokenKind). token.Word n ∷ x) (b.0 ∙ ap (λ (x : List TokenKind). token.Mark LeftBracket ∷ x) (c.2 ∙ ap (λ (x : List TokenKind). token.Decimal d ∷ x) (g.0 ∙ ap (λ (x : List TokenKind). token.Mark RightBracket ∷ x) same))) in
                (token.Word n ∷ token.Mark LeftBracket ∷ token.Decimal d ∷ token.Mark RightBracket ∷ [], whole, inr (inl (n, d, refl, sym (same_value (Bit n d) t (drop 1 c.1) r g.1))))
            | inr g ↦
                let p = part_to_sound n d c.1 t r g.1 in
                let whole : ts ≡ token.Word n ∷ token.Mark LeftBracket ∷ token.Decimal d ∷ token.Mark Colon ∷ token.Decimal p.0 ∷ token.Mark RightBracket ∷ r =
                a.2 ∙ ap (λ (x : List TokenKind). token.Word n ∷ x) (b.0 ∙ ap (λ (x : List TokenKind). token.Mark LeftBracket ∷ x) (c.2 ∙ ap (λ (x : List TokenKind). token.Decimal d ∷ x) p.1)) in
                (token.Word n ∷ token.Mark LeftBracket ∷ token.Decimal d ∷ token.Mark Colon ∷ token.Decimal p.0 ∷ token.Mark RightBracket ∷ [], whole, inr (inr (n, d, p.0, refl, p.2)))
          ]
      | inr b ↦ (token.Word n ∷ [], a.2 ∙ ap (λ (x : List TokenKind). token.Word n ∷ x) (same_left (Net n) t a.1 r b.1), inl (n, refl, sym (same_value (Net n) t a.1 r b.1)))
    ]

-- ---- turns

abbrev left_of : {S A : Type 0} → Turn S A → List TokenKind
left_of (again s left) = left
left_of (ended r) = []

pub never_again : {S A : Type 0} (r : Reading A) (s : S) (left : List TokenKind) → ended r ≡ again s left → ⊥
never_again r s left e = absurd cc

pub after_again : {S A B : Type 0} (o : Reading A) (f : A → List TokenKind → Turn S B) (s : S) (left : List TokenKind) → after o f ≡ again s left
    → (a : A) × (m : List TokenKind) × (o ≡ read a m) × (f a m ≡ again s left)
after_again (read a m) f s left e = (a, m, refl, e)
after_again {S = S} {B = B} (stopped x) f s left e = absurd (never_again {S = S} {A = B} (stopped x) s left e)

shorter : (m : Mark) (ts : List TokenKind) → is_mark m ts ≡ true → length (drop 1 ts) < length ts
shorter m ts e = let stands : length ts ≡ suc (length (drop 1 ts)) = ap length (mark_stands m ts e) in omega arith

-- the same of a turn
taken_again : {S B : Type 0} (m : Mark) (ts : List TokenKind) (f : Bool → List TokenKind → Turn S B) (s : S) (left : List TokenKind) → after (takes m ts) f ≡ again s left
    → ((ts ≡ token.Mark m ∷ drop 1 ts) × (f true (drop 1 ts) ≡ again s left)) ⊎ ((is_mark m ts ≡ false) × (f false ts ≡ again s left))
unfolding takes
taken_again m ts f s left e = elim (cases_Bool (is_mark m ts)) [
  | inl y ↦ inl (mark_stands m ts y, subst (λ b. after (cond b (read true (drop 1 ts)) (read false ts)) f ≡ again s left) y e)
  | inr n ↦ inr (n, subst (λ b. after (cond b (read true (drop 1 ts)) (read false ts)) f ≡ again s left) n e)
]

expected_again : {S B : Type 0} (m : Mark) (ts : List TokenKind) (f : Unit {0} → List TokenKind → Turn S B) (s : S) (left : List TokenKind) → after (expect m ts) f ≡ again s left
    → (rest : List TokenKind) × (ts ≡ token.Mark m ∷ rest) × (f tt rest ≡ again s left)
expected_again m ts f s left e =
    let n = after_again (expect m ts) f s left e in
    let k = mark_sound m ts n.0 n.1 n.2 in
    (n.1, k.1 ∙ ap (λ (x : List TokenKind). x ++ n.1) k.2, n.3)

place_takes : (room : ℕ) (t : Target) (parts : List (List Target)) (ts : List TokenKind) (s : Braced) (left : List TokenKind) → place room t parts ts ≡ again s left → length left < length ts
place_takes room t [] ts s left e = absurd (never_again _ s left e)
place_takes room t (parts ∷ outer) ts s left e =
    let g : List TokenKind → Turn Braced Target = λ l. after (expect RightBrace l) (λ _ rest. place room (Concat (parts ++ t ∷ [])) outer rest) in
    let f : Bool → List TokenKind → Turn Braced Target = λ more l. cond more (again (record { room = room; parts = (parts ++ t ∷ []) ∷ outer }) l) (g l) in
    elim (taken_again Comma ts f s left e) [
      | inl y ↦
          let long : length ts ≡ suc (length (drop 1 ts)) = ap length y.0 in
          let same : length (drop 1 ts) ≡ length left = ap (λ (x : Turn Braced Target). length (left_of x)) y.1 in
          omega arith
      | inr n ↦
          let a = expected_again RightBrace ts (λ _ rest. place room (Concat (parts ++ t ∷ [])) outer rest) s left n.1 in
          let long : length ts ≡ suc (length a.0) = ap length a.1 in
          let more : length left < length a.0 = place_takes room (Concat (parts ++ t ∷ [])) outer a.0 s left a.2 in
          omega arith
    ]

pub wanted_progress : Progresses wanted
unfolding wanted
wanted_progress b ts s left e = elim (cases_Bool (is_mark LeftBrace ts)) [
  | inl y ↦
      let at = rw y at e in
      elim (cases_Bool (b.room == 0)) [
        | inl z ↦ absurd (never_again _ s left (rw z at at))
        | inr z ↦
            let same : drop 1 ts ≡ left = ap left_of (rw z at at) in
            rw same at (shorter LeftBrace ts y)
      ]
  | inr n ↦
      let a = after_again (part_at ts) (λ t m. place b.room t b.parts m) s left (rw n at e) in
      let p = part_sound ts a.0 a.1 a.2 in
      let long : length ts ≡ length p.0 + length a.1 = ap length p.1 ∙ length-append p.0 a.1 in
      let less : length left < length a.1 = place_takes b.room a.0 b.parts a.1 s left a.3 in
      omega arith
]

-- what a turn decides of the whole reading
pub wanted_first : (b : Braced) (ts : List TokenKind) → loop wanted b ts ≡ turned (wanted b ts) (loop wanted)
wanted_first b ts = loop-is wanted wanted_progress b ts

pub turn_on : (b s : Braced) (ts left : List TokenKind) (total : Reading Target) → wanted b ts ≡ again s left → loop wanted b ts ≡ total → loop wanted s left ≡ total
turn_on b s ts left total turn so_far = ap (λ (x : Turn Braced Target). turned x (loop wanted)) (sym turn) ∙ sym (wanted_first b ts) ∙ so_far

pub turn_off : (b : Braced) (ts : List TokenKind) (total r : Reading Target) → wanted b ts ≡ ended r → loop wanted b ts ≡ total → total ≡ r
turn_off b ts total r turn so_far = sym so_far ∙ wanted_first b ts ∙ ap (λ (x : Turn Braced Target). turned x (loop wanted)) turn
