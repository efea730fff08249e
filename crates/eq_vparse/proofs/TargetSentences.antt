-- A target's sentence is read as its target, and what is read is a target's sentence.
use Rattle.std.proofs.Common.{◌≡◌, ℕ, zero, suc, ◌+◌, ◌<◌, ◌≤◌, Bool, true, false, cond, List, [], ◌∷◌, ◌++◌, length, drop, Option, Some, None, refl, sym, ap, subst, ◌∙◌, inl, inr, append_assoc, length-append, arith}
use Rattle.std.specs.Prelude.{◌==◌, ◌-◌, ◌⊎◌}
use Rattle.std.proofs.lemmas.Bool.{cases_Bool}
use Rattle.std.proofs.lemmas.Bool.Decides.{nat_tests}
use Rattle.std.proofs.lemmas.List.Sums.{sum_by-append, sum_by-cons}
use Rattle.eq_vlex.specs.declared.mark.Mark.{Mark}
use Rattle.eq_vlex.specs.declared.mark.Mark.TheVariants.{LeftBracket, RightBracket, LeftBrace, RightBrace, Colon, Comma}
use Rattle.eq_vlex.specs.declared.token.TokenKind.{TokenKind}
use Rattle.eq_vlex.specs.declared.token.TokenKind.TheVariants as token
use Rattle.eq_vparse.specs.declared.tree.Range.{Range}
use Rattle.eq_vparse.specs.declared.tree.Target.{Target}
use Rattle.eq_vparse.specs.declared.tree.Target.TheViews.{Concat}
use Rattle.eq_vparse.specs.Tests.{is_mark, mark_number}
use Rattle.eq_vparse.specs.Reading.{Reading, ◌>>=◌, done, read, stopped, name_at, decimal_at, takes, expect}
use Rattle.eq_vparse.specs.Rules.{Rule, maybe, limited}
use Rattle.eq_vparse.specs.Targets.{range, index, target_up_to, target, is_brace, braces}
use Rattle.eq_vparse.specs.Looping.{Turn, again, after, turned, loop}
use Rattle.eq_vparse.specs.TargetReading.{begins_target, range_at, index_at, maybe_range_at, maybe_index_at, part_to, selected, part_at, Braced, place, wanted, target_at}
use Rattle.eq_vparse.proofs.Standing.{mark_stands}
use Rattle.eq_vparse.proofs.Agreement.{same_value, same_left, never_read, next_read, mark_sound, Sound, Complete, Anything}
use Rattle.eq_vparse.proofs.Lists.{AreSeparated, from_separated, to_separated}
use Rattle.eq_vparse.proofs.TargetTurns.{IsPlain, expected, number, part_sound, wanted_first}

-- ---- what the rules say, token by token

pub index_is : (us : List TokenKind) (d : ℕ) → index.sentence us d → us ≡ token.Mark LeftBracket ∷ token.Decimal d ∷ token.Mark RightBracket ∷ []
index_is us d s =
    let b = s.5 in
    let c = b.5 in
    rw (s.3, s.4, b.3, b.4, c.3, c.4, c.5.0, c.5.1) refl

pub range_is : (us : List TokenKind) (g : Range) → range.sentence us g → us ≡ token.Mark LeftBracket ∷ token.Decimal g.left ∷ token.Mark Colon ∷ token.Decimal g.right ∷ token.Mark RightBracket ∷ []
range_is us g s =
    let b = s.5 in
    let c = b.5 in
    let d = c.5 in
    let e = d.5 in
    rw (s.3, s.4, b.3, b.4, c.3, c.4, d.3, d.4, e.3, e.4, e.5.0, e.5.1) refl

pub index_of : (d : ℕ) → index.sentence (token.Mark LeftBracket ∷ token.Decimal d ∷ token.Mark RightBracket ∷ []) d
index_of d =
    let n : List TokenKind = token.Decimal d ∷ [] in
    let c : List TokenKind = token.Mark RightBracket ∷ [] in
    (token.Mark LeftBracket ∷ [], n ++ c, tt, refl, refl, (n, c, d, refl, refl, (c, [], tt, refl, refl, (refl, refl))))

pub range_of : (l r : ℕ) → range.sentence (token.Mark LeftBracket ∷ token.Decimal l ∷ token.Mark Colon ∷ token.Decimal r ∷ token.Mark RightBracket ∷ []) (record { left = l; right = r })
range_of l r =
    let a : List TokenKind = token.Decimal l ∷ [] in
    let b : List TokenKind = token.Mark Colon ∷ [] in
    let c : List TokenKind = token.Decimal r ∷ [] in
    let d : List TokenKind = token.Mark RightBracket ∷ [] in
    (token.Mark LeftBracket ∷ [], a ++ (b ++ (c ++ d)), tt, refl, refl, (a, b ++ (c ++ d), l, refl, refl, (b, c ++ d, tt, refl, refl, (c, d, r, refl, refl, (d, [], tt, refl, refl, (refl, refl))))))

-- parts in their braces
abbrev pub IsConcat : ℕ → List TokenKind → Target → Type 0
IsConcat n us t = (ws : List TokenKind) × (a : Target) × (rest : List Target) × (us ≡ token.Mark LeftBrace ∷ (ws ++ token.Mark RightBrace ∷ [])) × AreSeparated (target_up_to n) ws a rest × (t ≡ Concat (a ∷ rest))

pub apart : (n : ℕ) (us : List TokenKind) (t : Target) → (target_up_to (suc n)).sentence us t → IsPlain us t ⊎ IsConcat n us t
apart n us t (inl s) = inl (inl (s.2, rw (s.3, s.4, s.5.0) refl, s.5.1))
apart n us t (inr (inl s)) =
    let b = s.5 in
    inl (inr (inl (s.2, b.2, rw (s.3, s.4, b.3, index_is b.0 b.2 b.4, b.5.0) refl, b.5.1)))
apart n us t (inr (inr (inl s))) =
    let b = s.5 in
    inl (inr (inr (s.2, b.2.left, b.2.right, rw (s.3, s.4, b.3, range_is b.0 b.2 b.4, b.5.0) refl, b.5.1)))
apart n us t (inr (inr (inr s))) =
    let b = s.5 in
    let c = b.5 in
    let p = from_separated (target_up_to n) b.0 b.2 b.4 in
    inr (b.0, p.0, p.1, rw (s.3, s.4, b.3, c.3, c.4, c.5.0) refl, p.3, c.5.1 ∙ ap Concat p.2)

pub plain_again : (n : ℕ) (us : List TokenKind) (t : Target) → IsPlain us t → (target_up_to (suc n)).sentence us t
plain_again n us t (inl s) = inl (token.Word s.0 ∷ [], [], s.0, s.1, refl, (refl, s.2))
plain_again n us t (inr (inl s)) =
    let i : List TokenKind = token.Mark LeftBracket ∷ token.Decimal s.1 ∷ token.Mark RightBracket ∷ [] in
    inr (inl (token.Word s.0 ∷ [], i, s.0, s.2, refl, (i, [], s.1, refl, index_of s.1, (refl, s.3))))
plain_again n us t (inr (inr s)) =
    let i : List TokenKind = token.Mark LeftBracket ∷ token.Decimal s.1 ∷ token.Mark Colon ∷ token.Decimal s.2 ∷ token.Mark RightBracket ∷ [] in
    inr (inr (inl (token.Word s.0 ∷ [], i, s.0, s.3, refl, (i, [], record { left = s.1; right = s.2 }, refl, range_of s.1 s.2, (refl, s.4)))))

pub concat_again : (n : ℕ) (us : List TokenKind) (t : Target) → IsConcat n us t → (target_up_to (suc n)).sentence us t
concat_again n us t s =
    let e : List TokenKind = token.Mark RightBrace ∷ [] in
    inr (inr (inr (token.Mark LeftBrace ∷ [], s.0 ++ e, tt, s.3, refl, (s.0, e, s.1 ∷ s.2, refl, to_separated (target_up_to n) s.0 s.1 s.2 s.4, (e, [], tt, refl, refl, (refl, s.5))))))

-- ---- counted marks

mark_count : TokenKind → ℕ
mark_count t = cond (is_brace t) 1 0

braces_joined : (us vs : List TokenKind) → braces (us ++ vs) ≡ braces us + braces vs
unfolding mark_count
braces_joined us vs = sum_by-append mark_count us vs

braces_more : (us : List TokenKind) → braces (token.Mark LeftBrace ∷ us) ≡ suc (braces us)
unfolding mark_count
braces_more us = (let e : braces (token.Mark LeftBrace ∷ us) ≡ 1 + braces us = sum_by-cons mark_count (token.Mark LeftBrace) us in omega arith)

plain_braces : (us : List TokenKind) (t : Target) → IsPlain us t → braces us ≡ 0
plain_braces us t (inl s) = rw s.1 refl
plain_braces us t (inr (inl s)) = rw s.2 refl
plain_braces us t (inr (inr s)) = rw s.3 refl

-- ---- a sentence is read as its target

-- what is left of the reading where a part is found
abbrev pub found : ℕ → Target → List (List Target) → List TokenKind → Reading Target
found room t outer ts = turned (place room t outer ts) (loop wanted)

abbrev pub part_wanted : ℕ → List (List Target) → List TokenKind → Reading Target
part_wanted room outer ts = loop wanted (record { room = room; parts = outer }) ts

part_complete : (us : List TokenKind) (t : Target) (r : List TokenKind) → IsPlain us t → is_mark LeftBracket r ≡ false → part_at (us ++ r) ≡ read t r
unfolding part_at selected part_to name_at decimal_at takes expect is_mark
part_complete us t r (inl s) e = rw (s.1, s.2, e) refl
part_complete us t r (inr (inl s)) e = rw (s.2, s.3) refl
part_complete us t r (inr (inr s)) e = rw (s.3, s.4) refl

no_brace : (us : List TokenKind) (t : Target) (r : List TokenKind) → IsPlain us t → is_mark LeftBrace (us ++ r) ≡ false
unfolding is_mark
no_brace us t r (inl s) = rw s.1 refl
no_brace us t r (inr (inl s)) = rw s.2 refl
no_brace us t r (inr (inr s)) = rw s.3 refl

plain_wanted : (room : ℕ) (outer : List (List Target)) (us : List TokenKind) (t : Target) (r : List TokenKind) → IsPlain us t → is_mark LeftBracket r ≡ false
    → part_wanted room outer (us ++ r) ≡ found room t outer r
unfolding wanted
plain_wanted room outer us t r h e = wanted_first (record { room = room; parts = outer }) (us ++ r) ∙ (rw (no_brace us t r h, part_complete us t r h e) refl)

less_one : (n : ℕ) → (suc n == 0) ≡ false
less_one n = grind (arith, nat_tests)

brace_wanted : (room : ℕ) (outer : List (List Target)) (ts : List TokenKind) → part_wanted (suc room) outer (token.Mark LeftBrace ∷ ts) ≡ part_wanted room ([] ∷ outer) ts
unfolding wanted is_mark
brace_wanted room outer ts =
    let less : suc room - 1 ≡ room = omega arith in
    wanted_first (record { room = suc room; parts = outer }) (token.Mark LeftBrace ∷ ts) ∙ (rw (less_one room, less) refl)

comma_found : (room : ℕ) (t : Target) (parts : List Target) (outer : List (List Target)) (ts : List TokenKind)
    → found room t (parts ∷ outer) (token.Mark Comma ∷ ts) ≡ part_wanted room ((parts ++ t ∷ []) ∷ outer) ts
unfolding takes is_mark
comma_found room t parts outer ts = refl

brace_found : (room : ℕ) (t : Target) (parts : List Target) (outer : List (List Target)) (ts : List TokenKind)
    → found room t (parts ∷ outer) (token.Mark RightBrace ∷ ts) ≡ found room (Concat (parts ++ t ∷ [])) outer ts
unfolding takes expect is_mark
brace_found room t parts outer ts = refl

-- each sentence of the rule is read as a part
abbrev ReadsParts : Rule Target → Type 0
ReadsParts g = (us : List TokenKind) (t : Target) → g.sentence us t → (k j : ℕ) (outer : List (List Target)) (r : List TokenKind) → k ≡ braces us + j → is_mark LeftBracket r ≡ false
    → part_wanted k outer (us ++ r) ≡ found j t outer r

not_bracket : (m : Mark) (ts : List TokenKind) → (mark_number m == mark_number LeftBracket) ≡ false → is_mark LeftBracket (token.Mark m ∷ ts) ≡ false
unfolding is_mark
not_bracket m ts e = e

parts_complete : (g : Rule Target) → ReadsParts g → (rest : List Target) (ws : List TokenKind) (a : Target) → AreSeparated g ws a rest
    → (k j : ℕ) (before : List Target) (outer : List (List Target)) (r : List TokenKind) → k ≡ braces ws + j
    → part_wanted k (before ∷ outer) (ws ++ token.Mark RightBrace ∷ r) ≡ found j (Concat (before ++ a ∷ rest)) outer r
parts_complete g reads [] ws a h k j before outer r e =
    reads ws a h k j (before ∷ outer) (token.Mark RightBrace ∷ r) e (not_bracket RightBrace r refl) ∙ brace_found j a before outer r
parts_complete g reads (b ∷ rest) ws a h k j before outer r e =
    let us = h.0 in
    let vs = h.1 in
    let more : List TokenKind = vs ++ token.Mark RightBrace ∷ r in
    let split : ws ++ token.Mark RightBrace ∷ r ≡ us ++ token.Mark Comma ∷ more = ap (λ (x : List TokenKind). x ++ token.Mark RightBrace ∷ r) h.2 ∙ append_assoc us (token.Mark Comma ∷ vs) (token.Mark RightBrace ∷ r) in
    let marks : braces ws ≡ braces us + braces (token.Mark Comma ∷ vs) = ap braces h.2 ∙ braces_joined us (token.Mark Comma ∷ vs) in
    let commas : braces (token.Mark Comma ∷ vs) ≡ braces vs = refl in
    let first = reads us a h.3 k (braces vs + j) (before ∷ outer) (token.Mark Comma ∷ more) (omega arith) (not_bracket Comma more refl) in
    let others = parts_complete g reads rest vs b h.4 (braces vs + j) j (before ++ a ∷ []) outer r refl in
    ap (part_wanted k (before ∷ outer)) split
    ∙ first
    ∙ comma_found (braces vs + j) a before outer more
    ∙ others
    ∙ ap (λ (x : List Target). found j (Concat x) outer r) (append_assoc before (a ∷ []) (b ∷ rest))

wanted_complete : (n : ℕ) → ReadsParts (target_up_to n)
wanted_complete zero us t h k j outer r e free = absurd h
wanted_complete (suc n) us t h k j outer r e free = elim (apart n us t h) [
  | inl p ↦
      let none : braces us ≡ 0 = plain_braces us t p in
      let same : k ≡ j = omega arith in
      plain_wanted k outer us t r p free ∙ ap (λ (x : ℕ). found x t outer r) same
  | inr c ↦
      let ws = c.0 in
      let end : List TokenKind = token.Mark RightBrace ∷ [] in
      let whole : us ++ r ≡ token.Mark LeftBrace ∷ (ws ++ token.Mark RightBrace ∷ r) = ap (λ (x : List TokenKind). x ++ r) c.3 ∙ ap (λ (x : List TokenKind). token.Mark LeftBrace ∷ x) (append_assoc ws end r) in
      let marks : braces us ≡ suc (braces (ws ++ end)) = ap braces c.3 ∙ braces_more (ws ++ end) in
      let inner : braces (ws ++ end) ≡ braces ws + 0 = braces_joined ws end in
      let count : k ≡ suc (braces ws + j) = omega arith in
      ap (λ (x : ℕ). part_wanted x outer (us ++ r)) count
      ∙ ap (part_wanted (suc (braces ws + j)) outer) whole
      ∙ brace_wanted (braces ws + j) outer (ws ++ token.Mark RightBrace ∷ r)
      ∙ parts_complete (target_up_to n) (wanted_complete n) c.2 ws c.1 c.4 (braces ws + j) j [] outer r refl
      ∙ ap (λ (x : Target). found j x outer r) (sym c.5)
]

pub target_complete : (k : ℕ) (us : List TokenKind) (t : Target) (r : List TokenKind) → (limited braces k target).sentence us t → is_mark LeftBracket r ≡ false → target_at k (us ++ r) ≡ read t r
unfolding target_at
target_complete k us t r h free =
    let room : k ≡ braces us + (k - braces us) = omega (arith, h.1) in
    wanted_complete h.0.0 us t h.0.1 k (k - braces us) [] r room free

-- ---- what is read is a sentence

-- a part that is read is a sentence of the rule, where so many tokens are left at most
abbrev FindsParts : Rule Target → ℕ → Type 0
FindsParts g m = (ts : List TokenKind) (k : ℕ) (outer : List (List Target)) (t : Target) (r : List TokenKind) → length ts ≤ m → part_wanted k outer ts ≡ read t r
    → (us : List TokenKind) × (p : Target) × (j : ℕ) × (left : List TokenKind) × (ts ≡ us ++ left) × g.sentence us p × (k ≡ braces us + j) × (found j p outer left ≡ read t r)

pub after_read : {S A B : Type 0} (o : Reading A) (f : A → List TokenKind → Turn S B) (goes : S → List TokenKind → Reading B) (b : B) (r : List TokenKind) → turned (after o f) goes ≡ read b r
    → (a : A) × (m : List TokenKind) × (o ≡ read a m) × (turned (f a m) goes ≡ read b r)
after_read (read a m) f goes b r e = (a, m, refl, e)
after_read (stopped s) f goes b r e = absurd (never_read s b r e)

pub taken_read : {S B : Type 0} (m : Mark) (ts : List TokenKind) (f : Bool → List TokenKind → Turn S B) (goes : S → List TokenKind → Reading B) (b : B) (r : List TokenKind) → turned (after (takes m ts) f) goes ≡ read b r
    → ((ts ≡ token.Mark m ∷ drop 1 ts) × (turned (f true (drop 1 ts)) goes ≡ read b r)) ⊎ ((is_mark m ts ≡ false) × (turned (f false ts) goes ≡ read b r))
unfolding takes
taken_read m ts f goes b r e = elim (cases_Bool (is_mark m ts)) [
  | inl y ↦ inl (mark_stands m ts y, subst (λ x. turned (after (cond x (read true (drop 1 ts)) (read false ts)) f) goes ≡ read b r) y e)
  | inr n ↦ inr (n, subst (λ x. turned (after (cond x (read true (drop 1 ts)) (read false ts)) f) goes ≡ read b r) n e)
]

pub expected_read : {S B : Type 0} (m : Mark) (ts : List TokenKind) (f : Unit {0} → List TokenKind → Turn S B) (goes : S → List TokenKind → Reading B) (b : B) (r : List TokenKind) → turned (after (expect m ts) f) goes ≡ read b r
    → (rest : List TokenKind) × (ts ≡ token.Mark m ∷ rest) × (turned (f tt rest) goes ≡ read b r)
expected_read m ts f goes b r e =
    let n = after_read (expect m ts) f goes b r e in
    let k = mark_sound m ts n.0 n.1 n.2 in
    (n.1, k.1 ∙ ap (λ (x : List TokenKind). x ++ n.1) k.2, n.3)

-- what may stand where a part is wanted
abbrev Opens : ℕ → List (List Target) → List TokenKind → Target → List TokenKind → Type 0
Opens k outer ts t r = (rest : List TokenKind) × (j : ℕ) × (ts ≡ token.Mark LeftBrace ∷ rest) × (k ≡ suc j) × (part_wanted j ([] ∷ outer) rest ≡ read t r)

abbrev Stands : ℕ → List (List Target) → List TokenKind → Target → List TokenKind → Type 0
Stands k outer ts t r = (us : List TokenKind) × (p : Target) × (left : List TokenKind) × (ts ≡ us ++ left) × IsPlain us p × (found k p outer left ≡ read t r)

above_zero : (k : ℕ) → (k == 0) ≡ false → k ≡ suc (k - 1)
above_zero k e = grind (arith, nat_tests)

begins_part : (k : ℕ) (outer : List (List Target)) (ts : List TokenKind) (t : Target) (r : List TokenKind) → part_wanted k outer ts ≡ read t r → Opens k outer ts t r ⊎ Stands k outer ts t r
unfolding wanted
begins_part k outer ts t r e =
    let turn : turned (wanted (record { room = k; parts = outer }) ts) (loop wanted) ≡ read t r = sym (wanted_first (record { room = k; parts = outer }) ts) ∙ e in
    elim (cases_Bool (is_mark LeftBrace ts)) [
      | inl y ↦
          let at = rw y at turn in
          elim (cases_Bool (k == 0)) [
            | inl z ↦ absurd (never_read _ t r (rw z at at))
            | inr z ↦ inl (drop 1 ts, k - 1, mark_stands LeftBrace ts y, above_zero k z, rw z at at)
          ]
      | inr n ↦
          let a = after_read (part_at ts) (λ p left. place k p outer left) (loop wanted) t r (rw n at turn) in
          let p = part_sound ts a.0 a.1 a.2 in
          inr (p.0, a.0, a.1, p.1, p.2, a.3)
    ]

-- what may stand where a part is found
abbrev GoesOn : ℕ → Target → List Target → List (List Target) → List TokenKind → Target → List TokenKind → Type 0
GoesOn k p before outer ts t r = (rest : List TokenKind) × (ts ≡ token.Mark Comma ∷ rest) × (part_wanted k ((before ++ p ∷ []) ∷ outer) rest ≡ read t r)

abbrev Closes : ℕ → Target → List Target → List (List Target) → List TokenKind → Target → List TokenKind → Type 0
Closes k p before outer ts t r = (rest : List TokenKind) × (ts ≡ token.Mark RightBrace ∷ rest) × (found k (Concat (before ++ p ∷ [])) outer rest ≡ read t r)

ends_part : (k : ℕ) (p : Target) (before : List Target) (outer : List (List Target)) (ts : List TokenKind) (t : Target) (r : List TokenKind) → found k p (before ∷ outer) ts ≡ read t r
    → GoesOn k p before outer ts t r ⊎ Closes k p before outer ts t r
ends_part k p before outer ts t r e =
    let g : List TokenKind → Turn Braced Target = λ l. after (expect RightBrace l) (λ _ rest. place k (Concat (before ++ p ∷ [])) outer rest) in
    let f : Bool → List TokenKind → Turn Braced Target = λ more l. cond more (again (record { room = k; parts = (before ++ p ∷ []) ∷ outer }) l) (g l) in
    elim (taken_read Comma ts f (loop wanted) t r e) [
      | inl y ↦ inl (drop 1 ts, y.0, y.1)
      | inr n ↦ inr (expected_read RightBrace ts (λ _ rest. place k (Concat (before ++ p ∷ [])) outer rest) (loop wanted) t r n.1)
    ]

parts_sound : (g : Rule Target) (m : ℕ) → FindsParts g m → (f : ℕ) (ts : List TokenKind) (k : ℕ) (before : List Target) (outer : List (List Target)) (t : Target) (r : List TokenKind) → length ts ≤ m → length ts < f
    → part_wanted k (before ∷ outer) ts ≡ read t r
    → (ws : List TokenKind) × (a : Target) × (rest : List Target) × (j : ℕ) × (left : List TokenKind) × (ts ≡ ws ++ token.Mark RightBrace ∷ left) × AreSeparated g ws a rest × (k ≡ braces ws + j)
    × (found j (Concat (before ++ a ∷ rest)) outer left ≡ read t r)
parts_sound g m finds zero ts k before outer t r few less e = absurd (omega arith)
parts_sound g m finds (suc f) ts k before outer t r few less e =
    let h = finds ts k (before ∷ outer) t r few e in
    let us = h.0 in
    let p = h.1 in
    let j = h.2 in
    elim (ends_part j p before outer h.3 t r h.7) [
      | inl c ↦
          let comma : ts ≡ us ++ token.Mark Comma ∷ c.0 = h.4 ∙ ap (λ (x : List TokenKind). us ++ x) c.1 in
          let long : length ts ≡ length us + suc (length c.0) = ap length comma ∙ length-append us (token.Mark Comma ∷ c.0) in
          let l = parts_sound g m finds f c.0 j (before ++ p ∷ []) outer t r (omega arith) (omega arith) c.2 in
          let ws : List TokenKind = us ++ token.Mark Comma ∷ l.0 in
          let end : List TokenKind = token.Mark RightBrace ∷ l.4 in
          let whole : ts ≡ ws ++ end = comma ∙ ap (λ (x : List TokenKind). us ++ token.Mark Comma ∷ x) l.5 ∙ sym (append_assoc us (token.Mark Comma ∷ l.0) end) in
          let marks : braces ws ≡ braces us + braces (token.Mark Comma ∷ l.0) = braces_joined us (token.Mark Comma ∷ l.0) in
          let commas : braces (token.Mark Comma ∷ l.0) ≡ braces l.0 = refl in
          let first : k ≡ braces us + j = h.6 in
          let others : j ≡ braces l.0 + l.3 = l.7 in (
            ws,
            p,
            l.1 ∷ l.2,
            l.3,
            l.4,
            whole,
            (us, l.0, refl, h.5, l.6),
            omega arith,
            ap (λ (x : List Target). found l.3 (Concat x) outer l.4) (sym (append_assoc before (p ∷ []) (l.1 ∷ l.2))) ∙ l.8,
          )
      | inr c ↦ (us, p, [], j, c.0, h.4 ∙ ap (λ (x : List TokenKind). us ++ x) c.1, h.5, h.6, c.2)
    ]

plain_long : (us : List TokenKind) (t : Target) → IsPlain us t → 1 ≤ length us
plain_long us t (inl s) = rw s.1 (omega arith)
plain_long us t (inr (inl s)) = rw s.2 (omega arith)
plain_long us t (inr (inr s)) = rw s.3 (omega arith)

wanted_sound : (m : ℕ) → FindsParts (target_up_to m) m
wanted_sound zero ts k outer t r few e = elim (begins_part k outer ts t r e) [
  | inl o ↦ let long : length ts ≡ suc (length o.0) = ap length o.2 in absurd (omega arith)
  | inr s ↦
      let long : length ts ≡ length s.0 + length s.2 = ap length s.3 ∙ length-append s.0 s.2 in
      let some : 1 ≤ length s.0 = plain_long s.0 s.1 s.4 in
      absurd (omega arith)
]
wanted_sound (suc m) ts k outer t r few e = elim (begins_part k outer ts t r e) [
  | inl o ↦
      let long : length ts ≡ suc (length o.0) = ap length o.2 in
      let l = parts_sound (target_up_to m) m (wanted_sound m) (suc (length o.0)) o.0 o.1 [] outer t r (omega arith) (omega arith) o.4 in
      let end : List TokenKind = token.Mark RightBrace ∷ [] in
      let us : List TokenKind = token.Mark LeftBrace ∷ (l.0 ++ end) in
      let whole : ts ≡ us ++ l.4 = o.2 ∙ ap (λ (x : List TokenKind). token.Mark LeftBrace ∷ x) (l.5 ∙ sym (append_assoc l.0 end l.4)) in
      let marks : braces us ≡ suc (braces (l.0 ++ end)) = braces_more (l.0 ++ end) in
      let inner : braces (l.0 ++ end) ≡ braces l.0 + 0 = braces_joined l.0 end in
      let opened : k ≡ suc o.1 = o.3 in
      let closed : o.1 ≡ braces l.0 + l.3 = l.7 in
      (us, Concat (l.1 ∷ l.2), l.3, l.4, whole, concat_again m us (Concat (l.1 ∷ l.2)) (l.0, l.1, l.2, refl, l.6, refl), omega arith, l.8)
  | inr s ↦
      let none : braces s.0 ≡ 0 = plain_braces s.0 s.1 s.4 in
      (s.0, s.1, k, s.2, s.3, plain_again m s.0 s.1 s.4, omega arith, s.5)
]

pub target_sound : (k : ℕ) (ts : List TokenKind) (t : Target) (r : List TokenKind) → target_at k ts ≡ read t r → (us : List TokenKind) × (ts ≡ us ++ r) × (limited braces k target).sentence us t
unfolding target_at
target_sound k ts t r e =
    let h = wanted_sound (length ts) ts k [] t r (omega arith) e in
    let value : h.1 ≡ t = same_value h.1 t h.3 r h.7 in
    let left : h.3 ≡ r = same_left h.1 t h.3 r h.7 in
    let count : k ≡ braces h.0 + h.2 = h.6 in
    let is : target.sentence h.0 t = subst (λ (x : Target). target.sentence h.0 x) value (length ts, h.5) in
    (h.0, h.4 ∙ ap (λ (x : List TokenKind). h.0 ++ x) left, (is, omega arith))

-- ---- how a target begins

pub target_begins : (us : List TokenKind) (t : Target) (r : List TokenKind) → target.sentence us t → begins_target (us ++ r) ≡ true
unfolding begins_target is_mark
target_begins us t r (zero, h) = absurd h
target_begins us t r (suc n, h) = elim (apart n us t h) [
  | inl (inl s) ↦ rw s.1 refl
  | inl (inr (inl s)) ↦ rw s.2 refl
  | inl (inr (inr s)) ↦ rw s.3 refl
  | inr s ↦ rw s.3 refl
]

pub target_long : (us : List TokenKind) (t : Target) → target.sentence us t → 1 ≤ length us
target_long us t (zero, h) = absurd h
target_long us t (suc n, h) = elim (apart n us t h) [
  | inl s ↦ plain_long us t s
  | inr s ↦ let long : length us ≡ suc (length (s.0 ++ token.Mark RightBrace ∷ [])) = ap length s.3 in omega arith
]

-- ---- ranges and indices

pub range_complete : Complete range range_at Anything
unfolding range_at decimal_at expect is_mark
range_complete us g r s f = rw (range_is us g s) refl

pub index_complete : Complete index index_at Anything
unfolding index_at decimal_at expect is_mark
index_complete us d r s f = rw (index_is us d s) refl

pub range_sound : Sound range range_at
unfolding range_at
range_sound ts g r e =
    let a = expected LeftBracket ts (λ _. decimal_at >>= λ l. expect Colon >>= λ _. decimal_at >>= λ k. expect RightBracket >>= λ _. done (record { left = l; right = k })) g r e in
    let b = number a.0 (λ l. expect Colon >>= λ _. decimal_at >>= λ k. expect RightBracket >>= λ _. done (record { left = l; right = k })) g r a.2 in
    let l = b.0 in
    let c = expected Colon b.1 (λ _. decimal_at >>= λ k. expect RightBracket >>= λ _. done (record { left = l; right = k })) g r b.3 in
    let d = number c.0 (λ k. expect RightBracket >>= λ _. done (record { left = l; right = k })) g r c.2 in
    let k = d.0 in
    let range_here : Range = record { left = l; right = k } in
    let z = expected RightBracket d.1 (λ _. done range_here) g r d.3 in
    let same : z.0 ≡ r = same_left range_here g z.0 r z.2 in
    let at_end : d.1 ≡ token.Mark RightBracket ∷ r = z.1 ∙ ap (λ (x : List TokenKind). token.Mark RightBracket ∷ x) same in
    let at_colon : b.1 ≡ token.Mark Colon ∷ token.Decimal k ∷ token.Mark RightBracket ∷ r = c.1 ∙ ap (λ (x : List TokenKind). token.Mark Colon ∷ x) (d.2 ∙ ap (λ (x : List TokenKind). token.Decimal k ∷ x) at_end) in
    let us : List TokenKind = token.Mark LeftBracket ∷ token.Decimal l ∷ token.Mark Colon ∷ token.Decimal k ∷ token.Mark RightBracket ∷ [] in
    let whole : ts ≡ us ++ r = a.1 ∙ ap (λ (x : List TokenKind). token.Mark LeftBracket ∷ x) (b.2 ∙ ap (λ (x : List TokenKind). token.Decimal l ∷ x) at_colon) in
    (us, whole, subst (λ (x : Range). range.sentence us x) (same_value range_here g z.0 r z.2) (range_of l k))

pub index_sound : Sound index index_at
unfolding index_at
index_sound ts d r e =
    let a = expected LeftBracket ts (λ _. decimal_at >>= λ k. expect RightBracket >>= λ _. done k) d r e in
    let b = number a.0 (λ k. expect RightBracket >>= λ _. done k) d r a.2 in
    let z = expected RightBracket b.1 (λ _. done b.0) d r b.3 in
    let same : z.0 ≡ r = same_left b.0 d z.0 r z.2 in
    let at_end : b.1 ≡ token.Mark RightBracket ∷ r = z.1 ∙ ap (λ (x : List TokenKind). token.Mark RightBracket ∷ x) same in
    let us : List TokenKind = token.Mark LeftBracket ∷ token.Decimal b.0 ∷ token.Mark RightBracket ∷ [] in
    let whole : ts ≡ us ++ r = a.1 ∙ ap (λ (x : List TokenKind). token.Mark LeftBracket ∷ x) (b.2 ∙ ap (λ (x : List TokenKind). token.Decimal b.0 ∷ x) at_end) in
    (us, whole, subst (λ (x : ℕ). index.sentence us x) (same_value b.0 d z.0 r z.2) (index_of b.0))

-- no `[` stands here
abbrev pub NoBracket : List TokenKind → Type 0
NoBracket ts = is_mark LeftBracket ts ≡ false

pub maybe_range_complete : Complete (maybe range) maybe_range_at NoBracket
unfolding maybe_range_at range_at decimal_at expect is_mark
maybe_range_complete us None r s f = rw (s, f) refl
maybe_range_complete us (Some g) r s f = rw (range_is us g s) refl

pub maybe_index_complete : Complete (maybe index) maybe_index_at NoBracket
unfolding maybe_index_at index_at decimal_at expect is_mark
maybe_index_complete us None r s f = rw (s, f) refl
maybe_index_complete us (Some d) r s f = rw (index_is us d s) refl

-- what is read where `[` stands, and else nothing
maybe_sound : {A : Type 0} (g : Rule A) (p : List TokenKind → Reading A) → Sound g p → (ts : List TokenKind) (o : Option A) (r : List TokenKind)
    → cond (is_mark LeftBracket ts) ((p >>= λ a. done (Some a)) ts) (read None ts) ≡ read o r → (us : List TokenKind) × (ts ≡ us ++ r) × (maybe g).sentence us o
maybe_sound g p sound ts o r e = elim (cases_Bool (is_mark LeftBracket ts)) [
  | inl y ↦
      let n = next_read (p ts) (λ a. done (Some a)) o r (rw y at e) in
      let h = sound ts n.0 n.1 n.2 in
      let left : n.1 ≡ r = same_left (Some n.0) o n.1 r n.3 in
      (h.0, h.1 ∙ ap (λ (x : List TokenKind). h.0 ++ x) left, subst (λ x. (maybe g).sentence h.0 x) (same_value (Some n.0) o n.1 r n.3) h.2)
  | inr n ↦
      let at = rw n at e in
      ([], same_left None o ts r at, subst (λ x. (maybe g).sentence [] x) (same_value None o ts r at) refl)
]

pub maybe_range_sound : Sound (maybe range) maybe_range_at
unfolding maybe_range_at
maybe_range_sound ts o r e = maybe_sound range range_at range_sound ts o r e

pub maybe_index_sound : Sound (maybe index) maybe_index_at
unfolding maybe_index_at
maybe_index_sound ts o r e = maybe_sound index index_at index_sound ts o r e
