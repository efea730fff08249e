-- Each of the keys is one of the bits that a statement sets, and none is twice among them: so there are no more keys than
-- different bits.
use Rattle.std.proofs.Common.{◌≡◌, ℕ, zero, suc, ◌≤◌, ◌==◌, ◌||◌, Bool, true, false, cond, List, [], ◌∷◌, ◌++◌, length, slice_get, Option, Some, None, is_some, refl, arith, sym, ap, ap₂, subst, ◌∙◌, inl, inr, ◌⊎◌}
use Rattle.std.proofs.lemmas.Bool.{cases_Bool, false≢true}
use Rattle.std.proofs.lemmas.Bool.Decides.{Decides-eqb}
use Rattle.std.proofs.lemmas.Option.{same_Some}
use Rattle.eq_net.specs.declared.types.NetInfo.{NetInfo}
use Rattle.eq_net.specs.Meaning.{if_there}
use Rattle.eq_verilog.specs.Clocks.{is_bit}
use Rattle.eq_verilog.specs.Costs.{bits_below, bits_set, different, has_bit}
use Rattle.eq_verilog.specs.Equations.{place_below}
use Rattle.eq_verilog.specs.Expressions.{wire}
use Rattle.eq_verilog.specs.Registers.{sets}
use Rattle.eq_verilog.specs.Scopes.{Scope}
use Rattle.eq_verilog.specs.Sizes.{own}
use Rattle.eq_verilog.specs.Trees.{StmtTree, idle, set, sequence, branch}
use Rattle.eq_registers.specs.declared.keys.Keys.{Keys}
use Rattle.eq_registers.specs.Collecting.{IsCollected}

either_true : (a b : Bool) → (a || b) ≡ true → (a ≡ true) ⊎ (b ≡ true)
either_true true b e = inl refl
either_true false b e = inr e

left_true : (a b : Bool) → a ≡ true → (a || b) ≡ true
left_true true b e = refl
left_true false b e = absurd (false≢true e)

right_true : (a b : Bool) → b ≡ true → (a || b) ≡ true
right_true true b e = refl
right_true false b e = e

-- ---- what is set is among the bits that are set

in_left : (xs ys : List ℕ) (b : ℕ) → has_bit xs b ≡ true → has_bit (xs ++ ys) b ≡ true
in_left [] ys b e = absurd (false≢true e)
in_left (x ∷ xs) ys b e = elim (either_true (x == b) (has_bit xs b) e) [
  | inl here ↦ left_true (x == b) (has_bit (xs ++ ys) b) here
  | inr later ↦ right_true (x == b) (has_bit (xs ++ ys) b) (in_left xs ys b later)
]

in_right : (xs ys : List ℕ) (b : ℕ) → has_bit ys b ≡ true → has_bit (xs ++ ys) b ≡ true
in_right [] ys b e = e
in_right (x ∷ xs) ys b e = right_true (x == b) (has_bit (xs ++ ys) b) (in_right xs ys b e)

below_one : (n b : ℕ) (o p : Option ℕ) (rest : List ℕ) → (is_some p ≡ true → has_bit rest b ≡ true) →
    is_some (cond (is_bit b o) (Some n) p) ≡ true →
    has_bit (if_there rest (λ c. c ∷ rest) o) b ≡ true
below_one n b None p rest h e = h e
below_one n b (Some c) p rest h e = elim (cases_Bool (c == b)) [
  | inl here ↦ left_true (c == b) (has_bit rest b) here
  | inr other ↦
      right_true (c == b) (has_bit rest b) (h (sym (ap (λ (t : Bool). is_some (cond t (Some n) p)) other) ∙ e))
]

in_below : (n : ℕ) (f : ℕ → Option ℕ) (b : ℕ) → is_some (place_below n f b) ≡ true → has_bit (bits_below n f) b ≡ true
in_below zero f b e = absurd (false≢true e)
in_below (suc n) f b e = below_one n b (f n) (place_below n f b) (bits_below n f) (in_below n f b) e

in_set : (s : Scope) (body : StmtTree) (b : ℕ) → sets s body b ≡ true → has_bit (bits_set s body) b ≡ true
in_set s idle b e = absurd (false≢true e)
in_set s (set t e) b is = in_below (own s t) (wire s t) b is
in_set s (sequence x y) b is = elim (either_true (sets s x b) (sets s y b) is) [
  | inl one ↦ in_left (bits_set s x) (bits_set s y) b (in_set s x b one)
  | inr other ↦ in_right (bits_set s x) (bits_set s y) b (in_set s y b other)
]
in_set s (branch c x y) b is = elim (either_true (sets s x b) (sets s y b) is) [
  | inl one ↦ in_left (bits_set s x) (bits_set s y) b (in_set s x b one)
  | inr other ↦ in_right (bits_set s x) (bits_set s y) b (in_set s y b other)
]

-- ---- a list in which nothing is twice

abbrev Distinct : List ℕ → Type 0
Distinct [] = Unit {0}
Distinct (x ∷ xs) = (has_bit xs x ≡ false) × Distinct xs

place_of : (xs : List ℕ) (b : ℕ) → has_bit xs b ≡ true → (p : ℕ) × (slice_get xs p ≡ Some b)
place_of [] b e = absurd (false≢true e)
place_of (x ∷ xs) b e = elim (either_true (x == b) (has_bit xs b) e) [
  | inl here ↦ (0, ap (λ (y : ℕ). Some y) ((Decides-eqb x b).0 here))
  | inr later ↦ (let h = place_of xs b later in (suc h.0, h.1))
]

distinct_by_places : (xs : List ℕ) → ((p q b : ℕ) → slice_get xs p ≡ Some b → slice_get xs q ≡ Some b → p ≡ q) →
    Distinct xs
distinct_by_places [] h = tt
distinct_by_places (x ∷ xs) h = (
  elim (cases_Bool (has_bit xs x)) [
    | inl twice ↦
        let at = place_of xs x twice in
        absurd (let e = h 0 (suc at.0) x refl at.1 in omega (arith, e))
    | inr none ↦ none
  ],
  distinct_by_places xs (λ p q b e f. (let same = h (suc p) (suc q) b e f in omega (arith, same))),
)

abbrev without : ℕ → List ℕ → List ℕ
without y [] = []
without y (x ∷ xs) = cond (y == x) xs (x ∷ without y xs)

without_length : (y : ℕ) (xs : List ℕ) → length xs ≤ suc (length (without y xs))
without_length y [] = omega arith
without_length y (x ∷ xs) = elim (cases_Bool (y == x)) [
  | inl same ↦ (
      let e = ap (λ (t : Bool). length (cond t xs (x ∷ without y xs))) same in omega (arith, e))
  | inr other ↦ (
      let e = ap (λ (t : Bool). length (cond t xs (x ∷ without y xs))) other in
      let h = without_length y xs in omega (arith, e, h))
]

without_in : (y : ℕ) (xs : List ℕ) (b : ℕ) → has_bit (without y xs) b ≡ true → has_bit xs b ≡ true
without_in y [] b e = e
without_in y (x ∷ xs) b e = elim (cases_Bool (y == x)) [
  | inl same ↦
      right_true (x == b) (has_bit xs b)
      (sym (ap (λ (t : Bool). has_bit (cond t xs (x ∷ without y xs)) b) same) ∙ e)
  | inr other ↦
      elim (either_true (x == b) (has_bit (without y xs) b)
      (sym (ap (λ (t : Bool). has_bit (cond t xs (x ∷ without y xs)) b) other) ∙ e)) [
        | inl here ↦ left_true (x == b) (has_bit xs b) here
        | inr later ↦ right_true (x == b) (has_bit xs b) (without_in y xs b later)
      ]
]

not_in : (xs ys : List ℕ) (b : ℕ) → (has_bit xs b ≡ true → has_bit ys b ≡ true) → has_bit ys b ≡ false →
    has_bit xs b ≡ false
not_in xs ys b h none = elim (cases_Bool (has_bit xs b)) [
  | inl there ↦ absurd (false≢true (sym none ∙ h there))
  | inr e ↦ e
]

without_distinct : (y : ℕ) (xs : List ℕ) → Distinct xs → Distinct (without y xs)
without_distinct y [] h = tt
without_distinct y (x ∷ xs) h = elim (cases_Bool (y == x)) [
  | inl same ↦ subst (λ (t : Bool). Distinct (cond t xs (x ∷ without y xs))) (sym same) h.1
  | inr other ↦
      subst (λ (t : Bool). Distinct (cond t xs (x ∷ without y xs))) (sym other)
      (not_in (without y xs) xs x (without_in y xs x) h.0, without_distinct y xs h.1)
]

without_itself : (y : ℕ) (xs : List ℕ) → Distinct xs → has_bit (without y xs) y ≡ false
without_itself y [] h = refl
without_itself y (x ∷ xs) h = elim (cases_Bool (y == x)) [
  | inl same ↦
      ap (λ (t : Bool). has_bit (cond t xs (x ∷ without y xs)) y) same
      ∙ ap (λ (z : ℕ). has_bit xs z) ((Decides-eqb y x).0 same) ∙ h.0
  | inr other ↦
      ap (λ (t : Bool). has_bit (cond t xs (x ∷ without y xs)) y) other
      ∙ ap₂ (λ (a b : Bool). a || b) (turned x y other) (without_itself y xs h.1)
]
  where
    turned : (x y : ℕ) → (y == x) ≡ false → (x == y) ≡ false
    turned x y e = elim (cases_Bool (x == y)) [
      | inl same ↦ absurd (false≢true (sym e ∙ (Decides-eqb y x).1 (sym ((Decides-eqb x y).0 same))))
      | inr other ↦ other
    ]

-- no more of them than different numbers among those that they are of
few_distinct : (ys xs : List ℕ) → Distinct xs → ((b : ℕ) → has_bit xs b ≡ true → has_bit ys b ≡ true) →
    length xs ≤ different ys
few_distinct [] [] d h = omega arith
few_distinct [] (x ∷ xs) d h = absurd (false≢true (h x (left_true (x == x) (has_bit xs x) ((Decides-eqb x x).1 refl))))
few_distinct (y ∷ ys) xs d h = elim (cases_Bool (has_bit ys y)) [
  | inl twice ↦ (
      let e = ap (λ (t : Bool). cond t (different ys) (suc (different ys))) twice in
      let k = few_distinct ys xs d (λ b t. elim (either_true (y == b) (has_bit ys b) (h b t)) [
        | inl same ↦ ap (λ (z : ℕ). has_bit ys z) (sym ((Decides-eqb y b).0 same)) ∙ twice
        | inr later ↦ later
      ]) in
      omega (arith, e, k))
  | inr none ↦ (
      let e = ap (λ (t : Bool). cond t (different ys) (suc (different ys))) none in
      let less = without_length y xs in
      let k = few_distinct ys (without y xs) (without_distinct y xs d) (λ b t.
      elim (either_true (y == b) (has_bit ys b) (h b (without_in y xs b t))) [
        | inl same ↦
            absurd (false≢true (sym (without_itself y xs d)
            ∙ ap (λ (z : ℕ). has_bit (without y xs) z) ((Decides-eqb y b).0 same) ∙ t))
        | inr later ↦ later
      ]) in
      omega (arith, e, k, less))
]

pub few_keys : (nets : List NetInfo) (s : Scope) (body : StmtTree) (keys : Keys) → IsCollected nets s body keys →
    length keys.bits ≤ different (bits_set s body)
few_keys nets s body keys c =
    let has = c.keyed.has in
    few_distinct (bits_set s body) keys.bits
    (distinct_by_places keys.bits (λ p q b e f. same_Some p q (sym (has.placed b p e) ∙ has.placed b q f)))
    (λ b t. in_set s body b (c.only b (place_of keys.bits b t)))
