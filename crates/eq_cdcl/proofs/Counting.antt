-- How many places are marked.
use Rattle.std.proofs.Common.{◌≡◌, ℕ, ◌+◌, ◌<◌, ◌≤◌, suc, zero, ◌⊎◌, inl, inr, Bool, true, false, cond, List, length, set, arith, refl, sym, ap, ◌∙◌, get_or-set_same, get_or-set_other}
use Rattle.std.specs.Prelude.{nat_le}
use Rattle.std.proofs.lemmas.Bool.{cases_eq}
use Rattle.std.proofs.lemmas.Bool.Decides.{nat_tests}
use Rattle.eq_cdcl.specs.inner.Resolved.{marked, opens}

-- what one place adds
one : (start place : ℕ) (b : Bool) → cond {A = ℕ} (nat_le start place) (cond {A = ℕ} b 1 0) 0 ≤ 1
one start place true = grind (arith, nat_tests)
one start place false = grind (arith, nat_tests)

hit : (start place : ℕ) (b : Bool) → start ≤ place → b ≡ true → cond {A = ℕ} (nat_le start place) (cond {A = ℕ} b 1 0) 0 ≡ 1
hit start place true h e = grind (arith, nat_tests)
hit start place false h e = absurd (cc)

miss : (start place : ℕ) (b : Bool) → b ≡ false → cond {A = ℕ} (nat_le start place) (cond {A = ℕ} b 1 0) 0 ≡ 0
miss start place false e = grind (arith, nat_tests)
miss start place true e = absurd (cc)

early : (start place : ℕ) (b : Bool) → place < start → cond {A = ℕ} (nat_le start place) (cond {A = ℕ} b 1 0) 0 ≡ 0
early start place b h = grind (arith, nat_tests)

pub opens_le : (marks : List Bool) (start n : ℕ) → opens marks start n ≤ n
opens_le marks start zero = omega arith
opens_le marks start (suc n) = omega (arith, opens_le marks start n, one start n (marked marks n))

pub opens_none : (marks : List Bool) (start n : ℕ) → n ≤ start → opens marks start n ≡ 0
opens_none marks start zero h = refl
opens_none marks start (suc n) h = omega (arith, opens_none marks start n (omega arith), early start n (marked marks n) (omega arith))

pub opens_hit : (marks : List Bool) (start n : ℕ) → start ≤ n → marked marks n ≡ true → opens marks start (suc n) ≡ opens marks start n + 1
opens_hit marks start n h e = omega (arith, hit start n (marked marks n) h e)

pub opens_miss : (marks : List Bool) (start n : ℕ) → marked marks n ≡ false → opens marks start (suc n) ≡ opens marks start n
opens_miss marks start n e = omega (arith, miss start n (marked marks n) e)

-- marks that agree from the start on
pub opens_same : (marks marks' : List Bool) (start n : ℕ) → ((p : ℕ) → start ≤ p → p < n → marked marks' p ≡ marked marks p) → opens marks' start n ≡ opens marks start n
opens_same marks marks' start zero h = refl
opens_same marks marks' start (suc n) h =
    let before = opens_same marks marks' start n (λ p le lt. h p le (omega arith)) in
    elim (cases_le start n) [
      | inl le ↦
          let f : Bool → ℕ = λ b. cond {A = ℕ} (nat_le start n) (cond {A = ℕ} b 1 0) 0 in
          let e : f (marked marks' n) ≡ f (marked marks n) = ap f (h n le (omega arith)) in
          omega (arith, before, e)
      | inr lt ↦ omega (arith, before, early start n (marked marks n) lt, early start n (marked marks' n) lt)
    ]
  where
    cases_le : (a b : ℕ) → (a ≤ b) ⊎ (b < a)
    cases_le zero b = inl (omega arith)
    cases_le (suc a) zero = inr (omega arith)
    cases_le (suc a) (suc b) = elim (cases_le a b) [ inl h ↦ inl (omega arith) | inr h ↦ inr (omega arith) ]

-- one mark more
pub opens_more : (marks : List Bool) (start n place : ℕ) → place < length marks → place < n → start ≤ place → marked marks place ≡ false → opens (set marks place true) start n ≡ opens marks start n + 1
opens_more marks start zero place within below from e = absurd (omega arith)
opens_more marks start (suc n) place within below from e =
    let new = set marks place true in
    elim (cases_eq place n) [
      | inl is ↦
          let rest = opens_same marks new start n (λ p le lt. get_or-set_other marks place p true false (omega arith)) in
          let here : marked new n ≡ true = ap (λ p. marked new p) (sym is) ∙ get_or-set_same marks place true false within in
          let was : marked marks n ≡ false = ap (λ p. marked marks p) (sym is) ∙ e in
          omega (arith, rest, opens_hit new start n (omega arith) here, opens_miss marks start n was)
      | inr ne ↦
          let rest = opens_more marks start n place within (omega arith) from e in
          let f : Bool → ℕ = λ b. cond {A = ℕ} (nat_le start n) (cond {A = ℕ} b 1 0) 0 in
          let last : f (marked new n) ≡ f (marked marks n) = ap f (get_or-set_other marks place n true false (omega arith)) in
          omega (arith, rest, last)
    ]

-- a mark outside
pub opens_outside : (marks : List Bool) (start n place : ℕ) (b : Bool) → (place < start) ⊎ (n ≤ place) → opens (set marks place b) start n ≡ opens marks start n
opens_outside marks start n place b out =
    opens_same marks (set marks place b) start n (λ p le lt. get_or-set_other marks place p b false (elim out [ inl h ↦ omega arith | inr h ↦ omega arith ]))

pub opens_some : (marks : List Bool) (start n place : ℕ) → start ≤ place → place < n → marked marks place ≡ true → 1 ≤ opens marks start n
opens_some marks start zero place from below e = absurd (omega arith)
opens_some marks start (suc n) place from below e =
    elim (cases_eq place n) [
      | inl is ↦
          let here : marked marks n ≡ true = ap (λ p. marked marks p) (sym is) ∙ e in
          omega (arith, opens_hit marks start n (omega arith) here)
      | inr ne ↦ omega (arith, opens_some marks start n place from (omega arith) e)
    ]

-- nothing is marked
pub opens_nothing : (marks : List Bool) (start n : ℕ) → ((p : ℕ) → marked marks p ≡ false) → opens marks start n ≡ 0
opens_nothing marks start zero h = refl
opens_nothing marks start (suc n) h = omega (arith, opens_nothing marks start n h, opens_miss marks start n (h n))
