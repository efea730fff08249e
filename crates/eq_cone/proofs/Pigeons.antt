-- A list of distinct numbers below n has at most n of them.
use Rattle.std.proofs.Common.{◌≡◌, ℕ, zero, suc, ◌<◌, ◌≤◌, ◌∷◌, ◌++◌, [], List, Bool, cond, eqb, Contains, length, arith, refl, sym, ap, subst, length-append, ◌∙◌, ◌⊎◌, inl, inr}
use Rattle.std.proofs.Math.ListN.{get_or-append}
use Rattle.std.proofs.Math.Seq.{get_or-append_seam}
use Rattle.std.proofs.lemmas.Bool.{cases_lt}
use Rattle.std.proofs.lemmas.Bool.Decides.{eqb_tells}
use Rattle.std.proofs.lemmas.List.Elements.{Contains-get_or}
use Rattle.eq_cone.specs.inner.Cones.{AreApart, number_at}

-- the number behind m in the place of m
abbrev avoiding : (ℕ → ℕ) → ℕ → ℕ → ℕ → ℕ
avoiding f m last i = cond (eqb (f i) m) (f last) (f i)

abbrev Avoids : ℕ → ℕ → ℕ → ℕ → Type 0
Avoids x m y r = ((x ≡ m) × (r ≡ y)) ⊎ ((x ≡ m → ⊥) × (r ≡ x))

avoids : (x m y : ℕ) → Avoids x m y (cond (eqb x m) y x)
avoids x m y =
    elim (eqb_tells x m) [
      | inl e ↦ inl (e.1, ap (λ (b : Bool). cond b y x) e.0)
      | inr e ↦ inr (e.1, ap (λ (b : Bool). cond b y x) e.0)
    ]

abbrev Into : (ℕ → ℕ) → ℕ → ℕ → Type 0
Into f n m = (i : ℕ) → i < n → f i < m

abbrev IsOneToOne : (ℕ → ℕ) → ℕ → Type 0
IsOneToOne f n = (i j : ℕ) → i < n → j < n → f i ≡ f j → i ≡ j

into_less : (f : ℕ → ℕ) (n m : ℕ) → Into f (suc n) (suc m) → IsOneToOne f (suc n) → Into (avoiding f m n) n m
into_less f n m into one i p =
    let a = into i (omega arith) in
    let b = into n (omega arith) in
    let ne : f i ≡ f n → ⊥ = λ e. let z = one i n (omega arith) (omega arith) e in omega arith in
    elim (avoids (f i) m (f n)) [ inl w ↦ omega (arith, w.0, w.1) | inr w ↦ omega (arith, w.0, w.1) ]

one_less : (f : ℕ → ℕ) (n m : ℕ) → IsOneToOne f (suc n) → IsOneToOne (avoiding f m n) n
one_less f n m one i j p q e =
    elim (avoids (f i) m (f n)) [
      | inl v ↦ elim (avoids (f j) m (f n)) [
        | inl w ↦ one i j (omega arith) (omega arith) (v.0 ∙ sym w.0)
        | inr w ↦ let z = one n j (omega arith) (omega arith) (sym v.1 ∙ e ∙ w.1) in absurd (omega arith)
      ]
      | inr v ↦ elim (avoids (f j) m (f n)) [
        | inl w ↦ let z = one i n (omega arith) (omega arith) (sym v.1 ∙ e ∙ w.1) in absurd (omega arith)
        | inr w ↦ one i j (omega arith) (omega arith) (sym v.1 ∙ e ∙ w.1)
      ]
    ]

pub pigeonhole : (n m : ℕ) (f : ℕ → ℕ) → Into f n m → IsOneToOne f n → n ≤ m
pigeonhole zero m f into one = omega arith
pigeonhole (suc n) zero f into one = absurd (omega (arith, into n (omega arith)))
pigeonhole (suc n) (suc m) f into one =
    omega (arith, pigeonhole n m (avoiding f m n) (into_less f n m into one) (one_less f n m one))

-- distinct numbers stand at one place each
pub one_place : (xs : List ℕ) → AreApart xs → (j k : ℕ) → j < length xs → k < length xs →
    number_at xs j ≡ number_at xs k → j ≡ k
one_place xs distinct j k lj lk same =
    elim (cases_lt j k) [
      | inl less ↦ absurd (distinct j k 0 less lk same)
      | inr more ↦ (elim (cases_lt k j) [
        | inl less ↦ absurd (distinct k j 0 less lj (sym same))
        | inr not_less ↦ omega arith
      ])
    ]

pub few_distinct : (xs : List ℕ) (n : ℕ) → AreApart xs → ((m : ℕ) → Contains xs m → m < n) → length xs ≤ n
few_distinct xs n distinct within = pigeonhole (length xs) n (number_at xs)
    (λ i lt. within (number_at xs i) (Contains-get_or xs i 0 lt)) (one_place xs distinct)

-- a choice for each number below n, as a list
pub choices : (n : ℕ) (P : ℕ → ℕ → Type 0) → ((k : ℕ) → k < n → (m : ℕ) × P k m) →
    (xs : List ℕ) × (length xs ≡ n) × ((k : ℕ) → k < n → P k (number_at xs k))
choices zero P all = ([], refl, λ k lt. absurd (omega arith))
choices (suc n) P all =
    let rest = choices n P (λ k lt. all k (omega arith)) in
    let last = all n (omega arith) in
    let size = length-append rest.0 (last.0 ∷ []) in
    let count = rest.1 in (
      rest.0 ++ last.0 ∷ [],
      omega arith,
      λ k lt. elim (cases_lt k n) [
        | inl less ↦ subst (P k) (sym (get_or-append rest.0 (last.0 ∷ []) 0 k (omega arith))) (rest.2 k less)
        | inr more ↦ (
            let e : length rest.0 ≡ k = omega arith in
            let f : n ≡ k = omega arith in
            let Q : ℕ → Type 0 = λ x. P x (number_at (rest.0 ++ last.0 ∷ []) x) in
            let R : ℕ → Type 0 = λ x. P n (number_at (rest.0 ++ last.0 ∷ []) x) in
            subst Q f (subst R count (subst (P n) (sym (get_or-append_seam rest.0 last.0 [] 0)) last.1)))
      ],
    )

-- where each number below n has one below m, no two the same, there are at most m
pub few_choices : (n m : ℕ) (P : ℕ → ℕ → Type 0) → ((k : ℕ) → k < n → (x : ℕ) × P k x) →
    ((k x : ℕ) → k < n → P k x → x < m) → ((j k x : ℕ) → j < n → k < n → P j x → P k x → j ≡ k) → n ≤ m
few_choices n m P all below once =
    let c = choices n P all in
    let size = c.1 in
    pigeonhole n m (number_at c.0) (λ i lt. below i (number_at c.0 i) lt (c.2 i lt))
    (λ i j li lj same. once i j (number_at c.0 i) li lj (c.2 i li) (subst (P j) (sym same) (c.2 j lj)))
