-- The answer of k-induction.
use Rattle.std.proofs.Common.{◌≡◌, ℕ, suc, ◌≤◌, refl, arith, ap, sym, subst, ◌↔◌, inl, inr}
use Rattle.std.proofs.lemmas.Bool.{cases_lt, cases_order}
use Rattle.eq_model.specs.Kind.{Kind, fail, proved, deep, IsProved, GoesOn, IsKind}

module _ (base step : ℕ → Type 0) (d : ℕ) where
  -- two answers that come at places where nothing answered below come at one place
  one_place : (A B : ℕ → Type 0) → ((k : ℕ) → A k → ((base k → ⊥) × step k) → ⊥) → ((k : ℕ) → B k → ((base k → ⊥) × step k) → ⊥) →
      (j k : ℕ) → 1 ≤ j → 1 ≤ k → GoesOn base step j → GoesOn base step k → A j → B k → j ≡ k
  one_place A B stop_a stop_b j k lj lk on_j on_k a b =
      elim (cases_order j k) [
        | inl e ↦ e
        | inr (inl lt) ↦ absurd (stop_a j a (on_k j lj lt))
        | inr (inr gt) ↦ absurd (stop_b k b (on_j k lk gt))
      ]

  fails : ℕ → Type 0
  fails k = base k

  holds : ℕ → Type 0
  holds k = (base k → ⊥) × (step k → ⊥)

  stop_fails : (k : ℕ) → fails k → ((base k → ⊥) × step k) → ⊥
  unfolding fails
  stop_fails k b t = t.0 b

  stop_holds : (k : ℕ) → holds k → ((base k → ⊥) × step k) → ⊥
  unfolding holds
  stop_holds k h t = h.1 t.1

  pub one_kind : (x y : Kind) → IsKind base step d x → IsKind base step d y → x ≡ y
  unfolding fails holds
  one_kind (fail j) (fail k) h g = ap fail (one_place fails fails stop_fails stop_fails j k h.0 g.0 h.2 g.2 h.3 g.3)
  one_kind (fail j) (proved k) h g =
      let e : j ≡ k = one_place fails holds stop_fails stop_holds j k h.0 g.0 h.2 g.2 h.3 (g.3, g.4) in
      absurd (g.3 (subst base e h.3))
  one_kind (fail j) deep h g = absurd (stop_fails j h.3 (let le = h.1 in g j h.0 (omega arith)))
  one_kind (proved j) (fail k) h g =
      let e : j ≡ k = one_place holds fails stop_holds stop_fails j k h.0 g.0 h.2 g.2 (h.3, h.4) g.3 in
      absurd (h.3 (subst base (sym e) g.3))
  one_kind (proved j) (proved k) h g = ap proved (one_place holds holds stop_holds stop_holds j k h.0 g.0 h.2 g.2 (h.3, h.4) (g.3, g.4))
  one_kind (proved j) deep h g = absurd (stop_holds j (h.3, h.4) (let le = h.1 in g j h.0 (omega arith)))
  one_kind deep (fail k) h g = absurd (stop_fails k g.3 (let le = g.1 in h k g.0 (omega arith)))
  one_kind deep (proved k) h g = absurd (stop_holds k (g.3, g.4) (let le = g.1 in h k g.0 (omega arith)))
  one_kind deep deep h g = refl

-- queries that hold alike have one answer
module _ (base step base' step' : ℕ → Type 0) (same_base : (k : ℕ) → 1 ≤ k → base k ↔ base' k) (same_step : (k : ℕ) → step k ↔ step' k) where
  goes_on : (k : ℕ) → GoesOn base step k → GoesOn base' step' k
  goes_on k h j lj lt = ((λ b. (h j lj lt).0 ((same_base j lj).1 b)), (same_step j).0 (h j lj lt).1)

  kind_to : (d : ℕ) (x : Kind) → IsKind base step d x → IsKind base' step' d x
  kind_to d (fail k) h = (h.0, h.1, goes_on k h.2, (same_base k h.0).0 h.3)
  kind_to d (proved k) h = (h.0, h.1, goes_on k h.2, (λ b. h.3 ((same_base k h.0).1 b)), (λ b. h.4 ((same_step k).1 b)))
  kind_to d deep h = goes_on (suc d) h

pub same_kind : (base step base' step' : ℕ → Type 0) → ((k : ℕ) → 1 ≤ k → base k ↔ base' k) → ((k : ℕ) → step k ↔ step' k) →
    (depth : ℕ) (x : Kind) → IsKind base step depth x ↔ IsKind base' step' depth x
same_kind base step base' step' same_base same_step depth x = (
  kind_to base step base' step' same_base same_step depth x,
  kind_to base' step' base step (λ k pos. ((same_base k pos).1, (same_base k pos).0)) (λ k. ((same_step k).1, (same_step k).0)) depth x,
)

-- what is proved up to a depth is proved at the k that it names
pub from_kind : (base step : ℕ → Type 0) (depth k : ℕ) → IsKind base step depth (proved k) → IsProved base step k
from_kind base step depth k h = (
  (λ j lj le. elim (cases_lt j k) [
    | inl less ↦ (h.2 j lj less).0
    | inr more ↦ (let e : k ≡ j = omega arith in let P : ℕ → Type 0 = λ m. base m → ⊥ in subst P e h.3)
  ]),
  h.4,
)
