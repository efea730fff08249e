-- The values of cells, and that those that are there stay right as more are put.
use Rattle.std.proofs.Common.{◌≡◌, ◌≢◌, ℕ, zero, suc, ◌+◌, ◌-◌, ◌<◌, ◌≤◌, ◌^◌, List, [], ◌∷◌, Bool, false, Option, Some, None, Result, Ok, Err, IfOk, IfSome, slice_get, slice_index_or, length, inl, inr, refl, arith, sym, ap, subst, ◌∙◌}
use Rattle.std.proofs.lemmas.Bool.{cases_lt}
use Rattle.eq_net.specs.declared.cells.gates.Cell.{Cell}
use Rattle.eq_net.specs.inner.Cells.{Valuation, Computes, cell_at, computed}
use Rattle.eq_net.specs.inner.Circuits.{AreComputed, Extends, cells_of, valuation, value_of}

pub found_at : (all : List (Option Bool)) (k : ℕ) (o : Option Bool) → Some o ≡ slice_get all k → value_of all k ≡ o
found_at [] k o e = absurd (cc)
found_at (x ∷ xs) zero o e = cc
found_at (x ∷ xs) (suc k) o e = found_at xs k o e

pub none_from : (all : List (Option Bool)) (k : ℕ) → None ≡ slice_get all k → length all ≤ k
none_from [] k e = omega arith
none_from (x ∷ xs) zero e = absurd (cc)
none_from (x ∷ xs) (suc k) e = (let h = none_from xs k e in omega arith)

beyond_none : (all : List (Option Bool)) (k : ℕ) → length all ≤ k → value_of all k ≡ None
beyond_none [] k le = refl
beyond_none (x ∷ xs) zero le = absurd (omega arith)
beyond_none (x ∷ xs) (suc k) le = beyond_none xs k (omega arith)

-- one value more
module _ (links : List ℕ) (cells : List Cell) (old new : List (Option Bool)) (at : ℕ) (y : Bool) (size : length new ≡ length old)
    (here : value_of old at ≡ None → value_of new at ≡ Some y) (kept : (x : Bool) → value_of old at ≡ Some x → value_of new at ≡ Some x)
    (others : (k : ℕ) → k ≢ at → value_of new k ≡ value_of old k) where
  still : (k : ℕ) (x : Bool) → value_of old k ≡ Some x → value_of new k ≡ Some x
  still k x e = elim (cases_lt k at) [
    | inl less ↦ others k (λ same. absurd (omega arith)) ∙ e
    | inr more ↦ elim (cases_lt at k) [
      | inl above ↦ others k (λ same. absurd (omega arith)) ∙ e
      | inr equal ↦ (
          let same : at ≡ k = omega arith in
          let P : ℕ → Type 0 = λ n. value_of old n ≡ Some x → value_of new n ≡ Some x in
          subst P same (kept x) e)
    ]
  ]

  before : (v : Valuation) → Extends links new v → Extends links old v
  before v h = record {
    false_first = h.false_first;
    then_true = h.then_true;
    there = λ k x e. h.there k x (still k x e);
    beyond = λ k le. h.beyond k (omega arith);
    bits = h.bits;
  }

  one_of : (o : Option Bool) (x : Bool) → value_of old at ≡ o → value_of new at ≡ Some x →
      ((v : Valuation) → Extends links old v → computed v (cell_at cells at) ≡ y) → AreComputed links cells old →
      (v : Valuation) → Extends links old v → computed v (cell_at cells at) ≡ x
  one_of None x is e right all v h = (let f = here is in right v h ∙ (let g : Some y ≡ Some x = sym f ∙ e in cc))
  one_of (Some z) x is e right all v h = (let f = kept z is in all at z is v h ∙ (let g : Some z ≡ Some x = sym f ∙ e in cc))

  pub computed_next : ((v : Valuation) → Extends links old v → computed v (cell_at cells at) ≡ y) → AreComputed links cells old → AreComputed links cells new
  computed_next right all k x e v h = elim (cases_lt k at) [
    | inl less ↦ all k x (sym (others k (λ same. absurd (omega arith))) ∙ e) v (before v h)
    | inr more ↦ elim (cases_lt at k) [
      | inl above ↦ all k x (sym (others k (λ same. absurd (omega arith))) ∙ e) v (before v h)
      | inr equal ↦ (
          let same : at ≡ k = omega arith in
          let P : ℕ → Type 0 = λ n. value_of new n ≡ Some x → computed v (cell_at cells n) ≡ x in
          subst P same (λ f. one_of (value_of old at) x refl f right all v (before v h)) e)
    ]
  ]

-- a cell's value by its number
pub cell_beyond : (bits : List Bool) (n : ℕ) → n ≢ 0 → n ≢ 1 → slice_index_or bits (n - 2) false ≡ cells_of bits n
cell_beyond bits zero a b = absurd (a refl)
cell_beyond bits (suc zero) a b = absurd (b refl)
cell_beyond bits (suc (suc k)) a b = (let e : suc (suc k) - 2 ≡ k = omega arith in ap (λ m. slice_index_or bits m false) e)

no_bit : (bits : List Bool) (k : ℕ) → length bits ≤ k → slice_index_or bits k false ≡ false
no_bit [] k le = refl
no_bit (x ∷ xs) zero le = absurd (omega arith)
no_bit (x ∷ xs) (suc k) le = no_bit xs k (omega arith)

cell_is : (bits : List Bool) (k : ℕ) → cells_of bits (2 + k) ≡ slice_index_or bits k false
cell_is bits k = (let e : 2 + k ≡ suc (suc k) = omega arith in ap (cells_of bits) e)

-- where each cell has a value, the values are such in which cells compute
pub all_compute : (links : List ℕ) (cells : List Cell) (all : List (Option Bool)) (bits : List Bool) → length all ≡ length cells → length bits ≡ length all →
    2 + length cells ≤ 2 ^ 32 → AreComputed links cells all → ((k : ℕ) → k < length all → value_of all k ≡ Some (slice_index_or bits k false)) → Computes cells (valuation links bits)
all_compute links cells all bits size count few right each =
    let v = valuation links bits in
    let extends : Extends links all v = record {
      false_first = refl;
      then_true = refl;
      there = λ k x e. elim (cases_lt k (length all)) [
        | inl less ↦ cell_is bits k ∙ (let f : Some (slice_index_or bits k false) ≡ Some x = sym (each k less) ∙ e in cc)
        | inr more ↦ (let f : None ≡ Some x = sym (beyond_none all k more) ∙ e in absurd (cc))
      ];
      beyond = λ k le. cell_is bits k ∙ no_bit bits k (omega arith);
      bits = λ b. refl;
    } in
    record {
      few = few;
      false_first = refl;
      then_true = refl;
      each = λ k lt. cell_is bits k ∙ sym (right k (slice_index_or bits k false) (each k (omega arith)) v extends);
    }

-- two facts of what was found make a third
pub both_found : {X E : Type 0} {A B C : X → Type 0} (r : Result (Option X) E) → ((x : X) → A x → B x → C x) →
    IfOk r (λ f. IfSome f A) → IfOk r (λ f. IfSome f B) → IfOk r (λ f. IfSome f C)
both_found (Ok (Some x)) f a b = f x a b
both_found (Ok None) f a b = tt
both_found (Err e) f a b = tt
