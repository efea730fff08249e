-- Tables are filled one entry after another.
use Rattle.std.proofs.Common.{◌≡◌, ℕ, zero, suc, ◌<◌, ◌+◌, List, [], ◌∷◌, Option, Some, None, set, length, replicate, slice_get, refl, arith, sym, ap, subst, ◌∙◌, inl, inr, get_or-set_other, get_or-set_same}
use Rattle.std.proofs.Math.ListN.{length-set}
use Rattle.std.proofs.lemmas.Bool.{cases_lt}
use Rattle.std.proofs.lemmas.Bool.Decides.{eqb_tells}
use Rattle.std.proofs.lemmas.List.{length-replicate}
use Rattle.std.proofs.lemmas.Option.{get_or_from_slice_get, same_Some, slice_get-get_or, slice_get_within}
use Rattle.eq_part.specs.Tables.{AreInverse}
use Rattle.eq_part.specs.inner.Tabling.{AreOnceBelow, AreWritten, place_at}
use Rattle.eq_reads.specs.Words.{number_at}

pub none_there : (size k : ℕ) → place_at (replicate size None) k ≡ None
none_there zero k = refl
none_there (suc size) zero = refl
none_there (suc size) (suc k) = none_there size k

pub no_place : (size k i : ℕ) → place_at (replicate size None) k ≡ Some i → ⊥
no_place size k i e = let f : None ≡ Some i = sym (none_there size k) ∙ e in absurd (cc)

pub get_some : (xs : List (Option ℕ)) (k q : ℕ) → place_at xs k ≡ Some q → slice_get xs k ≡ Some (Some q)
get_some [] k q e = absurd (cc)
get_some (x ∷ xs) zero q e = ap (λ (y : Option ℕ). Some y) e
get_some (x ∷ xs) (suc k) q e = get_some xs k q e

-- ---- places of numbers

pub none_written : (bits : List ℕ) (size : ℕ) → AreWritten bits size 0 (replicate size None)
none_written bits size = record {
  count = length-replicate {A = Option ℕ} size None;
  there = λ i lt. absurd (omega arith);
  back = λ b i e. absurd (no_place size b i e);
}

module _ (bits : List ℕ) (size n : ℕ) (table : List (Option ℕ)) (once : AreOnceBelow size bits)
    (are : AreWritten bits size n table) (lt : n < length bits) where
  abbrev now : List (Option ℕ)
  now = set table (number_at bits n) (Some n)

  here : place_at now (number_at bits n) ≡ Some n
  here = get_or-set_same table (number_at bits n) (Some n) None
      (let e = are.count in let f = once.there n lt in omega arith)

  other : (b : ℕ) → (b ≡ number_at bits n → ⊥) → place_at now b ≡ place_at table b
  other b apart = get_or-set_other table (number_at bits n) b (Some n) None apart

  pub one_written : AreWritten bits size (n + 1) now
  one_written = record {
    count = length-set table (number_at bits n) (Some n) ∙ are.count;
    there = λ i less. elim (cases_lt i n) [
      | inl before ↦ other (number_at bits i) (λ same. (
          let e = once.once i n (omega arith) lt same in omega arith)) ∙ are.there i before
      | inr last ↦ (
          let e : n ≡ i = omega arith in
          subst (λ (x : ℕ). place_at now (number_at bits x) ≡ Some x) e here)
    ];
    back = λ b i e. elim (eqb_tells b (number_at bits n)) [
      | inl same ↦ (
          let f : n ≡ i = same_Some n i (sym here ∙ subst (λ (x : ℕ). place_at now x ≡ Some i) same.1 e) in
          ((omega arith), ap (number_at bits) (sym f) ∙ sym same.1))
      | inr apart ↦ (let t = are.back b i (sym (other b apart.1) ∙ e) in let less = t.0 in ((omega arith), t.1))
    ];
  }

pub are_inverse : (bits : List ℕ) (size : ℕ) (table : List (Option ℕ)) → AreWritten bits size (length bits) table →
    AreInverse bits table
are_inverse bits size table are = record {
  there = λ i b e. (
      let is : number_at bits i ≡ b = get_or_from_slice_get bits i b 0 e in
      get_some table b i (subst (λ (x : ℕ). place_at table x ≡ Some i) is
      (are.there i (slice_get_within bits i b e))));
  back = λ b i e. (
      let t = are.back b i (get_or_from_slice_get table b (Some i) None e) in
      slice_get-get_or bits i 0 t.0 ∙ ap (λ (x : ℕ). Some x) t.1);
}
