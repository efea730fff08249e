-- Marks that are mixed from the highest place down.
use Rattle.std.proofs.Common.{◌≡◌, ℕ, suc, ◌+◌, ◌-◌, ◌<◌, ◌≤◌, List, Option, None, length, slice_index_or, arith, add-one, ap, sym, ◌∙◌, inl, inr}
use Rattle.std.proofs.lemmas.Bool.{cases_lt}
use Rattle.eq_marks.specs.declared.marks.Way.{Way}
use Rattle.eq_marks.specs.inner.Marks.{Puts, mixed, mixed_down, part}

-- from a place on, all but the lowest m - turn marks are mixed with those above them
pub record IsMixedDown (way : Way) (m turn from : ℕ) (all : Option ℕ) (old new : List (Option ℕ)) : Type 0 where
  pub size : length new ≡ length old
  pub all_is : all ≡ mixed_down way m turn (part old from)
  pub rest : (k : ℕ) → k < from + (m - turn) → slice_index_or new k None ≡ slice_index_or old k None
  pub put : (i : ℕ) → m - turn ≤ i → i < m → part new from i ≡ mixed_down way m (m - i) (part old from)

-- one mark more
pub mixed_one_more : (way : Way) (m turn from at : ℕ) (all x more : Option ℕ) (old s new : List (Option ℕ)) → turn < m →
    at ≡ from + ((m - 1) - turn) → x ≡ slice_index_or s at None → more ≡ mixed way all x → Puts at more s new →
    IsMixedDown way m turn from all old s → IsMixedDown way m (turn + 1) from more old new
mixed_one_more way m turn from at all x more old s new lt is reads mixes p h =
    let F = part old from in
    let here : x ≡ F ((m - 1) - turn) = reads ∙ h.rest at (omega arith) ∙ ap (λ k. slice_index_or old k None) is in
    let now : more ≡ mixed_down way m (suc turn) F =
    mixes ∙ ap (λ y. mixed way y x) h.all_is ∙ ap (λ y. mixed way (mixed_down way m turn F) y) here in
    record {
      size = p.size ∙ h.size;
      all_is = now ∙ ap (λ n. mixed_down way m n F) (sym (add-one turn));
      rest = λ k less. p.below k (omega arith) ∙ h.rest k (omega arith);
      put = λ i le less. elim (cases_lt ((m - 1) - turn) i) [
        | inl above ↦ p.above (from + i) (omega arith) ∙ h.put i (omega arith) less
        | inr not_above ↦
            let same : from + i ≡ at = omega arith in
            let count : suc turn ≡ m - i = omega arith in
            ap (λ k. slice_index_or new k None) same ∙ p.there ∙ now ∙ ap (λ n. mixed_down way m n F) count
      ];
    }
