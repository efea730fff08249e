-- What a run is given, node by node.
use Rattle.std.proofs.Common.{◌≡◌, ℕ, ◌+◌, ◌<◌, Bool, true, false, List, [], ◌∷◌, ◌++◌, length, inl, inr, arith, refl, sym, ap, subst, ◌∙◌}
use Rattle.std.proofs.lemmas.Bool.{cases_lt}
use Rattle.std.proofs.lemmas.List.{length-append, get_or_append_left}
use Rattle.std.proofs.lemmas.List.Sums.{count_by_more_yes, count_by_more_no}
use Rattle.eq_model.specs.Frames.{values}
use Rattle.eq_model.specs.System.{Values}
use Rattle.eq_bits.specs.declared.node.Node.{Node}
use Rattle.eq_bits.specs.declared.node.Node.TheVariants.{Const}
use Rattle.eq_bits.specs.Cycle.{place}
use Rattle.eq_bits.specs.Node.{is_register, node_at}
use Rattle.eq_unroll.specs.inner.Witnessing.{HasRegisters}

-- one more register

value_before : (regs : List Bool) (b : Bool) (k : ℕ) → k < length regs → values (regs ++ b ∷ []) k ≡ values regs k
value_before regs b k lt = get_or_append_left regs (b ∷ []) false k lt

value_last : (regs : List Bool) (b : Bool) → values (regs ++ b ∷ []) (length regs) ≡ b
value_last [] b = refl
value_last (r ∷ rs) b = value_last rs b

pub one_register : (nodes : List Node) (given : Values) (m : ℕ) (regs : List Bool) → m < length nodes →
    is_register (node_at nodes m) ≡ true →
    HasRegisters nodes given m regs → HasRegisters nodes given (m + 1) (regs ++ given m ∷ [])
one_register nodes given m regs lt register h =
    let size = length-append regs (given m ∷ []) in
    let more = count_by_more_yes is_register nodes m (Const false) lt register in
    let known = h.size in
    record {
      size = omega arith;
      each = λ j lj is. elim (cases_lt j m) [
        | inl less ↦ (
            let at = h.each j less is in
            let below = at.0 in
            (omega arith, value_before regs (given m) (place nodes j) at.0 ∙ at.1))
        | inr last ↦ (
            let e : m ≡ j = omega arith in
            let P : ℕ → Type 0 = λ i. (place nodes i < length (regs ++ given m ∷ [])) ×
            (values (regs ++ given m ∷ []) (place nodes i) ≡ given i) in
            subst P e (omega arith, ap (values (regs ++ given m ∷ [])) (sym h.size) ∙ value_last regs (given m)))
      ];
    }

pub no_register : (nodes : List Node) (given : Values) (m : ℕ) (regs : List Bool) → m < length nodes →
    is_register (node_at nodes m) ≡ false →
    HasRegisters nodes given m regs → HasRegisters nodes given (m + 1) regs
no_register nodes given m regs lt other h =
    let more = count_by_more_no is_register nodes m (Const false) lt other in
    record {
      size = h.size ∙ sym more;
      each = λ j lj is. elim (cases_lt j m) [
        | inl less ↦ h.each j less is
        | inr last ↦ (
            let e : m ≡ j = omega arith in
            let P : ℕ → Type 0 = λ i. is_register (node_at nodes i) ≡ false in
            let not = subst P e other in
            absurd (cc))
      ];
    }
