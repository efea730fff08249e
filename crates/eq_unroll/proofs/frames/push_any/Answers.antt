use Rattle.std.proofs.Common.{◌≡◌, List, [], ◌∷◌, ◌++◌, OnOk, ap, arith, sym, subst, ◌∙◌}
use Rattle.eq_proof.specs.Clause.{IsClause}
use Rattle.eq_proof.specs.Literal.{Literal}
use Rattle.eq_unroll.specs.Unrolling.{output_literals}
use Rattle.eq_unroll.proofs.OutputLiterals.{outputs_clause, outputs_ordered}
use Rattle.eq_unroll.proofs.frames.push_any.Goals as goal
use Rattle.eq_unroll.proofs.frames.push_any.Goals.{After-as_slice}

all : (c : After-as_slice) → c.as_slice.result.now ≡ output_literals c.args.before c.args.outputs
all c =
    let e : c.loop-i.i ≡ c.args.outputs = omega arith in
    c.as_slice.ensures.value ∙ c.loop-i.invariant ∙ ap (output_literals c.args.before) e

pub push_lits-requires : goal.push_lits-requires
push_lits-requires c = subst IsClause (sym (all c)) (outputs_clause c.args.before c.args.outputs)

pub returns : goal.returns
returns c =
    let P : List Literal → Type 0 = λ ls. OnOk c.push_lits.result
    (c.push_lits.new.self ≡ c.args.clauses.now ++ ls ∷ []) in
    let same = all (goal.at.returns c).After-as_slice in
    subst P (same ∙ sym (outputs_ordered c.args.before c.args.outputs)) c.push_lits.ensures.ok
