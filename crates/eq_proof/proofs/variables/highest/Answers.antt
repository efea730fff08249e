use Rattle.std.proofs.Common.{◌≤◌, List, length, arith, subst}
use Rattle.std.specs.Prelude.{All}
use Rattle.std.proofs.lemmas.List.{take_all}
use Rattle.eq_proof.specs.Literal.{Literal}
use Rattle.eq_proof.specs.Inference.{Inference, clauses_of}
use Rattle.eq_proof.proofs.Checking.{most_more}
use Rattle.eq_proof.proofs.variables.highest.Goals as goal

pub loop-index-preserved : goal.loop-index-preserved
loop-index-preserved c =
    most_more c.args.log.now c.loop-index.index _ c.loop-index.most c.highest_of.result c.max-most.result c.at.ensures.step c.max-most.ensures c.loop-index.invariant c.highest_of.ensures

pub returns : goal.returns
returns c =
    let P : List Inference → Type 0 = λ log. All (All (λ (l : Literal). l.var ≤ c.loop-index.most)) (clauses_of log) in
    let end : length c.args.log.now ≤ c.loop-index.index = omega arith in
    subst P (take_all c.loop-index.index c.args.log.now end) c.loop-index.invariant
