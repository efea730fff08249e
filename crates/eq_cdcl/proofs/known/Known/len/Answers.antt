use Rattle.std.proofs.Common.{arith, length-append}
use Rattle.std.proofs.lemmas.List.{length-map}
use Rattle.eq_proof.specs.Inference.{Inference, clauses_of}
use Rattle.eq_cdcl.proofs.known.Known.len.Goals as goal

pub returns : goal.returns
returns c =
    let mapped = length-map c.self.inside.log.now (λ (s : Inference). s.clause) in
    let both = length-append c.self.inside.formula.now.clauses (clauses_of c.self.inside.log.now) in
    rw (← c.self.view_is) (omega (arith, mapped, both, c.self.invariant.0, c.len.ensures.value))
