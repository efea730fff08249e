use Rattle.std.proofs.Common.{[], ℕ, List, sym, subst}
use Rattle.std.specs.Prelude.{Contains}
use Rattle.eq_proof.specs.Literal.{Literal}
use Rattle.eq_proof.specs.Inference.{Inference}
use Rattle.eq_proof.specs.Derivation.{IsDerivation}
use Rattle.eq_cdcl.proofs.Resolving.{resolved_end, no_member}
use Rattle.eq_cdcl.proofs.learning.refute.Goals as goal

pub returns-clause-derived : goal.returns-clause-derived
returns-clause-derived c =
    let a = c.refute.new.self in
    let clause = c.in_ok-step.step.clause in
    let P : List ℕ → Type 0 = λ ants. let step : Inference = record { clause = clause; ants = ants } in IsDerivation c.args.known.now step in
    let few : (l : Literal) → Contains clause l → Contains [] l = λ l h. subst (λ (ls : List Literal). Contains ls l) c.new-none.ensures ((c.in_ok-step.ensures.members l).0 h) in
    let many : (l : Literal) → Contains [] l → Contains clause l = λ l h. (c.in_ok-step.ensures.members l).1 (subst (λ (ls : List Literal). Contains ls l) (sym c.new-none.ensures) h) in
    subst P (sym c.in_ok-step.ensures.ants) (resolved_end c.args.known.now c.args.trail.now.lits a.marks [] a.ants.items clause c.requires.sound.apart c.in_ok-refute.ensures.resolved few many)

pub returns-clause-empty : goal.returns-clause-empty
returns-clause-empty c =
    no_member c.in_ok-step.step.clause (λ l h. subst (λ (ls : List Literal). Contains ls l) c.new-none.ensures ((c.in_ok-step.ensures.members l).0 h))
