use Rattle.std.proofs.Common.{◌-◌, ◌+◌, ◌≡◌, List, length, sym, subst}
use Rattle.std.proofs.lemmas.List.{length_push}
use Rattle.eq_proof.specs.Literal.{Literal}
use Rattle.eq_proof.specs.Inference.{Inference}
use Rattle.eq_proof.specs.Derivation.{IsDerivation, AllDerive, EndsEmpty}
use Rattle.eq_cdcl.specs.Logged.{FreshBelow}
use Rattle.eq_cdcl.proofs.Logging.{refuted_derived, refuted_ends, refuted_fresh}
use Rattle.eq_cdcl.proofs.solver.refuted.Goals as goal

pub returns : goal.returns
returns c =
    let clauses = c.args.f.now.clauses in
    let log = c.args.log in
    let step = c.in_ok-step.step in
    let P : List (List Literal) → Type 0 = λ known. IsDerivation known step in
    let Q : List Inference → Type 0 = λ new. AllDerive clauses new × EndsEmpty new × FreshBelow clauses new (length new - 1) × (length new ≡ length log + 1) in
    subst Q (sym c.in_ok-push.ensures.ok) (
      refuted_derived clauses log step c.requires.logged (subst P c.new-known.ensures c.in_ok-step.ensures.derived),
      refuted_ends log step c.in_ok-step.ensures.empty,
      refuted_fresh clauses log step c.requires.logged,
      length_push log step,
    )
