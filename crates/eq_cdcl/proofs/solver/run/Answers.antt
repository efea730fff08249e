use Rattle.std.proofs.Common.{List, length, subst}
use Rattle.std.specs.Prelude.{All}
use Rattle.std.proofs.lemmas.Result.{IfOk-weaker}
use Rattle.eq_proof.specs.Literal.{Literal}
use Rattle.eq_cdcl.specs.inner.Judged.{IsLive}
use Rattle.eq_cdcl.specs.inner.Halting.{Halts}
use Rattle.eq_cdcl.specs.declared.search.Halt.TheVariants.{Satisfied}
use Rattle.eq_cdcl.specs.inner.Answering.{IsAnswer, IsRefutation}
use Rattle.eq_cdcl.proofs.Logging.{satisfied}
use Rattle.eq_cdcl.proofs.Sounds.{apart_consistent}
use Rattle.eq_cdcl.proofs.Answered.{refutation_answers}
use Rattle.eq_cdcl.proofs.solver.run.Goals as goal

pub returns-in-Satisfied : goal.returns-in-Satisfied
returns-in-Satisfied c =
    let clauses = c.args.f.now.clauses in
    let vars = c.args.f.now.vars in
    let set = c.search.new.trail.lits in
    let found : Halts c.new-known.result vars set Satisfied = subst (Halts c.new-known.result vars set) c.in-Satisfied.is c.in_ok-search.ensures.found in
    let P : List (List Literal) → Type 0 = All (IsLive set) in (
      c.in_ok-values-in-Satisfied.ensures.len,
      satisfied clauses c.loop-log.log vars set c.in_ok-values-in-Satisfied.field-0 c.args.f.now.within (subst P c.new-known.ensures found.0) found.1 c.in_ok-values-in-Satisfied.ensures.values,
    )

pub returns-in_default : goal.returns-in_default
returns-in_default c =
    let clauses = c.args.f.now.clauses in
    let vars = c.args.f.now.vars in
    let budget = c.args.budget in
    let steps = length c.loop-log.log in
    IfOk-weaker c.refuted.result (IsRefutation clauses steps) (IsAnswer clauses vars budget) (λ s. refutation_answers clauses vars budget steps s c.loop-log.invariant.within) c.refuted.ensures

pub values-requires-clause-consistent : goal.values-requires-clause-consistent
values-requires-clause-consistent c = apart_consistent c.search.new.trail.lits c.in_ok-search.ensures.sound.apart
