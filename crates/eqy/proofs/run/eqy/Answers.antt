use Rattle.std.proofs.Common.{sym, subst}
use Rattle.eq_first.specs.declared.job.Job.{Job}
use Rattle.eq_first.specs.declared.module.Module.{Module}
use Rattle.eqy.specs.declared.refusal.Refusal.{Refusal}
use Rattle.eqy.specs.Lines.{refusal_line, report}
use Rattle.eqy.specs.Output.{AddsFront}
use Rattle.eqy.specs.Verdicts.{IsVerdict, output_name}
use Rattle.eqy.proofs.Equal.{designs_are}
use Rattle.eqy.proofs.Outcomes.{no_task, one_refusal, one_task}
use Rattle.eqy.proofs.run.eqy.Goals as goal

pub returns-in-Ok-clause-decided : goal.returns-in-Ok-clause-decided
returns-in-Ok-clause-decided g c =
    let task = c.in-Ok.task in
    λ verdict ends files told.
    let told_is = c.compare.ensures.told verdict ends in
    (task.job, task.gold, task.gate, c.in-Ok.ensures.ok files told, told_is.0, told_is.1)

pub returns-in-Ok-clause-task : goal.returns-in-Ok-clause-task
returns-in-Ok-clause-task g c =
    let task = c.in-Ok.task in
    let old = g.O.Sink.written c.args.out.now in
    let new = g.O.Sink.written c.compare.new.out in
    λ files told job gold gate is verdict found.
    let same = one_task c.one_job.ensures c.one_module.ensures c.args.words.now files task.job job task.gold gold task.gate gate (c.in-Ok.ensures.ok files told) is in
    let P : Module → Type 0 = λ m. IsVerdict verdict m gate in
    let Q : Module → Type 0 = λ m. IsVerdict verdict task.gold m in
    let own = c.compare.ensures.front verdict (subst Q (sym same.2) (subst P (sym same.1) found)) in
    let R : Module → Type 0 = λ m. AddsFront old new (report verdict (output_name m) task.job.strategy) in
    let S : Job → Type 0 = λ j. AddsFront old new (report verdict (output_name gold) j.strategy) in
    (own.0, subst S same.0 (subst R same.1 own.1))

pub returns-in-Ok-clause-refusal : goal.returns-in-Ok-clause-refusal
returns-in-Ok-clause-refusal g c =
    let task = c.in-Ok.task in
    λ files told r refused. absurd (no_task c.one_job.ensures c.one_module.ensures c.args.words.now files r task.job task.gold task.gate refused (c.in-Ok.ensures.ok files told))

pub returns-in-Err-Refused-clause-task : goal.returns-in-Err-Refused-clause-task
returns-in-Err-Refused-clause-task g c =
    let refused = rw c.in-Err-Refused.field-0-is at c.in-Err-Refused.ensures.refused in
    λ files told job gold gate is verdict found.
    absurd (no_task c.one_job.ensures c.one_module.ensures c.args.words.now files c.in-Err-Refused.refusal job gold gate (refused files told) is)

pub returns-in-Err-Refused-clause-refusal : goal.returns-in-Err-Refused-clause-refusal
returns-in-Err-Refused-clause-refusal g c =
    let refused = rw c.in-Err-Refused.field-0-is at c.in-Err-Refused.ensures.refused in
    let old = g.O.Sink.written c.args.out.now in
    let new = g.O.Sink.written c.refuse.new.out in
    λ files told r is.
    let same = one_refusal c.one_job.ensures c.one_module.ensures c.args.words.now files c.in-Err-Refused.refusal r (refused files told) is in
    let P : Refusal → Type 0 = λ x. AddsFront old new (refusal_line x) in
    (c.refuse.ensures.status, subst P same c.refuse.ensures.front)

pub returns-in-Ok-clause-designs : goal.returns-in-Ok-clause-designs
returns-in-Ok-clause-designs g c =
    let task = c.in-Ok.task in
    λ verdict ends files told. (
      task.job,
      task.gold,
      task.gate,
      c.in-Ok.ensures.ok files told,
      designs_are c.ranked.ensures c.words_make_a_system.ensures c.net_is_design.ensures c.combinational.ensures c.one_cycle.ensures verdict task.gold task.gate
          c.in-Ok.ensures.ready.gold c.in-Ok.ensures.ready.gate c.in-Ok.ensures.ready.ports c.in-Ok.ensures.ready.narrow (c.compare.ensures.told verdict ends).0,
    )
