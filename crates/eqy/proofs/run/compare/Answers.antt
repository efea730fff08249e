use Rattle.std.proofs.Common.{◌≡◌, List, ℕ, inl, inr, ap, subst, ◌∙◌}
use Rattle.eqy.specs.declared.report.Verdict.{Verdict}
use Rattle.eqy.specs.Lines.{report}
use Rattle.eqy.specs.Output.{Adds, AddsFront}
use Rattle.eqy.specs.Verdicts.{output_name, status_of}
use Rattle.eqy.proofs.Fronts.{front_whole}
use Rattle.eqy.proofs.Outcomes.{one_verdict}
use Rattle.eqy.proofs.run.compare.Goals as goal

-- the report that was told is the one with the names of the task
told_name : (verdict : Verdict) (name name' strategy strategy' : List ℕ) → name ≡ name' → strategy ≡ strategy' → report verdict name strategy ≡ report verdict name' strategy'
told_name verdict name name' strategy strategy' en es = ap (λ n. report verdict n strategy) en ∙ ap (λ s. report verdict name' s) es

pub returns-in-Ok-tell_report-clause-front : goal.returns-in-Ok-tell_report-clause-front
returns-in-Ok-tell_report-clause-front g c =
    let task = c.args.task.now in
    let old = g.O.Sink.written c.args.out.now in
    let new = g.O.Sink.written c.tell_report.new.out in
    let text = told_name c.in-Ok.verdict c.name_of_output.result.now (output_name task.gold) c.bytes.result.now task.job.strategy c.name_of_output.ensures c.bytes.ensures.bytes in
    let P : List ℕ → Type 0 = λ t. Adds old new t in
    λ verdict is.
    let same = one_verdict c.in-Ok.verdict verdict task.gold task.gate c.in-Ok.ensures is in
    let Q : Verdict → Type 0 = λ v. AddsFront old new (report v (output_name task.gold) task.job.strategy) in
    (inl (c.ended.ensures ∙ ap status_of same), subst Q same (front_whole old new (report c.in-Ok.verdict (output_name task.gold) task.job.strategy) (subst P text c.in-Ok-tell_report.ensures.ok)))

pub returns-in-Err-clause-front : goal.returns-in-Err-clause-front
returns-in-Err-clause-front g c =
    let task = c.args.task.now in
    let old = g.O.Sink.written c.args.out.now in
    let new = g.O.Sink.written c.tell_report.new.out in
    let text = told_name c.in-Ok.verdict c.name_of_output.result.now (output_name task.gold) c.bytes.result.now task.job.strategy c.name_of_output.ensures c.bytes.ensures.bytes in
    let P : List ℕ → Type 0 = λ t. AddsFront old new t in
    λ verdict is.
    let same = one_verdict c.in-Ok.verdict verdict task.gold task.gate c.in-Ok.ensures is in
    let Q : Verdict → Type 0 = λ v. AddsFront old new (report v (output_name task.gold) task.job.strategy) in
    (inr c.failed.ensures.status, subst Q same (subst P text c.in-Err.ensures.err))
