use Rattle.std.proofs.Common.{List, ◌++◌, ℕ, ap, ◌∙◌, subst}
use Rattle.eqy.specs.Lines.{counts_line, whole_line}
use Rattle.eqy.specs.Output.{AddsFront}
use Rattle.eqy.proofs.Fronts.{front_first, front_second, on_err}
use Rattle.eqy.proofs.report.tell_lines.Goals as goal

pub returns-in-Ok-clause-err : goal.returns-in-Ok-clause-err
returns-in-Ok-clause-err g c =
    let mid = g.O.Sink.written c.tell.new.out in
    let new = g.O.Sink.written c.tell_two.new.out in
    let closing = ap (λ (t : List ℕ). t ++ c.whole.result.now) c.counts.ensures ∙ ap (λ (t : List ℕ). counts_line c.args.verdict ++ t) c.whole.ensures in
    let P : List ℕ → Type 0 = λ t. AddsFront mid new t in
    on_err c.tell_two.result (λ front. front_second (g.O.Sink.written c.args.out.now) mid new c.args.row.now (counts_line c.args.verdict ++ whole_line c.args.verdict) c.in-Ok.ensures.ok (subst P closing front)) c.tell_two.ensures.err

pub returns-in-Err-clause-err : goal.returns-in-Err-clause-err
returns-in-Err-clause-err g c =
    front_first (g.O.Sink.written c.args.out.now) (g.O.Sink.written c.tell.new.out) c.args.row.now (counts_line c.args.verdict ++ whole_line c.args.verdict) c.in-Err.ensures.err
