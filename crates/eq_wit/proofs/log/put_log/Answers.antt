use Rattle.std.proofs.Common.{◌≡◌, ℕ, ◌+◌, suc, List, ◌++◌, take, arith, sym, ap, ◌∙◌}
use Rattle.eq_proof.specs.Inference.{Inference}
use Rattle.eq_wit.specs.Line.{line_text, lines_text}
use Rattle.eq_wit.specs.Texts.{log_lines, step_fields}
use Rattle.eq_wit.proofs.Written.{behind, step_more}
use Rattle.eq_wit.proofs.log.put_log.Goals as goal

pub loop-place-preserved : goal.loop-place-preserved
loop-place-preserved c =
    let first = c.args.first in
    let log : List Inference = c.args.log.now in
    let place = c.loop-place.place in
    let step : Inference = record { clause = c.at-step.result.clause.now; ants = c.at-step.result.ants.now } in
    let next : suc place ≡ place + 1 = omega arith in
    behind c.args.out.now.items c.loop-place.out.items c.put_step.new.out.items
    (lines_text (log_lines first (take place log))) (line_text (step_fields (first + place) step)) c.loop-place.invariant
    (c.in_ok-put_step.ensures ∙ ap (λ (k : ℕ). c.loop-place.out.items ++ line_text (step_fields (first + k) step))
    c.from.ensures)
    ∙ ap (λ (o : List ℕ). c.args.out.now.items ++ o) (sym (step_more first log place step c.at-step.ensures.step)
    ∙ ap (λ (j : ℕ). lines_text (log_lines first (take j log))) next)
