use Rattle.std.proofs.Common.{◌≤◌, ℕ, ◌+◌, List, ◌++◌, length, take, arith, sym, ap, ◌∙◌, subst}
use Rattle.std.specs.Prelude.{All}
use Rattle.std.proofs.lemmas.List.{take_all}
use Rattle.eq_proof.specs.Inference.{Inference}
use Rattle.eq_proof.specs.Lrat.{step_line, lrat_text, IsStep}
use Rattle.eq_proof.proofs.LogTexts.{lrat_text-at, steps_more}
use Rattle.eq_proof.proofs.lrat.print_lrat.Goals as goal

pub loop-place-preserved : goal.loop-place-preserved
loop-place-preserved c =
    let inv = c.loop-place.invariant in
    let first = c.args.first in
    let log = c.args.log.now in
    let place = c.loop-place.place in
    let step : Inference = record { clause = c.at-step.result.clause.now; ants = c.at-step.result.ants.now } in
    record {
      text =
          c.in_ok-push_step.ensures.text ∙ ap (λ (t : List ℕ). t ++ step_line (first + c.from.result) step) inv.text
          ∙ ap (λ (k : ℕ). lrat_text first (take place log) ++ step_line (first + k) step) c.from.ensures
          ∙ sym (lrat_text-at first log place step c.at-step.ensures.step);
      steps = steps_more log place step.clause step.ants c.at-step.ensures.step c.at-step.ensures.ordered c.in_ok-push_step.ensures.clause_range c.at-step.ensures.from_one c.in_ok-push_step.ensures.ants_range inv.steps;
    }

pub returns-clause-numbered : goal.returns-clause-numbered
returns-clause-numbered c =
    let P : List Inference → Type 0 = All IsStep in
    let log = c.args.log.now in
    let end : length log ≤ c.loop-place.place = omega arith in
    record {
      last_fits = omega arith;
      few = omega arith;
      steps = subst P (take_all c.loop-place.place log end) c.loop-place.invariant.steps;
    }
