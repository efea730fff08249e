use Rattle.std.proofs.Common.{◌≡◌, ◌≢◌, ℕ, ◌+◌, List, [], ◌∷◌, ◌++◌, length, arith, sym, ap, ap₂, ◌∙◌, subst}
use Rattle.std.specs.Prelude.{All}
use Rattle.std.proofs.lemmas.Bool.Decides.{nat_tests}
use Rattle.std.proofs.lemmas.List.{length-append, length_push}
use Rattle.std.proofs.lemmas.List.Elements.{All-push}
use Rattle.eq_proof.specs.Literal.{Literal}
use Rattle.eq_proof.specs.Inference.{Inference}
use Rattle.eq_proof.specs.Lrat.{step_line, IsStep}
use Rattle.eq_proof.proofs.LogTexts.{no_step_is_bad, read_step, step_line-long}
use Rattle.eq_proof.proofs.lrat.log_of.Goals as goal

pub returns-in_default-clause-bad_line : goal.returns-in_default-clause-bad_line
returns-in_default-clause-bad_line c = λ line e.
    let inv = c.loop-rest.invariant in
    let log = c.loop-rest.log in
    let rest : List ℕ = c.loop-rest.rest.now in
    let line-is : c.len-in_default.result + 1 ≡ line = cc (e) in
    let number : c.from.result ≡ length log = c.from.ensures ∙ c.len.ensures in
    let none = rw c.in_default.is at c.in_ok-after.ensures.none in
    let P : ℕ → Type 0 = λ n. (step : Inference) (more : List ℕ) → IsStep step → rest ≢ step_line (c.args.first + n) step ++ more in
    let nonempty : rest ≢ [] = λ empty. let zero : length rest ≡ 0 = ap length empty in grind (arith, nat_tests, c.is_empty.ensures, c.loop-rest-test.true) in
    no_step_is_bad c.args.first log c.args.text.now rest line (omega (arith, inv.short)) (omega (arith, inv.short)) inv.steps inv.read (omega (arith, c.len-in_default.ensures)) nonempty (subst P number none)

pub loop-rest-preserved : goal.loop-rest-preserved
loop-rest-preserved c =
    let inv = c.loop-rest.invariant in
    let log = c.loop-rest.log in
    let step : Inference = record { clause = c.step_of.new.lits.items; ants = c.step_of.new.ants.items } in
    let after : List ℕ = c.in-Some.after.now in
    let number : c.from.result ≡ length log = c.from.ensures ∙ c.len.ensures in
    let line = rw c.in-Some.is at c.in_ok-after.ensures.step in
    let own = rw c.in-Some.is at c.in_ok-after.ensures.fits in
    let pushed : c.push_parts.new.self ≡ log ++ step ∷ [] =
    c.in_ok-push_parts.ensures.ok ∙ ap₂ (λ (clause : List Literal) (ants : List ℕ). let made : Inference = record { clause = clause; ants = ants } in log ++ made ∷ []) c.as_slice.ensures.value c.as_slice-in-loop-rest.ensures.value in
    let P : List Inference → Type 0 = All IsStep in
    record {
      read = read_step c.args.first log c.push_parts.new.self step (c.args.first + c.from.result) c.args.text.now c.loop-rest.rest.now after inv.read line (omega arith) pushed;
      short = omega (arith, inv.short, ap length pushed, length_push log step, ap length line, length-append (step_line (c.args.first + c.from.result) step) after, step_line-long (c.args.first + c.from.result) step);
      steps = subst P (sym pushed) (All-push IsStep log step inv.steps own);
    }
