use Rattle.std.proofs.Common.{◌≡◌, ℕ, ◌+◌, ◌-◌, List, [], ◌∷◌, ◌++◌, length, arith, refl, ap, ap₂, ◌∙◌}
use Rattle.eq_proof.specs.Derivation.{nonempty_of}
use Rattle.eq_proof.specs.Inference.{Inference}
use Rattle.eq_proof.specs.Literal.{Literal}
use Rattle.eq_wit.specs.Texts.{step_fields}
use Rattle.eq_wit.specs.declared.state.Steps.{Steps}
use Rattle.eq_wit.specs.declared.state.Tally.{Tally}
use Rattle.eq_wit.specs.inner.Reading.{in_steps, with_conflicts}
use Rattle.eq_wit.proofs.AnswerLemmas.{follows_step, stopped_step}
use Rattle.eq_wit.proofs.logging.one_step.Goals as goal

pub returns-in_ok-in_steps-in-Ok : goal.returns-in_ok-in_steps-in-Ok
returns-in_ok-in_steps-in-Ok c =
    let t = c.args.tally in
    let x = c.args.steps in
    let n : ℕ = x.first + c.from.result in
    let lits : List Literal = c.step.new.lits.items in
    let ants : List ℕ = c.step.new.ants.items in
    let made : Inference = record { clause = lits; ants = ants } in
    let number' : n ≡ x.first + length x.log = omega (arith, c.len.ensures, c.from.ensures) in
    let more = c.conflicts_of-more.ensures.value ants ∙ ap (λ (ls : List Literal).
    let s : Inference = record { clause = ls; ants = ants } in nonempty_of (s ∷ [])) c.as_slice.ensures.value in
    let after = c.in_ok-after-in-Ok.ensures ∙ ap₂ (λ (ls : List Literal) (as' : List ℕ).
    let s : Inference = record { clause = ls; ants = as' } in
    let y : Steps = record { spent = x.spent; first = x.first; log = x.log ++ s ∷ []; left = x.left - 1 } in y)
    c.as_slice-in-Ok.ensures.value c.as_slice-in-Ok-2.ensures.value in (
      step_fields n made,
      follows_step t c.args.attempt c.args.query c.args.k x x.left n made c.in_ok-in_steps-in-Ok.field-0
          c.requires.some refl
          number' (omega (arith, number', c.requires.numbers)) c.requires.conflicts c.in-Ok.ensures.fits
          (c.in_ok-in_steps-in-Ok.ensures ∙ ap₂ (λ (u : Tally) (y : Steps).
          in_steps u c.args.attempt c.args.query c.args.k y.spent y.first y.log y.left)
          (c.with_more.ensures ∙ ap (λ (m : ℕ). with_conflicts t (t.conflicts + m)) more) after),
      c.in-Ok.ensures.words,
    )

pub returns-in-Err : goal.returns-in-Err
returns-in-Err c =
    let x = c.args.steps in
    let n : ℕ = x.first + c.from.result in
    let number' : n ≡ x.first + length x.log = omega (arith, c.len.ensures, c.from.ensures) in
    stopped_step c.args.tally c.args.attempt c.args.query c.args.k x x.left n c.args.words.now c.in-Err.stop
    c.requires.some
    refl number' (omega (arith, number', c.requires.numbers)) c.requires.conflicts c.in-Err.ensures
