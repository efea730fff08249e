use Rattle.std.proofs.Common.{arith, ◌∙◌}
use Rattle.eq_proof.specs.Inference.{Inference}
use Rattle.eq_wit.proofs.WrongStep.{words_are, wrong_step}
use Rattle.eq_wit.proofs.steps.step.Goals as goal

pub returns-then-branch : goal.returns-then-branch
returns-then-branch c =
    let yes' = c.if-branch.true in
    let made : Inference = record { clause = c.is_step.new.lits.items; ants = c.is_step.new.ants.items } in
    record {
      fits = (c.in_ok-is_step.ensures.clause yes', c.in_ok-is_step.ensures.earlier yes');
      words = words_are c.args.n made ∙ c.in_ok-is_step.ensures.yes yes';
    }

pub returns : goal.returns
returns c = wrong_step c.args.n c.args.words.now c.misstep.result c.requires (omega arith)
    (λ clause ants fits all e.
    let yes' = c.in_ok-is_step.ensures.no clause ants fits all e in absurd (cc (yes', c.if-branch.false)))
    c.misstep.ensures
