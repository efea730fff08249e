use Rattle.eq_verilog.specs.Trees.{modules_of}
use Rattle.eq_elab.proofs.Steps.{answered}
use Rattle.eq_elab.proofs.elaborating.elaborate.Goals as goal

pub returns-in-Ok-clause-only_refused : goal.returns-in-Ok-clause-only_refused
returns-in-Ok-clause-only_refused c r is =
    let all = modules_of c.args.sources.now in
    let top = c.args.top.now in
    answered all top (c.one_outcome.ensures.one all top)
    (λ q refused accepted. c.one_outcome.ensures.not_both all top q accepted refused) r c.in-Ok.answer is
    c.in-Ok.ensures
