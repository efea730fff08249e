use Rattle.std.proofs.Common.{map}
use Rattle.eq_verilog.specs.Trees.{module_tree}
use Rattle.eq_analysis.proofs.VisitLemmas.{entered_fewer}
use Rattle.eq_analysis.proofs.visiting.walk.Goals as goal

pub loop-entered-smaller : goal.loop-entered-smaller
loop-entered-smaller c =
    entered_fewer (map (λ m. module_tree m.now) c.args.modules.now) c.loop-entered.seen c.enter.new.seen
    (module_tree c.in-Some.entered.module.now) c.in-Some.ensures.some.unseen c.in-Some.ensures.some.there
    c.in_ok-enter.ensures.names
