use Rattle.std.proofs.Common.{map}
use Rattle.eq_verilog.specs.Trees.{module_tree}
use Rattle.eq_analysis.proofs.VisitLemmas.{idle_popped, first_popped}
use Rattle.eq_analysis.proofs.visiting.next_entered.Goals as goal

pub returns-in-Some-first_visited-clause-some : goal.returns-in-Some-first_visited-clause-some
returns-in-Some-first_visited-clause-some c =
    first_popped (map (λ m. module_tree m.now) c.args.modules.now) c.args.seen.now c.in-Some.visit
    (module_tree c.in-Some-first_visited.module.now)
    c.loop-visit.stack.items c.pop.new.self.items c.args.stack.now.items c.in-Some-first_visited.ensures.some
    c.in-Some.ensures.items
    c.loop-visit.invariant

pub loop-visit-preserved : goal.loop-visit-preserved
loop-visit-preserved c =
    idle_popped (map (λ m. module_tree m.now) c.args.modules.now) c.args.seen.now c.in-Some.visit
    c.loop-visit.stack.items c.pop.new.self.items c.args.stack.now.items
    c.in_default-first_visited.ensures.none c.in-Some.ensures.items
    c.loop-visit.invariant
