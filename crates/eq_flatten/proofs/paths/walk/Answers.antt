use Rattle.std.proofs.Common.{rules, ◌-◌, length, map, ap}
use Rattle.std.proofs.lemmas.List.{length-map}
use Rattle.eq_verilog.specs.Trees.{module_tree}
use Rattle.eq_flatten.specs.Paths.{top_path}
use Rattle.eq_flatten.proofs.PathWalk.{all_found, less_left, popped_within, walked}
use Rattle.eq_flatten.proofs.paths.walk.Goals as goal

pub enter-requires-clause-bound : goal.enter-requires-clause-bound
enter-requires-clause-bound c =
    (popped_within (map (λ m. module_tree m.now) c.args.modules.now) (length c.loop-next.found.paths.items)
    c.in-Some.next c.loop-next.stack.items c.pop.new.self.items c.in-Some.ensures.items
    c.loop-next.invariant.within).bound

pub loop-next-preserved : goal.loop-next-preserved
loop-next-preserved c =
    let all = map (λ m. module_tree m.now) c.args.modules.now in
    let within = popped_within all (length c.loop-next.found.paths.items) c.in-Some.next c.loop-next.stack.items
    c.pop.new.self.items c.in-Some.ensures.items c.loop-next.invariant.within in
    walked all (length c.args.modules.now - 1) (top_path (module_tree c.args.top.module.now)) c.loop-next.found
    c.enter.new.found c.in-Some.next c.loop-next.stack.items c.pop.new.self.items c.enter.new.stack.items
    c.in-Some.ensures.items c.loop-next.invariant c.in_ok-enter.ensures within.placed within.others

pub loop-next-smaller : goal.loop-next-smaller
loop-next-smaller c =
    let all = map (λ m. module_tree m.now) c.args.modules.now in
    less_left all (length c.args.modules.now - 1) (top_path (module_tree c.args.top.module.now)) c.loop-next.found
    c.enter.new.found c.in-Some.next c.loop-next.stack.items c.pop.new.self.items c.in-Some.ensures.items
    c.loop-next.invariant c.in_ok-enter.ensures.links

pub returns : goal.returns
returns c =
    let all = map (λ m. module_tree m.now) c.args.modules.now in
    all_found all (length c.args.modules.now - 1) (top_path (module_tree c.args.top.module.now)) c.loop-next.found
    c.loop-next.stack.items (search rules)
    (ap (λ n. n - 1) (length-map c.args.modules.now (λ m. module_tree m.now)))
    c.loop-next.invariant
