use Rattle.std.proofs.Common.{map, sym}
use Rattle.eq_verilog.specs.Trees.{module_tree}
use Rattle.eq_flatten.proofs.PathWalk.{paths_are}
use Rattle.eq_flatten.proofs.paths.all_paths.Goals as goal

pub returns-in_ok-walk-in-Some-clause-some : goal.returns-in_ok-walk-in-Some-clause-some
returns-in_ok-walk-in-Some-clause-some c =
    paths_are (map (λ m. module_tree m.now) c.args.modules.now) c.args.top.now (module_tree c.in-Some.top.module.now)
    c.in_ok-walk-in-Some.field-0 (sym c.in-Some.ensures.there) c.in_ok-walk-in-Some.ensures
