use Rattle.std.proofs.Common.{map, sym}
use Rattle.eq_verilog.specs.Trees.{module_tree}
use Rattle.eq_analysis.proofs.ClimbingLemmas.{not_recursive}
use Rattle.eq_analysis.proofs.recursion.recursive_at.Goals as goal

pub returns-then-stands_apart : goal.returns-then-stands_apart
returns-then-stands_apart c =
    sym (not_recursive (map (λ m. module_tree m.now) c.args.modules.now) c.args.names.now c.args.numbers.now
    (module_tree c.args.at.now) c.requires.named c.modules_by_number.ensures.there c.modules_by_number.ensures.nowhere
    c.requires.climb (c.stands_apart.ensures c.if-stands_apart.true))
