use Rattle.std.proofs.Common.{map, take}
use Rattle.eq_net.specs.Tree.{trees_of}
use Rattle.eq_verilog.specs.Trees.{expr_tree}
use Rattle.eq_analysis.specs.Finding.{scope_of}
use Rattle.eq_flatten.specs.Rendering.{MakesAll}
use Rattle.eq_flatten.proofs.words.+words.Given as goal

abbrev pub invariant-part_words-loop-part : goal.invariant-part_words-loop-part
invariant-part_words-loop-part l =
    MakesAll l.nets (scope_of l.nets l.names l.from) (map expr_tree (take l.part-index l.parts))
    (trees_of l.fn.words) (trees_of l.words) (trees_of l.made)
