use Rattle.std.proofs.Common.{◌≡◌, take}
use Rattle.eq_net.specs.Tree.{trees_of}
use Rattle.test_plans.specs.Cells.{words_of}
use Rattle.test_plans.proofs.cells.words.Given as goal

abbrev pub invariant-loop-cell : goal.invariant-loop-cell
invariant-loop-cell l = trees_of l.words ≡ words_of (take l.cell-index l.cells)
