use Rattle.std.proofs.Common.{◌≡◌, take}
use Rattle.eq_net.specs.Tree.{trees_of}
use Rattle.test_elab.specs.Made.{words_of}
use Rattle.test_elab.proofs.nets.words.Given as goal

abbrev pub invariant-loop-line : goal.invariant-loop-line
invariant-loop-line l = trees_of l.words ≡ words_of (take l.line-index l.lines)
