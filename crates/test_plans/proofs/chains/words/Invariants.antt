use Rattle.std.proofs.Common.{◌≡◌, take}
use Rattle.eq_net.specs.Tree.{trees_of}
use Rattle.test_plans.specs.Chains.{words_of}
use Rattle.test_plans.proofs.chains.words.Given as goal

abbrev pub invariant-loop-wire : goal.invariant-loop-wire
invariant-loop-wire l = trees_of l.words ≡ words_of (take l.wire-index l.wires)
