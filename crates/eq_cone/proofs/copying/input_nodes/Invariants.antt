use Rattle.std.proofs.Common.{◌≡◌, length}
use Rattle.eq_cone.specs.inner.Copying.{AreInputNodes}
use Rattle.eq_cone.proofs.copying.input_nodes.Given as goal

abbrev pub invariant-loop-input : goal.invariant-loop-input
invariant-loop-input l = AreInputNodes l.builder l.input × (length l.builder ≡ l.input)
