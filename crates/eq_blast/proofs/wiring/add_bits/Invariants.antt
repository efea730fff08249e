use Rattle.std.proofs.Common.{◌≡◌, ℕ, ◌+◌, ◌<◌, length}
use Rattle.eq_bits.specs.Node.{node_at}
use Rattle.eq_bits.specs.declared.node.Node.TheVariants.{Input}
use Rattle.eq_blast.proofs.wiring.add_bits.Given as goal

abbrev pub invariant-loop-b : goal.invariant-loop-b
invariant-loop-b l = record {
  size : length l.builder ≡ length l.fn.builder + l.b;
  kept : (m : ℕ) → m < length l.fn.builder → node_at l.builder m ≡ node_at l.fn.builder m;
  bits : (i : ℕ) → i < l.b → node_at l.builder (length l.fn.builder + i) ≡ Input i;
}
