use Rattle.std.proofs.Common.{◌≡◌, ℕ, ◌<◌}
use Rattle.eq_first.specs.Value.{value}
use Rattle.eqy.specs.Listing.{digits, given}
use Rattle.eqy.proofs.listing.differ.Given as goal

abbrev pub invariant-loop-number : goal.invariant-loop-number
invariant-loop-number l =
    (k : ℕ) → k < l.number → value l.gold.expr (given l.gold.ports (digits l.inputs k)) ≡ value l.gate.expr (given l.gate.ports (digits l.inputs k))
