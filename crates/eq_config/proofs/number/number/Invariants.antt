use Rattle.std.proofs.Common.{◌≡◌, ℕ, ◌<◌, ◌≤◌, get_or, take}
use Rattle.std.specs.Int.{IsInRange}
use Rattle.eq_config.specs.Words.{value_of}
use Rattle.eq_config.proofs.number.number.Given as goal

-- the value of the digits so far
abbrev pub invariant-loop-byte : goal.invariant-loop-byte
invariant-loop-byte l = (l.value ≡ value_of (take l.byte-index l.word)) × (l.value ≤ l.most) × ((k : ℕ) → k < l.byte-index → IsInRange 48 57 (get_or l.word k 0))
