-- The bits of nets in a row: each net has one bit at least, and ends within the row.
use Rattle.std.proofs.Common.{ℕ, zero, suc, ◌<◌, ◌≤◌, List, [], ◌∷◌, length, Option, Some, None, arith}
use Rattle.eq_model.specs.Nets.{range_width}
use Rattle.eq_net.specs.declared.types.NetInfo.{NetInfo}
use Rattle.eq_net.specs.Nets.{range_of, width_of}
use Rattle.eq_net.specs.Net.{bits_of, net_at, offset}

range_some : (r : Option (ℕ × ℕ)) → 0 < range_width r
range_some None = omega arith
range_some (Some r) = omega arith

pub width_some : (n : NetInfo) → 0 < width_of n
width_some n = range_some (range_of n)

pub offset_le : (nets : List NetInfo) (k : ℕ) → offset nets k ≤ bits_of nets
offset_le [] k = omega arith
offset_le (x ∷ xs) zero = omega arith
offset_le (x ∷ xs) (suc k) = (let h = offset_le xs k in omega arith)

-- there are no more nets than bits
pub no_more_nets : (nets : List NetInfo) → length nets ≤ bits_of nets
no_more_nets [] = omega arith
no_more_nets (x ∷ xs) = (let h = no_more_nets xs in let w = width_some x in omega arith)

-- a net has no more bits than all nets
pub width_le : (nets : List NetInfo) (k : ℕ) → k < length nets → width_of (net_at nets k) ≤ bits_of nets
width_le [] k lt = absurd (omega arith)
width_le (x ∷ xs) zero lt = omega arith
width_le (x ∷ xs) (suc k) lt = (let h = width_le xs k (omega arith) in omega arith)
