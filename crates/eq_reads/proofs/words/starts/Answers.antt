use Rattle.std.proofs.Common.{ℕ, zero, suc, ◌+◌, ◌≤◌, List, [], ◌∷◌, arith}
use Rattle.eq_net.specs.declared.types.NetInfo.{NetInfo}
use Rattle.eq_net.specs.Net.{bits_of, offset}
use Rattle.eq_reads.proofs.words.starts.Goals as goal

offset_le : (nets : List NetInfo) (k : ℕ) → offset nets k ≤ bits_of nets
offset_le [] k = omega arith
offset_le (x ∷ xs) zero = omega arith
offset_le (x ∷ xs) (suc k) = (let h = offset_le xs k in omega arith)

pub overflow_add-next : goal.overflow_add-next
overflow_add-next c =
    let e = c.bits_stand_by_nets.ensures.next c.args.nets.now c.loop-net.net-index c.net-item.result
    c.loop-net-test.true c.net-item.is in
    let le = offset_le c.args.nets.now (c.loop-net.net-index + 1) in
    let w = c.width.ensures in
    let n = c.loop-net.invariant.next in
    let small = c.requires in
    omega arith
