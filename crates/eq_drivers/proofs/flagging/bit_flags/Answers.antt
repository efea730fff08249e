use Rattle.std.proofs.Common.{◌+◌, ◌++◌, List, Bool, false, drop, map, replicate, slice_index_or, append_assoc, arith, ap, refl, sym, ◌∙◌}
use Rattle.eq_net.specs.Nets.{net_of, width_of}
use Rattle.eq_drivers.specs.inner.Flagging.{spread}
use Rattle.eq_drivers.proofs.Spread.{spread_info}
use Rattle.eq_drivers.proofs.flagging.bit_flags.Goals as goal

pub loop-net-preserved : goal.loop-net-preserved
loop-net-preserved c =
    let nets = c.args.nets.now in
    let flags = c.args.by_net.now in
    let k = c.loop-net.net in
    let n = c.index-nets-net.result in
    let t = slice_index_or flags k false in
    let rest = spread (drop (k + 1) (map net_of nets)) (drop (k + 1) flags) in
    let less = c.loop-net-test.true in
    let size = c.requires in
    ap (λ (xs : List Bool). xs ++ rest) c.in_ok-push_flags.ensures
    ∙ ap (λ w. (c.loop-net.flags.items ++ replicate w t) ++ rest) c.width.ensures
    ∙ append_assoc c.loop-net.flags.items (replicate (width_of n) t) rest
    ∙ ap (λ (xs : List Bool). c.loop-net.flags.items ++ xs)
    (sym (spread_info nets flags k n t less (omega (arith, less, size)) c.index-nets-net.is refl))
    ∙ c.loop-net.invariant
