use Rattle.std.proofs.Common.{arith, slice_index_or}
use Rattle.std.proofs.lemmas.Option.{slice_get-get_or}
use Rattle.eq_net.specs.declared.types.WordBit.{WordBit}
use Rattle.eq_sequential.proofs.PutLemmas.{put_more}
use Rattle.eq_sequential.proofs.placing.put_all.Goals as goal

pub loop-at-preserved : goal.loop-at-preserved
loop-at-preserved c =
    let bits = c.args.bits.now in
    let entries = c.args.entries.now in
    let n = c.loop-at.at in
    let none : WordBit = record { word = 0; bit = 0 } in
    let less = c.loop-at-test.true in
    let size = c.requires.size in
    put_more bits entries c.requires.once c.args.slots.now c.loop-at.slots c.put_bit.new.slots n
    (slice_index_or bits n 0) (slice_index_or entries n none) c.loop-at.invariant (slice_get-get_or bits n 0 less)
    (slice_get-get_or entries n none (omega (arith, less, size)))
    c.put_bit.ensures.size c.put_bit.ensures.here c.put_bit.ensures.others
