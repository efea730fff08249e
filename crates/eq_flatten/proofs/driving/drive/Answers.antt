use Rattle.std.proofs.Common.{◌≡◌, ℕ, suc, ◌+◌, arith, subst, refl}
use Rattle.eq_flatten.specs.Driving.{IsDriving}
use Rattle.eq_flatten.proofs.Driven.{drives_one}
use Rattle.eq_flatten.proofs.driving.drive.Goals as goal

pub loop-at-preserved : goal.loop-at-preserved
loop-at-preserved c =
    let n = c.loop-at.at in
    let next : suc n ≡ n + 1 = omega arith in
    subst (λ (k : ℕ). IsDriving c.args.starts.now c.args.bits.now c.args.word c.args.slots.now c.drive_bit.new.slots k)
    next
    (drives_one c.args.starts.now c.args.bits.now c.args.word c.args.slots.now c.loop-at.slots c.drive_bit.new.slots n
    c.number_in-number.result _ (record { word = c.args.word; bit = n }) c.loop-at.invariant c.loop-at-test.true
    c.number_in-number.ensures refl c.drive_bit.ensures.size c.drive_bit.ensures.here c.drive_bit.ensures.others)
