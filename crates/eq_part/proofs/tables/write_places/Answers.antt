use Rattle.std.proofs.Common.{◌≡◌, ℕ, length, arith, subst}
use Rattle.eq_part.specs.inner.Tabling.{AreWritten}
use Rattle.eq_part.proofs.Tabled.{are_inverse, one_written}
use Rattle.eq_part.proofs.tables.write_places.Goals as goal

pub loop-i-preserved : goal.loop-i-preserved
loop-i-preserved c = one_written c.args.bits.now (length c.args.table.now) c.loop-i.i c.loop-i.table c.requires.bits
    c.loop-i.invariant c.loop-i-test.true

pub returns-clause-inverse : goal.returns-clause-inverse
returns-clause-inverse c =
    let a = c.loop-i-test.false in
    let b = c.loop-i.auto.i-end in
    let e : c.loop-i.i ≡ length c.args.bits.now = omega arith in
    are_inverse c.args.bits.now (length c.args.table.now) c.loop-i.table
    (subst (λ (n : ℕ). AreWritten c.args.bits.now (length c.args.table.now) n c.loop-i.table) e c.loop-i.invariant)
