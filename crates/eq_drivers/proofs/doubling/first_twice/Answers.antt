use Rattle.std.proofs.Common.{length, sym, ◌∙◌}
use Rattle.eq_drivers.specs.inner.Doubling.{is_doubled}
use Rattle.eq_drivers.proofs.Firsts.{first_at}
use Rattle.eq_drivers.proofs.doubling.first_twice.Goals as goal

pub returns-then-is_doubled : goal.returns-then-is_doubled
returns-then-is_doubled c =
    sym (first_at (length c.args.driven.now) c.loop-bit.bit
    (is_doubled c.args.driven.now c.args.followed.now c.args.begun.now) c.loop-bit.invariant c.loop-bit-test.true
    (sym c.is_doubled.ensures ∙ c.if-is_doubled.true))
