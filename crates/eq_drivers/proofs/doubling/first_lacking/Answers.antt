use Rattle.std.proofs.Common.{length, sym, ◌∙◌}
use Rattle.eq_drivers.specs.inner.Doubling.{lacks_initial}
use Rattle.eq_drivers.proofs.Firsts.{first_at}
use Rattle.eq_drivers.proofs.doubling.first_lacking.Goals as goal

pub returns-then-lacks_initial : goal.returns-then-lacks_initial
returns-then-lacks_initial c =
    sym (first_at (length c.args.flags.now) c.loop-bit.bit (lacks_initial c.args.flags.now c.args.begun.now)
    c.loop-bit.invariant c.loop-bit-test.true (sym c.lacks_initial.ensures ∙ c.if-lacks_initial.true))
