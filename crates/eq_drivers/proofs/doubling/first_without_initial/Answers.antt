use Rattle.std.proofs.Common.{List, length, ap, ◌∙◌}
use Rattle.eq_flatten.specs.declared.driving.Slot.{Slot}
use Rattle.eq_verilog.specs.Firsts.{first_below}
use Rattle.eq_drivers.specs.inner.Doubling.{lacks_initial}
use Rattle.eq_drivers.proofs.Doubled.{lacking_first}
use Rattle.eq_drivers.proofs.doubling.first_without_initial.Goals as goal

pub returns : goal.returns
returns c = record {
  ok = λ nets words f tell regs.
      c.first_lacking.ensures
      ∙ ap (λ (xs : List Slot). first_below (length c.args.flags.now) (lacks_initial c.args.flags.now xs))
      c.deref.ensures.value
      ∙ lacking_first nets words f c.args.slots.now tell c.args.flags.now regs;
}
