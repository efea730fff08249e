use Rattle.std.proofs.Common.{List, length, ap, ◌∙◌}
use Rattle.eq_flatten.specs.declared.driving.Slot.{Slot}
use Rattle.eq_verilog.specs.Firsts.{first_below}
use Rattle.eq_drivers.specs.inner.Doubling.{is_doubled}
use Rattle.eq_drivers.proofs.Doubled.{doubled_first}
use Rattle.eq_drivers.proofs.doubling.first_doubled.Goals as goal

pub returns : goal.returns
returns c =
    let s = c.args.slots.now in
    record {
      ok = λ nets words f tell.
          c.first_twice.ensures
          ∙ ap (λ (xs : List Slot). first_below (length xs) (is_doubled xs c.deref-2.result.now c.deref-3.result.now))
          c.deref.ensures.value
          ∙ ap (λ (xs : List Slot). first_below (length s.driven.items) (is_doubled s.driven.items xs c.deref-3.result.now))
          c.deref-2.ensures.value
          ∙ ap (λ (xs : List Slot). first_below (length s.driven.items) (is_doubled s.driven.items s.followed.items xs))
          c.deref-3.ensures.value
          ∙ doubled_first nets words f s tell;
    }
