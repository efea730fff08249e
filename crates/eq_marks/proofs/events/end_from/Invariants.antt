use Rattle.std.proofs.Common.{◌≡◌, ◌-◌, ◌<◌, length}
use Rattle.eq_verilog.specs.Clocks.{end_of}
use Rattle.eq_marks.specs.inner.Carrying.{mark_of}
use Rattle.eq_marks.proofs.events.end_from.Given as goal

abbrev pub invariant-loop : goal.invariant-loop
invariant-loop l = record {
  there : l.at < length l.copies;
  spent : end_of (mark_of l.copies) (length l.copies) l.from ≡ end_of (mark_of l.copies) (length l.copies - l.counter)
      l.at;
}
