use Rattle.std.proofs.Common.{◌≡◌, length}
use Rattle.eq_vparse.specs.HeaderReading.{ends_ports}
use Rattle.eq_vparse.specs.Looping.{repeat_until}
use Rattle.eq_vparse.specs.HeaderReading.{more_ports_at}
use Rattle.eq_vparse.proofs.cursor.Cursor.all_ports.Given as goal

abbrev pub invariant-loop-alloc : goal.invariant-loop-alloc
invariant-loop-alloc l = repeat_until ends_ports more_ports_at l.ports l.self ≡ repeat_until ends_ports more_ports_at l.initial.ports l.initial.self

abbrev pub decreases-loop-alloc : goal.decreases-loop-alloc
decreases-loop-alloc l = length l.self
