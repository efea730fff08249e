use Rattle.std.proofs.Common.{◌≡◌, map, take}
use Rattle.eq_blast.specs.inner.Rows.{drive_node}
use Rattle.eq_blast.proofs.wiring.drives.Given as goal

abbrev pub invariant-loop-driver : goal.invariant-loop-driver
invariant-loop-driver l = l.all.items ≡ map (drive_node l.rows) (take l.driver-index l.drivers)
