use Rattle.std.proofs.Common.{◌≡◌, take}
use Rattle.eq_analysis.specs.Naming.{with_names}
use Rattle.eq_analysis.proofs.naming.add_all.Given as goal

abbrev pub invariant-loop-name : goal.invariant-loop-name
invariant-loop-name l = l.found.table ≡ with_names l.fn.found.table (take l.name-index l.names)
