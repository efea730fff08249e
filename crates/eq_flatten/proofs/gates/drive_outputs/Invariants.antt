use Rattle.std.proofs.Common.{map, take}
use Rattle.eq_verilog.specs.Trees.{expr_tree}
use Rattle.eq_analysis.specs.Finding.{scope_of}
use Rattle.eq_flatten.specs.Equating.{DrivesAll}
use Rattle.eq_flatten.proofs.gates.drive_outputs.Given as goal

abbrev pub invariant-loop-target : goal.invariant-loop-target
invariant-loop-target l =
    DrivesAll l.nets (scope_of l.nets l.names l.from) l.word (map expr_tree (take l.target-index l.targets)) l.fn.slots
    l.slots
