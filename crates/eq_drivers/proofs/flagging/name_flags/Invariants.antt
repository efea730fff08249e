use Rattle.std.proofs.Common.{◌≡◌, map, take}
use Rattle.eq_verilog.specs.Declarations.{is_reg}
use Rattle.eq_verilog.specs.Trees.{module_tree}
use Rattle.eq_drivers.proofs.flagging.name_flags.Given as goal

abbrev pub invariant-loop-name : goal.invariant-loop-name
invariant-loop-name l =
    l.flags ≡ map (is_reg (module_tree l.table.within.now)) (map (λ n. n.now) (take l.name-index l.names))
