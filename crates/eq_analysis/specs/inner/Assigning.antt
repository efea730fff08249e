-- Mirrors src/assigning.rt; nothing here has to be believed.
-- What is wrong with what ports of instances are connected to, in the order in which connections are written.
use Rattle.std.specs.Prelude.{List, [], ◌∷◌, Option, None, if◌then◌else◌}
use Rattle.std.specs.Option.{option_or}
use Rattle.eq_net.specs.Meaning.{if_there}
use Rattle.eq_verilog.specs.Trees.{Name, ExprTree, ModuleTree, NamedConnection}
use Rattle.eq_verilog.specs.Declarations.{dir_of, goes_out, has}
use Rattle.eq_verilog.specs.Equations.{Connection, connected}
use Rattle.eq_verilog.specs.TargetRefusals.{bad_connected, bad_output}

-- with an expression in module m that is connected to a port of module i
abbrev pub bad_port : ModuleTree → ModuleTree → Name → ExprTree → Option Name
bad_port m i n e = if goes_out (dir_of i n) then bad_output m e else None

abbrev pub maybe_bad : ModuleTree → ModuleTree → Option Connection → Option Name
maybe_bad m i o = if_there None (bad_connected m i) o

-- in the order of the ports
abbrev pub ordered_bad : ModuleTree → ModuleTree → List Name → List (Option ExprTree) → Option Name
ordered_bad m i [] es = None
ordered_bad m i (p ∷ ps) [] = None
ordered_bad m i (p ∷ ps) (e ∷ es) = option_or (maybe_bad m i (connected p e)) (ordered_bad m i ps es)

-- by name
abbrev pub named_bad : ModuleTree → ModuleTree → NamedConnection → Option Name
named_bad m i n = maybe_bad m i (if has i.ports n.port then connected n.port n.expr else None)
