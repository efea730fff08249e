-- Mirrors src/connections.rt; nothing here has to be believed.
-- What connections cost, in the order in which they are written.
use Rattle.std.specs.Prelude.{ℕ, ◌+◌, List, [], ◌∷◌, Option, None, if◌then◌else◌}
use Rattle.eq_net.specs.Meaning.{if_there}
use Rattle.eq_verilog.specs.Trees.{Name, ExprTree, ModuleTree, NamedConnection}
use Rattle.eq_verilog.specs.Scopes.{Scope, width}
use Rattle.eq_verilog.specs.Declarations.{comes_in, dir_of, has}
use Rattle.eq_verilog.specs.Nets.{module_scope}
use Rattle.eq_verilog.specs.Equations.{Connection, connected}
use Rattle.eq_verilog.specs.Costs.{connection_cost, side_cost}

-- of an expression that is connected to a port of module i
abbrev pub port_cost : Scope → ModuleTree → Name → ExprTree → ℕ
port_cost s i n e = if comes_in (dir_of i n) then side_cost s e (width (module_scope i) n) else 0

abbrev pub maybe_cost : Scope → ModuleTree → Option Connection → ℕ
maybe_cost s i o = if_there 0 (connection_cost s i) o

-- in the order of the ports
abbrev pub ordered_cost : Scope → ModuleTree → List Name → List (Option ExprTree) → ℕ
ordered_cost s i [] es = 0
ordered_cost s i (p ∷ ps) [] = 0
ordered_cost s i (p ∷ ps) (e ∷ es) = maybe_cost s i (connected p e) + ordered_cost s i ps es

-- by name
abbrev pub named_cost : Scope → ModuleTree → NamedConnection → ℕ
named_cost s i n = maybe_cost s i (if has i.ports n.port then connected n.port n.expr else None)
