-- The equations of a connection between an instance, of which `i` is the scope, and the path that it stands in, `o`.
use Rattle.std.specs.Prelude.{ℕ, List, [], ◌∷◌, Option, Some, None, if◌then◌else◌, map, zip}
use Rattle.eq_model.specs.Nets.{Dir, inner, is_input, is_output}
use Rattle.eq_net.specs.declared.types.NetInfo.{NetInfo}
use Rattle.eq_verilog.specs.Trees.{Name, ExprTree, ModuleTree, NamedConnection, net}
use Rattle.eq_verilog.specs.Declarations.{dir_of, has}
use Rattle.eq_verilog.specs.Scopes.{Scope}
use Rattle.eq_verilog.specs.Sizes.{own}
use Rattle.eq_verilog.specs.Costs.{side_cost}
use Rattle.eq_verilog.specs.Equations.{Connection, Equation, assignment, connected}
use Rattle.eq_flatten.specs.Items.{IsSource, IsTarget}

abbrev pub link_equations : Scope → Scope → Dir → Name → ExprTree → List Equation
link_equations i o inner port e = []
link_equations i o is_input port e = assignment i (net port) o e ∷ []
link_equations i o is_output port e = assignment o e i (net port) ∷ []

abbrev pub link_cost : Scope → Scope → Dir → Name → ExprTree → ℕ
link_cost i o inner port e = 0
link_cost i o is_input port e = side_cost o e (own i (net port))
link_cost i o is_output port e = side_cost i (net port) (own o e)

-- both sides can become an equation
abbrev pub IsJoined : List NetInfo → List Name → ℕ → List Name → ℕ → Dir → Name → ExprTree → Type 0
IsJoined nets inside first names from inner port e = Unit {0}
IsJoined nets inside first names from is_input port e =
    IsTarget nets inside first (net port) × IsSource nets names from e
IsJoined nets inside first names from is_output port e =
    IsSource nets inside first (net port) × IsTarget nets names from e

-- of a port that may be connected, in an instance of module m
abbrev pub maybe_equations : Scope → Scope → ModuleTree → Option Connection → List Equation
maybe_equations i o m None = []
maybe_equations i o m (Some c) = link_equations i o (dir_of m c.port) c.port c.expr

abbrev pub maybe_cost : Scope → Scope → ModuleTree → Option Connection → ℕ
maybe_cost i o m None = 0
maybe_cost i o m (Some c) = link_cost i o (dir_of m c.port) c.port c.expr

abbrev pub IsMaybeJoined : List NetInfo → List Name → ℕ → List Name → ℕ → ModuleTree → Option Connection → Type 0
IsMaybeJoined nets inside first names from m None = Unit {0}
IsMaybeJoined nets inside first names from m (Some c) =
    IsJoined nets inside first names from (dir_of m c.port) c.port c.expr

abbrev pub AreJoined : List NetInfo → List Name → ℕ → List Name → ℕ → ModuleTree → List (Option Connection) → Type 0
AreJoined nets inside first names from m [] = Unit {0}
AreJoined nets inside first names from m (c ∷ cs) =
    IsMaybeJoined nets inside first names from m c × AreJoined nets inside first names from m cs

-- the connections as they are written, also those that are none
abbrev pub named_connection : ModuleTree → NamedConnection → Option Connection
named_connection m n = if has m.ports n.port then connected n.port n.expr else None

abbrev pub ordered : List Name → List (Option ExprTree) → List (Option Connection)
ordered ports es = map (λ (p : Name × Option ExprTree). connected p.0 p.1) (zip ports es)
