-- The equations of a design: continuous assignments, primitive gates and port connections (IEEE 1364-2005, 6.1, 7.2,
-- 7.3 and 12.3.9). The connection of an input port is an assignment to the port, that of an output port an assignment
-- of it. A gate is the assignment of a reduction of its inputs, joined, to each of its outputs.
use Rattle.std.specs.Prelude.{ℕ, zero, suc, ◌-◌, List, [], ◌∷◌, if◌then◌else◌, Option, Some, None, drop, filter_map, flat_map, length, map, take, zip}
use Rattle.eq_model.specs.Nets.{Net}
use Rattle.eq_model.specs.System.{Expr as Formula}
use Rattle.eq_vparse.specs.declared.tree.GateKind.{GateKind}
use Rattle.eq_vparse.specs.declared.tree.GateKind.TheVariants as kind
use Rattle.eq_vparse.specs.declared.tree.UnOp.TheVariants as un
use Rattle.eq_net.specs.Meaning.{if_there}
use Rattle.eq_verilog.specs.Trees.{Name, ExprTree, net, unary, join_all, NamedConnection, ConnectionList, by_order, by_name, ItemTree, declared, assign, primitive, instance, always, initial, ModuleTree}
use Rattle.eq_verilog.specs.Scopes.{Scope}
use Rattle.eq_verilog.specs.Sizes.{own, context}
use Rattle.eq_verilog.specs.Expressions.{wire, value, reads}
use Rattle.eq_verilog.specs.Declarations.{has, dir_of, comes_in, goes_out}
use Rattle.eq_verilog.specs.Hierarchy.{Path, inner_prefix, module_named}
use Rattle.eq_verilog.specs.Nets.{scope_at}
use Rattle.eq_verilog.specs.Clocks.{is_bit}

-- an assignment: its sides, and what their names mean
pub record Equation : Type 0 where
  pub target_scope : Scope
  pub target : ExprTree
  pub source_scope : Scope
  pub source : ExprTree

abbrev pub assignment : Scope → ExprTree → Scope → ExprTree → Equation
assignment ts t ss e = record { target_scope = ts; target = t; source_scope = ss; source = e }

-- bit j of a right side, in the context of both sides
abbrev pub formula : Scope → ExprTree → Scope → ExprTree → ℕ → Formula
formula ts t ss e j = record {
  reads = reads ss e (context ts t ss e) j;
  value = λ v. value ss v e (context ts t ss e) j;
}

-- ---- gates

-- how many of the terminals are outputs. They come first: all but the last of `buf` and `not`, and one of the others
abbrev pub outputs_among : GateKind → List ExprTree → ℕ
outputs_among kind.Buf terms = length terms - 1
outputs_among kind.Not terms = length terms - 1
outputs_among _ terms = 1

abbrev pub gate_outputs : GateKind → List ExprTree → List ExprTree
gate_outputs k terms = take (outputs_among k terms) terms

abbrev pub gate_inputs : GateKind → List ExprTree → List ExprTree
gate_inputs k terms = drop (outputs_among k terms) terms

-- what a gate makes of its inputs, joined
abbrev pub gated : GateKind → ExprTree → ExprTree
gated kind.And e = unary un.RedAnd e
gated kind.Nand e = unary un.RedNand e
gated kind.Or e = unary un.RedOr e
gated kind.Nor e = unary un.RedNor e
gated kind.Xor e = unary un.RedXor e
gated kind.Xnor e = unary un.RedXnor e
gated kind.Buf e = e
gated kind.Not e = unary un.Not e

-- ---- connections

-- a port of an instance's module, and what it is connected to
pub record Connection : Type 0 where
  pub port : Name
  pub expr : ExprTree

abbrev pub connected : Name → Option ExprTree → Option Connection
connected n None = None
connected n (Some e) = Some (record { port = n; expr = e })

-- in the order of the text. A port that isn't connected has none, and what is no port is left out
abbrev pub connections_of : ModuleTree → ConnectionList → List Connection
connections_of m (by_order es) = filter_map (λ (p : Name × Option ExprTree). connected p.0 p.1) (zip m.ports es)
connections_of m (by_name ns) =
    filter_map (λ (n : NamedConnection). if has m.ports n.port then connected n.port n.expr else None) ns

-- ---- equations

module _ (all : List ModuleTree) (nets : List Net) (p : Path) where
  abbrev pub own_scope : Scope
  own_scope = scope_at nets p

  -- of an instance in this path
  abbrev pub inner_scope : Name → ModuleTree → Scope
  inner_scope name m = scope_at nets (record { prefix = inner_prefix p.prefix name; of = m })

  -- in this path alone
  abbrev pub assigned : ExprTree → ExprTree → Equation
  assigned t e = assignment own_scope t own_scope e

  -- of a connection of the instance with this name, whose module is m
  abbrev pub connection_equation : Name → ModuleTree → Connection → List Equation
  connection_equation name m c =
      if comes_in (dir_of m c.port) then assignment (inner_scope name m) (net c.port) own_scope c.expr ∷ []
      else if goes_out (dir_of m c.port) then assignment own_scope c.expr (inner_scope name m) (net c.port) ∷ []
      else []

  abbrev pub item_equations : ItemTree → List Equation
  item_equations (declared k r n) = []
  item_equations (assign t e) = assigned t e ∷ []
  item_equations (primitive k n terms) =
      map (λ t. assigned t (gated k (join_all (gate_inputs k terms)))) (gate_outputs k terms)
  item_equations (instance m n conns) =
      if_there [] (λ inside. flat_map (connection_equation n inside) (connections_of inside conns)) (module_named all m)
  item_equations (always event body) = []
  item_equations (initial t c) = []

  abbrev pub path_equations : List Equation
  path_equations = flat_map item_equations p.of.items

abbrev pub equations_of : List ModuleTree → List Net → List Path → List Equation
equations_of all nets ps = flat_map (path_equations all nets) ps

-- ---- what drives a bit

-- a position below n at which a target has bit b
abbrev pub place_below : ℕ → (ℕ → Option ℕ) → ℕ → Option ℕ
place_below zero f b = None
place_below (suc n) f b = if is_bit b (f n) then Some n else place_below n f b

abbrev pub place_in : Scope → ExprTree → ℕ → Option ℕ
place_in s t b = place_below (own s t) (wire s t) b

-- what f makes of the first equation of bit b, and of the bit's position in its target. In a design that isn't refused
-- there is no second
abbrev pub first_equation : {A : Type 0} → (Equation → ℕ → A) → List Equation → ℕ → Option A
first_equation f [] b = None
first_equation f (e ∷ es) b = if_there (first_equation f es b) (λ j. Some (f e j)) (place_in e.target_scope e.target b)

-- the formula of bit b
abbrev pub driving : List Equation → ℕ → Option Formula
driving es b = first_equation (λ e j. formula e.target_scope e.target e.source_scope e.source j) es b

-- the bit of which bit b is a plain copy: one of a name or of a select, which is the right side or stands in
-- concatenations and repeats that are the right side
abbrev pub copied : List Equation → ℕ → Option ℕ
copied es b = if_there None (λ o. o) (first_equation (λ e j. wire e.source_scope e.source j) es b)
