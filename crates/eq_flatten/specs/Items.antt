-- The equations of items without those of connections, and what is asked of an item before.
use Rattle.std.specs.Prelude.{◌<◌, ◌+◌, ◌*◌, ℕ, List, [], ◌∷◌, length, map, sum_by}
use Rattle.eq_vparse.specs.declared.tree.GateKind.{GateKind}
use Rattle.eq_net.specs.declared.types.NetInfo.{NetInfo}
use Rattle.eq_verilog.specs.Trees.{Name, ExprTree, join_all, ItemTree, declared, assign, primitive, instance, always, initial}
use Rattle.eq_verilog.specs.Scopes.{Scope}
use Rattle.eq_verilog.specs.Sizes.{own}
use Rattle.eq_verilog.specs.Expressions.{wire}
use Rattle.eq_verilog.specs.Costs.{cost, side_cost}
use Rattle.eq_verilog.specs.Equations.{Equation, assignment, gated, gate_inputs, gate_outputs}
use Rattle.eq_analysis.specs.Finding.{scope_of}
use Rattle.eq_analysis.specs.Measuring.{AllSmall, IsFit, IsSmall}
use Rattle.eq_flatten.specs.Driving.{IsApart}
use Rattle.eq_flatten.specs.Equating.{AreTargets}
use Rattle.eq_flatten.specs.Gating.{AreBits}
use Rattle.eq_flatten.specs.Meant.{AreSlim}

-- an expression that can become a word
pub record IsSource (nets : List NetInfo) (names : List Name) (from : ℕ) (e : ExprTree) : Type 0 where
  pub fit : IsFit nets names from e
  pub small : IsSmall (scope_of nets names from) e

-- a target whose bits can be driven
pub record IsTarget (nets : List NetInfo) (names : List Name) (from : ℕ) (t : ExprTree) : Type 0 where
  pub fit : IsFit nets names from t
  pub slim : AreSlim (scope_of nets names from) t
  pub apart : IsApart (wire (scope_of nets names from) t)

-- the terminals of a gate: two or more, of one bit
pub record AreTerminals (nets : List NetInfo) (names : List Name) (from : ℕ) (k : GateKind) (terms : List ExprTree) :
    Type 0 where
  pub two : 1 < length terms
  pub fit : IsFit nets names from (join_all terms)
  pub small : AllSmall (scope_of nets names from) terms
  pub bits : AreBits (scope_of nets names from) terms
  pub targets : AreTargets (scope_of nets names from) (gate_outputs k terms)

abbrev pub IsReady : List NetInfo → List Name → ℕ → ItemTree → Type 0
IsReady nets names from (declared k r n) = Unit {0}
IsReady nets names from (assign t e) = IsTarget nets names from t × IsSource nets names from e
IsReady nets names from (primitive k n terms) = AreTerminals nets names from k terms
IsReady nets names from (instance m n conns) = Unit {0}
IsReady nets names from (always event body) = Unit {0}
IsReady nets names from (initial t c) = Unit {0}

abbrev pub AreReady : List NetInfo → List Name → ℕ → List ItemTree → Type 0
AreReady nets names from [] = Unit {0}
AreReady nets names from (i ∷ is) = IsReady nets names from i × AreReady nets names from is

-- ---- equations and costs within one scope

abbrev pub gate_equations : Scope → GateKind → List ExprTree → List Equation
gate_equations s k terms = map (λ t. assignment s t s (gated k (join_all (gate_inputs k terms)))) (gate_outputs k terms)

abbrev pub own_equations : Scope → ItemTree → List Equation
own_equations s (declared k r n) = []
own_equations s (assign t e) = assignment s t s e ∷ []
own_equations s (primitive k n terms) = gate_equations s k terms
own_equations s (instance m n conns) = []
own_equations s (always event body) = []
own_equations s (initial t c) = []

abbrev pub gate_cost : Scope → GateKind → List ExprTree → ℕ
gate_cost s k terms =
    length (gate_outputs k terms) * (4 * length (gate_inputs k terms) + 1) + sum_by (λ e. cost s e (own s e)) terms

abbrev pub own_cost : Scope → ItemTree → ℕ
own_cost s (declared k r n) = 0
own_cost s (assign t e) = side_cost s e (own s t)
own_cost s (primitive k n terms) = gate_cost s k terms
own_cost s (instance m n conns) = 0
own_cost s (always event body) = 0
own_cost s (initial t c) = 0
