-- When a part is made of two systems by copying nodes: a condition on the shape of the part alone, with no word on runs.
use Rattle.std.specs.Prelude.{◌≡◌, ℕ, ◌<◌, Bool, true, false, not, Contains}
use Rattle.eq_model.specs.System.{Values, Expr, Driver, undriven, equation, register, System, IsInput, is_register}
use Rattle.eq_model.specs.Plan.{Plan}
use Rattle.eq_model.specs.Cut.{is_cut}
use Rattle.eq_model.specs.Part.{Part, IsTrim}
use Rattle.eq_model.specs.Denotes.{Pinout}

-- f is a copy of e, where the bits that e reads are reached and node gives their copies
pub record CopiesExpr (reached : ℕ → Bool) (node : ℕ → ℕ) (e f : Expr) : Type 0 where
  pub reads : (r : ℕ) → Contains e.reads r → reached r ≡ true
  pub value : (v x : Values) → ((r : ℕ) → Contains e.reads r → v r ≡ x (node r)) →
      e.value v ≡ f.value x

-- a node's driver is a copy of a bit's
abbrev pub CopiesDriver : (ℕ → Bool) → (ℕ → ℕ) → Driver → Driver → Type 0
CopiesDriver reached node undriven undriven = Unit {0}
CopiesDriver reached node (equation e) (equation f) = CopiesExpr reached node e f
CopiesDriver reached node (register i e) (register j f) = (i ≡ j) × CopiesExpr reached node e f
CopiesDriver reached node _ _ = ⊥

-- a driver that negates node m
abbrev pub Negates : Driver → ℕ → Type 0
Negates (equation e) m = (x : Values) → e.value x ≡ not (x m)
Negates _ m = ⊥

-- node k has the value of node m through a sign: it is m, or a node that negates m
abbrev pub IsSigned : Part → Bool → ℕ → ℕ → Type 0
IsSigned t false m k = k ≡ m
IsSigned t true m k = Negates (t.driver k) m

-- how one side of a partition is copied, where side gives the pairs' bits on that side, and sign says of which pairs the
-- side has the complement. Each reached bit has a node. The node of a cut bit is the input node of the bit's pair, or negates
-- it; the node of any other bit copies the bit's driver
pub record Copies (s : System) (pairs : ℕ) (side : ℕ → ℕ) (sign : ℕ → Bool)
    (inside : ℕ → Bool) (t : Part) (input_pair : ℕ → ℕ) : Type 0 where
  pub reached : ℕ → Bool
  pub node : ℕ → ℕ
  pub nodes : (b : ℕ) → b < s.bits → reached b ≡ true → node b < t.bits
  pub at_cut : (b : ℕ) → b < s.bits → reached b ≡ true → is_cut pairs side inside b ≡ true →
      (m : ℕ) × (m < t.bits) × IsInput (t.driver m) × (side (input_pair (t.number m)) ≡ b) ×
      IsSigned t (sign (input_pair (t.number m))) m (node b)
  pub kept : (b : ℕ) → b < s.bits → reached b ≡ true → is_cut pairs side inside b ≡ false →
      CopiesDriver reached node (s.driver b) (t.driver (node b))
  -- no two registers have one node
  pub registers : (a b : ℕ) → a < s.bits → b < s.bits → reached a ≡ true → reached b ≡ true →
      is_register (t.driver (node a)) ≡ true → node a ≡ node b → a ≡ b

-- both sides are copied into one part, which holds nothing besides. They may share nodes, but no register
pub record Copying (s h : System) (p : Plan) (inside : ℕ → Bool) (t : Part) : Type 0 where
  pub pinout : Pinout p inside t
  pub gold : Copies s p.pairs p.gold (λ i. false) inside t pinout.input_pair
  pub gate : Copies h p.pairs p.gate p.inverted inside t pinout.input_pair
  pub apart : (a b : ℕ) → a < s.bits → b < h.bits → gold.reached a ≡ true → gate.reached b ≡ true →
      is_register (t.driver (gold.node a)) ≡ true → gold.node a ≡ gate.node b → ⊥
  pub gold_outputs : (o : ℕ) → o < t.outputs →
      (gold.reached (p.gold (pinout.output_pair o)) ≡ true) ×
      (gold.node (p.gold (pinout.output_pair o)) ≡ t.gold o)
  pub gate_outputs : (o : ℕ) → o < t.outputs →
      (gate.reached (p.gate (pinout.output_pair o)) ≡ true) ×
      IsSigned t (p.inverted (pinout.output_pair o)) (gate.node (p.gate (pinout.output_pair o))) (t.gate o)
  pub trim : IsTrim t
