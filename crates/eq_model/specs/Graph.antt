-- When a system of nodes follows the drivers of a system of bits, as a circuit of gates does that is made of a netlist of
-- words. Each bit has a node of its own there, and other nodes compute what stands between.
use Rattle.std.specs.Prelude.{◌≡◌, ℕ, ◌<◌, Bool, false, ◌==◌}
use Rattle.eq_model.specs.System.{Values, Driver, input, undriven, equation, register, System, IsHeld, Meets}
use Rattle.eq_model.specs.Plan.{Plan}
use Rattle.eq_model.specs.Cut.{any_below}

-- m is the own node of one of n bits
abbrev pub is_own : ℕ → (ℕ → ℕ) → ℕ → Bool
is_own n own m = any_below n (λ b. own b == m)

-- each node that is no bit's own has the value that it computes, whatever the own nodes have
abbrev pub InnerComputes : System → ℕ → (ℕ → ℕ) → Values → Type 0
InnerComputes g n own x = (m : ℕ) → m < g.bits → is_own n own m ≡ false → Meets (g.driver m) x (x m)

-- for any values of the bits, which their own nodes have, a bit's own node has the driver's value as its equation or next
-- value, 0 where there is no driver
abbrev pub DrivesNode : System → ℕ → (ℕ → ℕ) → Driver → Driver → Type 0
DrivesNode g n own input input = Unit {0}
DrivesNode g n own undriven (equation f) = (x : Values) → InnerComputes g n own x →
    f.value x ≡ false
DrivesNode g n own (equation e) (equation f) = (x : Values) → InnerComputes g n own x →
    f.value x ≡ e.value (λ b. x (own b))
DrivesNode g n own (register i e) (register j f) = (i ≡ j) ×
    ((x : Values) → InnerComputes g n own x → f.value x ≡ e.value (λ b. x (own b)))
DrivesNode g n own _ _ = ⊥

-- g follows the drivers of s
pub record IsGraphOf (s g : System) (own : ℕ → ℕ) : Type 0 where
  pub nodes : (b : ℕ) → b < s.bits → own b < g.bits
  pub once : (a b : ℕ) → a < s.bits → b < s.bits → own a ≡ own b → a ≡ b
  -- no other node is an input or a register
  pub others : (m : ℕ) → m < g.bits → is_own s.bits own m ≡ false → IsHeld (g.driver m) → ⊥
  pub drivers : (b : ℕ) → b < s.bits → DrivesNode g s.bits own (s.driver b) (g.driver (own b))

-- the plan with own nodes in place of bits
abbrev pub on_nodes : (ℕ → ℕ) → (ℕ → ℕ) → Plan → Plan
on_nodes gold gate p = record p { gold = λ i. gold (p.gold i); gate = λ i. gate (p.gate i) }
