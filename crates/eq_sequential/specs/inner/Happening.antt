-- Cited by proofs alone; nothing here has to be believed.
-- The events of always items, one behind another.
use Rattle.std.specs.Prelude.{◌≡◌, ◌<◌, ◌++◌, ℕ, List, [], ◌∷◌, All, IfSome, Option, map}
use Rattle.eq_verilog.specs.Trees.{ExprTree, StmtTree}
use Rattle.eq_verilog.specs.Scopes.{Scope}
use Rattle.eq_verilog.specs.Designs.{event_bit}
use Rattle.eq_verilog.specs.Registers.{Process}

-- each is one of so many bits, if it is there
abbrev pub AreBelow : ℕ → List (Option ℕ) → Type 0
AreBelow bits events = All (λ (e : Option ℕ). IfSome e (λ b. b < bits)) events

-- those of these always items were put behind others
pub record AddsEvents (bits : ℕ) (old new : List (Option ℕ)) (ps : List Process) : Type 0 where
  pub added : new ≡ old ++ map event_bit ps
  pub there : AreBelow bits old → AreBelow bits new

-- that of an always item with this event, whatever its body
abbrev pub AddsEvent : ℕ → Scope → ExprTree → List (Option ℕ) → List (Option ℕ) → Type 0
AddsEvent bits s event old new = (body : StmtTree) →
    AddsEvents bits old new (record { scope = s; event = event; body = body } ∷ [])
