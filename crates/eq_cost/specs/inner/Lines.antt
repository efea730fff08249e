-- Cited by proofs alone; nothing here has to be believed.
-- What something costs in each size, as a line.
use Rattle.std.specs.Prelude.{◌≡◌, ℕ, ◌+◌, ◌*◌}
use Rattle.eq_verilog.specs.Trees.{ExprTree}
use Rattle.eq_verilog.specs.Scopes.{Scope}
use Rattle.eq_verilog.specs.Sizes.{own}
use Rattle.eq_verilog.specs.Costs.{cost}
use Rattle.eq_cost.specs.Counts.{told}
use Rattle.eq_cost.specs.declared.forms.Costed.{Costed}
use Rattle.eq_cost.specs.declared.lines.Line.{Line}

-- in each size it is this, up to the most that is told
abbrev pub IsLine : (ℕ → ℕ) → Line → Type 0
IsLine f l = (w : ℕ) → told (f w) ≡ told (l.slope * w + l.base)

-- an expression has this size by itself, and in each context this cost
pub record IsCosted (s : Scope) (e : ExprTree) (c : Costed) : Type 0 where
  pub size : told c.size ≡ told (own s e)
  pub line : IsLine (cost s e) c.line
