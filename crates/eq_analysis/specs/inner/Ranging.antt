-- Mirrors src/ranges.rt and src/selects.rt; nothing here has to be believed.
use Rattle.std.specs.Prelude.{◌≡◌, ℕ, ◌+◌, min, false, option_copied}
use Rattle.eq_verilog.specs.Trees.{ExprTree, ModuleTree}
use Rattle.eq_verilog.specs.Sizes.{own}
use Rattle.eq_verilog.specs.Nets.{module_scope}
use Rattle.eq_verilog.specs.ModuleRefusals.{most_size, bad_range_in}
use Rattle.eq_analysis.specs.declared.ranges.Measure.{Measure}

-- a size, or one more than the most where it is above that
abbrev pub capped : ℕ → ℕ
capped n = min (most_size + 1) n

-- an expression has this size, and this isn't in range in it
pub record IsMeasured (m : ModuleTree) (e : ExprTree) (r : Measure) : Type 0 where
  pub size : r.size ≡ capped (own (module_scope m) e)
  pub fault : option_copied r.fault ≡ bad_range_in m false e
