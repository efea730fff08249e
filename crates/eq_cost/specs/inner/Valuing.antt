-- Mirrors src/values.rt; nothing here has to be believed.
-- Values of modules, one after the other.
use Rattle.std.specs.Prelude.{◌≡◌, ◌≤◌, ℕ, List, Option, Some, slice_get}
use Rattle.eq_net.specs.Meaning.{if_there}
use Rattle.eq_verilog.specs.Trees.{ModuleTree}
use Rattle.eq_verilog.specs.Hierarchy.{Instance, module_named}
use Rattle.eq_verilog.specs.Costs.{cost_below}
use Rattle.eq_cost.specs.Counts.{told}

-- each value is what its module costs with all in it, where at least k modules may stand in one another
abbrev pub AreValued : List ModuleTree → ℕ → List (Option ℕ) → Type 0
AreValued all k values = (i j v : ℕ) → slice_get values i ≡ Some (Some v) → k ≤ j →
    told (if_there 0 (cost_below all j) (slice_get all i)) ≡ told v

-- what an instance costs with all in it
abbrev pub inside_cost : List ModuleTree → ℕ → Instance → ℕ
inside_cost all j i = if_there 0 (cost_below all j) (module_named all i.module_name)
