-- What the words of a design cost at most, by the tables of its modules and the numbers of its nets.
use Rattle.std.specs.Prelude.{◌+◌, ◌≤◌, ℕ, List, map, sum_by, zip}
use Rattle.eq_net.specs.declared.types.NetInfo.{NetInfo}
use Rattle.eq_net.specs.Net.{bits_of}
use Rattle.eq_verilog.specs.Trees.{Name, ItemTree, declared, assign, primitive, instance, always, initial, item_tree}
use Rattle.eq_verilog.specs.Scopes.{Scope}
use Rattle.eq_verilog.specs.Costs.{bits_set, design_cost, different, stmt_cost}
use Rattle.eq_analysis.specs.Finding.{scope_of}
use Rattle.eq_flatten.specs.declared.paths.Path.{Path}
use Rattle.eq_flatten.specs.Flattening.{names_of}
use Rattle.eq_flatten.specs.Owning.{names_in}
use Rattle.eq_flatten.specs.Summing.{cost_by_tables}
use Rattle.eq_layout.specs.declared.layout.Layout.{Layout}
use Rattle.eq_layout.specs.Layout.{trees_of}

-- of an always item
abbrev pub process_cost : Scope → ItemTree → ℕ
process_cost s (declared k r n) = 0
process_cost s (assign t e) = 0
process_cost s (primitive k n terms) = 0
process_cost s (instance m n conns) = 0
process_cost s (always event body) = stmt_cost s (different (bits_set s body)) body
process_cost s (initial t c) = 0

-- of the always items of a path whose nets have numbers from the one beside it on
abbrev pub path_process_cost : List NetInfo → List (List Name) → Path × ℕ → ℕ
path_process_cost nets owned x =
    sum_by (process_cost (scope_of nets (names_of owned x.0) x.1)) (map item_tree x.0.of.module.now.items)

-- of all equations
abbrev pub equation_costs : Layout → ℕ
equation_costs l =
    cost_by_tables l.flat.nets.items (map names_in l.owned.items) l.found.paths.items l.found.links.items
    l.flat.firsts.items

-- of all always items
abbrev pub process_costs : Layout → ℕ
process_costs l =
    sum_by (path_process_cost l.flat.nets.items (map names_in l.owned.items))
    (zip l.found.paths.items l.flat.firsts.items)

-- the words of equations and always items, and a node for each bit and two more, cost no more than the design
pub record IsPaid (l : Layout) (top : Name) : Type 0 where
  pub paid : (2 + bits_of l.flat.nets.items) + (equation_costs l + process_costs l) ≤ design_cost (trees_of l) top
