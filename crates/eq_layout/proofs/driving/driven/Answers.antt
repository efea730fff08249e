use Rattle.std.proofs.Common.{◌≡◌, ◌≤◌, ◌+◌, List, Some, OnOk, map, sum_by, subst, sym}
use Rattle.eq_net.specs.Meaning.{cost_of}
use Rattle.eq_net.specs.Tree.{trees_of as words_of}
use Rattle.eq_verilog.specs.Trees.{ModuleTree}
use Rattle.eq_verilog.specs.Hierarchy.{module_named}
use Rattle.eq_analysis.specs.declared.tables.Table.{Table}
use Rattle.eq_analysis.specs.Tabling.{trees_at}
use Rattle.eq_flatten.specs.declared.owning.Owned.{Owned}
use Rattle.eq_flatten.specs.Owning.{names_in}
use Rattle.eq_flatten.specs.Paths.{top_path, HasPaths}
use Rattle.eq_flatten.specs.Summing.{cost_by_tables}
use Rattle.eq_layout.proofs.driving.driven.Goals as goal

pub all_slots-requires-clause-paths : goal.all_slots-requires-clause-paths
all_slots-requires-clause-paths c =
    subst (λ (ts : List Table). (m : ModuleTree) → module_named (trees_at ts) c.args.top.now ≡ Some m →
    HasPaths (trees_at ts) (top_path m) c.args.layout.now.found) (sym c.deref.ensures.value) c.requires.laid.paths

pub returns-clause-costs : goal.returns-clause-costs
returns-clause-costs c =
    let l = c.args.layout.now in
    subst (λ (os : List Owned). OnOk c.all_slots.result (sum_by cost_of (words_of c.all_slots.new.words) ≤
    sum_by cost_of (words_of c.args.words.now) + cost_by_tables l.flat.nets.items (map names_in os) l.found.paths.items
    l.found.links.items l.flat.firsts.items)) c.deref-2.ensures.value c.all_slots.ensures.costs
