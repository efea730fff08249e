-- The words of a design, with a node for each bit and two more, cost no more than the design.
use Rattle.std.proofs.Common.{◌≡◌, ℕ, ◌+◌, ◌-◌, ◌≤◌, List, [], ◌∷◌, map, length, slice_get, All, Option, Some, None, refl, arith, sym, ap, subst, ◌∙◌}
use Rattle.std.specs.Prelude.{sum_by, zip}
use Rattle.std.proofs.lemmas.List.Sums.{sum_by-cons}
use Rattle.eq_model.specs.Nets.{total_width}
use Rattle.eq_net.specs.declared.types.NetInfo.{NetInfo}
use Rattle.eq_net.specs.Net.{bits_of}
use Rattle.eq_verilog.specs.Trees.{Name, ModuleTree, module_tree}
use Rattle.eq_verilog.specs.Costs.{module_cost}
use Rattle.eq_verilog.specs.Declarations.{nets_in}
use Rattle.eq_verilog.specs.Hierarchy.{module_named, Path}
use Rattle.eq_verilog.specs.Nets.{module_scope}
use Rattle.eq_analysis.specs.Finding.{scope_of}
use Rattle.eq_flatten.specs.declared.paths.Path.{Path as PathValue}
use Rattle.eq_flatten.specs.declared.paths.Paths.{Paths}
use Rattle.eq_flatten.specs.Flat.{IsFlat}
use Rattle.eq_flatten.specs.Flattening.{path_cost}
use Rattle.eq_flatten.specs.Items.{own_cost}
use Rattle.eq_flatten.specs.Joining.{all_joined_cost}
use Rattle.eq_flatten.specs.Owning.{names_in}
use Rattle.eq_flatten.specs.Paths.{end_of, links_from, path_of, top_path, HasPaths, IsPath}
use Rattle.eq_flatten.proofs.Scoped.{all_written, in_items, AreWritten}
use Rattle.eq_layout.specs.declared.layout.Layout.{Layout}
use Rattle.eq_layout.specs.Layout.{trees_of, IsLaidOut}
use Rattle.eq_layout.specs.Spending.{path_process_cost, process_cost, IsPaid}
use Rattle.eq_budget.proofs.Based.{at, nets_are, one_each, IsAt}
use Rattle.eq_budget.proofs.Costed.{items_parts, own_items, process_items}
use Rattle.eq_budget.proofs.Joined.{joined_all, link_cost_of}
use Rattle.eq_budget.proofs.Linked.{inners, within}
use Rattle.eq_budget.proofs.Summed.{sum_pairs}
use Rattle.eq_budget.proofs.Wide.{bits_at, widths_of}

-- of the items of a path, by themselves, and of its always items, in its module
abbrev owns : Path → ℕ
owns p = sum_by (own_cost (module_scope p.of)) p.of.items

abbrev processes : Path → ℕ
processes p = sum_by (process_cost (module_scope p.of)) p.of.items

-- the cost of modules in four parts
costs_parts : (all : List ModuleTree) (ps : List Path) → sum_by (λ (p : Path). module_cost all p.of) ps
    ≡ (sum_by bits_at ps + sum_by (inners all) ps) + (sum_by owns ps + sum_by processes ps)
costs_parts all [] = refl
costs_parts all (p ∷ ps) =
    (let a = sum_by-cons (λ (q : Path). module_cost all q.of) p ps in
    let b = sum_by-cons bits_at p ps in
    let c = sum_by-cons (inners all) p ps in
    let d = sum_by-cons owns p ps in
    let e = sum_by-cons processes p ps in
    let f = items_parts all (module_scope p.of) p.of.items in
    let g = costs_parts all ps in
    omega (arith, a, b, c, d, e, f, g))

module _ (all : List ModuleTree) (nets : List NetInfo) (paths : List PathValue) (firsts : List ℕ)
    (placed : All (IsPath all) paths) (flat : IsFlat paths (length paths) nets firsts) where
  abbrev ends : List (PathValue × ℕ)
  ends = zip paths firsts

  stands : (k : ℕ) (x : PathValue × ℕ) → slice_get ends k ≡ Some x → IsAt all nets paths firsts placed flat x
  stands = at all nets paths firsts placed flat

  own_at : (x : PathValue × ℕ) → IsAt all nets paths firsts placed flat x →
      path_cost nets (map nets_in all) x ≡ owns (path_of x.0)
  own_at x h =
      let m = module_tree x.0.of.module.now in
      ap (λ (ns : List Name). sum_by (own_cost (scope_of nets ns x.1)) m.items) h.names
      ∙ own_items (scope_of nets (nets_in m) x.1) (module_scope m) h.based.start m.items
      (λ n i. h.based.shifted n (in_items m n i))

  process_at : (x : PathValue × ℕ) → IsAt all nets paths firsts placed flat x →
      path_process_cost nets (map nets_in all) x ≡ processes (path_of x.0)
  process_at x h =
      let m = module_tree x.0.of.module.now in
      ap (λ (ns : List Name). sum_by (process_cost (scope_of nets ns x.1)) m.items) h.names
      ∙ process_items (scope_of nets (nets_in m) x.1) (module_scope m) h.based.start m.items
      (λ n i. h.based.shifted n (in_items m n i))

  own_all : sum_by (path_cost nets (map nets_in all)) ends ≡ sum_by owns (map path_of paths)
  own_all =
      sum_pairs (path_cost nets (map nets_in all)) owns path_of paths firsts
      (one_each all nets paths firsts placed flat) (λ k x i. own_at x (stands k x i))

  process_all : sum_by (path_process_cost nets (map nets_in all)) ends ≡ sum_by processes (map path_of paths)
  process_all =
      sum_pairs (path_process_cost nets (map nets_in all)) processes path_of paths firsts
      (one_each all nets paths firsts placed flat) (λ k x i. process_at x (stands k x i))

-- all links cost no more than the instances in all paths, and there is a path
record HasRoom (all : List ModuleTree) (nets : List NetInfo) (found : Paths) (firsts : List ℕ) : Type 0 where
  links : all_joined_cost nets (map nets_in all) (zip found.paths.items firsts) 1 found.links.items
      ≤ sum_by (inners all) (map path_of found.paths.items)
  some : 1 ≤ length (map path_of found.paths.items)

has_room : (all : List ModuleTree) (nets : List NetInfo) (found : Paths) (firsts : List ℕ) (top : Path) →
    HasPaths all top found → IsFlat found.paths.items (length found.paths.items) nets firsts →
    HasRoom all nets found firsts
has_room all nets found firsts top h flat =
    let ps = map path_of found.paths.items in
    let k = length all - 1 in
    let ls = links_from all k top in
    let written = subst (AreWritten all) (sym h.links) (all_written all k top) in
    let paths_are : ps ≡ top ∷ map end_of ls = h.ends ∙ ap (λ xs. top ∷ map end_of xs) h.links in
    let a = joined_all all nets found.paths.items firsts h.placed flat top found.paths.items found.links.items refl
    h.ends written in
    let b = ap (λ xs. sum_by link_cost_of xs) h.links in
    let c = within all k top in
    let d = sum_by-cons (inners all) top (map end_of ls) in
    let e = ap (λ qs. sum_by (inners all) qs) paths_are in
    let f = ap (λ (qs : List Path). length qs) paths_are in
    record { links = omega (arith, a, b, c, d, e); some = omega (arith, f) }

module _ (l : Layout) (top : Name) (h : IsLaidOut top l) where
  abbrev all : List ModuleTree
  all = trees_of l

  abbrev nets : List NetInfo
  nets = l.flat.nets.items

  abbrev firsts : List ℕ
  firsts = l.flat.firsts.items

  abbrev ps : List Path
  ps = map path_of l.found.paths.items

  -- by the tables of the modules
  abbrev Spent : List (List Name) → ℕ
  Spent owned =
      (sum_by (path_cost nets owned) (zip l.found.paths.items firsts)
      + all_joined_cost nets owned (zip l.found.paths.items firsts) 1 l.found.links.items)
      + sum_by (path_process_cost nets owned) (zip l.found.paths.items firsts)

  abbrev Within : List Path → Type 0
  Within qs = (2 + bits_of nets) + Spent (map names_in l.owned.items)
      ≤ 1 + (length qs + sum_by (λ (p : Path). module_cost all p.of) qs)

  with_top : (m : ModuleTree) → module_named all top ≡ Some m → Within ps
  with_top m is =
      let paths = h.paths m is in
      let a = own_all all nets l.found.paths.items firsts paths.placed h.flat in
      let b = process_all all nets l.found.paths.items firsts paths.placed h.flat in
      let room = has_room all nets l.found firsts (top_path m) paths h.flat in
      let c = room.links in
      let d = room.some in
      let e = ap total_width (nets_are all nets l.found.paths.items firsts paths.placed h.flat) ∙ widths_of ps in
      let f = costs_parts all ps in
      let g = ap Spent h.names in
      omega (arith, a, b, c, d, e, f, g)

  with_some : (o : Option ModuleTree) → module_named all top ≡ o → Within ps
  with_some None is = absurd (h.there is)
  with_some (Some m) is = with_top m is

-- what a design that is laid out costs pays for its words
pub paid_for : (l : Layout) (top : Name) → IsLaidOut top l → IsPaid l top
paid_for l top h = record {
  paid = subst (Within l top h) h.paths_are (with_some l top h (module_named (trees_of l) top) refl);
}
