use Rattle.std.proofs.Common.{ℕ, [], List, length, map, ◌+◌, ◌≤◌, refl, arith, sym, ap, ◌∙◌}
use Rattle.std.specs.Prelude.{sum_by, zip}
use Rattle.eq_net.specs.declared.types.NetInfo.{NetInfo}
use Rattle.eq_net.specs.Meaning.{cost_of}
use Rattle.eq_net.specs.Tree.{trees_of}
use Rattle.eq_verilog.specs.Trees.{Name}
use Rattle.eq_verilog.specs.Declarations.{nets_in}
use Rattle.eq_verilog.specs.Hierarchy.{module_named}
use Rattle.eq_analysis.specs.Tabling.{trees_at}
use Rattle.eq_flatten.specs.declared.paths.Link.{Link}
use Rattle.eq_flatten.specs.declared.paths.Path.{Path}
use Rattle.eq_flatten.specs.Equating.{AreDriven}
use Rattle.eq_flatten.specs.Flattening.{ArePathsReady}
use Rattle.eq_flatten.specs.Joining.{AreLinksReady}
use Rattle.eq_flatten.specs.Owning.{names_in}
use Rattle.eq_flatten.specs.Summing.{by_tables, cost_by_tables}
use Rattle.eq_flatten.proofs.DesignDriven.{as_many, design_driven, design_links, design_paths, moved, none_driven, the_module}
use Rattle.eq_flatten.proofs.DesignReady.{unrefused}
use Rattle.eq_flatten.proofs.slots.all_slots.Goals as goal

pub slots_of-requires-clause-size : goal.slots_of-requires-clause-size
slots_of-requires-clause-size c =
    let all = trees_at c.args.tables.now in
    let top = c.args.top.now in
    let right = unrefused all top c.requires.faultless in
    let one = the_module (module_named all top) right.there in
    ap (λ (ns : List ℕ). length ns) c.as_slice-3.ensures.value
    ∙ as_many c.offsets_by_path.ensures all top one.0 one.1 c.args.found.now c.args.flat.now.nets.items
    c.args.flat.now.firsts.items (c.requires.paths one.0 one.1) c.requires.flat c.requires.apart right
    ∙ sym (ap (λ (ps : List Path). length ps) c.as_slice.ensures.value)

pub slots_of-requires-clause-paths : goal.slots_of-requires-clause-paths
slots_of-requires-clause-paths c =
    let all = trees_at c.args.tables.now in
    let top = c.args.top.now in
    let nets = c.args.flat.now.nets.items in
    let firsts = c.args.flat.now.firsts.items in
    let paths = c.args.found.now.paths.items in
    let links = c.args.found.now.links.items in
    let right = unrefused all top c.requires.faultless in
    let one = the_module (module_named all top) right.there in
    let size = c.requires.bits in
    let fits = c.ranges.bits.fits in
    let P : List NetInfo → List (List Name) → List Path → List Link → List ℕ → Type 0 =
    λ ns os ps ls fs. ArePathsReady ns os (zip ps fs) in
    moved P nets c.as_slice-4.result.now (map nets_in all) (map names_in c.args.owned.now) paths c.as_slice.result.now links
    c.as_slice-2.result.now firsts c.as_slice-3.result.now (sym c.as_slice-4.ensures.value) (sym c.requires.names)
    (sym c.as_slice.ensures.value) (sym c.as_slice-2.ensures.value) (sym c.as_slice-3.ensures.value)
    (design_paths c.offsets_by_path.ensures all top one.0 one.1 c.args.found.now nets firsts (c.requires.paths one.0 one.1)
    c.requires.flat c.requires.apart right c.requires.spelled (omega (arith, size, fits)))

pub slots_of-requires-clause-links : goal.slots_of-requires-clause-links
slots_of-requires-clause-links c =
    let all = trees_at c.args.tables.now in
    let top = c.args.top.now in
    let nets = c.args.flat.now.nets.items in
    let firsts = c.args.flat.now.firsts.items in
    let paths = c.args.found.now.paths.items in
    let links = c.args.found.now.links.items in
    let right = unrefused all top c.requires.faultless in
    let one = the_module (module_named all top) right.there in
    let size = c.requires.bits in
    let fits = c.ranges.bits.fits in
    let P : List NetInfo → List (List Name) → List Path → List Link → List ℕ → Type 0 =
    λ ns os ps ls fs. AreLinksReady ns all os (zip ps fs) 1 ls in
    moved P nets c.as_slice-4.result.now (map nets_in all) (map names_in c.args.owned.now) paths c.as_slice.result.now links
    c.as_slice-2.result.now firsts c.as_slice-3.result.now (sym c.as_slice-4.ensures.value) (sym c.requires.names)
    (sym c.as_slice.ensures.value) (sym c.as_slice-2.ensures.value) (sym c.as_slice-3.ensures.value)
    (design_links c.offsets_by_path.ensures all top one.0 one.1 c.args.found.now nets firsts (c.requires.paths one.0 one.1)
    c.requires.flat c.requires.apart right c.requires.spelled (omega (arith, size, fits)))

pub returns-clause-driven : goal.returns-clause-driven
returns-clause-driven c =
    let all = trees_at c.args.tables.now in
    let top = c.args.top.now in
    let nets = c.args.flat.now.nets.items in
    let firsts = c.args.flat.now.firsts.items in
    let paths = c.args.found.now.paths.items in
    let links = c.args.found.now.links.items in
    let right = unrefused all top c.requires.faultless in
    let one = the_module (module_named all top) right.there in
    let words = trees_of c.slots_of.new.words in
    let slots = c.in_ok-slots.slots.items in
    let P : List NetInfo → List (List Name) → List Path → List Link → List ℕ → Type 0 =
    λ ns os ps ls fs. AreDriven ns words (by_tables ns os ps ls fs) slots in
    design_driven c.offsets_by_path.ensures all top one.0 one.1 c.args.found.now nets firsts (c.requires.paths one.0 one.1)
    c.requires.flat c.requires.apart right words slots
    (moved P c.as_slice-4.result.now nets (map names_in c.args.owned.now) (map nets_in all) c.as_slice.result.now paths
    c.as_slice-2.result.now links c.as_slice-3.result.now firsts c.as_slice-4.ensures.value c.requires.names
    c.as_slice.ensures.value c.as_slice-2.ensures.value c.as_slice-3.ensures.value
    (c.in_ok-slots.ensures.driven [] (none_driven c.as_slice-4.result.now (trees_of c.args.words.now) c.args.bits)))

pub returns-clause-costs : goal.returns-clause-costs
returns-clause-costs c =
    let owned = map names_in c.args.owned.now in
    let P : List NetInfo → List (List Name) → List Path → List Link → List ℕ → Type 0 =
    λ ns os ps ls fs. sum_by cost_of (trees_of c.slots_of.new.words)
    ≤ sum_by cost_of (trees_of c.args.words.now) + cost_by_tables ns os ps ls fs in
    moved P c.as_slice-4.result.now c.args.flat.now.nets.items owned owned c.as_slice.result.now
    c.args.found.now.paths.items c.as_slice-2.result.now c.args.found.now.links.items c.as_slice-3.result.now
    c.args.flat.now.firsts.items c.as_slice-4.ensures.value refl c.as_slice.ensures.value c.as_slice-2.ensures.value
    c.as_slice-3.ensures.value c.in_ok-slots.ensures.costs
