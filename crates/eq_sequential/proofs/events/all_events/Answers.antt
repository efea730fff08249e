use Rattle.std.proofs.Common.{ℕ, List, map, length, arith, refl, sym, ap, ◌∙◌}
use Rattle.std.specs.Prelude.{flat_map, zip}
use Rattle.eq_net.specs.declared.types.NetInfo.{NetInfo}
use Rattle.eq_net.specs.Net.{bits_of}
use Rattle.eq_verilog.specs.Trees.{Name}
use Rattle.eq_verilog.specs.Declarations.{nets_in}
use Rattle.eq_flatten.specs.declared.owning.Owned.{Owned}
use Rattle.eq_flatten.specs.declared.paths.Path.{Path}
use Rattle.eq_flatten.specs.Owning.{names_in}
use Rattle.eq_flatten.proofs.DesignDriven.{moved}
use Rattle.eq_layout.specs.Layout.{design_in, trees_of}
use Rattle.std.specs.Prelude.{Option, ◌++◌, ◌≡◌}
use Rattle.eq_verilog.specs.Designs.{event_bit}
use Rattle.eq_sequential.specs.inner.Processing.{path_processes, ArePathsRunning}
use Rattle.eq_sequential.proofs.AlikeItems.{RunsAlike}
use Rattle.eq_sequential.proofs.KnownPaths.{layout_firsts, layout_processes, layout_running}
use Rattle.eq_sequential.proofs.Matched.{matched_map}
use Rattle.eq_sequential.proofs.events.all_events.Goals as goal

pub add_paths-requires-clause-size : goal.add_paths-requires-clause-size
add_paths-requires-clause-size c =
    ap (λ (ns : List ℕ). length ns) c.as_slice-3.ensures.value
    ∙ layout_firsts c.offsets_by_path.ensures c.args.top.now c.args.layout.now c.requires.laid c.requires.sound
    ∙ sym (ap (λ (ps : List Path). length ps) c.as_slice.ensures.value)

pub add_paths-requires-clause-few : goal.add_paths-requires-clause-few
add_paths-requires-clause-few c =
    let size = c.requires.laid.bits in
    let fits = c.is_narrow.ensures in
    let same = ap (λ (ns : List NetInfo). bits_of ns) c.as_slice-4.ensures.value in
    omega (arith, size, fits, same)

pub add_paths-requires-clause-ready : goal.add_paths-requires-clause-ready
add_paths-requires-clause-ready c =
    let l = c.args.layout.now in
    let size = c.requires.laid.bits in
    let fits = c.is_narrow.ensures in
    let P : List NetInfo → List (List Name) → List Path → List ℕ → ℕ → Type 0 =
    λ ns os ps fs d. ArePathsRunning ns os (zip ps fs) in
    moved P l.flat.nets.items c.as_slice-4.result.now (map nets_in (trees_of l)) (map names_in c.as_slice-2.result.now)
    l.found.paths.items c.as_slice.result.now l.flat.firsts.items c.as_slice-3.result.now 0 0
    (sym c.as_slice-4.ensures.value)
    (sym c.requires.laid.names ∙ ap (λ (os : List Owned). map names_in os) (sym c.as_slice-2.ensures.value))
    (sym c.as_slice.ensures.value) (sym c.as_slice-3.ensures.value) refl
    (layout_running c.offsets_by_path.ensures c.args.top.now l c.requires.laid c.requires.sound
    (omega (arith, size, fits)))

pub returns-clause-ok : goal.returns-clause-ok
returns-clause-ok c =
    let l = c.args.layout.now in
    let size = c.requires.laid.bits in
    let fits = c.is_narrow.ensures in
    let events = c.add_paths.new.events.items in
    let code = flat_map (path_processes l.flat.nets.items (map nets_in (trees_of l)))
    (zip l.found.paths.items l.flat.firsts.items) in
    let by_slices = flat_map (path_processes c.as_slice-4.result.now (map names_in c.as_slice-2.result.now))
    (zip c.as_slice.result.now c.as_slice-3.result.now) in
    let P : List NetInfo → List (List Name) → List Path → List ℕ → ℕ → Type 0 =
    λ ns os ps fs d. events ≡ map event_bit (flat_map (path_processes ns os) (zip ps fs)) in
    moved P c.as_slice-4.result.now l.flat.nets.items (map names_in c.as_slice-2.result.now) (map nets_in (trees_of l))
    c.as_slice.result.now l.found.paths.items c.as_slice-3.result.now l.flat.firsts.items 0 0
    c.as_slice-4.ensures.value
    (ap (λ (os : List Owned). map names_in os) c.as_slice-2.ensures.value ∙ c.requires.laid.names)
    c.as_slice.ensures.value c.as_slice-3.ensures.value refl
    (c.in_ok-add_paths.ensures.added
    ∙ ap (λ (es : List (Option ℕ)). es ++ map event_bit by_slices) c.new-events.ensures.items)
    ∙ matched_map RunsAlike event_bit event_bit (λ p q r. r.event_same) code (design_in l c.args.top.now).processes
    (layout_processes c.offsets_by_path.ensures c.args.top.now l c.requires.laid c.requires.sound
    (omega (arith, size, fits)))
