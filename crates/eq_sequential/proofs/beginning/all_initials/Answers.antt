use Rattle.std.proofs.Common.{ℕ, List, [], map, length, arith, refl, sym, ap, ◌∙◌}
use Rattle.std.specs.Prelude.{flat_map, zip}
use Rattle.eq_net.specs.declared.types.NetInfo.{NetInfo}
use Rattle.eq_verilog.specs.Trees.{Name}
use Rattle.eq_verilog.specs.Declarations.{nets_in}
use Rattle.eq_flatten.specs.declared.owning.Owned.{Owned}
use Rattle.eq_flatten.specs.declared.paths.Path.{Path}
use Rattle.eq_flatten.specs.Owning.{names_in}
use Rattle.eq_flatten.proofs.DesignDriven.{moved}
use Rattle.eq_layout.specs.Layout.{design_in, trees_of}
use Rattle.eq_flatten.specs.Beginning.{path_initials, AreBegun, ArePathsBegun}
use Rattle.eq_sequential.proofs.DesignLemmas.{design_begun, none_begun}
use Rattle.eq_sequential.proofs.KnownPaths.{layout_begun, layout_firsts, layout_initials}
use Rattle.eq_sequential.proofs.beginning.all_initials.Goals as goal

pub begun_of-requires-clause-size : goal.begun_of-requires-clause-size
begun_of-requires-clause-size c =
    ap (λ (ns : List ℕ). length ns) c.as_slice-3.ensures.value
    ∙ layout_firsts c.offsets_by_path.ensures c.args.top.now c.args.layout.now c.requires.laid c.requires.sound
    ∙ sym (ap (λ (ps : List Path). length ps) c.as_slice.ensures.value)

pub begun_of-requires-clause-ready : goal.begun_of-requires-clause-ready
begun_of-requires-clause-ready c =
    let l = c.args.layout.now in
    let size = c.requires.laid.bits in
    let fits = c.is_narrow.ensures in
    let P : List NetInfo → List (List Name) → List Path → List ℕ → ℕ → Type 0 =
    λ ns os ps fs d. ArePathsBegun ns os (zip ps fs) in
    moved P l.flat.nets.items c.as_slice-4.result.now (map nets_in (trees_of l)) (map names_in c.as_slice-2.result.now)
    l.found.paths.items c.as_slice.result.now l.flat.firsts.items c.as_slice-3.result.now 0 0
    (sym c.as_slice-4.ensures.value)
    (sym c.requires.laid.names ∙ ap (λ (os : List Owned). map names_in os) (sym c.as_slice-2.ensures.value))
    (sym c.as_slice.ensures.value) (sym c.as_slice-3.ensures.value) refl
    (layout_begun c.offsets_by_path.ensures c.args.top.now l c.requires.laid c.requires.sound
    (omega (arith, size, fits)))

pub returns-clause-begun : goal.returns-clause-begun
returns-clause-begun c =
    let l = c.args.layout.now in
    let size = c.requires.laid.bits in
    let fits = c.is_narrow.ensures in
    let constants = c.in_ok-begun.begun.constants.items in
    let slots = c.in_ok-begun.begun.slots.items in
    let P : List NetInfo → List (List Name) → List Path → List ℕ → ℕ → Type 0 =
    λ ns os ps fs d. AreBegun constants (flat_map (path_initials ns os) (zip ps fs)) slots in
    design_begun constants
    (flat_map (path_initials l.flat.nets.items (map nets_in (trees_of l)))
    (zip l.found.paths.items l.flat.firsts.items))
    (design_in l c.args.top.now).initials
    (layout_initials c.offsets_by_path.ensures c.args.top.now l c.requires.laid c.requires.sound
    (omega (arith, size, fits)))
    slots
    (moved P c.as_slice-4.result.now l.flat.nets.items (map names_in c.as_slice-2.result.now) (map nets_in (trees_of l))
    c.as_slice.result.now l.found.paths.items c.as_slice-3.result.now l.flat.firsts.items 0 0
    c.as_slice-4.ensures.value
    (ap (λ (os : List Owned). map names_in os) c.as_slice-2.ensures.value ∙ c.requires.laid.names)
    c.as_slice.ensures.value c.as_slice-3.ensures.value refl
    (c.in_ok-begun.ensures.begun [] (none_begun [] l.starts.bits)))
