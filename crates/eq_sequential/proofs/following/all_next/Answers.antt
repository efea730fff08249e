use Rattle.std.proofs.Common.{ℕ, List, [], map, length, arith, refl, sym, ap, ◌∙◌}
use Rattle.std.specs.Prelude.{flat_map, zip}
use Rattle.eq_net.specs.declared.types.NetInfo.{NetInfo}
use Rattle.eq_verilog.specs.Trees.{Name}
use Rattle.eq_verilog.specs.Declarations.{nets_in}
use Rattle.eq_flatten.specs.declared.owning.Owned.{Owned}
use Rattle.eq_flatten.specs.declared.paths.Path.{Path}
use Rattle.eq_flatten.specs.Owning.{names_in}
use Rattle.eq_flatten.proofs.DesignDriven.{moved}
use Rattle.eq_layout.specs.Layout.{design_in, trees_of as modules_of}
use Rattle.eq_net.specs.Tree.{trees_of}
use Rattle.eq_sequential.specs.Setting.{AreFollowed}
use Rattle.eq_sequential.specs.inner.Processing.{path_processes, ArePathsRunning}
use Rattle.eq_sequential.proofs.DesignLemmas.{design_followed}
use Rattle.eq_sequential.proofs.FollowingLemmas.{none_followed}
use Rattle.eq_sequential.proofs.KnownPaths.{layout_firsts, layout_processes, layout_running}
use Rattle.eq_sequential.proofs.following.all_next.Goals as goal

pub next_of-requires-clause-size : goal.next_of-requires-clause-size
next_of-requires-clause-size c =
    ap (λ (ns : List ℕ). length ns) c.as_slice-3.ensures.value
    ∙ layout_firsts c.offsets_by_path.ensures c.args.top.now c.args.layout.now c.requires.laid c.requires.sound
    ∙ sym (ap (λ (ps : List Path). length ps) c.as_slice.ensures.value)

pub next_of-requires-clause-ready : goal.next_of-requires-clause-ready
next_of-requires-clause-ready c =
    let l = c.args.layout.now in
    let size = c.requires.laid.bits in
    let fits = c.is_narrow.ensures in
    let P : List NetInfo → List (List Name) → List Path → List ℕ → ℕ → Type 0 =
    λ ns os ps fs d. ArePathsRunning ns os (zip ps fs) in
    moved P l.flat.nets.items c.as_slice-4.result.now (map nets_in (modules_of l))
    (map names_in c.as_slice-2.result.now) l.found.paths.items c.as_slice.result.now l.flat.firsts.items c.as_slice-3.result.now 0 0
    (sym c.as_slice-4.ensures.value)
    (sym c.requires.laid.names ∙ ap (λ (os : List Owned). map names_in os) (sym c.as_slice-2.ensures.value))
    (sym c.as_slice.ensures.value) (sym c.as_slice-3.ensures.value) refl
    (layout_running c.offsets_by_path.ensures c.args.top.now l c.requires.laid c.requires.sound
    (omega (arith, size, fits)))

pub returns-clause-followed : goal.returns-clause-followed
returns-clause-followed c =
    let l = c.args.layout.now in
    let nets = l.flat.nets.items in
    let size = c.requires.laid.bits in
    let fits = c.is_narrow.ensures in
    let words = trees_of c.next_of.new.words in
    let slots = c.in_ok-slots.slots.items in
    let P : List NetInfo → List (List Name) → List Path → List ℕ → ℕ → Type 0 =
    λ ns os ps fs d. AreFollowed ns words (flat_map (path_processes ns os) (zip ps fs)) slots in
    design_followed nets words
    (flat_map (path_processes nets (map nets_in (modules_of l))) (zip l.found.paths.items l.flat.firsts.items))
    (design_in l c.args.top.now).processes
    (layout_processes c.offsets_by_path.ensures c.args.top.now l c.requires.laid c.requires.sound
    (omega (arith, size, fits)))
    slots
    (moved P c.as_slice-4.result.now nets (map names_in c.as_slice-2.result.now) (map nets_in (modules_of l))
    c.as_slice.result.now l.found.paths.items c.as_slice-3.result.now l.flat.firsts.items 0 0
    c.as_slice-4.ensures.value
    (ap (λ (os : List Owned). map names_in os) c.as_slice-2.ensures.value ∙ c.requires.laid.names)
    c.as_slice.ensures.value c.as_slice-3.ensures.value refl
    (c.in_ok-slots.ensures.followed [] (none_followed c.as_slice-4.result.now (trees_of c.args.words.now)
    l.starts.bits)))
