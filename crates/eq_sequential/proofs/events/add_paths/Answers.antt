use Rattle.std.proofs.Common.{ℕ, List, map, take, slice_index_or, arith, refl, sym, subst}
use Rattle.std.specs.Prelude.{flat_map, zip}
use Rattle.eq_net.specs.Net.{bits_of}
use Rattle.eq_flatten.specs.declared.paths.Path.{Path}
use Rattle.eq_flatten.specs.Owning.{names_in}
use Rattle.eq_flatten.proofs.Zipped.{zip_done, zip_next}
use Rattle.eq_sequential.specs.inner.Happening.{AddsEvents}
use Rattle.eq_sequential.specs.inner.Processing.{path_processes}
use Rattle.eq_sequential.proofs.EventLemmas.{events_each}
use Rattle.eq_sequential.proofs.ReadyLemmas.{path_running_at}
use Rattle.eq_sequential.proofs.events.add_paths.Goals as goal

pub add_path-requires-clause-ready : goal.add_path-requires-clause-ready
add_path-requires-clause-ready c =
    let less = c.loop-place-test.true in
    let size = c.requires.size in
    path_running_at c.args.nets.now (map names_in c.args.owned.now) c.args.paths.now c.args.firsts.now
    c.loop-place.place c.index-paths-place.result less (omega (arith, less, size)) c.index-paths-place.is c.requires.ready

pub loop-place-preserved : goal.loop-place-preserved
loop-place-preserved c =
    let f = path_processes c.args.nets.now (map names_in c.args.owned.now) in
    let k = c.loop-place.place in
    let p = c.index-paths-place.result in
    let n = slice_index_or c.args.firsts.now k 0 in
    let less = c.loop-place-test.true in
    let size = c.requires.size in
    subst (λ (xs : List (Path × ℕ)). AddsEvents (bits_of c.args.nets.now) c.args.events.now.items
    c.add_path.new.events.items (flat_map f xs))
    (sym (zip_next c.args.paths.now c.args.firsts.now k p n 0 less (omega (arith, less, size))
    c.index-paths-place.is refl))
    (events_each (bits_of c.args.nets.now) f (take k (zip c.args.paths.now c.args.firsts.now)) (p, n)
    c.args.events.now.items c.loop-place.events.items c.add_path.new.events.items c.loop-place.invariant
    c.in_ok-add_path.ensures)

pub returns : goal.returns
returns c =
    let f = path_processes c.args.nets.now (map names_in c.args.owned.now) in
    subst (λ (xs : List (Path × ℕ)). AddsEvents (bits_of c.args.nets.now) c.args.events.now.items
    c.loop-place.events.items (flat_map f xs))
    (zip_done c.args.paths.now c.args.firsts.now c.loop-place.place c.loop-place-test.false) c.loop-place.invariant
