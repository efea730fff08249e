use Rattle.std.proofs.Common.{ℕ, List, map, take, slice_index_or, arith, refl, sym, subst}
use Rattle.std.specs.Prelude.{flat_map, sum_by, zip}
use Rattle.eq_net.specs.Tree.{trees_of}
use Rattle.eq_flatten.specs.declared.paths.Path.{Path}
use Rattle.eq_flatten.specs.Owning.{names_in}
use Rattle.eq_flatten.proofs.Zipped.{zip_done, zip_next}
use Rattle.eq_layout.specs.Spending.{path_process_cost}
use Rattle.eq_sequential.specs.inner.Processing.{path_processes, AddsProcesses}
use Rattle.eq_sequential.proofs.FollowingLemmas.{processes_each}
use Rattle.eq_sequential.proofs.ReadyLemmas.{path_running_at}
use Rattle.eq_sequential.proofs.following.add_paths.Goals as goal

pub add_path-requires-clause-ready : goal.add_path-requires-clause-ready
add_path-requires-clause-ready c =
    let less = c.loop-place-test.true in
    let size = c.requires.size in
    path_running_at c.args.nets.now (map names_in c.args.owned.now) c.args.paths.now c.args.firsts.now
    c.loop-place.place c.index-paths-place.result less (omega (arith, less, size)) c.index-paths-place.is c.requires.ready

pub loop-place-preserved : goal.loop-place-preserved
loop-place-preserved c =
    let owned = map names_in c.args.owned.now in
    let f = path_processes c.args.nets.now owned in
    let g = path_process_cost c.args.nets.now owned in
    let k = c.loop-place.place in
    let p = c.index-paths-place.result in
    let n = slice_index_or c.args.firsts.now k 0 in
    let less = c.loop-place-test.true in
    let size = c.requires.size in
    subst (λ (xs : List (Path × ℕ)). AddsProcesses c.args.nets.now (trees_of c.args.words.now)
    (trees_of c.add_path.new.words) c.args.slots.now c.add_path.new.slots (flat_map f xs) (sum_by g xs))
    (sym (zip_next c.args.paths.now c.args.firsts.now k p n 0 less (omega (arith, less, size))
    c.index-paths-place.is refl))
    (processes_each c.args.nets.now f g (take k (zip c.args.paths.now c.args.firsts.now)) (p, n)
    (trees_of c.args.words.now) (trees_of c.loop-place.words) (trees_of c.add_path.new.words) c.args.slots.now
    c.loop-place.slots c.add_path.new.slots c.loop-place.invariant c.in_ok-add_path.ensures)

pub returns : goal.returns
returns c =
    let owned = map names_in c.args.owned.now in
    subst (λ (xs : List (Path × ℕ)). AddsProcesses c.args.nets.now (trees_of c.args.words.now)
    (trees_of c.loop-place.words) c.args.slots.now c.loop-place.slots
    (flat_map (path_processes c.args.nets.now owned) xs) (sum_by (path_process_cost c.args.nets.now owned) xs))
    (zip_done c.args.paths.now c.args.firsts.now c.loop-place.place c.loop-place-test.false) c.loop-place.invariant
