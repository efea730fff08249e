use Rattle.std.proofs.Common.{ℕ, List, map, take, slice_index_or, arith, refl, sym, subst}
use Rattle.std.specs.Prelude.{flat_map, zip}
use Rattle.eq_flatten.specs.declared.paths.Path.{Path}
use Rattle.eq_flatten.specs.Beginning.{path_initials, AddsInitials}
use Rattle.eq_flatten.specs.Owning.{names_in}
use Rattle.eq_flatten.proofs.BeginningLemmas.{initials_each, path_begun_at}
use Rattle.eq_flatten.proofs.Zipped.{zip_done, zip_next}
use Rattle.eq_flatten.proofs.initials.add_initials.Goals as goal

pub add_path-requires-clause-ready : goal.add_path-requires-clause-ready
add_path-requires-clause-ready c =
    let less = c.loop-place-test.true in
    let size = c.requires.size in
    path_begun_at c.args.nets.now (map names_in c.args.owned.now) c.args.paths.now c.args.firsts.now c.loop-place.place
    c.index-paths-place.result less (omega (arith, less, size)) c.index-paths-place.is c.requires.ready

pub loop-place-preserved : goal.loop-place-preserved
loop-place-preserved c =
    let f = path_initials c.args.nets.now (map names_in c.args.owned.now) in
    let k = c.loop-place.place in
    let p = c.index-paths-place.result in
    let n = slice_index_or c.args.firsts.now k 0 in
    let less = c.loop-place-test.true in
    let size = c.requires.size in
    subst (λ (xs : List (Path × ℕ)). AddsInitials c.args.constants.now.items c.add_path.new.constants.items
    c.args.slots.now c.add_path.new.slots (flat_map f xs))
    (sym (zip_next c.args.paths.now c.args.firsts.now k p n 0 less (omega (arith, less, size)) c.index-paths-place.is refl))
    (initials_each f (take k (zip c.args.paths.now c.args.firsts.now)) (p, n) c.args.constants.now.items
    c.loop-place.constants.items c.add_path.new.constants.items c.args.slots.now c.loop-place.slots
    c.add_path.new.slots c.loop-place.invariant c.in_ok-add_path.ensures)

pub returns : goal.returns
returns c =
    let f = path_initials c.args.nets.now (map names_in c.args.owned.now) in
    subst (λ (xs : List (Path × ℕ)). AddsInitials c.args.constants.now.items c.loop-place.constants.items
    c.args.slots.now c.loop-place.slots (flat_map f xs))
    (zip_done c.args.paths.now c.args.firsts.now c.loop-place.place c.loop-place-test.false) c.loop-place.invariant
