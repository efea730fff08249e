use Rattle.std.proofs.Common.{ℕ, ◌+◌, List, [], Option, map, slice_index_or, slice_get, refl, arith, sym, subst}
use Rattle.std.specs.Prelude.{zip}
use Rattle.eq_net.specs.Meaning.{if_there}
use Rattle.eq_net.specs.Tree.{trees_of}
use Rattle.eq_verilog.specs.Trees.{connection_list}
use Rattle.eq_verilog.specs.Equations.{Equation}
use Rattle.eq_flatten.specs.declared.paths.Path.{Path}
use Rattle.eq_flatten.specs.Equating.{AddsEquations}
use Rattle.eq_flatten.specs.Joining.{inside_cost, inside_equations, scope_in}
use Rattle.eq_flatten.specs.Owning.{names_in}
use Rattle.eq_flatten.proofs.Assigned.{on_ok}
use Rattle.eq_flatten.proofs.LinksReady.{zip_get}
use Rattle.eq_flatten.proofs.joining.add_link_at.Goals as goal

pub add_link-requires-clause-between : goal.add_link-requires-clause-between
add_link-requires-clause-between c =
    let size = c.requires.size in
    let outer = c.requires.outer in
    let own = c.requires.own in
    c.requires.ready.between
    (c.index-paths-link.result, slice_index_or c.args.firsts.now c.args.link.now.within 0)
    (c.index-paths-place.result, slice_index_or c.args.firsts.now (c.args.place + 1) 0)
    (zip_get c.args.paths.now c.args.firsts.now c.args.link.now.within c.index-paths-link.result
    (slice_index_or c.args.firsts.now c.args.link.now.within 0) 0 outer (omega (arith, outer, size))
    c.index-paths-link.is refl)
    (zip_get c.args.paths.now c.args.firsts.now (c.args.place + 1) c.index-paths-place.result
    (slice_index_or c.args.firsts.now (c.args.place + 1) 0) 0 own (omega (arith, own, size))
    c.index-paths-place.is refl)

pub returns : goal.returns
returns c =
    let size = c.requires.size in
    let outer = c.requires.outer in
    let own = c.requires.own in
    let nets = c.args.nets.now in
    let owned = map names_in c.args.owned.now in
    let cs = connection_list c.args.link.now.conns.now in
    let x : Path × ℕ = (c.index-paths-link.result, slice_index_or c.args.firsts.now c.args.link.now.within 0) in
    let y : Path × ℕ = (c.index-paths-place.result, slice_index_or c.args.firsts.now (c.args.place + 1) 0) in
    let at_x = zip_get c.args.paths.now c.args.firsts.now c.args.link.now.within c.index-paths-link.result
    (slice_index_or c.args.firsts.now c.args.link.now.within 0) 0 outer (omega (arith, outer, size))
    c.index-paths-link.is refl in
    let at_y = zip_get c.args.paths.now c.args.firsts.now (c.args.place + 1) c.index-paths-place.result
    (slice_index_or c.args.firsts.now (c.args.place + 1) 0) 0 own (omega (arith, own, size))
    c.index-paths-place.is refl in
    let Adds : List Equation → ℕ → Type 0 =
    AddsEquations nets (trees_of c.args.words.now) (trees_of c.add_link.new.words) c.args.slots.now
    c.add_link.new.slots in
    on_ok c.add_link.result (λ h.
    subst (λ (o : Option (Path × ℕ)). Adds
    (if_there [] (λ p. if_there [] (inside_equations nets owned cs (scope_in nets owned p))
    (slice_get (zip c.args.paths.now c.args.firsts.now) (c.args.place + 1))) o)
    (if_there 0 (λ p. if_there 0 (inside_cost nets owned cs (scope_in nets owned p))
    (slice_get (zip c.args.paths.now c.args.firsts.now) (c.args.place + 1))) o)) (sym at_x)
    (subst (λ (o : Option (Path × ℕ)). Adds
    (if_there [] (inside_equations nets owned cs (scope_in nets owned x)) o)
    (if_there 0 (inside_cost nets owned cs (scope_in nets owned x)) o)) (sym at_y) h)) c.add_link.ensures
