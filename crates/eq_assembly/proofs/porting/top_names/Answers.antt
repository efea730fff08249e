use Rattle.std.proofs.Common.{List, map, slice_get, ap, ◌∙◌}
use Rattle.eq_flatten.specs.declared.owning.Owned.{Owned}
use Rattle.eq_flatten.specs.declared.paths.Path.{Path}
use Rattle.eq_flatten.specs.Owning.{names_in}
use Rattle.eq_assembly.proofs.TopNames.{owned_names, some_owned, some_path}
use Rattle.eq_assembly.proofs.porting.top_names.Goals as goal

pub unreachable-requires : goal.unreachable-requires
unreachable-requires c =
    some_path c.args.layout.now c.args.top.now c.requires.laid
    (c.in_default.ensures.value ∙ ap (λ (xs : List Path). slice_get xs 0) c.deref.ensures.value)

pub unreachable-requires-in-None : goal.unreachable-requires-in-None
unreachable-requires-in-None c =
    some_owned c.args.layout.now c.args.top.now c.requires.laid c.in-Some.path.now
    (c.in-Some.ensures.value ∙ ap (λ (xs : List Path). slice_get xs 0) c.deref.ensures.value)
    (c.in-None.ensures
    ∙ ap (λ (os : List Owned). slice_get (map names_in os) c.in-Some.path.now.of.place) c.as_slice.ensures.value)

pub returns : goal.returns
returns c =
    owned_names c.args.layout.now c.args.top.now c.requires.laid c.in-Some.path.now
    (c.in-Some.ensures.value ∙ ap (λ (xs : List Path). slice_get xs 0) c.deref.ensures.value)
    (names_in c.in-Some-owned_at.owned.now)
    (c.in-Some-owned_at.ensures
    ∙ ap (λ (os : List Owned). slice_get (map names_in os) c.in-Some.path.now.of.place) c.as_slice.ensures.value)
