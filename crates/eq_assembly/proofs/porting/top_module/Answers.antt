use Rattle.std.proofs.Common.{List, slice_get, ap, ◌∙◌}
use Rattle.eq_flatten.specs.declared.paths.Path.{Path}
use Rattle.eq_assembly.proofs.TopNames.{some_path, top_is}
use Rattle.eq_assembly.proofs.porting.top_module.Goals as goal

pub unreachable-requires : goal.unreachable-requires
unreachable-requires c =
    some_path c.args.layout.now c.args.top.now c.requires.laid
    (c.in-None.ensures.value ∙ ap (λ (xs : List Path). slice_get xs 0) c.deref.ensures.value)

pub returns : goal.returns
returns c =
    top_is c.args.layout.now c.args.top.now c.requires.laid c.in-Some.path.now
    (c.in-Some.ensures.value ∙ ap (λ (xs : List Path). slice_get xs 0) c.deref.ensures.value)
