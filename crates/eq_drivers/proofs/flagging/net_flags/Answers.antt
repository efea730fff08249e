use Rattle.std.proofs.Common.{◌++◌, List, Bool, ap, subst, sym, ◌∙◌}
use Rattle.eq_flatten.specs.declared.paths.Path.{Path}
use Rattle.eq_flatten.specs.Paths.{path_of, IsPath}
use Rattle.eq_drivers.specs.inner.Flagging.{path_flags}
use Rattle.eq_drivers.proofs.Regs.{one_path}
use Rattle.eq_drivers.proofs.flagging.net_flags.Goals as goal

pub loop-path-preserved : goal.loop-path-preserved
loop-path-preserved c = λ trees are same.
    c.in_ok-add_path.ensures trees
    (subst (λ (p : Path). IsPath trees p) (sym c.path-item.is)
    (are c.loop-path.path-index c.path-item.result c.loop-path-test.true)) same
    ∙ ap (λ (xs : List Bool). xs ++ path_flags (path_of c.path-item.result)) (c.loop-path.invariant trees are same)
    ∙ one_path c.args.paths.now c.loop-path.path-index c.path-item.result c.loop-path-test.true c.path-item.is
