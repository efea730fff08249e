use Rattle.std.proofs.Common.{sym, subst, ◌∙◌}
use Rattle.eq_flatten.specs.declared.paths.Path.{Path}
use Rattle.eq_flatten.specs.Paths.{IsPath}
use Rattle.eq_flatten.proofs.FlatLemmas.{flat_more}
use Rattle.eq_flatten.proofs.flat.flat_nets.Goals as goal

pub loop-path-preserved : goal.loop-path-preserved
loop-path-preserved c =
    λ all are same.
    flat_more c.args.paths.now c.loop-path.path-index c.path-item.result c.loop-path.nets.items c.add_path.new.nets.items
    c.loop-path.firsts.items c.push.new.self.items c.in_ok-narrow.field-0 c.loop-path-test.true c.path-item.is
    (c.loop-path.invariant all are same)
    (c.in_ok-add_path.ensures all
    (subst (λ (p : Path). IsPath all p) (sym c.path-item.is)
    (are c.loop-path.path-index c.path-item.result c.loop-path-test.true)) same)
    (c.in_ok-narrow.ensures ∙ c.len.ensures ∙ c.loop-path.nets.ok.0) c.in_ok-push.ensures.items
