use Rattle.std.proofs.Common.{◌∙◌, sym}
use Rattle.eq_config.specs.Sections as spec
use Rattle.eq_config.proofs.Growing.{on_last_is}
use Rattle.eq_config.proofs.section.set_depth.Goals as goal

pub returns-in_ok-push : goal.returns-in_ok-push
returns-in_ok-push c =
    c.in_ok-push.ensures.ok ∙ sym (on_last_is (spec.with_depth c.args.depth) c.pop.new.self c.args.all.now c.in-Some.last c.in-Some.ensures)
