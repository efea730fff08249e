use Rattle.std.proofs.Common.{[], ◌∷◌, ◌++◌, ◌∙◌, sym, ap}
use Rattle.eq_config.specs.Sections as spec
use Rattle.eq_config.proofs.Growing.{on_last_is}
use Rattle.eq_config.proofs.section.add_apply.Goals as goal

pub returns-in_ok-push-2 : goal.returns-in_ok-push-2
returns-in_ok-push-2 c =
    c.in_ok-push-2.ensures.ok
    ∙ ap (λ apply. c.pop.new.self ++ record { line = c.in-Some.last.line; name = c.in-Some.last.name; used = c.in-Some.last.used; depth = c.in-Some.last.depth; conflicts = c.in-Some.last.conflicts; apply = apply } ∷ []) c.in_ok-push.ensures.ok
    ∙ sym (on_last_is (spec.with_apply c.args.pattern) c.pop.new.self c.args.all.now c.in-Some.last c.in-Some.ensures)
