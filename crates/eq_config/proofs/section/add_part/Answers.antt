use Rattle.std.proofs.Common.{[], ◌∷◌, ◌++◌, ◌∙◌, sym, ap}
use Rattle.eq_config.proofs.Growing.{on_last_is}
use Rattle.eq_config.proofs.section.add_part.Goals as goal

pub returns-in_ok-push-2 : goal.returns-in_ok-push-2
returns-in_ok-push-2 c =
    c.in_ok-push-2.ensures.ok
    ∙ ap (λ rules. c.pop.new.self ++ record { top = c.in-Some.last.top; rules = rules } ∷ []) c.in_ok-push.ensures.ok
    ∙ sym (on_last_is (λ s. record { top = s.top; rules = s.rules ++ c.args.rule ∷ [] }) c.pop.new.self c.args.all.now c.in-Some.last c.in-Some.ensures)
