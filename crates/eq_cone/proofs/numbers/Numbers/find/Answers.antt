use Rattle.std.proofs.Common.{ℕ, List, nat_eq, position, ap, ◌∙◌}
use Rattle.eq_cone.proofs.Collected.{place_found}
use Rattle.eq_cone.proofs.numbers.Numbers.find.Goals as goal

pub returns-clause-found : goal.returns-clause-found
returns-clause-found c = place_found c.get_index_of.result c.args.number c.args.self.now
    (c.get_index_of.ensures.index ∙ ap (λ (l : List ℕ). position (nat_eq c.args.number) l) c.self.view_is)
