use Rattle.std.proofs.Common.{ℕ, List, ◌∙◌, sym, ap}
use Rattle.eq_model.specs.Frames.{values}
use Rattle.eq_match.specs.Leaders.{one_leader}
use Rattle.eq_part.specs.Partitions.{are_several}
use Rattle.eq_part.proofs.United.{stays}
use Rattle.eq_part.proofs.uniting.unite.Goals as goal

pub returns-else-are_several-clause-united : goal.returns-else-are_several-clause-united
returns-else-are_several-clause-united c =
    stays c.args.pairs.now c.args.state (values c.args.marks.now) c.requires.state c.requires.marks
    (ap (λ (ls : List ℕ). are_several c.args.pairs.now (values c.args.marks.now) (one_leader ls)) (sym c.leaders.ensures.value) ∙
    sym c.are_several.ensures ∙ c.if-are_several.false)
