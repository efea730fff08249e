use Rattle.std.proofs.Common.{sym, arith}
use Rattle.eq_model.specs.Frames.{values}
use Rattle.eq_part.proofs.United.{none_chosen, several_tests}
use Rattle.eq_part.proofs.uniting.are_several.Goals as goal

pub returns-in-Some : goal.returns-in-Some
returns-in-Some c = several_tests c.args.pairs.now (values c.args.marks.now) c.args.leaders.now c.requires.pairs _
    c.in-Some.ensures.some _ c.has_other.ensures.some c.has_other.ensures.none

pub returns-in-None : goal.returns-in-None
returns-in-None c = let same = c.requires.pairs in
    sym (none_chosen c.args.pairs.now (values c.args.marks.now) c.args.leaders.now (λ i h. c.in-None.ensures.none i (omega arith)))
