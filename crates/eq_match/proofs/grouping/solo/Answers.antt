use Rattle.std.proofs.Common.{List, Bool, subst, sym}
use Rattle.std.proofs.lemmas.Result.{IfOk-weaker}
use Rattle.eq_model.specs.Frames.{values}
use Rattle.eq_net.specs.Whole.{parts_of}
use Rattle.eq_match.specs.Classes.{SameClasses, alone}
use Rattle.eq_match.specs.Groups.{TellsHits}
use Rattle.eq_match.specs.Leaders.{one_leader}
use Rattle.eq_match.proofs.grouping.solo.Goals as goal

pub returns-clause-line : goal.returns-clause-line
returns-clause-line c =
    let hit = values c.as_slice.result.now in
    IfOk-weaker c.alone.result _ _ (λ after same. (
      hit,
      subst (λ (h : List Bool). TellsHits (parts_of c.args.gold.now) c.args.pairs.now c.args.pattern.now (values h))
          (sym c.as_slice.ensures) c.in_ok-hits.ensures.hits,
      subst (λ n. SameClasses n (one_leader after) (alone hit (one_leader c.args.before.now))) c.requires.count same,
    ))
    c.alone.ensures.classes
