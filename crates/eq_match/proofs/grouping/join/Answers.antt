use Rattle.std.proofs.Common.{List, Bool, subst, ap, ◌∙◌, sym}
use Rattle.std.proofs.lemmas.Result.{IfOk-weaker}
use Rattle.eq_model.specs.Frames.{values}
use Rattle.eq_net.specs.Whole.{parts_of}
use Rattle.eq_match.specs.Classes.{SameClasses, touches, united}
use Rattle.eq_match.specs.Groups.{TellsHits, is_held}
use Rattle.eq_match.specs.Leaders.{one_leader}
use Rattle.eq_match.proofs.GroupLines.{gathered_united, touches_fill}
use Rattle.eq_match.proofs.grouping.join.Goals as goal

pub returns-clause-line : goal.returns-clause-line
returns-clause-line c =
    let hit = values c.as_slice.result.now in
    let pairs = c.args.pairs.now in let before = c.args.before.now in
    IfOk-weaker c.gathered.result _ _ (λ after same. (
      hit,
      subst (λ (h : List Bool). TellsHits (parts_of c.args.gold.now) c.args.pairs.now c.args.pattern.now (values h))
          (sym c.as_slice.ensures) c.in_ok-hits.ensures.hits,
      subst (λ n. SameClasses n (one_leader after) (united (touches n (is_held pairs) hit (one_leader before)) (one_leader before)))
          c.requires.count
          (λ i j h k. same i j h k ∙ gathered_united _ before (values c.as_slice-2.result.now) _
          (λ a b. ap (λ (m : List Bool). values m a) c.as_slice-2.ensures ∙ c.in_ok-marks.ensures.bits a b)
          (touches_fill _ (is_held pairs) hit before) i j h k),
    ))
    c.gathered.ensures.classes
