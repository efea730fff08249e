use Rattle.std.proofs.Common.{◌≡◌, ◌∷◌, ◌∙◌, ◌+◌, drop, ap, sym, subst}
use Rattle.std.proofs.lemmas.List.{drop_more}
use Rattle.eq_net.specs.Whole.{parts_of}
use Rattle.eq_match.specs.Groups.{SectionsCollect}
use Rattle.eq_match.specs.Leaders.{one_leader}
use Rattle.eq_match.proofs.grouping.sections.Goals as goal

pub loop-one-preserved : goal.loop-one-preserved
loop-one-preserved c =
    let list = c.args.list.now in let i = c.loop-one.one-index in let item = c.one-item.result in
    let here : drop i list ≡ item ∷ drop (i + 1) list =
    drop_more list i item c.loop-one-test.true ∙ ap (λ x. x ∷ drop (i + 1) list) (sym c.one-item.is) in
    record {
      count = c.in_ok-classes.ensures.count;
      behind = λ after x. c.loop-one.invariant.behind after
          (subst (λ cs. SectionsCollect (parts_of c.args.gold.now) c.args.pairs.now c.args.top.now cs
          (one_leader c.loop-one.classes) after) (sym here)
          (one_leader c.in_ok-classes.classes, c.in_ok-classes.ensures.section, x));
    }
