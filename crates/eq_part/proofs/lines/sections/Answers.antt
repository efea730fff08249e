use Rattle.std.proofs.Common.{◌≡◌, ◌∷◌, ◌∙◌, ◌+◌, drop, ap, sym, subst}
use Rattle.std.proofs.lemmas.List.{drop_more}
use Rattle.eq_net.specs.Whole.{parts_of}
use Rattle.eq_part.specs.Partitions.{SectionsMake}
use Rattle.eq_part.specs.inner.States.{division_of}
use Rattle.eq_part.proofs.lines.sections.Goals as goal

pub loop-one-preserved : goal.loop-one-preserved
loop-one-preserved c =
    let list = c.args.list.now in let i = c.loop-one.one-index in let item = c.one-item.result in
    let here : drop i list ≡ item ∷ drop (i + 1) list =
    drop_more list i item c.loop-one-test.true ∙ ap (λ x. x ∷ drop (i + 1) list) (sym c.one-item.is) in
    record {
      state = c.in_ok-state.ensures.state;
      behind = λ after x. c.loop-one.invariant.behind after
          (subst (λ cs. SectionsMake (parts_of c.args.gold.now) c.args.pairs.now c.args.top.now cs
          (division_of c.loop-one.state) after) (sym here)
          (division_of c.in_ok-state.state, c.in_ok-state.ensures.section, x));
    }
