use Rattle.std.proofs.Common.{ℕ, List, Bool, length, refl, sym, subst}
use Rattle.eq_model.specs.Frames.{values}
use Rattle.eq_net.specs.Whole.{parts_of}
use Rattle.eq_match.specs.Groups.{TellsHits}
use Rattle.eq_part.specs.declared.state.State.{State}
use Rattle.eq_part.specs.inner.Renaming.{AreRenamed}
use Rattle.eq_part.specs.inner.States.{is_chosen}
use Rattle.eq_part.proofs.Renamed.{all_renamed}
use Rattle.eq_part.proofs.renaming.rename.Goals as goal

pub returns-clause-line : goal.returns-clause-line
returns-clause-line c =
    let after : State = record { classes = c.args.state.classes; names = c.rename_all.new.names } in
    let gold = parts_of c.args.gold.now in (
      (λ i j h k. refl),
      all_renamed gold c.args.pairs.now c.args.pattern.now c.args.template.now c.args.state after
          c.as_slice-hits.result.now
          (subst (λ (h : List Bool). TellsHits gold c.args.pairs.now c.args.pattern.now (values h)) (sym c.as_slice-hits.ensures)
          c.in_ok-hits.ensures.hits) refl c.in_ok-rename_all.ensures.0
          (subst (λ (ls : List ℕ). AreRenamed gold c.args.pairs.now c.args.pattern.now c.args.template.now ls
          (is_chosen c.args.pairs.now (values c.as_slice-hits.result.now)) (length c.args.pairs.now) c.args.state.names
          c.in_ok-rename_all.ensures.0 c.rename_all.new.names) c.leaders-leaders.ensures.value c.in_ok-rename_all.ensures.1),
    )
