use Rattle.eq_model.specs.Frames.{values}
use Rattle.eq_net.specs.Whole.{parts_of}
use Rattle.eq_part.specs.inner.Renaming.{AreRenamed}
use Rattle.eq_part.specs.inner.States.{is_chosen}
use Rattle.eq_part.proofs.renaming.rename_all.Given as goal

abbrev pub invariant-loop-position : goal.invariant-loop-position
invariant-loop-position l =
    AreRenamed (parts_of l.gold) l.pairs l.pattern l.template l.leaders (is_chosen l.pairs (values l.hits)) l.position
    l.initial.names l.done.items l.names
