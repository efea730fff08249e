use Rattle.std.proofs.Common.{length, ap, sym, ◌∙◌}
use Rattle.std.proofs.lemmas.List.{get_or_default}
use Rattle.eq_part.specs.declared.types.Partition.{Partition}
use Rattle.eq_part.specs.Tables.{no_part}
use Rattle.eq_part.proofs.Possessed.{next_possessed, outputs_within}
use Rattle.eq_part.proofs.tables.own_all.Goals as goal

pub own-requires : goal.own-requires
own-requires c = outputs_within c.args.parts.now (length c.args.table.now) c.loop-q.q c.loop-q.table c.as_slice.result.now
    c.requires.parts
    (ap (λ (p : Partition). p.outputs) (get_or_default c.args.parts.now c.loop-q.q no_part c.index-parts-q.result
    c.loop-q-test.true) ∙ sym c.as_slice.ensures)
    c.loop-q.invariant.count

pub loop-q-preserved : goal.loop-q-preserved
loop-q-preserved c = next_possessed c.args.parts.now (length c.args.table.now) c.loop-q.q c.loop-q.table
    c.as_slice.result.now c.requires.parts
    (ap (λ (p : Partition). p.outputs) (get_or_default c.args.parts.now c.loop-q.q no_part c.index-parts-q.result
    c.loop-q-test.true) ∙ sym c.as_slice.ensures)
    c.own.new.table c.loop-q.invariant c.own.ensures
