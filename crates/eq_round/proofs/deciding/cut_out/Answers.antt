use Rattle.std.proofs.Common.{◌+◌, ◌≤◌, length}
use Rattle.eq_bits.specs.declared.part.Part.{Part}
use Rattle.eq_cone.specs.Cut.{HasOutputNames, inverted_count, partition_at}
use Rattle.eq_wit.specs.Tried.{MayBeTried}
use Rattle.eq_round.proofs.Sizes.{may_be_tried, ok_from_both}
use Rattle.eq_round.proofs.deciding.cut_out.Goals as goal

pub returns-clause-tried : goal.returns-clause-tried
returns-clause-tried c =
    let w = c.args.work.now in
    let i = c.args.i in
    let Named : Part → Type 0 = λ part. HasOutputNames w.gold.now.nets w.plan.now i part in
    let Bound : Part → Type 0 = λ part. length part.nodes ≤ w.gold.now.cost + w.gate.now.cost
    + inverted_count w.plan.now.pairs (partition_at w.plan.now i).outputs in
    ok_from_both c.cut.result Named Bound (λ part. MayBeTried part w.strategies.now)
    (λ part named bound. may_be_tried w c.requires.work i part named.outputs bound) c.cut.ensures.named
    c.cut.ensures.bound
