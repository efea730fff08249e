use Rattle.eq_unroll.specs.declared.query.Query.TheVariants.{Base, Step}
use Rattle.eq_wit.proofs.FollowLemmas.{none_known}
use Rattle.eq_wit.proofs.counted.Counts.new.Goals as goal

pub returns : goal.returns
returns c = λ part. record {
  registers = tt;
  base = none_known part Base _ c.in_ok-base.ensures;
  step = none_known part Step _ c.in_ok-step.ensures;
}
