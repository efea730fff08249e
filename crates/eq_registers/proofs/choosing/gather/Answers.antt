use Rattle.std.proofs.Common.{◌≡◌, ℕ, suc, ◌+◌, arith, subst, ◌∙◌}
use Rattle.eq_registers.specs.inner.Choosing.{IsGathered}
use Rattle.eq_registers.proofs.Gathered.{gathered_more}
use Rattle.eq_registers.proofs.choosing.gather.Goals as goal

pub loop-place-preserved : goal.loop-place-preserved
loop-place-preserved c =
    let n = c.loop-place.place in
    let firsts = c.args.firsts.now in
    let before = c.args.table.now in
    let after = c.gather_at.new.table in
    let next : suc n ≡ n + 1 = omega arith in
    let made : IsGathered c.args.condition c.args.number firsts before after c.gather_at.new.ones c.gather_at.new.others
    (suc n) =
    gathered_more c.args.condition c.args.number firsts before c.loop-place.table after c.loop-place.ones
    c.loop-place.others c.gather_at.new.ones c.gather_at.new.others n c.entry_at-one.result c.loop-place.invariant.1
    c.loop-place-test.true c.requires.size c.entry_at-one.ensures c.in_ok-gather_at.ensures in (
      made.size ∙ c.requires.size,
      subst (λ (k : ℕ). IsGathered c.args.condition c.args.number firsts before after c.gather_at.new.ones
          c.gather_at.new.others k) next made,
    )
