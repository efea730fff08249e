use Rattle.eq_blast.proofs.Passed.{passed_all}
use Rattle.eq_blast.proofs.placing.Placing.settle.Goals as goal

pub loop-self-smaller : goal.loop-self-smaller
loop-self-smaller c = passed_all c.args.plan.now c.loop-self.self.places.items c.pass.new.self.places.items
    c.loop-self.self.builder c.loop-self.self.left c.pass.new.self.left c.requires.grounded c.loop-self.invariant
    c.in_ok-pass.ensures.passed c.loop-self-test.true
