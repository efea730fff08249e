use Rattle.std.proofs.Common.{arith}
use Rattle.eq_model.specs.Frames.{values}
use Rattle.eq_model.specs.System.{nothing}
use Rattle.eq_net.specs.Net.{system_of}
use Rattle.eq_net.specs.Whole.{parts_of}
use Rattle.eq_net.proofs.Rounds.{held_next, settled_next, same_cycle}
use Rattle.eq_net.proofs.Designed.{net_is_system}
use Rattle.eq_net.proofs.Registers.{anyway}
use Rattle.eq_net.proofs.cycle.go_round.Goals as goal

pub loop-preserved : goal.loop-preserved
loop-preserved c =
    let n = parts_of c.args.net.now in
    let s = system_of n in
    let is = net_is_system n c.args.net.now.is_net in
    let u = values c.args.now.now in
    let v = values c.loop.now in
    let w = values c.update.new.now in
    record {
      held = held_next s is u v w c.loop.invariant.held c.update.ensures;
      settled = λ z cycle height above. settled_next s is u v w z c.loop.invariant.held c.update.ensures cycle height above c.loop.counter (c.loop.invariant.settled z cycle height above);
    }

pub returns-clause-cycle : goal.returns-clause-cycle
returns-clause-cycle c =
    let n = parts_of c.args.net.now in
    let s = system_of n in
    let is = net_is_system n c.args.net.now.is_net in
    let u = values c.args.now.now in
    let one = c.one_cycle.ensures s is c.args.net.now.is_net.loop_free nothing u in
    let high = c.heights.ensures s is c.args.net.now.is_net.loop_free in
    let bits = c.args.net.now.is_net.one_driver in
    let count = c.len-end.ensures in
    let end = c.loop-test.false in
    anyway c.evaluate_all-2.result (same_cycle s is u one.some.0 (values c.loop.now) one.some.1
    (λ b lt. c.loop.invariant.settled one.some.0 one.some.1 high.0 high.1 b lt (let low = high.2 b lt in omega arith)))
