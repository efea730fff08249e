use Rattle.eq_flatten.proofs.Listing.{next_digit}
use Rattle.eq_flatten.proofs.forms.digits.Goals as goal

pub loop-preserved : goal.loop-preserved
loop-preserved c =
    next_digit c.args.constant.value c.loop.counter c.loop.rest c.loop.bits c.push.new.self c.loop.invariant.0
    c.loop.invariant.1
    c.in_ok-push.ensures.ok
