use Rattle.std.proofs.Common.{◌-◌, length, nat_lt, ◌+◌, ◌&&◌, ap, ◌∙◌}
use Rattle.eq_net.specs.Numbers.{number}
use Rattle.eq_net.specs.inner.Stack.{part}
use Rattle.eq_net.proofs.Shifted.{down_at_most}
use Rattle.eq_net.proofs.operators.right_shift.Goals as goal

pub returns : goal.returns
returns c =
    let old = c.args.stack.now.items in
    let m = c.args.right - c.args.left in
    let a = part old c.args.left in
    let k = number (length old - c.args.right) (part old c.args.right) in
    record {
      size = c.shift_down.ensures.size;
      kept = c.shift_down.ensures.kept;
      put = λ j lt. c.shift_down.ensures.put j lt ∙ ap (λ x. nat_lt j (m - x) && a (x + j)) c.capped_number-by.ensures ∙ down_at_most m k j a;
    }
