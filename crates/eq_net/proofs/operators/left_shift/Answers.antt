use Rattle.std.proofs.Common.{◌-◌, length, nat_le, ◌&&◌, ap, ◌∙◌}
use Rattle.eq_net.specs.Numbers.{number}
use Rattle.eq_net.specs.inner.Stack.{part}
use Rattle.eq_net.proofs.Shifted.{up_at_most}
use Rattle.eq_net.proofs.operators.left_shift.Goals as goal

pub returns : goal.returns
returns c =
    let old = c.args.stack.now.items in
    let m = c.args.right - c.args.left in
    let a = part old c.args.left in
    let k = number (length old - c.args.right) (part old c.args.right) in
    record {
      size = c.shift_up.ensures.size;
      kept = c.shift_up.ensures.kept;
      put = λ j lt. c.shift_up.ensures.put j lt ∙ ap (λ x. nat_le x j && a (j - x)) c.capped_number-by.ensures ∙ up_at_most m k j a lt;
    }
