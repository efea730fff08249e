use Rattle.std.proofs.Common.{◌+◌, ◌-◌, ◌^◌, ap, ◌∙◌}
use Rattle.eq_net.specs.Numbers.{digit, number}
use Rattle.eq_net.specs.inner.Stack.{part}
use Rattle.eq_net.proofs.Carries.{minus_by_complement}
use Rattle.eq_net.proofs.operators.difference.Goals as goal

pub returns : goal.returns
returns c =
    let old = c.args.stack.now.items in
    let m = c.args.right - c.args.left in
    let a = part old c.args.left in
    let b = part old c.args.right in
    record {
      size = c.add.ensures.size;
      kept = c.add.ensures.kept;
      put = λ j lt. c.add.ensures.put j lt ∙ ap (λ n. digit n j) (minus_by_complement m a b) ∙ ap (λ k. digit ((2 ^ m + number m a) - number k b) j) c.requires.sizes;
    }
