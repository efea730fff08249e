use Rattle.std.proofs.Common.{◌*◌, ◌&&◌, ap, ◌∙◌}
use Rattle.eq_net.specs.Numbers.{all_ones, some_one}
use Rattle.eq_blast.specs.declared.gates.Kind.TheVariants.{Or}
use Rattle.eq_blast.specs.inner.Growing.{Gives}
use Rattle.eq_blast.specs.inner.Stack.{seen}
use Rattle.eq_blast.specs.inner.Steps.{folded}
use Rattle.eq_blast.proofs.Growth.{both_of, constants_still, with_both}
use Rattle.eq_blast.proofs.Performed.{zero_has, zero_value}
use Rattle.eq_blast.proofs.Tested.{folded_or}
use Rattle.eq_blast.proofs.truths.some.Goals as goal

pub returns-clause-gives : goal.returns-clause-gives
returns-clause-gives c =
    let n = c.args.count in
    let s = c.args.stack.now.items in
    let from = c.args.from in
    let b0 = c.args.builder.now in
    let b1 = c.fold.new.builder in
    with_both c.fold.result (λ m. Gives b1 m (λ x. folded Or (x 0) n (seen x s from) (seen x s from)) (λ d. d 0 && (all_ones n (seen d s from) && all_ones n (seen d s from))))
    (λ m. Gives b1 m (λ x. some_one n (seen x s from)) (λ d. all_ones n (seen d s from)))
    (λ m grown i. (let base = constants_still (n * 4) b0 b1 grown c.requires.constants in record {
      there = i.there;
      value = λ x co. i.value x co ∙ ap (λ t. folded Or t n (seen x s from) (seen x s from)) (zero_value b1 base x co) ∙ folded_or n (seen x s from) (seen x s from);
      has = λ d cl h. i.has d cl (both_of (d 0) (all_ones n (seen d s from) && all_ones n (seen d s from)) (zero_has b1 base d cl) (both_of (all_ones n (seen d s from)) (all_ones n (seen d s from)) h h));
    })) c.fold.ensures.grown c.fold.ensures.gives
