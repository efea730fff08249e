use Rattle.std.proofs.Common.{◌≡◌, ℕ, suc, ◌-◌, Option, length, arith, ap, subst, ◌∙◌}
use Rattle.eq_marks.specs.inner.Marks.{Overwrites, mixed, mixed_all, part}
use Rattle.eq_marks.proofs.MarkStacks.{all_same, shifted}
use Rattle.eq_marks.proofs.marks.left_shift.Goals as goal

pub returns : goal.returns
returns c =
    let way = c.args.way in
    let old = c.args.stack.now.items in
    let s = c.drop_from.new.stack.items in
    let f = part old c.args.left in
    let order = c.requires.order in
    let by = c.mix_all-by.result in
    let e = c.len.ensures in
    let ok = c.args.stack.now.ok in
    let count : c.len.result - c.args.right ≡ length old - c.args.right = omega arith in
    let is : by ≡ mixed_all way (length old - c.args.right) (part old c.args.right) =
    c.mix_all-by.ensures ∙ ap (λ n. mixed_all way n (part old c.args.right)) count in
    let P : Option ℕ → Type 0 = λ x. Overwrites c.args.left (λ j. mixed way (mixed_all way (suc j) f) x) (c.args.right
    - c.args.left) old c.mix_in.new.stack.items in
    subst P is (shifted way c.args.left c.args.right by (λ j. mixed_all way (suc j) (part s c.args.left)) (λ j.
    mixed_all way (suc j) f)
    old s c.mix_up.new.stack.items c.mix_in.new.stack.items order c.drop_from.ensures.size c.drop_from.ensures.kept
    c.mix_up.ensures
    (λ j lt. all_same way (suc j) (part s c.args.left) f (λ i li. c.drop_from.ensures.kept _ (omega arith)))
    c.mix_in.ensures)
