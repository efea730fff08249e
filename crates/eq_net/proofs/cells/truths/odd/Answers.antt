use Rattle.std.proofs.Common.{◌≡◌, ℕ, ◌-◌, false, length, arith, subst}
use Rattle.std.proofs.lemmas.Result.{on_ok_weaker}
use Rattle.eq_net.specs.Numbers.{differ, parity}
use Rattle.eq_net.specs.Operators.{one_bit}
use Rattle.eq_net.specs.declared.cells.gates.Kind.TheVariants.{Xor}
use Rattle.eq_net.specs.inner.Cells.{Performs, seen}
use Rattle.eq_net.specs.inner.CellSteps.{folded}
use Rattle.eq_net.proofs.CellTruths.{folded_xor, tested}
use Rattle.eq_net.proofs.cells.truths.odd.Goals as goal

pub returns : goal.returns
returns c =
    let s = c.args.stack.now.items in
    let from = c.args.from in
    let n = length s - from in
    let s1 = c.test.new.stack.items in
    let c0 = c.args.cells.now.items in
    let c1 = c.test.new.cells.items in
    let count : c.len.result - from ≡ n = (let e = c.len.ensures in let ok = c.args.stack.now.ok in omega arith) in
    let P : ℕ → Type 0 = λ w. Performs 1 from (λ v. one_bit (differ c.args.negate (folded Xor (v.cells 0) w (seen v s from) (seen v s from)))) c0 c1 s s1 in
    on_ok_weaker c.test.result
    (λ p. tested Xor c.args.negate false n 0 from from from c0 c1 s s1 (λ v. parity n (seen v s from)) (λ v h. h.false_first)
    (λ v. folded_xor n (seen v s from) (seen v s from)) (subst P count p))
    c.test.ensures
