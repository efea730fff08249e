use Rattle.std.proofs.Common.{◌≡◌, ℕ, subst, arith}
use Rattle.eq_net.specs.inner.Cells.{Gives, seen}
use Rattle.eq_net.specs.inner.CellSteps.{folded}
use Rattle.eq_net.proofs.Cellular.{grown_twice}
use Rattle.eq_net.proofs.CellRows.{fold_next}
use Rattle.eq_net.proofs.cells.rows.fold.Goals as goal

pub loop-j-preserved : goal.loop-j-preserved
loop-j-preserved c =
    let inv = c.loop-j.invariant in
    let e = c.in_ok-value.ensures in
    let c1 = c.loop-j.cells.items in
    let c2 = c.step.new.cells.items in
    record {
      grown = grown_twice c.args.cells.now.items c1 c2 inv.grown e.grown;
      gives = fold_next c.args.stack.now.items c.args.left c.args.right c.args.kind c1 c2 c.args.start c.loop-j.j c.loop-j.value c.in_ok-value.value
          c.number_at.result c.number_at-in-loop-j.result e.grown inv.gives c.number_at.ensures c.number_at-in-loop-j.ensures e.gives;
    }

pub returns-clause-gives : goal.returns-clause-gives
returns-clause-gives c =
    let end : c.loop-j.j ≡ c.args.count = (let no = c.loop-j-test.false in let le = c.loop-j.auto.j-end in omega arith) in
    let P : ℕ → Type 0 = λ n. Gives c.loop-j.cells.items c.loop-j.value (λ v. folded c.args.kind (v.cells c.args.start) n (seen v c.args.stack.now.items c.args.left) (seen v c.args.stack.now.items c.args.right)) in
    subst P end c.loop-j.invariant.gives
