use Rattle.std.proofs.Common.{◌≡◌, ℕ, ◌&&◌, subst, arith}
use Rattle.eq_net.specs.Numbers.{all_ones}
use Rattle.eq_blast.specs.inner.Growing.{Gives}
use Rattle.eq_blast.specs.inner.Stack.{seen}
use Rattle.eq_blast.specs.inner.Steps.{folded, step_cost}
use Rattle.eq_blast.proofs.Along.{fold_next, grown_next}
use Rattle.eq_blast.proofs.rows.fold.Goals as goal

pub loop-j-preserved : goal.loop-j-preserved
loop-j-preserved c =
    let inv = c.loop-j.invariant in
    let e = c.in_ok-value.ensures in
    record {
      few = (let f = inv.few in let m = e.few in omega arith);
      grown = grown_next c.loop-j.j (step_cost c.args.kind) c.args.builder.now c.loop-j.builder c.step.new.builder inv.grown e.grown;
      gives = fold_next c.args.stack.now.items c.args.left c.args.right c.args.kind (step_cost c.args.kind) c.loop-j.builder c.step.new.builder c.args.start c.loop-j.j c.loop-j.value c.in_ok-value.value
          c.node.result c.node-in-loop-j.result e.grown inv.gives c.node.ensures c.node-in-loop-j.ensures e.gives;
    }

pub returns-clause-gives : goal.returns-clause-gives
returns-clause-gives c =
    let end : c.loop-j.j ≡ c.args.count = (let no = c.loop-j-test.false in let le = c.loop-j.auto.j-end in omega arith) in
    let P : ℕ → Type 0 = λ n. Gives c.loop-j.builder c.loop-j.value (λ x. folded c.args.kind (x c.args.start) n (seen x c.args.stack.now.items c.args.left) (seen x c.args.stack.now.items c.args.right))
    (λ d. d c.args.start && (all_ones n (seen d c.args.stack.now.items c.args.left) && all_ones n (seen d c.args.stack.now.items c.args.right))) in
    subst P end c.loop-j.invariant.gives
