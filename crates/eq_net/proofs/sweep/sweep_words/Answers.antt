use Rattle.std.proofs.Common.{List, Bool, subst, sym, ◌∙◌}
use Rattle.eq_net.specs.Whole.{parts_of}
use Rattle.eq_net.specs.inner.Circuits.{IsSwept}
use Rattle.eq_net.specs.inner.Marks.{AreMarked}
use Rattle.eq_net.proofs.Swept.{swept_words}
use Rattle.eq_net.proofs.sweep.sweep_words.Goals as goal

pub loop-word-preserved : goal.loop-word-preserved
loop-word-preserved c =
    let n = parts_of c.args.net.now in
    let old = c.loop-word.invariant in
    let e = c.in_ok-evaluate_ready.ensures in
    let words = c.evaluate_ready.new.words.items in
    let whole = c.evaluate_ready.new.whole.items in
    record {
      held = λ k h. c.put_chain.ensures.held k h ∙ old.held k h;
      swept = λ s. (
          let P : List (List Bool) → Type 0 = λ ws. IsSwept n c.loop-word.now c.loop-word.done.items ws whole in
          let Q : List Bool → Type 0 = λ marks. IsSwept n c.loop-word.now c.loop-word.done.items c.deref-in-loop-word.result.now marks in
          let P2 : List (List Bool) → Type 0 = λ ws. IsSwept n c.put_chain.new.now c.put_chain.new.done.items ws c.deref-in-loop-word-2.result.now in
          let Q2 : List Bool → Type 0 = λ marks. IsSwept n c.put_chain.new.now c.put_chain.new.done.items words marks in
          subst Q2 c.deref-in-loop-word-2.ensures.value (subst P2 c.deref-in-loop-word.ensures.value (c.put_chain.ensures.swept
          (subst Q (sym c.deref-in-loop-word-2.ensures.value) (subst P (sym c.deref-in-loop-word.ensures.value)
          (swept_words n c.loop-word.now c.loop-word.done.items c.loop-word.words.items words c.loop-word.whole.items whole (old.swept s)
          (λ v m. (let R : List Bool → Type 0 = λ marks. AreMarked v c.loop-word.now marks in e.whole v (subst R (sym c.deref.ensures.value) m)))))))));
      size = e.size ∙ old.size;
      count = e.count ∙ old.count;
      marks = c.put_chain.ensures.size ∙ old.marks;
    }
