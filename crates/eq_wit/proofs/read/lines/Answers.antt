use Rattle.std.proofs.Common.{List, ℕ, ◌∷◌, arith, ap, subst, length, length-append}
use Rattle.eq_wit.specs.inner.Counting.{IsAt}
use Rattle.eq_wit.proofs.ReadLemmas.{begins, empty_by}
use Rattle.eq_wit.proofs.read.lines.Goals as goal

pub loop-rest-init : goal.loop-rest-init
loop-rest-init c = record {
  at = begins c.args.text.now c.args.behind.now c.requires.title;
  counts = c.in_ok-room.ensures;
}

pub without_feed-requires-clause-fits : goal.without_feed-requires-clause-fits
without_feed-requires-clause-fits c = omega (arith, c.loop-rest.invariant.at.within, c.requires.short)

pub one_line-requires-clause-at : goal.one_line-requires-clause-at
one_line-requires-clause-at c = subst (λ (t : List ℕ). IsAt c.args.text.now c.loop-rest.state c.loop-rest.line t)
    c.in-Some.ensures.0 c.loop-rest.invariant.at

pub one_line-requires-clause-fits : goal.one_line-requires-clause-fits
one_line-requires-clause-fits c = omega (arith, c.loop-rest.invariant.at.within, c.requires.short)

pub loop-rest-preserved : goal.loop-rest-preserved
loop-rest-preserved c = record { at = c.in-Ok.ensures.further; counts = c.in-Ok.ensures.kept }

pub loop-rest-smaller : goal.loop-rest-smaller
loop-rest-smaller c = omega (
  arith,
  ap length c.in-Some.ensures.0,
  length-append c.in-Some.bytes.now (10 ∷ c.in-Some.after.now),
)

pub overflow_add-line : goal.overflow_add-line
overflow_add-line c = omega (arith, c.loop-rest.invariant.at.within, c.requires.short)

pub finished-requires-clause-at : goal.finished-requires-clause-at
finished-requires-clause-at c = subst (λ (t : List ℕ). IsAt c.args.text.now c.loop-rest.state c.loop-rest.line t)
    (empty_by c.loop-rest.rest.now (omega arith)) c.loop-rest.invariant.at

pub finished-requires-clause-fits : goal.finished-requires-clause-fits
finished-requires-clause-fits c = omega (arith, c.loop-rest.invariant.at.within, c.requires.short)
