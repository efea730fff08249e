use Rattle.std.proofs.Common.{◌≡◌, ℕ, ◌++◌, List, [], length, drop, subst, sym, ap, ◌∙◌, append_assoc, arith}
use Rattle.std.proofs.lemmas.List.{append-nil}
use Rattle.eq_names.specs.declared.span.Span.{Span}
use Rattle.eq_names.specs.Divisions.{IsDivided, AreSpans, span_of}
use Rattle.eq_names.proofs.Stepping.{run_within, still_divided, more_spans, all_taken, no_more_spans}
use Rattle.eq_names.proofs.walk.spans.Goals as goal

pub loop-i-preserved : goal.loop-i-preserved
loop-i-preserved c =
    let pieces = c.args.pieces.now in
    let name = c.args.name.now in
    let i = c.loop-i.i in
    let at = c.loop-i.at in
    let n = c.in-Some.len in
    let run = c.in-Some.ensures.some in
    let p = c.index-pieces-i.result in
    let is = c.index-pieces-i.is in
    let inside = c.loop-i-test.true in
    let within = c.loop-i.invariant.within in
    record {
      within = run_within pieces name i at n p inside is within run;
      left = λ d. still_divided pieces name i at n p inside is within run (c.loop-i.invariant.left d);
      whole = λ more s.
          let there = c.loop-i.invariant.whole (span_of p at n ++ more)
          (more_spans pieces name i at n p inside is within more run s) in
          let joined : c.put_span.new.spans ++ more ≡ c.loop-i.spans ++ (span_of p at n ++ more) =
          ap (λ (l : List Span). l ++ more) c.in_ok-put_span.ensures
          ∙ append_assoc c.loop-i.spans (span_of p at n) more in
          subst (λ (l : List Span). AreSpans pieces name 0 l) (sym joined) there;
    }

pub returns-then-at-name-clause-some : goal.returns-then-at-name-clause-some
returns-then-at-name-clause-some c =
    let pieces = c.args.pieces.now in
    let name = c.args.name.now in
    let at = c.loop-i.at in
    let end : c.loop-i.i ≡ length pieces = omega (arith, c.loop-i-test.false, c.loop-i.auto.i-end) in
    let P : ℕ → Type 0 = λ i. (more : List Span) → AreSpans (drop i pieces) (drop at name) at more →
    AreSpans pieces name 0 (c.loop-i.spans ++ more) in
    let whole = subst P end c.loop-i.invariant.whole in
    let all = whole [] (no_more_spans pieces name at c.loop-i.invariant.within (omega (arith, c.if-at-name.true))) in
    subst (λ (l : List Span). AreSpans pieces name 0 l) (append-nil c.loop-i.spans) all

pub returns-else-at-name-clause-none : goal.returns-else-at-name-clause-none
returns-else-at-name-clause-none c =
    let pieces = c.args.pieces.now in
    let name = c.args.name.now in
    let at = c.loop-i.at in
    let end : c.loop-i.i ≡ length pieces = omega (arith, c.loop-i-test.false, c.loop-i.auto.i-end) in
    λ d.
    let left = subst (λ (i : ℕ). IsDivided (drop i pieces) (drop at name)) end (c.loop-i.invariant.left d) in
    let same = all_taken pieces name at c.loop-i.invariant.within left in
    c.if-at-name.false same
