use Rattle.std.proofs.Common.{◌≡◌, ℕ, Bool, cond, Some, slice_get, IsTrue, ap₂, ◌+◌, ◌≤◌, ◌↔◌, max, List, length, take, arith, sym, ◌∙◌, subst, below_more}
use Rattle.std.specs.Prelude.{All}
use Rattle.eq_proof.specs.Literal.{Literal}
use Rattle.std.proofs.lemmas.Bool.Decides.{nat_tests}
use Rattle.std.proofs.lemmas.List.{take_all}
use Rattle.eq_proof.specs.Inference.{Inference}
use Rattle.eq_proof.specs.Derivation.{DerivesAt, EndsEmpty, nonempty_of, IsDerivation}
use Rattle.eq_proof.proofs.Lists.{All-at}
use Rattle.eq_proof.proofs.Soundness.{refutation}
use Rattle.eq_proof.proofs.Checking.{clause_at, below_from_bound, before_below, nonempty_more, ends_more}
use Rattle.eq_proof.proofs.checker.check.Goals as goal

pub derives-requires-clause-clause_below : goal.derives-requires-clause-clause_below
derives-requires-clause-clause_below c =
    let size : c.loop-index.trail.size ≡ max c.args.f.now.vars c.highest.result + 1 = omega (arith, c.loop-index.invariant.size, c.in_ok-trail.ensures.size, c.max-most.ensures) in
    let bound = All-at (All (λ (l : Literal). l.var ≤ c.highest.result)) _ c.loop-index.index _ (clause_at c.args.log.now c.loop-index.index _ c.at-step.ensures.step) c.highest.ensures in
    below_from_bound c.highest.result c.loop-index.trail.size _ (omega arith) bound

pub derives-requires-clause-before_below : goal.derives-requires-clause-before_below
derives-requires-clause-before_below c =
    let size : c.loop-index.trail.size ≡ max c.args.f.now.vars c.highest.result + 1 = omega (arith, c.loop-index.invariant.size, c.in_ok-trail.ensures.size, c.max-most.ensures) in
    rw c.new-before.ensures (before_below c.args.f.now.clauses c.args.log.now c.loop-index.index c.args.f.now.vars c.highest.result c.loop-index.trail.size size c.args.f.now.within c.highest.ensures)

pub loop-index-preserved : goal.loop-index-preserved
loop-index-preserved c =
    let log = c.args.log.now in
    let index = c.loop-index.index in
    let step : Inference = record { clause = c.at-step.result.clause.now; ants = c.at-step.result.ants.now } in
    let at : slice_get log index ≡ Some step = c.at-step.ensures.step in
    let P : List (List Literal) → Type 0 = λ before. IsDerivation before step in
    let derived : DerivesAt c.args.f.now.clauses log index = (step, at, subst P c.new-before.ensures (c.in_ok-derives.ensures.answer.0 c.if-not-branch.false)) in
    let count = c.counted-checked.ensures in
    let nonempty : c.counted-checked.result.nonempty ≡ nonempty_of (take (index + 1) log) =
    count.nonempty ∙ ap₂ (λ n b. n + cond {A = ℕ} b 0 1) c.loop-index.invariant.nonempty c.is_empty.ensures ∙ sym (nonempty_more log index step at) in
    let few : cond {A = ℕ} c.is_empty.result 0 1 ≤ 1 = grind (arith, nat_tests) in
    let Q : Bool → Type 0 = λ b. IsTrue b ↔ EndsEmpty (take (index + 1) log) in
    record {
      size = c.derives.ensures.size ∙ c.loop-index.invariant.size;
      empty = c.in_ok-derives.ensures.empty;
      derived = below_more _ _ c.loop-index.invariant.derived derived;
      nonempty = nonempty;
      few = omega (arith, count.nonempty, c.loop-index.invariant.few);
      ends = subst Q (sym (count.ends ∙ c.is_empty.ensures)) (ends_more log index step at);
    }

pub returns-clause-refuted : goal.returns-clause-refuted
returns-clause-refuted c =
    let end : length c.args.log.now ≤ c.loop-index.index = omega arith in
    let P : List Inference → Type 0 = EndsEmpty in
    λ ends. refutation c.args.f.now.clauses c.args.log.now (λ k h. c.loop-index.invariant.derived k (omega arith))
    (subst P (take_all c.loop-index.index c.args.log.now end) (c.loop-index.invariant.ends.0 ends))
