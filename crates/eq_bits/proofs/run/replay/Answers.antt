use Rattle.std.proofs.Common.{◌≡◌, ℕ, List, length, ◌<◌, ◌-◌, ◌+◌, arith, subst, sym, inl, inr}
use Rattle.std.proofs.lemmas.Bool.{cases_lt}
use Rattle.eq_model.specs.Frames.{values}
use Rattle.eq_model.specs.Part.{PartSame}
use Rattle.eq_bits.specs.declared.part.Output.{Output}
use Rattle.eq_bits.specs.Replay.{meaning}
use Rattle.eq_bits.specs.inner.Replaying.{HasCycle, IsFirstOutput, IsSameAt}
use Rattle.eq_bits.proofs.Replays.{same_in_run, differs_in_run}
use Rattle.eq_bits.proofs.run.replay.Goals as goal

pub returns-in-Some-clause-found : goal.returns-in-Some-clause-found
returns-in-Some-clause-found c =
    let P : List Output → Type 0 = λ outputs. IsFirstOutput outputs (values c.advance.new.scratch) c.in-Some.output in
    λ x is. differs_in_run c.args.part.now c.args.run.now c.loop-c.c c.advance.new.scratch c.advance.ensures.cycle x
    is c.in-Some.output
    (omega arith) (subst P c.as_slice.ensures c.in-Some.ensures.found) (c.loop-c.invariant.same x is)

pub loop-c-preserved : goal.loop-c-preserved
loop-c-preserved c =
    let part = c.args.part.now in
    let i = c.loop-c.c in
    let now = c.advance.new.scratch in
    let less : i + 1 - 1 ≡ i = omega arith in
    let P : ℕ → Type 0 = λ k. HasCycle part c.args.run.now k now in
    let Q : List Output → Type 0 = λ outputs. (o : ℕ) → o < length outputs → IsSameAt outputs (values now) o in
    record {
      size = omega arith;
      before = λ _. subst P (sym less) c.advance.ensures.cycle;
      same = λ x is e up_to. elim (cases_lt e i) [
        | inl earlier ↦ c.loop-c.invariant.same x is e earlier
        | inr later ↦ (
            let here : i ≡ e = omega arith in
            let R : ℕ → Type 0 = λ k. PartSame (meaning part) (x k) in
            subst R here (λ o there. same_in_run part c.args.run.now i now c.advance.ensures.cycle x is o there
            (subst Q c.as_slice.ensures c.in_default.ensures.none o there)))
      ];
    }

pub returns-clause-none : goal.returns-clause-none
returns-clause-none c = λ x is e there. c.loop-c.invariant.same x is e (let end = c.len-c-end.ensures in omega arith)
