use Rattle.std.proofs.Common.{arith, inl, inr}
use Rattle.std.proofs.lemmas.Bool.{cases_lt}
use Rattle.eq_names.proofs.Stepping.{fits-late}
use Rattle.eq_names.proofs.walk.first_place.Goals as goal

pub returns-then-name-segment-clause-none : goal.returns-then-name-segment-clause-none
returns-then-name-segment-clause-none c =
    λ m within. fits-late c.args.segment.now c.args.name.now m within (omega (arith, c.if-name-segment.true))

pub returns-clause-none : goal.returns-clause-none
returns-clause-none c =
    λ m within. elim (cases_lt m c.loop-at.at) [
      | inl below ↦ c.loop-at.invariant m below
      | inr above ↦ fits-late c.args.segment.now c.args.name.now m within (omega (
        arith,
        above,
        c.loop-at-test.false,
        c.if-name-segment.false,
      ))
    ]
