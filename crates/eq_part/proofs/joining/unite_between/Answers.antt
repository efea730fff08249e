use Rattle.std.proofs.Common.{◌≡◌, ◌<◌, ◌↔◌, true, ℕ, List, Bool, length, subst, sym}
use Rattle.std.proofs.lemmas.Result.{IfOk-weaker}
use Rattle.eq_model.specs.Frames.{values}
use Rattle.eq_net.specs.Net.{Parts}
use Rattle.eq_match.specs.declared.types.Pair.{Pair}
use Rattle.eq_net.specs.Whole.{parts_of}
use Rattle.eq_match.specs.Groups.{TellsHits}
use Rattle.eq_match.specs.Leaders.{one_leader}
use Rattle.eq_part.specs.Reach.{LiesBetween}
use Rattle.eq_part.specs.inner.Visits.{AreLed}
use Rattle.eq_part.proofs.OnPath.{leaders_led, on_the_path, path_filled}
use Rattle.eq_part.proofs.joining.unite_between.Goals as goal

pub on_path-requires-clause-led : goal.on_path-requires-clause-led
on_path-requires-clause-led c =
    subst (AreLed (parts_of c.args.gold.now) c.args.pairs.now) (sym c.leaders-leaders.ensures.value)
    (leaders_led (parts_of c.args.gold.now) c.args.pairs.now c.args.state c.requires.state c.requires.bits)

told : (gold : Parts) (pairs : List Pair) (classes leaders : List ℕ) (starts ends : ℕ → Bool) (marks slice : List Bool) →
    leaders ≡ classes → slice ≡ marks →
    ((i : ℕ) → i < length pairs → (values marks i ≡ true) ↔ LiesBetween gold pairs (one_leader leaders) starts ends i) →
    (i : ℕ) → i < length pairs → (values slice i ≡ true) ↔ LiesBetween gold pairs (one_leader classes) starts ends i
told gold pairs classes leaders starts ends marks slice one same bits =
    subst (λ (ls : List ℕ). (i : ℕ) → i < length pairs → (values slice i ≡ true) ↔ LiesBetween gold pairs (one_leader ls) starts ends i) one
    (subst (λ (m : List Bool). (i : ℕ) → i < length pairs → (values m i ≡ true) ↔ LiesBetween gold pairs (one_leader leaders) starts ends i)
    (sym same) bits)

pub unite-requires-clause-marks : goal.unite-requires-clause-marks
unite-requires-clause-marks c =
    let gold = parts_of c.args.gold.now in
    path_filled gold c.args.pairs.now c.args.state c.requires.state (values c.as_slice.result.now) (values c.as_slice-2.result.now)
    (values c.as_slice-3.result.now)
    (told gold c.args.pairs.now c.args.state.classes c.leaders-leaders.result.now (values c.as_slice.result.now)
    (values c.as_slice-2.result.now) c.in_ok-marks.marks c.as_slice-3.result.now c.leaders-leaders.ensures.value
    c.as_slice-3.ensures c.in_ok-marks.ensures.ok)

pub returns-clause-line : goal.returns-clause-line
returns-clause-line c =
    let gold = parts_of c.args.gold.now in
    let starts = values c.as_slice.result.now in let ends = values c.as_slice-2.result.now in
    let tells = told gold c.args.pairs.now c.args.state.classes c.leaders-leaders.result.now (values c.as_slice.result.now)
    (values c.as_slice-2.result.now) c.in_ok-marks.marks c.as_slice-3.result.now c.leaders-leaders.ensures.value
    c.as_slice-3.ensures c.in_ok-marks.ensures.ok in
    let first = subst (λ (h : List Bool). TellsHits gold c.args.pairs.now c.args.from.now (values h)) (sym c.as_slice.ensures)
    c.in_ok-starts.ensures.hits in
    let last = subst (λ (h : List Bool). TellsHits gold c.args.pairs.now c.args.to.now (values h)) (sym c.as_slice-2.ensures)
    c.in_ok-ends.ensures.hits in
    IfOk-weaker c.unite.result _ _ (λ after united. (
      values c.as_slice-3.result.now,
      on_the_path gold c.args.pairs.now c.args.state c.requires.state starts ends (values c.as_slice-3.result.now) tells
          c.args.from.now c.args.to.now first last,
      united,
    )) c.unite.ensures.united
