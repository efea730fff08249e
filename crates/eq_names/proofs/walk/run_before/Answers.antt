use Rattle.std.proofs.Common.{◌<◌, ℕ, length, take, subst, arith}
use Rattle.eq_names.specs.inner.Segments.{segment_len, IsFirstPlace, IsNowhere, IsLastPlace, IsRunBefore, HasNoRunBefore}
use Rattle.eq_names.proofs.Greedy.{run_before-some, run_before-none, run_last-some, run_last-none}
use Rattle.eq_names.proofs.Stepping.{map_some, map_none}
use Rattle.eq_names.proofs.walk.run_before.Goals as goal

pub returns-then-len-after-clause-some : goal.returns-then-len-after-clause-some
returns-then-len-after-clause-some c =
    let after = c.args.after.now in
    let name = c.args.name.now in
    let len = c.segment_len-len.ensures.value in
    let inner : segment_len after < length after = omega (arith, len, c.if-len-after.true) in
    map_some c.first_place.result (IsFirstPlace (take c.segment_len-len.result after) name) (IsRunBefore after name)
    (λ n h. run_before-some after name n inner (subst (λ (k : ℕ). IsFirstPlace
    (take k after) name n) len h)) c.first_place.ensures.some

pub returns-then-len-after-clause-none : goal.returns-then-len-after-clause-none
returns-then-len-after-clause-none c =
    let after = c.args.after.now in
    let name = c.args.name.now in
    map_none c.first_place.result (IsNowhere (take c.segment_len-len.result after) name) (HasNoRunBefore after name)
    (λ h. run_before-none after name (subst (λ (k : ℕ). IsNowhere
    (take k after) name) c.segment_len-len.ensures.value h)) c.first_place.ensures.none

pub returns-else-len-after-clause-some : goal.returns-else-len-after-clause-some
returns-else-len-after-clause-some c =
    let after = c.args.after.now in
    let name = c.args.name.now in
    map_some c.last_place.result (IsLastPlace after name) (IsRunBefore after name)
    (λ n h. run_last-some after name n (omega (
      arith,
      c.segment_len-len.ensures.value,
      c.if-len-after.false,
    )) h) c.last_place.ensures.some

pub returns-else-len-after-clause-none : goal.returns-else-len-after-clause-none
returns-else-len-after-clause-none c =
    let after = c.args.after.now in
    let name = c.args.name.now in
    map_none c.last_place.result ((n : ℕ) → ¬ IsLastPlace after name n) (HasNoRunBefore after name)
    (λ h. run_last-none after name (omega (
      arith,
      c.segment_len-len.ensures.value,
      c.if-len-after.false,
    )) h) c.last_place.ensures.none
