use Rattle.std.proofs.Common.{◌≡◌, ℕ, length, drop, subst, arith, eq-eqb}
use Rattle.std.proofs.lemmas.Bool.{eqb-true}
use Rattle.eq_names.specs.Divisions.{IsDivided}
use Rattle.eq_names.proofs.Stepping.{run_within, still_divided, was_divided, ends_divided, all_taken}
use Rattle.eq_names.proofs.walk.is_divided.Goals as goal

pub loop-i-preserved : goal.loop-i-preserved
loop-i-preserved c =
    let pieces = c.args.pieces.now in
    let name = c.args.name.now in
    let i = c.loop-i.i in
    let at = c.loop-i.at in
    let run = c.in-Some.ensures.some in
    let p = c.index-pieces-i.result in
    let is = c.index-pieces-i.is in
    let inside = c.loop-i-test.true in
    let within = c.loop-i.invariant.within in
    record {
      within = run_within pieces name i at c.in-Some.len p inside is within run;
      same = (
        λ d. c.loop-i.invariant.same.0 (was_divided pieces name i at c.in-Some.len p inside is within run d),
        λ d. still_divided pieces name i at c.in-Some.len p inside is within run (c.loop-i.invariant.same.1 d),
      );
    }

pub returns : goal.returns
returns c =
    let pieces = c.args.pieces.now in
    let name = c.args.name.now in
    let at = c.loop-i.at in
    let within = c.loop-i.invariant.within in
    let end : c.loop-i.i ≡ length pieces = omega (arith, c.loop-i-test.false, c.loop-i.auto.i-end) in
    let P : ℕ → Type 0 = λ i. (IsDivided (drop i pieces) (drop at name) →
    IsDivided pieces name) × (IsDivided pieces name → IsDivided (drop i pieces) (drop at name)) in
    let same = subst P end c.loop-i.invariant.same in (
      λ t. same.0 (ends_divided pieces name at within (eqb-true at (length name) t)),
      λ d. eq-eqb at (length name) (all_taken pieces name at within (same.1 d)),
    )
