use Rattle.std.proofs.Common.{◌≤◌, ℕ, List, arith, refl, ap₂}
use Rattle.std.specs.Prelude.{codes}
use Rattle.eq_bits.specs.declared.part.Part.{Part}
use Rattle.eq_induct.specs.declared.types.Try.{Try}
use Rattle.eq_wit.specs.declared.state.State.TheVariants as state
use Rattle.eq_wit.specs.declared.state.Tally.{Tally}
use Rattle.eq_wit.specs.declared.types.Head.{Head}
use Rattle.eq_wit.specs.inner.Reading.{count_line, untried}
use Rattle.eq_wit.proofs.GoesOn.{make_part}
use Rattle.eq_wit.proofs.TakeLemmas.{stopped_here}
use Rattle.eq_wit.proofs.taking.outputs_over.Goals as goal

pub returns-in-Ok : goal.returns-in-Ok
returns-in-Ok c = (
  count_line (codes "attempts") c.in-Ok.left,
  (
    (c.whole.result, c.in-Ok.left),
    (c.whole.ensures, omega (arith, c.in-Ok.ensures.fits)),
    refl,
    ap₂ (λ (heads : List Head) (tries : List Try).
        let t : Tally = record {
          part = c.whole.result;
          heads = heads;
          tries = tries;
          conflicts = 0;
          left =
              c.in-Ok.left;
        } in
        state.Tries t) c.new.ensures c.new-in-Ok.ensures,
  ),
  c.in-Ok.ensures.words,
)

pub returns-in-Err : goal.returns-in-Err
returns-in-Err c =
    let d = c.args.draft in
    let part : Part = record {
      name = d.name;
      inputs = d.inputs;
      nodes = d.nodes;
      outputs = d.outputs;
      is_part = make_part d c.requires;
    } in
    stopped_here (state.Outputs d 0) (count_line (codes "attempts")) (λ (n : ℕ). n ≤ 4294967295)
    (λ n. state.Tries (untried part n)) c.args.words.now
    (λ n h. (
      (part, n),
      (
        record { name = refl; inputs = refl; nodes = refl; outputs = refl },
        omega
            (arith, h),
      ),
      refl,
      refl,
    ))
    c.in-Err.stop (λ l next f. (f.0.1, omega (arith, f.1.1), f.2)) (λ t e. cc (e)) (λ x fits form again. again)
    c.in-Err.ensures
