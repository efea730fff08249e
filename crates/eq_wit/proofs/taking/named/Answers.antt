use Rattle.std.proofs.Common.{◌≡◌, ◌≤◌, ℕ, List, [], arith, refl, ap, ◌∙◌}
use Rattle.std.specs.Prelude.{codes}
use Rattle.eq_bits.specs.declared.node.Node.{Node}
use Rattle.eq_bits.specs.declared.part.Output.{Output}
use Rattle.eq_wit.specs.declared.state.Draft.{Draft}
use Rattle.eq_wit.specs.declared.state.State.{State}
use Rattle.eq_wit.specs.declared.state.State.TheVariants as state
use Rattle.eq_wit.specs.inner.Reading.{begun, count_line}
use Rattle.eq_wit.proofs.TakeLemmas.{stopped_here}
use Rattle.eq_wit.proofs.taking.named.Goals as goal

pub returns-in-Ok : goal.returns-in-Ok
returns-in-Ok c =
    let made : List (List ℕ) → List Node → List Output → State = λ xs ys zs.
    let d : Draft = record { name = c.args.name; inputs = xs; nodes = ys; outputs = zs } in state.Inputs d c.in-Ok.left in
    let same : made c.new.result c.new-in-Ok.result c.new-in-Ok-2.result ≡ made [] [] [] =
    ap (λ (xs : List (List ℕ)). made xs c.new-in-Ok.result c.new-in-Ok-2.result) c.new.ensures
    ∙ ap (λ (ys : List Node). made [] ys c.new-in-Ok-2.result) c.new-in-Ok.ensures
    ∙ ap (made [] []) c.new-in-Ok-2.ensures in (
      count_line (codes "inputs") c.in-Ok.left,
      (c.in-Ok.left, omega (arith, c.in-Ok.ensures.fits), refl, same),
      c.in-Ok.ensures.words,
    )

pub returns-in-Err : goal.returns-in-Err
returns-in-Err c = stopped_here (state.Named c.args.name) (count_line (codes "inputs")) (λ (n : ℕ). n ≤ 4294967295)
    (λ n. state.Inputs (begun c.args.name) n) c.args.words.now (λ n h. (n, omega (arith, h), refl, refl))
    c.in-Err.stop (λ l next f. (f.0, omega (arith, f.1), f.2)) (λ t e. cc (e)) (λ x fits form again. again) c.in-Err.ensures
