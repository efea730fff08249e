use Rattle.std.proofs.Common.{◌≡◌, ℕ, List, ◌∷◌, arith, sym, ap, ◌∙◌}
use Rattle.std.specs.Prelude.{drop}
use Rattle.std.specs.Fmt.{decimal}
use Rattle.std.proofs.lemmas.Bool.Decides.{nat_tests}
use Rattle.eq_wit.proofs.StepLemmas.{drop_here, one_number}
use Rattle.eq_wit.proofs.steps.is_numbered.Goals as goal

pub returns-in-Some : goal.returns-in-Some
returns-in-Some c =
    let ws = c.args.words.now in
    let word = c.at.result.now in
    let there : ws ≡ word ∷ drop 1 ws = drop_here ws 0 word c.at.ensures in (
      λ yes'.
          let same : c.in-Some.found ≡ c.args.n = grind (arith, nat_tests, yes') in (
            drop 1 ws,
            there ∙ ap (λ (w : List ℕ). w ∷ drop 1 ws) (c.in-Some.ensures.some ∙ ap decimal same),
          ),
      λ h.
          let both : word ∷ drop 1 ws ≡ decimal c.args.n ∷ h.0 = sym there ∙ h.1 in
          let first : word ≡ decimal c.args.n = cc (both) in
          let same : c.in-Some.found ≡ c.args.n = one_number c.in-Some.found c.args.n (omega arith) (omega arith)
          (sym c.in-Some.ensures.some ∙ first) in
          grind (arith, nat_tests, same),
    )
