use Rattle.std.proofs.Common.{◌≡◌, ℕ, suc, ◌+◌, ◌-◌, ◌<◌, List, [], ◌∷◌, ◌++◌, append_assoc, sym, ap, arith, ◌∙◌}
use Rattle.eqy.specs.Netlist.{numbers_from}
use Rattle.eqy.proofs.netlist.numbers.Goals as goal

first_of_rest : (n k : ℕ) → n < k → numbers_from n (k - n) ≡ n ∷ numbers_from (n + 1) (k - (n + 1))
first_of_rest n k lt =
    let more : k - n ≡ suc (k - (n + 1)) = omega arith in
    let next : suc n ≡ n + 1 = omega arith in
    ap (numbers_from n) more ∙ ap (λ m. n ∷ numbers_from m (k - (n + 1))) next

pub loop-number-preserved : goal.loop-number-preserved
loop-number-preserved c =
    let n = c.loop-number.number in
    let k = c.args.count in
    ap (λ (ns : List ℕ). ns ++ numbers_from (n + 1) (k - (n + 1))) c.in_ok-push.ensures.ok
    ∙ append_assoc c.loop-number.numbers (n ∷ []) (numbers_from (n + 1) (k - (n + 1)))
    ∙ ap (λ (ns : List ℕ). c.loop-number.numbers ++ ns) (sym (first_of_rest n k c.loop-number-test.true))
    ∙ c.loop-number.invariant
