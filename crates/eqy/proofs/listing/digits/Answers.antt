use Rattle.std.proofs.Common.{◌≡◌, ℕ, suc, ◌+◌, ◌-◌, ◌/◌, ◌%◌, ◌<◌, ◌==◌, List, [], ◌∷◌, ◌++◌, Bool, append_assoc, sym, ap, arith, ◌∙◌}
use Rattle.eqy.specs.Listing.{digits}
use Rattle.eqy.proofs.listing.digits.Goals as goal

first_digit : (n i k : ℕ) → i < n → digits (n - i) k ≡ (k % 2 == 1) ∷ digits (n - (i + 1)) (k / 2)
first_digit n i k lt = ap (λ m. digits m k) (let more : n - i ≡ suc (n - (i + 1)) = omega arith in more)

pub loop-preserved : goal.loop-preserved
loop-preserved c =
    let n = c.args.count in
    let i = c.loop.counter in
    let k = c.loop.rest in
    ap (λ (bs : List Bool). bs ++ digits (n - (i + 1)) (k / 2)) c.in_ok-push.ensures.items
    ∙ append_assoc c.loop.bits.items ((k % 2 == 1) ∷ []) (digits (n - (i + 1)) (k / 2))
    ∙ ap (λ (bs : List Bool). c.loop.bits.items ++ bs) (sym (first_digit n i k c.loop-test.true))
    ∙ c.loop.invariant
