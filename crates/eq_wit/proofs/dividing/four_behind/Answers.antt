use Rattle.std.proofs.Common.{◌≡◌, List, ℕ, Some, arith, sym, ap, ◌∙◌}
use Rattle.eq_wit.proofs.Divisions.{five_of, same_bytes}
use Rattle.eq_wit.proofs.dividing.four_behind.Goals as goal

pub returns : goal.returns
returns c =
    let key : c.at.result.now ≡ c.args.key.now = same_bytes c.at.result.now c.args.key.now (sym c.if-ne.ensures) in
    five_of c.args.words.now c.args.key.now c.at-2.result.now c.at-3.result.now c.at-4.result.now c.at-5.result.now (omega arith)
    (c.at.ensures ∙ ap (λ (word : List ℕ). Some word) key) c.at-2.ensures c.at-3.ensures c.at-4.ensures c.at-5.ensures
