use Rattle.std.proofs.Common.{sym}
use Rattle.eq_proof.proofs.WordLists.{goes_on_last}
use Rattle.eq_proof.proofs.words.goes_on.Goals as goal

pub returns-in-Some : goal.returns-in-Some
returns-in-Some c =
    let both = goes_on_last c.args.clause.now c.in-Some.last.now c.args.l c.requires (sym c.in-Some.ensures.value) in
    (λ yes'. both.0 (c.is_before.ensures.0 yes'), λ clause. c.is_before.ensures.1 (both.1 clause))
