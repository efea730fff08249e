use Rattle.std.proofs.Common.{◌≡◌, ◌<◌, ℕ, ◌+◌, ◌∷◌, ◌++◌, List, length, take, arith, subst, sym}
use Rattle.std.proofs.lemmas.List.{take_rest}
use Rattle.eq_wit.specs.inner.Judging.{HasNoFeed}
use Rattle.eq_wit.proofs.Divisions.{feed_at, no_feed_before}
use Rattle.eq_wit.proofs.dividing.next_line.Goals as goal

pub returns-then-len-text : goal.returns-then-len-text
returns-then-len-text c = no_feed_before c.args.text.now c.len_before-len.result c.len_before-len.ensures.value c.if-len-text.true

pub returns : goal.returns
returns c =
    let text = c.args.text.now in
    let n = c.len_before-len.result in
    let within : n < length text = omega arith in
    subst (λ (rest : List ℕ). (text ≡ take n text ++ 10 ∷ rest) × HasNoFeed (take n text)) (sym (take_rest text (n + 1)))
    (feed_at text n c.len_before-len.ensures.value within)
