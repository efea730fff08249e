use Rattle.std.proofs.Common.{◌≡◌, ◌<◌, ℕ, ◌+◌, ◌∷◌, List, length, take, arith, subst, sym}
use Rattle.std.proofs.lemmas.List.{take_rest}
use Rattle.eq_wit.specs.inner.Judging.{words_in}
use Rattle.eq_wit.proofs.Divisions.{blank_at, no_blank_at}
use Rattle.eq_wit.proofs.dividing.cut.Goals as goal

pub returns-then-len-line-clause-none : goal.returns-then-len-line-clause-none
returns-then-len-line-clause-none c = no_blank_at c.args.line.now c.len_before-len.result c.len_before-len.ensures.value c.if-len-line.true

pub returns-clause-some : goal.returns-clause-some
returns-clause-some c =
    let line = c.args.line.now in
    let n = c.len_before-len.result in
    let within : n < length line = omega arith in
    subst (λ (rest : List ℕ). words_in line ≡ take n line ∷ words_in rest) (sym (take_rest line (n + 1)))
    (blank_at line n c.len_before-len.ensures.value within)
