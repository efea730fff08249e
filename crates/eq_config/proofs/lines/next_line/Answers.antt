use Rattle.std.proofs.Common.{◌+◌, ◌-◌, ◌∷◌, ◌<◌, length, drop, take, sym, arith, ◌∙◌, ap}
use Rattle.std.specs.Str.Lines.{lines}
use Rattle.eq_config.proofs.LineLemmas.{last_line, first_line}
use Rattle.eq_config.proofs.lines.next_line.Goals as goal

pub returns-then-len-text-clause-line : goal.returns-then-len-text-clause-line
returns-then-len-text-clause-line c =
    last_line c.args.text.now c.line_len-len.result c.requires c.line_len-len.ensures.value c.if-len-text.true

pub returns-clause-line : goal.returns-clause-line
returns-clause-line c =
    let text = c.args.text.now in
    let n = c.line_len-len.result in
    let within : n < length text = omega arith in
    first_line text n c.line_len-len.ensures.value within
    ∙ ap (λ line. line ∷ lines (take (length text - (n + 1)) (drop (n + 1) text))) (sym c.without_return.ensures)
