use Rattle.std.proofs.Common.{◌≡◌, ◌-◌, List, ℕ, length, take, drop, arith, ap, ◌∙◌}
use Rattle.std.specs.List.{prefix_len}
use Rattle.std.proofs.lemmas.List.{take_rest}
use Rattle.eq_config.specs.Lines.{is_blank, behind_blanks}
use Rattle.eq_config.proofs.LineLemmas.{none_left, word_and_rest, word_is_name}
use Rattle.eq_config.proofs.lines.next_word.Goals as goal

-- the slice behind the blanks
behind : (line : List ℕ) (n : ℕ) → n ≡ prefix_len is_blank line → take (length line - n) (drop n line) ≡ behind_blanks line
behind line n e = take_rest line n ∙ ap (λ (k : ℕ). drop k line) e

pub returns-then-end-eq0-clause-word : goal.returns-then-end-eq0-clause-word
returns-then-end-eq0-clause-word c =
    none_left c.args.line.now _ c.word_len-end.result (behind c.args.line.now c.blanks_before.result c.blanks_before.ensures.value)
    c.word_len-end.ensures.value c.if-end-eq0.true

pub returns-clause-word : goal.returns-clause-word
returns-clause-word c =
    word_and_rest c.args.line.now _ c.word_len-end.result (behind c.args.line.now c.blanks_before.result c.blanks_before.ensures.value)
    c.word_len-end.ensures.value (omega arith)

pub returns-clause-name : goal.returns-clause-name
returns-clause-name c =
    word_is_name c.args.line.now _ c.word_len-end.result (behind c.args.line.now c.blanks_before.result c.blanks_before.ensures.value)
    c.requires c.word_len-end.ensures.value (omega arith)
