-- The lines of a log beside LRAT.
use Rattle.std.specs.Prelude.{◌≡◌, ℕ, List}
use Rattle.eq_proof.specs.Inference.{Inference}
use Rattle.eq_proof.specs.Lrat.{lrat_text}
use Rattle.eq_wit.specs.Line.{lines_text}
use Rattle.eq_wit.specs.Texts.{log_lines}

-- the lines of a log are its LRAT text
abbrev pub LogsAreLrat : Type 0
LogsAreLrat = (n : ℕ) (log : List Inference) → lines_text (log_lines n log) ≡ lrat_text n log
