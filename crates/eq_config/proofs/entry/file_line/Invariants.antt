use Rattle.std.proofs.Common.{◌≡◌, ◌++◌, length}
use Rattle.std.specs.Prelude.{All}
use Rattle.eq_config.specs.Lines.{IsText, words}
use Rattle.eq_config.specs.Words.{IsFileWord}
use Rattle.eq_config.proofs.entry.file_line.Given as goal

-- the files so far, and the words that are left
abbrev pub invariant-loop-word : goal.invariant-loop-word
invariant-loop-word l = IsText l.rest × (words l.line ≡ l.files ++ words l.rest) × All IsFileWord l.files

abbrev pub decreases-loop-word : goal.decreases-loop-word
decreases-loop-word l = length l.rest
