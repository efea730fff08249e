-- The strategies, partitions and rows of the examples.
use Rattle.std.specs.Prelude.{ℕ, false, true, List, [], ◌∷◌, codes}
use Rattle.eq_config.specs.declared.config.Strategy.{Strategy}
use Rattle.eq_induct.specs.declared.types.Decided.{Decided}
use Rattle.eq_induct.specs.declared.types.End.{End}
use Rattle.eq_induct.specs.declared.types.PartVerdict.{PartVerdict}
use Rattle.eq_induct.specs.declared.types.Try.{Try}
use Rattle.eq_part.specs.declared.types.Partition.{Partition}
use Rattle.eq_compose.specs.declared.types.Row.{Row}
use Rattle.eq_compose.specs.declared.types.Verdict.{Verdict}

abbrev pub limited : List ℕ → ℕ → ℕ → Strategy
limited name depth conflicts = record { name = name; depth = depth; conflicts = conflicts; apply = [] }

-- of depth 3 with 20,000 conflicts
abbrev pub one_strategy : List Strategy
one_strategy = limited (codes "s") 3 20000 ∷ []

-- the first with one conflict
abbrev pub two_strategies : List Strategy
two_strategies = limited (codes "s") 3 1 ∷ limited (codes "t") 3 20000 ∷ []

abbrev pub named_part : List ℕ → Partition
named_part name = record { name = name; outputs = [] }

abbrev pub y_alone : List Partition
y_alone = named_part (codes "y") ∷ []

abbrev pub y_and_n : List Partition
y_and_n = named_part (codes "y") ∷ named_part (codes "n") ∷ []

-- a row that this run decided
abbrev pub fresh_row : ℕ → Verdict → ℕ → Row
fresh_row q verdict conflicts = record { part = q; verdict = verdict; kept = false; conflicts = conflicts }

abbrev pub kept_row : ℕ → Verdict → ℕ → Row
kept_row q verdict conflicts = record { part = q; verdict = verdict; kept = true; conflicts = conflicts }

-- an attempt of which only the end is told
abbrev pub ended_try : ℕ → End → Try
ended_try n e = record { strategy = n; attempt = record { asked = []; end = e } }

abbrev pub came_to : List Try → PartVerdict → ℕ → Decided
came_to tries verdict conflicts = record { tries = tries; verdict = verdict; conflicts = conflicts }
