-- The row of a partition, and its line.
use Rattle.std.specs.Prelude.{ℕ, Bool, false, if◌then◌else◌, List, [], ◌∷◌, ◌++◌, codes, decimal, flat_map, slice_index_or}
use Rattle.eq_config.specs.declared.config.Strategy.{Strategy}
use Rattle.eq_induct.specs.declared.types.Decided.{Decided}
use Rattle.eq_induct.specs.declared.types.End.{End}
use Rattle.eq_induct.specs.declared.types.End.TheVariants as end
use Rattle.eq_induct.specs.declared.types.PartVerdict.TheVariants as decided
use Rattle.eq_induct.specs.declared.types.PartVerdict.{PartVerdict}
use Rattle.eq_induct.specs.declared.types.Try.{Try}
use Rattle.eq_part.specs.declared.types.Partition.{Partition}
use Rattle.eq_part.specs.Clashes.{part_name}
use Rattle.eq_compose.specs.declared.types.Cause.{Cause}
use Rattle.eq_compose.specs.declared.types.Cause.TheVariants.{Depth, Conflicts}
use Rattle.eq_compose.specs.declared.types.Row.{Row}
use Rattle.eq_compose.specs.declared.types.Verdict.{Verdict}
use Rattle.eq_compose.specs.declared.types.Verdict.TheVariants.{Proved, Fail, Unknown, Skipped}

-- the strategy of a number, and one without a name beyond the list
abbrev pub numbered_strategy : List Strategy → ℕ → Strategy
numbered_strategy strategies n =
    slice_index_or strategies n (record { name = []; depth = 0; conflicts = 0; apply = [] })

-- ---- rows

-- why a strategy that ended so gave up: it saw nothing up to its depth, or spent its conflicts. None where it decided
abbrev pub cause_of : List Strategy → ℕ → End → List Cause
cause_of strategies n (end.Proved k) = []
cause_of strategies n (end.Fail k) = []
cause_of strategies n end.Deep = Depth n (numbered_strategy strategies n).depth ∷ []
cause_of strategies n end.Spent = Conflicts n (numbered_strategy strategies n).conflicts ∷ []

-- those of all tries, in their order
abbrev pub causes_of : List Strategy → List Try → List Cause
causes_of strategies tries = flat_map (λ t. cause_of strategies t.strategy t.attempt.end) tries

abbrev pub row_verdict : List Strategy → List Try → PartVerdict → Verdict
row_verdict strategies tries (decided.Proved k n) = Proved k n
row_verdict strategies tries (decided.Fail k n) = Fail k n
row_verdict strategies tries decided.Unknown = Unknown (causes_of strategies tries)

-- the row of the partition of this number, for which the strategies came to this
abbrev pub row_of : List Strategy → ℕ → Decided → Row
row_of strategies part d = record {
  part = part;
  verdict = row_verdict strategies d.tries d.verdict;
  kept = false;
  conflicts = d.conflicts;
}

-- ---- lines

-- one of those that gave up, with its limit
abbrev pub cause_text : List Strategy → Cause → List ℕ
cause_text strategies (Depth n depth) = (numbered_strategy strategies n).name ++ codes " depth " ++ decimal depth
cause_text strategies (Conflicts n conflicts) =
    (numbered_strategy strategies n).name ++ codes " conflicts " ++ decimal conflicts

-- `; ` stands before each that follows another one
abbrev pub further_text : List Strategy → List Cause → List ℕ
further_text strategies causes = flat_map (λ cause. codes "; " ++ cause_text strategies cause) causes

abbrev pub causes_text : List Strategy → List Cause → List ℕ
causes_text strategies [] = codes "no strategy applies"
causes_text strategies (cause ∷ causes) = cause_text strategies cause ++ further_text strategies causes

-- taken over from an earlier run
abbrev pub kept_text : Bool → List ℕ
kept_text kept = if kept then codes ", kept" else []

-- by so many cycles and the strategy of this name
abbrev pub decided_text : ℕ → List ℕ → Bool → List ℕ
decided_text k strategy kept = decimal k ++ codes " by " ++ strategy ++ kept_text kept

abbrev pub verdict_text : List Strategy → Bool → Verdict → List ℕ
verdict_text strategies kept (Proved k n) =
    codes "PROVED " ++ decided_text k (numbered_strategy strategies n).name kept
verdict_text strategies kept (Fail k n) = codes "FAIL " ++ decided_text k (numbered_strategy strategies n).name kept
verdict_text strategies kept (Unknown causes) = codes "UNKNOWN " ++ causes_text strategies causes
verdict_text strategies kept Skipped = codes "SKIPPED"

-- what is known of a partition, behind its name and with the line feed
abbrev pub row_line : List Strategy → List Partition → Row → List ℕ
row_line strategies parts row =
    part_name parts row.part ++ codes ": " ++ verdict_text strategies row.kept row.verdict ++ codes "\n"
