-- What all rows come to, and the lines that close a report.
use Rattle.std.specs.Prelude.{ℕ, Bool, true, false, if◌then◌else◌, List, ◌++◌, codes, count_by, decimal, sum_by}
use Rattle.std.specs.List.{list_all, list_any}
use Rattle.eq_compose.specs.declared.types.Row.{Row}
use Rattle.eq_compose.specs.declared.types.Verdict.{Verdict}
use Rattle.eq_compose.specs.declared.types.Verdict.TheVariants.{Proved, Fail, Unknown, Skipped}
use Rattle.eq_compose.specs.declared.types.Whole.{Whole}
use Rattle.eq_compose.specs.declared.types.Whole.TheVariants as whole
use Rattle.eq_compose.specs.Rows.{is_failure, is_proof}
use Rattle.eq_report.specs.declared.closing.Counts.{Counts}
use Rattle.eq_report.specs.declared.status.Status.{Status}
use Rattle.eq_report.specs.declared.status.Status.TheVariants as status

-- the verdict is unknown, and it is skipped

abbrev pub is_unknown_verdict : Verdict → Bool
is_unknown_verdict (Proved k n) = false
is_unknown_verdict (Fail k n) = false
is_unknown_verdict (Unknown causes) = true
is_unknown_verdict Skipped = false

abbrev pub is_skipped_verdict : Verdict → Bool
is_skipped_verdict (Proved k n) = false
is_skipped_verdict (Fail k n) = false
is_skipped_verdict (Unknown causes) = false
is_skipped_verdict Skipped = true

abbrev pub conflicts_of : List Row → ℕ
conflicts_of rows = sum_by (λ row. row.conflicts) rows

-- how many rows say what, and how many clauses all of them learned
abbrev pub counts_of : List Row → Counts
counts_of rows = record {
  proved = count_by (λ row. is_proof row.verdict) rows;
  failed = count_by (λ row. is_failure row.verdict) rows;
  unknown = count_by (λ row. is_unknown_verdict row.verdict) rows;
  skipped = count_by (λ row. is_skipped_verdict row.verdict) rows;
  conflicts = conflicts_of rows;
}

-- what the rows say together
abbrev pub whole_of : List Row → Whole
whole_of rows =
    if list_any (λ row. is_failure row.verdict) rows then whole.Fail
    else (if list_all (λ row. is_proof row.verdict) rows then whole.Pass else whole.Unknown)

abbrev pub counts_line : Counts → List ℕ
counts_line counts = codes "proved " ++ decimal counts.proved ++ codes ", failed " ++ decimal counts.failed
    ++ codes ", unknown " ++ decimal counts.unknown ++ codes ", skipped " ++ decimal counts.skipped
    ++ codes ", conflicts " ++ decimal counts.conflicts ++ codes "\n"

abbrev pub whole_line : Whole → List ℕ
whole_line whole.Pass = codes "PASS\n"
whole_line whole.Fail = codes "FAIL\n"
whole_line whole.Unknown = codes "UNKNOWN\n"

abbrev pub closing_lines : Counts → Whole → List ℕ
closing_lines counts whole = counts_line counts ++ whole_line whole

-- the number with which the program ends
abbrev pub status_number : Status → ℕ
status_number (status.Ended whole.Pass) = 0
status_number (status.Ended whole.Fail) = 2
status_number (status.Ended whole.Unknown) = 4
status_number status.Refused = 16
status_number status.Fault = 17
status_number status.NoMemory = 18
