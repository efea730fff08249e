-- The whole output of a run that isn't refused.
use Rattle.std.specs.Prelude.{ℕ, List, ◌++◌, flat_map}
use Rattle.eq_config.specs.declared.config.Strategy.{Strategy}
use Rattle.eq_part.specs.declared.types.Partition.{Partition}
use Rattle.eq_compose.specs.declared.types.Row.{Row}
use Rattle.eq_report.specs.Closing.{closing_lines, counts_of, whole_of}
use Rattle.eq_report.specs.Rows.{row_line}

-- the lines of rows, in their order
abbrev pub row_lines : List Strategy → List Partition → List Row → List ℕ
row_lines strategies parts rows = flat_map (row_line strategies parts) rows

-- and the two that close them
abbrev pub report : List Strategy → List Partition → List Row → List ℕ
report strategies parts rows = row_lines strategies parts rows ++ closing_lines (counts_of rows) (whole_of rows)
