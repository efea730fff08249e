-- A table of names, and those that are mentioned behind them.
use Rattle.std.specs.Prelude.{List, fold}
use Rattle.eq_names.specs.Tables.{with_name}
use Rattle.eq_verilog.specs.Trees.{Name}

-- the names of a table, and behind them each of these once that is new
abbrev pub with_names : List Name → List Name → List Name
with_names table ns = fold with_name table ns
