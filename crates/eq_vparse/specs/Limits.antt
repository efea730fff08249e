-- How deep expressions, targets and statements may be.
use Rattle.std.specs.Prelude.{ℕ}

pub record Limits : Type 0 where
  -- how many counted marks one outermost expression or target has
  pub marks : ℕ
  -- the highest level of a statement: how many `if` statements and blocks hold it
  pub levels : ℕ

-- those of the program
abbrev pub limits : Limits
limits = record { marks = 1000; levels = 200 }
