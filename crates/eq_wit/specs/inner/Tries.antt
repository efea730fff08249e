-- Mirrors src/print.rt; nothing here has to be believed.
use Rattle.std.specs.Prelude.{List}
use Rattle.eq_bits.specs.declared.part.Part.{Part}
use Rattle.eq_config.specs.declared.config.Strategy.{Strategy}
use Rattle.eq_induct.specs.declared.types.Try.{Try}
use Rattle.eq_wit.specs.Line.{Line}
use Rattle.eq_wit.specs.Texts.{attempt_lines}
use Rattle.eq_wit.specs.Tried.{head_of, strategy_at}

-- the lines of a try by a strategy of the list
abbrev pub lines_of_try : Part → List Strategy → Try → List Line
lines_of_try part strategies t = attempt_lines part (head_of (strategy_at strategies t.strategy)) t.attempt
