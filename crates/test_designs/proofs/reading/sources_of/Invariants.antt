use Rattle.std.specs.Prelude.{All}
use Rattle.eq_spelled.specs.Spelling.{IsFromText}
use Rattle.test_designs.proofs.reading.sources_of.Given as goal

abbrev pub invariant-loop-text : goal.invariant-loop-text
invariant-loop-text l = All IsFromText l.sources.items
