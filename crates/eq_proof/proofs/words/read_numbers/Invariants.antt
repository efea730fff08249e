use Rattle.std.proofs.Common.{◌≡◌, ◌++◌, length}
use Rattle.std.specs.Prelude.{All}
use Rattle.std.specs.Fmt.{decimal}
use Rattle.eq_proof.specs.Text.{words, IsNumber}
use Rattle.eq_proof.proofs.words.read_numbers.Given as goal

abbrev pub invariant-loop-after : goal.invariant-loop-after
invariant-loop-after l = record {
  read : l.text ≡ words decimal l.numbers.items ++ l.rest;
  fits : All IsNumber l.numbers.items;
}

abbrev pub decreases-loop-after : goal.decreases-loop-after
decreases-loop-after l = length l.rest
