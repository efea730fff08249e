use Rattle.std.proofs.Common.{◌-◌, ◌≤◌, length, drop}
use Rattle.eq_names.specs.Patterns.{piece_at}
use Rattle.eq_names.specs.Reading.{IsFront}
use Rattle.eq_names.proofs.pattern.read_pieces.Given as goal

-- the pieces so far are the text's up to what is left
abbrev pub invariant-loop-at : goal.invariant-loop-at
invariant-loop-at l = record {
  front : IsFront piece_at l.pieces l.text (drop l.at l.text);
  within : l.at ≤ length l.text;
  count : length l.pieces ≤ l.at;
}

abbrev pub decreases-loop-at : goal.decreases-loop-at
decreases-loop-at l = length l.text - l.at
