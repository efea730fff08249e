use Rattle.std.proofs.Common.{◌-◌, ◌≤◌, length, drop}
use Rattle.eq_names.specs.Templates.{part_at}
use Rattle.eq_names.specs.Reading.{IsFront}
use Rattle.eq_names.proofs.template.read_parts.Given as goal

-- the parts so far are the text's up to what is left
abbrev pub invariant-loop-at : goal.invariant-loop-at
invariant-loop-at l = record {
  front : IsFront (part_at l.wilds) l.parts l.text (drop l.at l.text);
  within : l.at ≤ length l.text;
}

abbrev pub decreases-loop-at : goal.decreases-loop-at
decreases-loop-at l = length l.text - l.at
