use Rattle.std.proofs.Common.{◌≡◌, ◌++◌, ◌≤◌, ◌-◌, map, length}
use Rattle.std.specs.Prelude.{All, drop}
use Rattle.std.specs.Fmt.{decimal}
use Rattle.eq_wit.specs.inner.Items.{IsFrom}
use Rattle.eq_wit.proofs.steps.antecedents.Given as goal

abbrev pub invariant-loop-place : goal.invariant-loop-place
invariant-loop-place l = record {
  read : drop l.from l.words ≡ map decimal l.ants.items ++ drop l.place l.words;
  fits : All (IsFrom l.limit) l.ants.items;
  within : l.place ≤ length l.words;
}

abbrev pub decreases-loop-place : goal.decreases-loop-place
decreases-loop-place l = length l.words - l.place
