use Rattle.std.proofs.Common.{◌≡◌, ◌++◌, ◌≤◌, ◌-◌, ◌^◌, map, length}
use Rattle.std.specs.Prelude.{All, drop}
use Rattle.eq_proof.specs.Text.{IsUpTo, literal_word}
use Rattle.eq_wit.proofs.steps.clause.Given as goal

abbrev pub invariant-loop-place : goal.invariant-loop-place
invariant-loop-place l = record {
  read : drop l.from l.words ≡ map literal_word l.lits.items ++ drop l.place l.words;
  fits : All (IsUpTo (2 ^ 31 - 1)) l.lits.items;
  within : l.place ≤ length l.words;
}

abbrev pub decreases-loop-place : goal.decreases-loop-place
decreases-loop-place l = length l.words - l.place
