use Rattle.std.proofs.Common.{◌≡◌, ◌++◌, length}
use Rattle.eq_proof.specs.Text.{words, literal_word, IsClauseUpTo}
use Rattle.eq_proof.proofs.words.read_clause.Given as goal

abbrev pub invariant-loop-after : goal.invariant-loop-after
invariant-loop-after l = record {
  read : l.text ≡ words literal_word l.lits.items ++ l.rest;
  clause : IsClauseUpTo l.most l.lits.items;
}

abbrev pub decreases-loop-after : goal.decreases-loop-after
decreases-loop-after l = length l.rest
