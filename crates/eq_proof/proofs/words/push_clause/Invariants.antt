use Rattle.std.proofs.Common.{◌≡◌, ◌-◌, ◌^◌, ◌++◌, take}
use Rattle.std.specs.Prelude.{All}
use Rattle.eq_proof.specs.Text.{words, literal_word, IsUpTo}
use Rattle.eq_proof.proofs.words.push_clause.Given as goal

abbrev pub invariant-loop-l : goal.invariant-loop-l
invariant-loop-l l = record {
  text : l.out.items ≡ l.fn.out.items ++ words literal_word (take l.l-index l.clause);
  range : All (IsUpTo (2 ^ 31 - 1)) (take l.l-index l.clause);
}
