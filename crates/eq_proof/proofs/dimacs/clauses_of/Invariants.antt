use Rattle.std.proofs.Common.{◌≡◌, ◌≤◌, ◌+◌, ◌++◌, length}
use Rattle.std.specs.Prelude.{All}
use Rattle.std.specs.List.{flat_map}
use Rattle.eq_proof.specs.Text.{IsClauseUpTo}
use Rattle.eq_proof.specs.Dimacs.{clause_line}
use Rattle.eq_proof.proofs.dimacs.clauses_of.Given as goal

abbrev pub invariant-loop-done : goal.invariant-loop-done
invariant-loop-done l = record {
  read : l.text ≡ flat_map clause_line l.clauses ++ l.rest;
  counted : length l.clauses ≡ l.done;
  short : l.done + length l.rest ≤ length l.text;
  fits : All (IsClauseUpTo l.most) l.clauses;
}
