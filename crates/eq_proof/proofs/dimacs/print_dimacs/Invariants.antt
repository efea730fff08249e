use Rattle.std.proofs.Common.{◌≡◌, ◌++◌, length, take}
use Rattle.std.specs.Prelude.{All}
use Rattle.std.specs.List.{flat_map}
use Rattle.eq_proof.specs.Text.{IsClauseUpTo}
use Rattle.eq_proof.specs.Dimacs.{header_line, clause_line, highest_of}
use Rattle.eq_proof.proofs.dimacs.print_dimacs.Given as goal

abbrev pub invariant-loop-place : goal.invariant-loop-place
invariant-loop-place l = record {
  text : l.out.items ≡ header_line l.f.vars (length l.f.clauses) ++ flat_map clause_line (take l.place l.f.clauses);
  fits : All (IsClauseUpTo (highest_of l.f.vars)) (take l.place l.f.clauses);
}
