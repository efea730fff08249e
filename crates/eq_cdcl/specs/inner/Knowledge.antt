-- Cited by proofs alone; nothing here has to be believed.
-- The clauses that are known, and the log of those that were learned.
use Rattle.std.specs.Prelude.{List, ◌++◌, length}
use Rattle.eq_proof.specs.Literal.{Literal}
use Rattle.eq_proof.specs.Inference.{Inference, clauses_of}
use Rattle.eq_proof.specs.Derivation.{AllDerive}
use Rattle.eq_cdcl.specs.Logged.{FreshBelow}

-- a formula's clauses and those of a log's steps
abbrev pub known_of : List (List Literal) → List Inference → List (List Literal)
known_of clauses log = clauses ++ clauses_of log

-- each step is a derivation and fresh
pub record IsLogged (clauses : List (List Literal)) (log : List Inference) : Type 0 where
  pub derived : AllDerive clauses log
  pub fresh : FreshBelow clauses log (length log)
