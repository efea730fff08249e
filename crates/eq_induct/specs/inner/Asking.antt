-- Mirrors src/asking.rt; nothing here has to be believed.
use Rattle.std.specs.Prelude.{◌≡◌, ℕ, ◌+◌, ◌≤◌, Option, None, Some, length}
use Rattle.eq_bits.specs.declared.part.Part.{Part}
use Rattle.eq_cdcl.specs.declared.solver.Solved.{Solved}
use Rattle.eq_cdcl.specs.declared.solver.Solved.TheVariants as solved
use Rattle.eq_proof.specs.Derivation.{nonempty_of}
use Rattle.eq_proof.specs.Satisfying.{SatisfiesAll}
use Rattle.eq_unroll.specs.declared.query.Query.{Query}
use Rattle.eq_unroll.specs.Unrolling.{unrolled}
use Rattle.eq_unroll.specs.Values.{value_of}
use Rattle.eq_induct.specs.declared.types.Answer.{Answer}
use Rattle.eq_induct.specs.declared.types.Answer.TheVariants.{Sat, Unsat, Spent}
use Rattle.eq_induct.specs.declared.types.End.{End}
use Rattle.eq_induct.specs.Answers.{IsAnswer, LearnsFresh, learned_for}
use Rattle.eq_induct.specs.Attempts.{AsksNext, EndsSo}

-- a log that refutes has one empty step, and another log has none
abbrev pub IsCounted : Answer → Type 0
IsCounted (Sat run) = Unit {0}
IsCounted (Unsat log) = nonempty_of log + 1 ≡ length log
IsCounted (Spent log) = nonempty_of log ≡ length log

-- where the query is undecided, the clauses that may be learned are so many
abbrev pub SpendsAll : ℕ → Answer → Type 0
SpendsAll left (Sat run) = Unit {0}
SpendsAll left (Unsat log) = Unit {0}
SpendsAll left (Spent log) = nonempty_of log ≡ left

-- an answer for which at most `left` clauses were learned
pub record IsFound (part : Part) (q : Query) (k left : ℕ) (answer : Answer) : Type 0 where
  pub right : IsAnswer part q k answer
  pub fresh : LearnsFresh part q k answer
  pub within : learned_for answer ≤ left
  pub spends : SpendsAll left answer

-- what the solver says of the query's formula
abbrev pub IsSolved : Part → Query → ℕ → ℕ → Solved → Type 0
IsSolved part q k left (solved.Sat bits) = SatisfiesAll (value_of bits) (unrolled part q k)
IsSolved part q k left (solved.Unsat log) = IsFound part q k left (Unsat log)
IsSolved part q k left (solved.Spent log) = IsFound part q k left (Spent log)

-- after the answer comes this end, at any depth, or the next query
abbrev pub IsNext : Query → ℕ → Answer → Option End → Type 0
IsNext q k answer None = AsksNext q answer
IsNext q k answer (Some end) = (depth : ℕ) → EndsSo depth q k answer end
