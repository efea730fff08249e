-- When an answer to a query is right.
use Rattle.std.specs.Prelude.{◌≡◌, ℕ, suc, ◌+◌, ◌<◌, List, length}
use Rattle.eq_model.specs.System.{Values}
use Rattle.eq_bits.specs.declared.part.Part.{Part}
use Rattle.eq_bits.specs.declared.run.Run.{Run}
use Rattle.eq_bits.specs.Replay.{IsReplay, IsRunOf}
use Rattle.eq_proof.specs.Inference.{Inference}
use Rattle.eq_proof.specs.Derivation.{AllDerive, EndsEmpty, nonempty_of}
use Rattle.eq_proof.specs.Fresh.{AllFresh, FreshAt}
use Rattle.eq_unroll.specs.declared.query.Query.{Query}
use Rattle.eq_unroll.specs.Query.{Shows, frame_count}
use Rattle.eq_unroll.specs.Unrolling.{unrolled}
use Rattle.eq_induct.specs.declared.types.Answer.{Answer}
use Rattle.eq_induct.specs.declared.types.Answer.TheVariants.{Sat, Unsat, Spent}

-- the run has as many cycles as the query's runs, and the nodes' values in it are as the query asks. So for Base it
-- begins with the initial values and differs in its last cycle, and for Step its last cycle is the first that differs
pub record IsWitness (part : Part) (q : Query) (k : ℕ) (run : Run) : Type 0 where
  pub fits : IsRunOf part run
  pub cycles : length run.inputs ≡ frame_count q k
  pub shows : (x : ℕ → Values) → IsReplay part run x → Shows part q k x

-- each step is a derivation from the query's formula, and the last, which alone is empty, ends a refutation
pub record IsRefutation (part : Part) (q : Query) (k : ℕ) (log : List Inference) : Type 0 where
  pub derived : AllDerive (unrolled part q k) log
  pub ends : EndsEmpty log
  pub one_empty : nonempty_of log + 1 ≡ length log

-- each step is a derivation from the query's formula, and none is empty
pub record IsUndecided (part : Part) (q : Query) (k : ℕ) (log : List Inference) : Type 0 where
  pub derived : AllDerive (unrolled part q k) log
  pub none_empty : nonempty_of log ≡ length log

-- the answer to this query of the part
abbrev pub IsAnswer : Part → Query → ℕ → Answer → Type 0
IsAnswer part q k (Sat run) = IsWitness part q k run
IsAnswer part q k (Unsat log) = IsRefutation part q k log
IsAnswer part q k (Spent log) = IsUndecided part q k log

-- how many clauses were learned: the steps that aren't empty
abbrev pub learned_for : Answer → ℕ
learned_for (Sat run) = 0
learned_for (Unsat log) = nonempty_of log
learned_for (Spent log) = nonempty_of log

-- each clause that was learned is fresh where it was learned
abbrev pub LearnsFresh : Part → Query → ℕ → Answer → Type 0
LearnsFresh part q k (Sat run) = Unit {0}
LearnsFresh part q k (Unsat log) = (place : ℕ) → suc place < length log → FreshAt (unrolled part q k) log place
LearnsFresh part q k (Spent log) = AllFresh (unrolled part q k) log
