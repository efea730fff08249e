-- What makes an evidence of a part, the heads of tries and what the tries came to.
use Rattle.std.specs.Prelude.{◌≡◌, ℕ, ◌+◌, ◌-◌, ◌≤◌, ◌<◌, ◌^◌, List, All, length, slice_get, Some, sum_by}
use Rattle.eq_bits.specs.declared.part.Part.{Part}
use Rattle.eq_bits.specs.Replay.{IsRunOf}
use Rattle.eq_config.specs.declared.limits.TheConstants.{MOST_CONFLICTS, MOST_DEPTH}
use Rattle.eq_proof.specs.Inference.{Inference}
use Rattle.eq_unroll.specs.declared.query.Query.{Query}
use Rattle.eq_unroll.specs.Query.{IsUnrollable, frame_count}
use Rattle.eq_induct.specs.declared.types.Answer.{Answer}
use Rattle.eq_induct.specs.declared.types.Answer.TheVariants.{Sat, Unsat, Spent}
use Rattle.eq_induct.specs.declared.types.Asked.{Asked}
use Rattle.eq_induct.specs.declared.types.Decided.{Decided}
use Rattle.eq_induct.specs.declared.types.Try.{Try}
use Rattle.eq_induct.specs.Attempts.{learned}
use Rattle.eq_induct.specs.Outcome.{verdict_of}
use Rattle.eq_wit.specs.declared.types.Head.{Head}
use Rattle.eq_wit.specs.Texts.{first_number}

-- depth and conflicts are within the limits of a configuration
pub record IsWithinLimits (head : Head) : Type 0 where
  pub some_depth : 1 ≤ head.depth
  pub depth : head.depth ≤ MOST_DEPTH
  pub some_conflicts : 1 ≤ head.conflicts
  pub conflicts : head.conflicts ≤ MOST_CONFLICTS

-- of the steps numbered from `first` each has antecedents below its own number
abbrev pub HaveEarlier : ℕ → List Inference → Type 0
HaveEarlier first log = (place : ℕ) (step : Inference) → slice_get log place ≡ Some step →
    All (λ antecedent. antecedent < first + place) step.ants

-- a run has values for the part's registers and inputs, and as many cycles as the query's runs; a log has earlier
-- antecedents, numbered behind the query's formula
abbrev pub FitsQuery : Part → Query → ℕ → Answer → Type 0
FitsQuery part q k (Sat run) = IsRunOf part run × (length run.inputs ≡ frame_count q k)
FitsQuery part q k (Unsat log) = HaveEarlier (first_number part q k) log
FitsQuery part q k (Spent log) = HaveEarlier (first_number part q k) log

pub record IsAskedOf (part : Part) (a : Asked) : Type 0 where
  pub unrollable : IsUnrollable part a.k
  pub fits : FitsQuery part a.query a.k a.answer

pub record IsTryOf (part : Part) (t : Try) : Type 0 where
  pub few : length t.attempt.asked < 2 ^ 32
  pub asked : (i : ℕ) (a : Asked) → slice_get t.attempt.asked i ≡ Some a → IsAskedOf part a

pub record MakeEvidence (part : Part) (heads : List Head) (d : Decided) : Type 0 where
  -- one head a try
  pub same : length heads ≡ length d.tries
  pub few : length d.tries < 2 ^ 32
  pub limits : (i : ℕ) (head : Head) → slice_get heads i ≡ Some head → IsWithinLimits head
  -- the formula of each query can be made, its runs have its values, and its logs lean on earlier clauses alone
  pub tries : (i : ℕ) (t : Try) → slice_get d.tries i ≡ Some t → IsTryOf part t
  -- what the last try says, and nothing where there is none
  pub verdict : d.verdict ≡ verdict_of (slice_get d.tries (length d.tries - 1))
  -- the steps of all logs that aren't empty
  pub conflicts : d.conflicts ≡ sum_by (λ t. learned t.attempt.asked) d.tries
