-- What an attempt is: Base 1, Step 1, Base 2, Step 2 and so on, up to an answer that ends it.
use Rattle.std.specs.Prelude.{◌≡◌, ℕ, zero, suc, ◌-◌, ◌<◌, ◌≤◌, List, length, slice_get, Some, sum_by}
use Rattle.eq_model.specs.Kind.{IsKind, fail, proved, deep}
use Rattle.eq_model.specs.Part.{PartBase, PartStep}
use Rattle.eq_bits.specs.declared.part.Part.{Part}
use Rattle.eq_bits.specs.Replay.{meaning}
use Rattle.eq_config.specs.declared.config.Strategy.{Strategy}
use Rattle.eq_config.specs.declared.limits.TheConstants.{MOST_CONFLICTS}
use Rattle.eq_unroll.specs.declared.query.Query.{Query}
use Rattle.eq_unroll.specs.declared.query.Query.TheVariants.{Base, Step}
use Rattle.eq_unroll.specs.Query.{IsUnrollable}
use Rattle.eq_induct.specs.declared.types.Answer.{Answer}
use Rattle.eq_induct.specs.declared.types.Answer.TheVariants.{Sat, Unsat, Spent}
use Rattle.eq_induct.specs.declared.types.Asked.{Asked}
use Rattle.eq_induct.specs.declared.types.Attempt.{Attempt}
use Rattle.eq_induct.specs.declared.types.End.{End}
use Rattle.eq_induct.specs.declared.types.End.TheVariants as end
use Rattle.eq_induct.specs.Answers.{IsAnswer, LearnsFresh, learned_for}

-- the strategy's conflicts and its depth are within the limits, and all variables up to the depth have numbers
pub record IsUsable (part : Part) (s : Strategy) : Type 0 where
  pub few_conflicts : s.conflicts ≤ MOST_CONFLICTS
  pub unrollable : IsUnrollable part s.depth

-- the query of a place in the order, counted from 0, and its number of cycles

abbrev pub query_at : ℕ → Query
query_at zero = Base
query_at (suc zero) = Step
query_at (suc (suc i)) = query_at i

abbrev pub cycles_at : ℕ → ℕ
cycles_at zero = 1
cycles_at (suc zero) = 1
cycles_at (suc (suc i)) = suc (cycles_at i)

-- after this answer the next query is asked: after a Base that doesn't hold, and after a Step that does
abbrev pub AsksNext : Query → Answer → Type 0
AsksNext Base (Unsat log) = Unit {0}
AsksNext Step (Sat run) = Unit {0}
AsksNext _ _ = ⊥

-- after this answer at k cycles the attempt ends so, where the depth is d
abbrev pub EndsSo : ℕ → Query → ℕ → Answer → End → Type 0
EndsSo d Base k (Sat run) (end.Fail j) = j ≡ k
EndsSo d Step k (Unsat log) (end.Proved j) = j ≡ k
EndsSo d Step k (Sat run) end.Deep = k ≡ d
EndsSo d q k (Spent log) end.Spent = Unit {0}
EndsSo _ _ _ _ _ = ⊥

-- how many clauses all queries learned
abbrev pub learned : List Asked → ℕ
learned asked = sum_by (λ a. learned_for a.answer) asked

-- all conflicts are used up, and none on a clause that isn't fresh
pub record HasSpent (part : Part) (conflicts : ℕ) (asked : List Asked) : Type 0 where
  pub all : learned asked ≡ conflicts
  pub fresh : (i : ℕ) (a : Asked) → slice_get asked i ≡ Some a → LearnsFresh part a.query a.k a.answer

-- an attempt on the part with a depth and a number of conflicts
pub record IsAttempt (part : Part) (depth conflicts : ℕ) (t : Attempt) : Type 0 where
  pub order : (i : ℕ) (a : Asked) → slice_get t.asked i ≡ Some a → (a.query ≡ query_at i) × (a.k ≡ cycles_at i)
  pub within : (i : ℕ) (a : Asked) → slice_get t.asked i ≡ Some a → a.k ≤ depth
  pub answered : (i : ℕ) (a : Asked) → slice_get t.asked i ≡ Some a → IsAnswer part a.query a.k a.answer
  pub goes_on : (i : ℕ) (a : Asked) → slice_get t.asked i ≡ Some a → suc i < length t.asked →
      AsksNext a.query a.answer
  pub ends : (a : Asked) × (slice_get t.asked (length t.asked - 1) ≡ Some a) ×
      EndsSo depth a.query a.k a.answer t.end
  pub budget : learned t.asked ≤ conflicts
  pub spent : t.end ≡ end.Spent → HasSpent part conflicts t.asked

-- what an end says of the part: what k-induction answers up to the depth. Spent conflicts say nothing
abbrev pub Says : Part → ℕ → End → Type 0
Says part depth (end.Proved k) = IsKind (PartBase (meaning part)) (PartStep (meaning part)) depth (proved k)
Says part depth (end.Fail k) = IsKind (PartBase (meaning part)) (PartStep (meaning part)) depth (fail k)
Says part depth end.Deep = IsKind (PartBase (meaning part)) (PartStep (meaning part)) depth deep
Says part depth end.Spent = Unit {0}
