-- What strategies come to, one after another.
use Rattle.std.specs.Prelude.{◌≡◌, ℕ, suc, ◌-◌, ◌<◌, ◌⊎◌, List, [], Any, AllPairs, Option, None, Some, length, slice_get, sum_by}
use Rattle.eq_names.specs.Patterns.{Matches}
use Rattle.eq_config.specs.declared.config.Strategy.{Strategy}
use Rattle.eq_bits.specs.declared.part.Part.{Part}
use Rattle.eq_induct.specs.declared.types.Decided.{Decided}
use Rattle.eq_induct.specs.declared.types.End.{End}
use Rattle.eq_induct.specs.declared.types.End.TheVariants as end
use Rattle.eq_induct.specs.declared.types.PartVerdict.{PartVerdict}
use Rattle.eq_induct.specs.declared.types.PartVerdict.TheVariants as verdict
use Rattle.eq_induct.specs.declared.types.Try.{Try}
use Rattle.eq_induct.specs.Attempts.{HasSpent, IsAttempt, Says, learned}

-- the strategy is for a part of this name: it has no patterns, or one of them matches
abbrev pub Applies : List ℕ → Strategy → Type 0
Applies name s = (s.apply ≡ []) ⊎ Any (λ p. Matches p name) s.apply

-- a difference was found, or that there never is one
abbrev pub IsDecided : End → Type 0
IsDecided (end.Proved k) = Unit {0}
IsDecided (end.Fail k) = Unit {0}
IsDecided end.Deep = ⊥
IsDecided end.Spent = ⊥

-- an attempt by a strategy that is there and applies
abbrev pub IsTry : Part → List Strategy → Try → Type 0
IsTry part strategies t = (s : Strategy) × (slice_get strategies t.strategy ≡ Some s) × Applies part.name s ×
    IsAttempt part s.depth s.conflicts t.attempt

-- the strategy of this number was tried, or an earlier one decided
abbrev pub IsTriedOrLater : List Try → ℕ → Type 0
IsTriedOrLater tries n = Any (λ t. (t.strategy ≡ n) ⊎ ((t.strategy < n) × IsDecided t.attempt.end)) tries

-- what the strategy of this number says, that ended so
abbrev pub verdict_of_end : ℕ → End → PartVerdict
verdict_of_end n (end.Proved k) = verdict.Proved k n
verdict_of_end n (end.Fail k) = verdict.Fail k n
verdict_of_end n end.Deep = verdict.Unknown
verdict_of_end n end.Spent = verdict.Unknown

-- what the last try says, and nothing where there is none
abbrev pub verdict_of : Option Try → PartVerdict
verdict_of None = verdict.Unknown
verdict_of (Some t) = verdict_of_end t.strategy t.attempt.end

pub record IsOutcome (part : Part) (strategies : List Strategy) (d : Decided) : Type 0 where
  pub tried : (i : ℕ) (t : Try) → slice_get d.tries i ≡ Some t → IsTry part strategies t
  -- in the order of the strategies, each once
  pub order : AllPairs (λ s t. s.strategy < t.strategy) d.tries
  -- none that applies is left out, up to one that decides
  pub none_left_out : (n : ℕ) (s : Strategy) → slice_get strategies n ≡ Some s → Applies part.name s →
      IsTriedOrLater d.tries n
  -- and none is tried after that one
  pub undecided : (i : ℕ) (t : Try) → slice_get d.tries i ≡ Some t → suc i < length d.tries →
      IsDecided t.attempt.end → ⊥
  pub verdict : d.verdict ≡ verdict_of (slice_get d.tries (length d.tries - 1))
  pub conflicts : d.conflicts ≡ sum_by (λ t. learned t.attempt.asked) d.tries

-- the strategy of this number applies, and k-induction up to its depth ends so on the part
abbrev pub EndsBy : Part → List Strategy → ℕ → End → Type 0
EndsBy part strategies n e = (s : Strategy) × (slice_get strategies n ≡ Some s) × Applies part.name s ×
    Says part s.depth e

-- k-induction sees nothing up to the depth of the strategy of this number, or a try by it spent all its conflicts
abbrev pub GivesUp : Part → List Try → ℕ → Strategy → Type 0
GivesUp part tries n s = Says part s.depth end.Deep ⊎
    Any (λ t. (t.strategy ≡ n) × HasSpent part s.conflicts t.attempt.asked) tries

-- what a verdict says of the part: what k-induction answers by the strategy of its number, or that each strategy that
-- applies gives up
abbrev pub VerdictSays : Part → List Strategy → List Try → PartVerdict → Type 0
VerdictSays part strategies tries (verdict.Proved k n) = EndsBy part strategies n (end.Proved k)
VerdictSays part strategies tries (verdict.Fail k n) = EndsBy part strategies n (end.Fail k)
VerdictSays part strategies tries verdict.Unknown = (n : ℕ) (s : Strategy) → slice_get strategies n ≡ Some s →
    Applies part.name s → GivesUp part tries n s
