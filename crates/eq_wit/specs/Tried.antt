-- The heads of tries by strategies of a list, and what tries have to meet to be printed.
use Rattle.std.specs.Prelude.{◌≡◌, ℕ, ◌≤◌, ◌<◌, List, [], All, map, length, slice_get, slice_index_or, Some}
use Rattle.eq_bits.specs.declared.part.Part.{Part}
use Rattle.eq_config.specs.declared.config.Strategy.{Strategy}
use Rattle.eq_config.specs.declared.limits.TheConstants.{MOST_STRATEGIES}
use Rattle.eq_induct.specs.declared.types.Decided.{Decided}
use Rattle.eq_induct.specs.declared.types.Try.{Try}
use Rattle.eq_induct.specs.Attempts.{IsUsable}
use Rattle.eq_induct.specs.Outcome.{IsOutcome}
use Rattle.eq_wit.specs.declared.types.Head.{Head}
use Rattle.eq_wit.specs.Evidence.{MakeEvidence}

abbrev pub head_of : Strategy → Head
head_of s = record { name = s.name; depth = s.depth; conflicts = s.conflicts }

-- the strategy of a number, and one without a name beyond the list
abbrev pub strategy_at : List Strategy → ℕ → Strategy
strategy_at strategies n = slice_index_or strategies n (record { name = []; depth = 0; conflicts = 0; apply = [] })

-- for each try the head of its strategy
abbrev pub heads_of : List Strategy → List Try → List Head
heads_of strategies tries = map (λ t. head_of (strategy_at strategies t.strategy)) tries

-- each try is by a strategy of the list
abbrev pub AreOf : List Strategy → List Try → Type 0
AreOf strategies tries = (i : ℕ) (t : Try) → slice_get tries i ≡ Some t → t.strategy < length strategies

-- strategies of a configuration that may be tried on the part
pub record MayBeTried (part : Part) (strategies : List Strategy) : Type 0 where
  pub few : length strategies ≤ MOST_STRATEGIES
  pub usable : All (IsUsable part) strategies
  pub some_conflicts : All (λ s. 1 ≤ s.conflicts) strategies

-- what strategies come to is an evidence
abbrev pub OutcomesAreEvidence : Type 0
OutcomesAreEvidence = (part : Part) (strategies : List Strategy) (d : Decided) → MayBeTried part strategies →
    IsOutcome part strategies d → AreOf strategies d.tries × MakeEvidence part (heads_of strategies d.tries) d
