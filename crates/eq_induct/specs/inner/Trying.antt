-- Mirrors src/deciding.rt; nothing here has to be believed.
use Rattle.std.specs.Prelude.{◌≡◌, ℕ, ◌+◌, ◌*◌, ◌<◌, ◌≤◌, Bool, true, false, List, [], ◌∷◌, ◌++◌, Any, AllPairs, Some, slice_get, sum_by}
use Rattle.eq_config.specs.declared.config.Strategy.{Strategy}
use Rattle.eq_config.specs.declared.limits.TheConstants.{MOST_CONFLICTS}
use Rattle.eq_bits.specs.declared.part.Part.{Part}
use Rattle.eq_induct.specs.declared.types.Decided.{Decided}
use Rattle.eq_induct.specs.declared.types.PartVerdict.TheVariants as verdict
use Rattle.eq_induct.specs.declared.types.Try.{Try}
use Rattle.eq_induct.specs.Attempts.{learned}
use Rattle.eq_induct.specs.Outcome.{Applies, IsDecided, IsOutcome, IsTry, verdict_of_end}

-- with one try more, which is then the last
abbrev pub with_try : Decided → Try → Decided
with_try d t = record {
  tries = d.tries ++ t ∷ [];
  verdict = verdict_of_end t.strategy t.attempt.end;
  conflicts = d.conflicts + learned t.attempt.asked;
}

-- the first n strategies were tried where they apply, and none decided
pub record HasTried (part : Part) (strategies : List Strategy) (n : ℕ) (d : Decided) : Type 0 where
  pub tried : (i : ℕ) (t : Try) → slice_get d.tries i ≡ Some t → IsTry part strategies t
  pub before : (i : ℕ) (t : Try) → slice_get d.tries i ≡ Some t → t.strategy < n
  pub order : AllPairs (λ s t. s.strategy < t.strategy) d.tries
  pub all : (m : ℕ) (s : Strategy) → m < n → slice_get strategies m ≡ Some s → Applies part.name s →
      Any (λ t. t.strategy ≡ m) d.tries
  pub undecided : (i : ℕ) (t : Try) → slice_get d.tries i ≡ Some t → IsDecided t.attempt.end → ⊥
  pub verdict : d.verdict ≡ verdict.Unknown
  pub conflicts : d.conflicts ≡ sum_by (λ t. learned t.attempt.asked) d.tries
  pub few : d.conflicts ≤ n * MOST_CONFLICTS

-- of the first n strategies, the outcome, where it is decided, and else all were tried
abbrev pub TriesTo : Part → List Strategy → ℕ → Decided → Bool → Type 0
TriesTo part strategies n d true = IsOutcome part strategies d × (d.conflicts ≤ n * MOST_CONFLICTS)
TriesTo part strategies n d false = HasTried part strategies n d
