-- Where all rows say proved, and what they say is right, each partition is shown by induction.
use Rattle.std.proofs.Common.{◌≡◌, ℕ, ◌<◌, true, List, length, slice_get, get_or, Some, None, All, ◌⊎◌, inl, inr, ◌≤◌, arith, subst, sym}
use Rattle.std.proofs.lemmas.Bool.{cases_lt, false≢true}
use Rattle.std.proofs.lemmas.Option.{slice_get_cases}
use Rattle.eq_model.specs.Kind.{IsKind, IsProved, proved}
use Rattle.eq_net.specs.Net.{Parts}
use Rattle.eq_part.specs.declared.plan.Plan.{Plan}
use Rattle.eq_compose.specs.declared.types.Row.{Row}
use Rattle.eq_compose.specs.declared.types.Verdict.{Verdict}
use Rattle.eq_compose.specs.declared.types.Verdict.TheVariants.{Proved, Fail, Unknown, Skipped}
use Rattle.eq_compose.specs.Rows.{AreRight, IsRight, NeverDiffers, SaysProved, is_proof}

-- below the length there is an element, and what holds of all elements holds of it
pub held : {X : Type 0} (P : X → Type 0) (xs : List X) (q : ℕ) → All P xs → q < length xs →
    (x : X) × (slice_get xs q ≡ Some x) × P x
held {X = X} P xs q all below = from (slice_get_cases xs q).1
  where
    from : ((x : X) × (q < length xs) × (slice_get xs q ≡ Some x) × (get_or xs q x ≡ x)) ⊎
        ((length xs ≤ q) × (slice_get xs q ≡ None)) → (x : X) × (slice_get xs q ≡ Some x) × P x
    from (inl found) = (found.0, found.2, subst P found.3 (all q found.0 below))
    from (inr past) = absurd (omega arith)

-- a right verdict that says proved has its k
pub shown : (gold gate : Parts) (plan : Plan) (q : ℕ) (v : Verdict) → IsRight gold gate plan q v →
    is_proof v ≡ true → (k : ℕ) × NeverDiffers gold gate plan q k
shown gold gate plan q (Proved k strategy) right says = (k, right)
shown gold gate plan q (Fail k strategy) right says = absurd (false≢true says)
shown gold gate plan q (Unknown causes) right says = absurd (false≢true says)
shown gold gate plan q Skipped right says = absurd (false≢true says)

pub all_shown : (gold gate : Parts) (plan : Plan) (rows : List Row) → length rows ≡ length plan.parts →
    AreRight gold gate plan rows → All SaysProved rows →
    (q : ℕ) → q < length plan.parts → (k : ℕ) × NeverDiffers gold gate plan q k
all_shown gold gate plan rows count right all q below =
    let found = held SaysProved rows q all (subst (λ n. q < n) (sym count) below) in
    shown gold gate plan q found.0.verdict (right q found.0 found.1) found.2

-- what k-induction answers is shown by induction: no Base up to k holds, and Step k doesn't
pub kind_shown : (base step : ℕ → Type 0) (depth k : ℕ) → IsKind base step depth (proved k) → IsProved base step k
kind_shown base step depth k (some, within, goes_on, no_base, no_step) = (below, no_step)
  where
    below : (j : ℕ) → 1 ≤ j → j ≤ k → base j → ⊥
    below j one least holds = elim (cases_lt j k) [
      | inl less ↦ (goes_on j one less).0 holds
      | inr not_less ↦ no_base (subst base (omega arith) holds)
    ]
