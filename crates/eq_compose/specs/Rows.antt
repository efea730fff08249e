-- What the rows of a plan say, each of its partition and all together.
use Rattle.std.specs.Prelude.{◌≡◌, ℕ, Bool, true, false, List, Some, length, slice_get}
use Rattle.eq_model.specs.Cut.{Base, Step}
use Rattle.eq_model.specs.Kind.{IsProved}
use Rattle.eq_net.specs.Net.{Parts, system_of}
use Rattle.eq_part.specs.declared.plan.Plan.{Plan}
use Rattle.eq_part.specs.Plans.{plan_of}
use Rattle.eq_compose.specs.declared.types.Row.{Row}
use Rattle.eq_compose.specs.declared.types.Verdict.{Verdict}
use Rattle.eq_compose.specs.declared.types.Verdict.TheVariants.{Proved, Fail, Unknown, Skipped}

-- there is a row for each partition, in order
pub record AreRowsOf (plan : Plan) (rows : List Row) : Type 0 where
  pub count : length rows ≡ length plan.parts
  pub order : (q : ℕ) (row : Row) → slice_get rows q ≡ Some row → row.part ≡ q

-- induction over k cycles shows that partition q never differs: no Base query up to k holds, nor does Step at k
abbrev pub NeverDiffers : Parts → Parts → Plan → ℕ → ℕ → Type 0
NeverDiffers gold gate plan q k = IsProved
    (Base (system_of gold) (system_of gate) (plan_of gold gate plan) ((plan_of gold gate plan).holds q))
    (Step (system_of gold) (system_of gate) (plan_of gold gate plan) ((plan_of gold gate plan).holds q)) k

-- a verdict that says proved is right of the partition. Of other verdicts nothing is asked
abbrev pub IsRight : Parts → Parts → Plan → ℕ → Verdict → Type 0
IsRight gold gate plan q (Proved k strategy) = NeverDiffers gold gate plan q k
IsRight gold gate plan q (Fail k strategy) = Unit {0}
IsRight gold gate plan q (Unknown causes) = Unit {0}
IsRight gold gate plan q Skipped = Unit {0}

abbrev pub AreRight : Parts → Parts → Plan → List Row → Type 0
AreRight gold gate plan rows = (q : ℕ) (row : Row) → slice_get rows q ≡ Some row →
    IsRight gold gate plan q row.verdict

-- the verdict is proved, and it is fail

abbrev pub is_proof : Verdict → Bool
is_proof (Proved k strategy) = true
is_proof (Fail k strategy) = false
is_proof (Unknown causes) = false
is_proof Skipped = false

abbrev pub is_failure : Verdict → Bool
is_failure (Proved k strategy) = false
is_failure (Fail k strategy) = true
is_failure (Unknown causes) = false
is_failure Skipped = false

abbrev pub SaysProved : Row → Type 0
SaysProved row = is_proof row.verdict ≡ true

abbrev pub SaysFail : Row → Type 0
SaysFail row = is_failure row.verdict ≡ true
