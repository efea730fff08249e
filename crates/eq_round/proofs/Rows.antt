-- A row that says proved is right where the verdict of its part is.
use Rattle.std.proofs.Common.{ℕ, List}
use Rattle.eq_bits.specs.Replay.{meaning}
use Rattle.eq_bits.specs.declared.part.Part.{Part}
use Rattle.eq_compose.specs.Rows.{IsRight, NeverDiffers}
use Rattle.eq_config.specs.declared.config.Strategy.{Strategy}
use Rattle.eq_induct.specs.Outcome.{VerdictSays}
use Rattle.eq_induct.specs.declared.types.PartVerdict.TheVariants as decided
use Rattle.eq_induct.specs.declared.types.PartVerdict.{PartVerdict}
use Rattle.eq_induct.specs.declared.types.Try.{Try}
use Rattle.eq_model.specs.Kind.{IsKind, proved}
use Rattle.eq_model.specs.Part.{PartBase, PartStep}
use Rattle.eq_net.specs.Net.{Parts}
use Rattle.eq_part.specs.declared.plan.Plan.{Plan}
use Rattle.eq_report.specs.Rows.{row_verdict}

pub right_row : (gold gate : Parts) (plan : Plan) (q : ℕ) (p : Part) (strategies : List Strategy) (tries : List Try) →
    ((depth k : ℕ) → IsKind (PartBase (meaning p)) (PartStep (meaning p)) depth (proved k) →
    NeverDiffers gold gate plan q k) →
    (v : PartVerdict) → VerdictSays p strategies tries v →
    IsRight gold gate plan q (row_verdict strategies tries v)
right_row gold gate plan q p strategies tries law (decided.Proved k n) says = law says.0.depth k says.3
right_row gold gate plan q p strategies tries law (decided.Fail k n) says = tt
right_row gold gate plan q p strategies tries law decided.Unknown says = tt
