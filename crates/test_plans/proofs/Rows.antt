-- A row is right where the verdict of a part is.
use Rattle.std.proofs.Common.{◌≡◌, ℕ, ◌+◌, List, [], ◌∷◌, ◌++◌, ap, subst, sym, ◌∙◌, length-append}
use Rattle.eq_model.specs.Kind.{IsKind, proved}
use Rattle.eq_model.specs.Part.{PartBase, PartStep}
use Rattle.eq_bits.specs.declared.part.Part.{Part}
use Rattle.eq_bits.specs.Replay.{meaning}
use Rattle.eq_config.specs.declared.config.Strategy.{Strategy}
use Rattle.eq_compose.specs.Rows.{IsRight, NeverDiffers}
use Rattle.eq_compose.specs.declared.types.Row.{Row}
use Rattle.eq_induct.specs.declared.types.PartVerdict.{PartVerdict}
use Rattle.eq_induct.specs.declared.types.PartVerdict.TheVariants as part
use Rattle.eq_induct.specs.declared.types.Try.{Try}
use Rattle.eq_induct.specs.Outcome.{VerdictSays}
use Rattle.eq_net.specs.Net.{Parts}
use Rattle.eq_part.specs.declared.plan.Plan.{Plan}
use Rattle.test_plans.specs.Work.{verdict_of}
use Rattle.test_plans.specs.inner.Rows.{AreRowsSoFar}
use Rattle.test_plans.proofs.Pushed.{each_pushed}

pub right_row : (gold gate : Parts) (plan : Plan) (q : ℕ) (p : Part) (strategies : List Strategy) (tries : List Try) →
    ((depth k : ℕ) → IsKind (PartBase (meaning p)) (PartStep (meaning p)) depth (proved k) →
    NeverDiffers gold gate plan q k) →
    (v : PartVerdict) → VerdictSays p strategies tries v → IsRight gold gate plan q (verdict_of v)
right_row gold gate plan q p strategies tries law (part.Proved k n) says = law says.0.depth k says.3
right_row gold gate plan q p strategies tries law (part.Fail k n) says = tt
right_row gold gate plan q p strategies tries law part.Unknown says = tt

-- one more row keeps them in order, and right
pub one_row_more : (gold gate : Parts) (plan : Plan) (n : ℕ) (rows after : List Row) (row : Row) →
    AreRowsSoFar gold gate plan n rows → row.part ≡ n → IsRight gold gate plan n row.verdict →
    after ≡ rows ++ row ∷ [] → AreRowsSoFar gold gate plan (n + 1) after
one_row_more gold gate plan n rows after row so_far number right is =
    let P : ℕ → Row → Type 0 = λ q r. r.part ≡ q in
    let Q : ℕ → Row → Type 0 = λ q r. IsRight gold gate plan q r.verdict in
    subst (AreRowsSoFar gold gate plan (n + 1)) (sym is) (record {
      count = length-append rows (row ∷ []) ∙ ap (λ (m : ℕ). m + 1) so_far.count;
      order = each_pushed P rows row so_far.order (number ∙ sym so_far.count);
      right = each_pushed Q rows row so_far.right
          (subst (λ (m : ℕ). IsRight gold gate plan m row.verdict) (sym so_far.count) right);
    })
