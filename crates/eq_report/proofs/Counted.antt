-- Each row is counted once.
use Rattle.std.proofs.Common.{◌≡◌, ℕ, ◌+◌, List, [], ◌∷◌, length, refl, arith}
use Rattle.std.specs.Prelude.{Bool, cond, count_by}
use Rattle.std.proofs.lemmas.List.Sums.{sum_by-cons}
use Rattle.eq_compose.specs.declared.types.Row.{Row}
use Rattle.eq_compose.specs.declared.types.Verdict.{Verdict}
use Rattle.eq_compose.specs.declared.types.Verdict.TheVariants.{Proved, Fail, Unknown, Skipped}
use Rattle.eq_compose.specs.Rows.{is_failure, is_proof}
use Rattle.eq_report.specs.Closing.{is_skipped_verdict, is_unknown_verdict}

abbrev one : Bool → ℕ
one b = cond b 1 0

-- a verdict is of one kind
one_kind : (v : Verdict) →
    one (is_proof v) + one (is_failure v) + one (is_unknown_verdict v) + one (is_skipped_verdict v) ≡ 1
one_kind (Proved k n) = refl
one_kind (Fail k n) = refl
one_kind (Unknown causes) = refl
one_kind Skipped = refl

-- so each row is counted once
pub counted_once : (rows : List Row) → count_by (λ row. is_proof row.verdict) rows
    + count_by (λ row. is_failure row.verdict) rows + count_by (λ row. is_unknown_verdict row.verdict) rows
    + count_by (λ row. is_skipped_verdict row.verdict) rows ≡ length rows
counted_once [] = refl
counted_once (row ∷ rows) = omega (
  arith,
  one_kind row.verdict,
  counted_once rows,
  sum_by-cons (λ (r : Row). one (is_proof r.verdict)) row rows,
  sum_by-cons (λ (r : Row). one (is_failure r.verdict)) row rows,
  sum_by-cons (λ (r : Row). one (is_unknown_verdict r.verdict)) row rows,
  sum_by-cons (λ (r : Row). one (is_skipped_verdict r.verdict)) row rows,
)
