-- What all rows say together, against what each of them says: `whole_of` tests them all, and no row says both.
use Rattle.std.proofs.Common.{◌≡◌, Bool, true, false, List, refl, sym, subst}
use Rattle.std.specs.Prelude.{All, Any, ◌↔◌, if◌then◌else◌}
use Rattle.std.specs.List.{list_all, list_any}
use Rattle.std.proofs.lemmas.Bool.{false≢true}
use Rattle.std.proofs.lemmas.List.Folds.{Any-from_list_any, list_any-from_Any}
use Rattle.std.proofs.lemmas.List.Sums.{AllPass-from_list_all, list_all-from_AllPass}
use Rattle.eq_compose.specs.declared.types.Row.{Row}
use Rattle.eq_compose.specs.declared.types.Verdict.{Verdict}
use Rattle.eq_compose.specs.declared.types.Verdict.TheVariants.{Proved, Fail, Unknown, Skipped}
use Rattle.eq_compose.specs.declared.types.Whole.{Whole}
use Rattle.eq_compose.specs.declared.types.Whole.TheVariants as whole
use Rattle.eq_compose.specs.Rows.{SaysFail, SaysProved, is_failure, is_proof}
use Rattle.eq_report.specs.Closing.{whole_of}

abbrev fails : List Row → Bool
fails rows = list_any (λ row. is_failure row.verdict) rows

abbrev passes : List Row → Bool
passes rows = list_all (λ row. is_proof row.verdict) rows

-- the whole by its two tests
abbrev told : Bool → Bool → Whole
told f p = if f then whole.Fail else (if p then whole.Pass else whole.Unknown)

passes_of : (f p : Bool) → told f p ≡ whole.Pass → p ≡ true
passes_of true p e = absurd (cc (e))
passes_of false true e = refl
passes_of false false e = absurd (cc (e))

fails_of : (f p : Bool) → told f p ≡ whole.Fail → f ≡ true
fails_of true p e = refl
fails_of false true e = absurd (cc (e))
fails_of false false e = absurd (cc (e))

told_pass : (f p : Bool) → (f ≡ true → ⊥) → p ≡ true → told f p ≡ whole.Pass
told_pass true p none e = absurd (none refl)
told_pass false true none e = refl
told_pass false false none e = absurd (false≢true e)

told_fail : (f p : Bool) → f ≡ true → told f p ≡ whole.Fail
told_fail true p e = refl
told_fail false p e = absurd (false≢true e)

-- no verdict is proved and fail
not_both : (v : Verdict) → is_proof v ≡ true → is_failure v ≡ true → ⊥
not_both (Proved k n) p f = false≢true f
not_both (Fail k n) p f = false≢true p
not_both (Unknown causes) p f = false≢true p
not_both Skipped p f = false≢true p

-- where all say proved, none says fail
none_fails : (rows : List Row) → All SaysProved rows → fails rows ≡ true → ⊥
none_fails rows all some =
    let failing = Any-from_list_any (λ row. is_failure row.verdict) rows some in
    let k = failing.0 in
    let row = failing.1 in
    let P : Row → Type 0 = λ r. SaysProved r in
    not_both row.verdict (subst P failing.3 (all k row failing.2)) failing.4

-- the whole is pass exactly where each row says proved
pub pass_where_all_proved : (rows : List Row) → (whole_of rows ≡ whole.Pass) ↔ All SaysProved rows
pass_where_all_proved rows = (
  λ e. AllPass-from_list_all (λ row. is_proof row.verdict) rows (passes_of (fails rows) (passes rows) e),
  λ all. told_pass (fails rows) (passes rows) (none_fails rows all)
      (list_all-from_AllPass (λ row. is_proof row.verdict) rows all),
)

-- and fail exactly where one says fail
pub fail_where_one_fails : (rows : List Row) → (whole_of rows ≡ whole.Fail) ↔ Any SaysFail rows
fail_where_one_fails rows = (
  λ e. Any-from_list_any (λ row. is_failure row.verdict) rows (fails_of (fails rows) (passes rows) e),
  λ any. told_fail (fails rows) (passes rows) (list_any-from_Any (λ row. is_failure row.verdict) rows any),
)

-- two that are pass together and fail together are one
same_whole : (w v : Whole) → (w ≡ whole.Pass → v ≡ whole.Pass) → (v ≡ whole.Pass → w ≡ whole.Pass) →
    (w ≡ whole.Fail → v ≡ whole.Fail) → (v ≡ whole.Fail → w ≡ whole.Fail) → w ≡ v
same_whole whole.Pass v p q f g = sym (p refl)
same_whole whole.Fail v p q f g = sym (f refl)
same_whole whole.Unknown whole.Pass p q f g = q refl
same_whole whole.Unknown whole.Fail p q f g = g refl
same_whole whole.Unknown whole.Unknown p q f g = refl

-- so nothing else is the whole
pub one_whole : (rows : List Row) (w : Whole) → ((w ≡ whole.Pass) ↔ All SaysProved rows) →
    ((w ≡ whole.Fail) ↔ Any SaysFail rows) → w ≡ whole_of rows
one_whole rows w pass fail =
    let p = pass_where_all_proved rows in
    let f = fail_where_one_fails rows in
    same_whole w (whole_of rows) (λ e. p.1 (pass.0 e)) (λ e. pass.1 (p.0 e)) (λ e. f.1 (fail.0 e)) (λ e. fail.1 (f.0 e))
