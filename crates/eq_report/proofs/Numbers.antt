-- The status that a number is of.
use Rattle.std.proofs.Common.{◌≡◌, ℕ, nat_eq, refl, sym, ap, ◌∙◌}
use Rattle.std.specs.Prelude.{if◌then◌else◌}
use Rattle.eq_compose.specs.declared.types.Whole.TheVariants as whole
use Rattle.eq_report.specs.declared.status.Status.{Status}
use Rattle.eq_report.specs.declared.status.Status.TheVariants.{Ended, Refused, Fault, NoMemory}
use Rattle.eq_report.specs.Closing.{status_number}

abbrev status_at : ℕ → Status
status_at n = if nat_eq n 0 then Ended whole.Pass else (if nat_eq n 2 then Ended whole.Fail else
    (if nat_eq n 4 then Ended whole.Unknown else (if nat_eq n 16 then Refused else
    (if nat_eq n 17 then Fault else NoMemory))))

back : (s : Status) → status_at (status_number s) ≡ s
back (Ended whole.Pass) = refl
back (Ended whole.Fail) = refl
back (Ended whole.Unknown) = refl
back Refused = refl
back Fault = refl
back NoMemory = refl

-- no two statuses have one number
pub one_status : (a b : Status) → status_number a ≡ status_number b → a ≡ b
one_status a b same = sym (back a) ∙ ap status_at same ∙ back b
