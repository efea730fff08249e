use Rattle.std.proofs.Common.{◌≤◌, ℕ, [], ◌∷◌, refl, arith}
use Rattle.std.proofs.lemmas.List.Elements.{All-cons}
use Rattle.eq_names.specs.Name.{IsName, IsNameByte}
use Rattle.eq_wit.proofs.Forms.{no_deletion, no_open_end}
use Rattle.eq_wit.proofs.examples.forms_of_lines.Goals as goal

one_byte : (b : ℕ) → (33 ≤ b) × (b ≤ 126) → IsName (b ∷ [])
one_byte b h = record {
  some = λ e. absurd (cc (e));
  bytes = All-cons IsNameByte b [] h (λ k d less. absurd (omega arith));
}

pub returns-clause-wrong_number : goal.returns-clause-wrong_number
returns-clause-wrong_number c =
    (refl, (one_byte 55 (omega arith, omega arith), (one_byte 120 (omega arith, omega arith), tt)))

pub returns-clause-wrong_word : goal.returns-clause-wrong_word
returns-clause-wrong_word c = λ h. absurd (cc (h.0))

pub returns-clause-missing : goal.returns-clause-missing
returns-clause-missing c = λ h. h.1.1

pub returns-clause-further : goal.returns-clause-further
returns-clause-further c = λ h. h.1.1

pub returns-clause-deletion : goal.returns-clause-deletion
returns-clause-deletion c = λ n step h. no_deletion step.clause step.ants h.1

pub returns-clause-no_end : goal.returns-clause-no_end
returns-clause-no_end c = λ n step h. no_open_end step.clause step.ants h.1
