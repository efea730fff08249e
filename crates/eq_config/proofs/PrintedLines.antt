-- The lines of a text that was put together line by line.
use Rattle.std.proofs.Common.{◌≡◌, ℕ, ◌+◌, ◌-◌, Bool, false, cond, eqb, List, [], ◌∷◌, length, get_or, take, refl, sym, ap, subst, ◌∙◌, arith, append_assoc, inl, inr}
use Rattle.std.specs.Prelude.{All}
use Rattle.std.specs.Str.Lines.{lines, lines_of_parts, strip_carriage_return}
use Rattle.std.proofs.lemmas.Bool.{ne_eqb}
use Rattle.std.proofs.lemmas.List.Splits.{slice_split_at}
use Rattle.eq_config.specs.declared.draft.Draft.{Draft}
use Rattle.eq_config.specs.Lines.{IsTextByte, IsText}
use Rattle.eq_config.specs.inner.Drafts.{draft_after}
use Rattle.eq_config.specs.Printing.{text_of}
use Rattle.eq_config.proofs.GoodSaids.{AllOf}
use Rattle.eq_config.proofs.Leading.{Leads}
use Rattle.eq_config.proofs.LineLemmas.{more_parts}

no_line_feed : (line : List ℕ) → IsText line → All (λ b. eqb b 10 ≡ false) line
no_line_feed line text = λ k d lt. ne_eqb (get_or line k d) 10 (byte (get_or line k d) (text k d lt))
  where
    byte : (b : ℕ) → IsTextByte b → b ≡ 10 → ⊥
    byte b (inl tab) e = absurd (omega arith)
    byte b (inr r) e = let from = r.0 in absurd (omega arith)

no_return : (line : List ℕ) → IsText line → strip_carriage_return line ≡ line
no_return line text =
    let P : Bool → Type 0 = λ c. cond c (take (length line - 1) line) line ≡ line in
    subst P (sym (ne_eqb (get_or line (length line - 1) 0) 13 (last line text))) refl
  where
    byte : (b : ℕ) → IsTextByte b → b ≡ 13 → ⊥
    byte b (inl tab) e = absurd (omega arith)
    byte b (inr r) e = let from = r.0 in absurd (omega arith)

    last : (line : List ℕ) → IsText line → get_or line (length line - 1) 0 ≡ 13 → ⊥
    last [] text e = absurd (omega arith)
    last (b ∷ bs) text e = byte (get_or (b ∷ bs) (length (b ∷ bs) - 1) 0) (text (length (b ∷ bs) - 1) 0 (omega arith)) e

pub lines_of_text : (all : List (List ℕ)) → AllOf IsText all → lines (text_of all) ≡ all
lines_of_text [] texts = refl
lines_of_text (line ∷ all) texts =
    ap lines (append_assoc line (10 ∷ []) (text_of all))
    ∙ ap lines_of_parts (slice_split_at (λ b. eqb b 10) line 10 (text_of all) (no_line_feed line texts.0) refl)
    ∙ more_parts line (text_of all)
    ∙ ap (λ (l : List ℕ). l ∷ lines (text_of all)) (no_return line texts.0)
    ∙ ap (λ (ls : List (List ℕ)). line ∷ ls) (lines_of_text all texts.1)

-- lines that lead on have bytes of text alone
pub led_texts : (P : Draft → Type 0) (d : Draft) (n : ℕ) (all : List (List ℕ)) → Leads P d n all → AllOf IsText all
led_texts P d n [] leads = tt
led_texts P d n (line ∷ all) leads = (leads.1.text, led_texts P (draft_after d leads.0) (n + 1) all leads.2)
