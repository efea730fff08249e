-- One line more: what its reader found is what the definitions say of the line behind the lines before it.
use Rattle.std.proofs.Common.{◌≡◌, ℕ, ◌+◌, true, false, List, [], ◌∷◌, ◌++◌, length, Option, sym, ap, subst, ◌∙◌}
use Rattle.eq_config.specs.declared.draft.Draft.{Draft}
use Rattle.eq_config.specs.declared.fault.ConfigKind.{ConfigKind}
use Rattle.eq_config.specs.declared.fault.ConfigKind.TheVariants.{Twice, TooMany}
use Rattle.eq_config.specs.declared.fault.Stop.{Stop}
use Rattle.eq_config.specs.declared.fault.Stop.TheVariants as stop
use Rattle.eq_config.specs.declared.said.Said.{Said}
use Rattle.eq_config.specs.declared.said.SectionKind.{SectionKind}
use Rattle.eq_config.specs.Lines.{IsText}
use Rattle.eq_config.specs.Forms.{form_of, form_says, FormFault}
use Rattle.eq_config.specs.Limits as limits
use Rattle.eq_config.specs.Sections.{section_of}
use Rattle.eq_config.specs.Configs as spec
use Rattle.eq_config.specs.inner.Drafts.{draft_of, draft_after, is_twice, is_too_many}
use Rattle.eq_config.specs.inner.Stopping.{Stops, IsFine}
use Rattle.eq_config.proofs.DraftLemmas.{draft_more, draft_section, twice_same, too_many_same}
use Rattle.eq_config.proofs.Verdicts.{form_first, twice_first, too_many_first, fine_line}

module _ (d : Draft) (number : ℕ) (line : List ℕ) (before : List Said) (is : d ≡ draft_of before) (at : number ≡ length before + 1) where
  section_is : d.section ≡ section_of before
  section_is = ap (λ (x : Draft). x.section) is ∙ draft_section before

  said_is : (said : Said) → said ≡ form_says number d.section (form_of line) → said ≡ spec.said_at before line
  said_is said says =
      says
      ∙ ap (λ (n : ℕ). form_says n d.section (form_of line)) at
      ∙ ap (λ (s : Option SectionKind). form_says (length before + 1) s (form_of line)) section_is

  fine_is : IsFine d.section (form_of line) → IsFine (section_of before) (form_of line)
  fine_is fine = subst (λ (s : Option SectionKind). IsFine s (form_of line)) section_is fine

  twice_is : (said : Said) → said ≡ form_says number d.section (form_of line) → is_twice d said ≡ limits.is_twice before (spec.said_at before line)
  twice_is said says =
      ap (λ (x : Draft). is_twice x said) is ∙ twice_same before said ∙ ap (limits.is_twice before) (said_is said says)

  too_many_is : (said : Said) → said ≡ form_says number d.section (form_of line) → is_too_many d said ≡ limits.is_too_many before (spec.said_at before line)
  too_many_is said says =
      ap (λ (x : Draft). is_too_many x said) is ∙ too_many_same before said ∙ ap (limits.is_too_many before) (said_is said says)

  -- the line is faulty by itself
  pub own_fault : (kind : ConfigKind) → IsText line → FormFault d.section (form_of line) kind → spec.IsFirstKind before line kind
  own_fault kind text h = form_first before line kind text (subst (λ (s : Option SectionKind). FormFault s (form_of line) kind) section_is h)

  -- it says something twice
  pub said_twice : (said : Said) → said ≡ form_says number d.section (form_of line) → IsText line → IsFine d.section (form_of line) → is_twice d said ≡ true → spec.IsFirstKind before line Twice
  said_twice said says text fine twice = twice_first before line text (fine_is fine) (sym (twice_is said says) ∙ twice)

  -- or one too many
  pub said_too_many : (said : Said) → said ≡ form_says number d.section (form_of line) → IsText line → IsFine d.section (form_of line) → is_twice d said ≡ false
      → is_too_many d said ≡ true → spec.IsFirstKind before line TooMany
  said_too_many said says text fine once many =
      too_many_first before line text (fine_is fine) (sym (twice_is said says) ∙ once) (sym (too_many_is said says) ∙ many)

  -- or it has no fault
  pub said_fine : (said : Said) → said ≡ form_says number d.section (form_of line) → IsText line → IsFine d.section (form_of line) → is_twice d said ≡ false
      → is_too_many d said ≡ false → spec.IsFine before line
  said_fine said says text fine once few =
      fine_line before line text (fine_is fine) (sym (twice_is said says) ∙ once) (sym (too_many_is said says) ∙ few)

  -- and what it says is added
  pub added : (said : Said) (e : Draft) → said ≡ form_says number d.section (form_of line) → e ≡ draft_after d said → e ≡ draft_of (before ++ spec.said_at before line ∷ [])
  added said e says adds =
      adds
      ∙ ap (λ (x : Draft). draft_after x said) is
      ∙ sym (draft_more before said)
      ∙ ap (λ (s : Said). draft_of (before ++ s ∷ [])) (said_is said says)

-- what stopped the reading of the line
pub own_stop : (d : Draft) (number : ℕ) (line : List ℕ) → IsText line → (reason : Stop) → Stops (FormFault d.section (form_of line)) reason
    → Stops (λ kind. (before : List Said) → d ≡ draft_of before → number ≡ length before + 1 → spec.IsFirstKind before line kind) reason
own_stop d number line text (stop.Fault kind) h = λ before is at. own_fault d number line before is at kind text h
own_stop d number line text stop.Memory h = h
