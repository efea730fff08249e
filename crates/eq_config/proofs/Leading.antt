-- Lines that lead from one draft to another, each without a fault; and that lines which lead from the start to a whole
-- draft have its configuration.
use Rattle.std.proofs.Common.{◌≡◌, ℕ, ◌+◌, ◌≤◌, false, List, [], ◌∷◌, ◌++◌, length, take, drop, Option, Some, refl, sym, ap, subst, ◌∙◌, arith, below_more}
use Rattle.std.proofs.lemmas.List.{length-drop, length-take, take_more, take_all}
use Rattle.eq_config.specs.declared.draft.Draft.{Draft}
use Rattle.eq_config.specs.declared.fault.ConfigKind.{ConfigKind}
use Rattle.eq_config.specs.declared.fault.ConfigKind.TheVariants.{BadWord, BadNumber, NotAscii, NoSection, UnknownSection, UnknownLine, Twice, TooMany, Missing}
use Rattle.eq_config.specs.declared.keyword.Keyword.{Keyword}
use Rattle.eq_config.specs.declared.keyword.Keyword.TheVariants as keyword
use Rattle.eq_config.specs.declared.limits.TheConstants.{MOST_DEPTH, MOST_CONFLICTS}
use Rattle.eq_config.specs.declared.said.Said.{Said}
use Rattle.eq_config.specs.declared.said.Said.TheVariants.{Heading, Entry}
use Rattle.eq_config.specs.declared.said.SectionKind.{SectionKind}
use Rattle.eq_config.specs.Lines.{IsText}
use Rattle.eq_config.specs.Keywords.{title_of, keyword_of}
use Rattle.eq_config.specs.Words.{IsNumber, OneWord}
use Rattle.eq_config.specs.Entries.{Fits, entry_of, IsOtherThan, IsBadNumber, EntryFault}
use Rattle.eq_config.specs.Headings.{HeadingFits, heading_of}
use Rattle.eq_config.specs.Forms.{Form, heading as headed, plain, form_of, form_says, heading_said, entry_said, HeadingFault, LineFault}
use Rattle.eq_config.specs.Printing.{spaced, heading_line}
use Rattle.eq_config.specs.Configs as spec
use Rattle.eq_config.specs.inner.Drafts.{draft_of, draft_after, repeats_heading, repeats_entry, exceeds, is_twice, is_too_many}
use Rattle.eq_config.specs.inner.Stopping.{IsFine}
use Rattle.eq_config.proofs.Passing.{said_more, length_saids, next_of}
use Rattle.eq_config.proofs.Reached.{said_fine, added}
use Rattle.eq_config.proofs.SpacedLemmas.{AreNames, text_spaced, text_heading, form_of_spaced, form_of_heading}

-- behind so many lines, of which the draft keeps what they said, the line says this and has no fault
pub record IsTaken (d : Draft) (number : ℕ) (line : List ℕ) (said : Said) : Type 0 where
  pub text : IsText line
  pub fine : IsFine d.section (form_of line)
  pub says : said ≡ form_says (number + 1) d.section (form_of line)
  pub once : is_twice d said ≡ false
  pub few : is_too_many d said ≡ false

-- the lines have no fault, and what all say together is such a draft
abbrev pub Leads : (Draft → Type 0) → Draft → ℕ → List (List ℕ) → Type 0
Leads P d number [] = P d
Leads P d number (line ∷ lines) = (said : Said) × IsTaken d number line said × Leads P (draft_after d said)
    (number + 1) lines

-- ---- all lines of a text

pub record AreLed (P : Draft → Type 0) (all : List (List ℕ)) : Type 0 where
  pub draft : Draft
  pub said : draft ≡ draft_of (spec.saids_of all)
  pub fine : spec.AreFine all (length all)
  pub so : P draft

walk : (P : Draft → Type 0) (all lines : List (List ℕ)) (k : ℕ) (d : Draft) → drop k all ≡ lines → k ≤ length all
    → d ≡ draft_of (spec.before_at all k) → spec.AreFine all k
    → Leads P d k lines → AreLed P all
walk P all [] k d rest within is fine leads =
    let ended : length all ≤ k = omega (arith, length-drop k all, ap (λ (ls : List (List ℕ)). length ls) rest) in
    record {
      draft = d;
      said = is ∙ ap (λ (ls : List (List ℕ)). draft_of (spec.saids_of ls)) (take_all k all ended);
      fine = λ at below. fine at (omega (arith, ended, below));
      so = leads;
    }
walk P all (line ∷ lines) k d rest within is fine leads =
    let said : Said = leads.0 in
    let taken : IsTaken d k line said = leads.1 in
    let before : List Said = spec.before_at all k in
    let n = next_of all k line lines rest in
    let count : k + 1 ≡ length before + 1 = omega (arith, length_saids (take k all), length-take k all, within) in
    let front : take (k + 1) all ≡ take k all ++ line ∷ [] = take_more all k [] n.within
    ∙ ap (λ (l : List ℕ). take k all ++ l ∷ []) n.line_is in
    let saids : spec.before_at all (k + 1) ≡ before ++ spec.said_at before line ∷ [] = ap spec.saids_of front
    ∙ said_more (take k all) line in
    let there = n.within in
    walk P all lines (k + 1) (draft_after d said) n.rest_is (omega (arith, there))
    (added d (k + 1) line before is count said (draft_after d said) taken.says refl ∙ ap draft_of (sym saids))
    (below_more (λ at. spec.IsFine (spec.before_at all at) (spec.line_at all at)) k fine
    (subst (λ (l : List ℕ). spec.IsFine before l) (sym n.line_is)
    (said_fine d (k + 1) line before is count said taken.says taken.text taken.fine taken.once taken.few)))
    leads.2

pub all_led : (P : Draft → Type 0) (all : List (List ℕ)) → Leads P (draft_of []) 0 all → AreLed P all
all_led P all leads = walk P all all 0 (draft_of []) refl (omega arith) refl (λ at below. absurd (omega arith)) leads

-- ---- what a line says in a section

-- a first word that is no heading's and no comment's
abbrev pub IsKey : List ℕ → Type 0
IsKey [] = ⊥
IsKey (b ∷ bs) = (b ≡ 35 → ⊥) × (b ≡ 91 → ⊥)

other_number : (most : ℕ) (words : List (List ℕ)) → IsOtherThan most words → ¬ OneWord (IsNumber most) words
other_number most [] h = absurd h
other_number most (w ∷ []) h = h.1
other_number most (w ∷ v ∷ more) h = absurd h

bad_number : (key : Keyword) (words : List (List ℕ)) → IsBadNumber key words → ¬ Fits key words
bad_number keyword.Depth words h = other_number MOST_DEPTH words h
bad_number keyword.Conflicts words h = other_number MOST_CONFLICTS words h
bad_number _ words h = absurd h

-- words that fit have no fault
fitting : (key : Keyword) (words : List (List ℕ)) → ¬ ¬ Fits key words → (kind : ConfigKind)
    → ¬ EntryFault key words kind
fitting key words fits BadWord h = fits h.0
fitting key words fits BadNumber h = fits (bad_number key words h)
fitting key words fits NotAscii h = h
fitting key words fits NoSection h = h
fitting key words fits UnknownSection h = h
fitting key words fits UnknownLine h = h
fitting key words fits Twice h = h
fitting key words fits TooMany h = h
fitting key words fits Missing h = h

-- a line of a section may stand there, and the lines below it lead on
pub entry_leads : (P : Draft → Type 0) (d : Draft) (n : ℕ) (section : SectionKind) (key : Keyword) (word : List ℕ)
    (args lines : List (List ℕ))
    → d.section ≡ Some section → keyword_of section word ≡ Some key → IsKey word → AreNames (word ∷ args)
    → ¬ ¬ Fits key args
    → repeats_entry d (entry_of key args) ≡ false → exceeds d (entry_of key args) ≡ false
    → Leads P (draft_after d (Entry (entry_of key args))) (n + 1) lines → Leads P d n (spaced (word ∷ args) ∷ lines)
entry_leads P d n section key [] args lines at known first names fits once few leads = absurd first
entry_leads P d n section key (b ∷ bs) args lines at known first names fits once few leads =
    let word : List ℕ = b ∷ bs in
    let form : form_of (spaced (word ∷ args)) ≡ plain word args = form_of_spaced b bs args names first.0 first.1 in
    let found : (kind : ConfigKind) → LineFault (keyword_of section word) args kind → ⊥ =
    λ kind h. fitting key args fits kind (subst (λ (o : Option Keyword). LineFault o args kind) known h) in
    let there : IsFine (Some section) (plain word args) = found in
    let says : Entry (entry_of key args) ≡ form_says (n + 1) (Some section) (plain word args) =
    sym (ap (λ (o : Option Keyword). entry_said o args) known) in (
      Entry (entry_of key args),
      record {
        text = text_spaced (word ∷ args) names;
        fine = subst (λ (f : Form). IsFine d.section f) (sym form)
            (subst (λ (s : Option SectionKind). IsFine s (plain word args)) (sym at) there);
        says = says ∙ ap (λ (s : Option SectionKind). form_says (n + 1) s (plain word args)) (sym at)
            ∙ ap (form_says (n + 1) d.section) (sym form);
        once = once;
        few = few;
      },
      leads,
    )

-- a heading may stand there, and the lines below it lead on
pub heading_leads : (P : Draft → Type 0) (d : Draft) (n : ℕ) (kind : SectionKind) (word : List ℕ)
    (args lines : List (List ℕ))
    → title_of word ≡ Some kind → AreNames (word ∷ args) → ¬ ¬ HeadingFits kind args
    → repeats_heading d (heading_of kind args) ≡ false → is_too_many d (Heading (n + 1) (heading_of kind args)) ≡ false
    → Leads P (draft_after d (Heading (n + 1) (heading_of kind args))) (n + 1) lines
    → Leads P d n (heading_line (word ∷ args) ∷ lines)
heading_leads P d n kind word args lines known names fits once few leads =
    let form : form_of (heading_line (word ∷ args)) ≡ headed (word ∷ args) = form_of_heading (word ∷ args) names in
    let found : (k : ConfigKind) → HeadingFault (title_of word) args k → ⊥ =
    λ k h. fitting_heading k (subst (λ (o : Option SectionKind). HeadingFault o args k) known h) in
    let there : IsFine d.section (headed (word ∷ args)) = found in
    let says : Heading (n + 1) (heading_of kind args) ≡ form_says (n + 1) d.section (headed (word ∷ args)) =
    sym (ap (λ (o : Option SectionKind). heading_said (n + 1) o (word ∷ args)) known) in (
      Heading (n + 1) (heading_of kind args),
      record {
        text = text_heading (word ∷ args) names;
        fine = subst (λ (f : Form). IsFine d.section f) (sym form) there;
        says = says ∙ ap (form_says (n + 1) d.section) (sym form);
        once = once;
        few = few;
      },
      leads,
    )
  where
    fitting_heading : (k : ConfigKind) → HeadingFault (Some kind) args k → ⊥
    fitting_heading BadWord h = fits h
    fitting_heading _ h = h
