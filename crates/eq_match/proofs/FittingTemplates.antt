-- The templates of a text's configuration fit their patterns. That a line has no fault says 'it is not so that its
-- words
-- don't fit'; a text that is no template has a fault, so the templates fit.
use Rattle.std.proofs.Common.{◌≡◌, ℕ, zero, suc, ◌+◌, ◌<◌, ◌≤◌, ◌⊎◌, List, [], ◌∷◌, ◌++◌, length, take, Option, Some, None, sym, ap, subst, ◌∙◌, arith, inl, inr}
use Rattle.std.specs.Prelude.{All}
use Rattle.std.specs.Str.Lines.{lines}
use Rattle.std.proofs.lemmas.List.{take_more, take_all}
use Rattle.std.proofs.lemmas.List.Sums.{fold_push}
use Rattle.std.proofs.lemmas.List.Elements.{All-nil, All-cons}
use Rattle.eq_names.specs.declared.fault.TplErr.{TplErr}
use Rattle.eq_names.specs.Patterns.{HasWilds}
use Rattle.eq_names.specs.Templates.{HasTemplateFault, IsTemplate}
use Rattle.eq_config.specs.declared.config.Config.{Config}
use Rattle.eq_config.specs.declared.config.MatchRule.{MatchRule}
use Rattle.eq_config.specs.declared.config.MatchSection.{MatchSection}
use Rattle.eq_config.specs.declared.config.PartRule.{PartRule}
use Rattle.eq_config.specs.declared.config.PartSection.{PartSection}
use Rattle.eq_config.specs.declared.fault.ConfigKind.TheVariants.{BadWord, BadNumber}
use Rattle.eq_config.specs.declared.keyword.Keyword.{Keyword}
use Rattle.eq_config.specs.declared.keyword.Keyword.TheVariants as keyword
use Rattle.eq_config.specs.declared.keyword.MatchKeyword.{MatchKeyword}
use Rattle.eq_config.specs.declared.keyword.MatchKeyword.TheVariants as matching
use Rattle.eq_config.specs.declared.keyword.PartKeyword.{PartKeyword}
use Rattle.eq_config.specs.declared.keyword.PartKeyword.TheVariants as parting
use Rattle.eq_config.specs.declared.said.Heading.TheVariants as heading
use Rattle.eq_config.specs.declared.said.Entry.{Entry as AnyEntry}
use Rattle.eq_config.specs.declared.said.Entry.TheVariants as entry
use Rattle.eq_config.specs.declared.said.Said.{Said}
use Rattle.eq_config.specs.declared.said.Said.TheVariants.{Heading, Entry}
use Rattle.eq_config.specs.declared.said.SectionKind.{SectionKind}
use Rattle.eq_config.specs.Configs as spec
use Rattle.eq_config.specs.Entries.{IsRenameLine, IsSignedLine, Fits, entry_of, MatchFits, PartFits, match_rule_of, part_rule_of}
use Rattle.eq_config.specs.Forms.{Form, silent, heading as headed, plain, FormFault, LineFault, entry_said, form_of, form_says, heading_said}
use Rattle.eq_config.specs.Headings.{title}
use Rattle.eq_config.specs.Keywords.{keyword_of}
use Rattle.eq_config.specs.Sections.{matches_after, matches_of, on_last, partitions_after, partitions_of, section_of}
use Rattle.eq_config.specs.Words.{Fills, unsigned, word_at}
use Rattle.eq_match.specs.Fitting.{FitsPattern, HasFittingTemplates, RuleFits, PartRuleFits}

abbrev AllOf : {A : Type 0} → (A → Type 0) → List A → Type 0
AllOf P [] = Unit {0}
AllOf P (x ∷ xs) = P x × AllOf P xs

all_push : {A : Type 0} (P : A → Type 0) (xs : List A) (x : A) → AllOf P xs → P x → AllOf P (xs ++ x ∷ [])
all_push P [] x all is = (is, tt)
all_push P (y ∷ ys) x all is = (all.0, all_push P ys x all.1 is)

all_of : {A : Type 0} (P : A → Type 0) (xs : List A) → AllOf P xs → All P xs
all_of P [] all = All-nil P
all_of P (x ∷ xs) all = All-cons P x xs all.0 (all_of P xs all.1)

module _ (one_number_of_wilds : (pattern : List ℕ) (m n : ℕ) → HasWilds pattern m → HasWilds pattern n → m ≡ n)
    (template_or_fault : (text : List ℕ) (wilds : ℕ) → IsTemplate text wilds ⊎ ((fault : TplErr) × HasTemplateFault
    text wilds fault))
    (no_faulty_template : (text : List ℕ) (wilds : ℕ) (fault : TplErr) → IsTemplate text wilds → ¬ HasTemplateFault
    text wilds fault) where
  fills : (pattern template : List ℕ) → ¬ ¬ Fills pattern template → FitsPattern pattern template
  fills pattern template fit wilds has = elim (template_or_fault template wilds) [
    | inl is ↦ is
    | inr bad ↦ absurd (fit (λ h.
        let same = one_number_of_wilds pattern h.0 wilds h.1 has in
        no_faulty_template template wilds bad.0 (subst (IsTemplate template) same h.2) bad.1))
  ]

  signed_fit : (ws : List (List ℕ)) → ¬ ¬ IsSignedLine ws → FitsPattern (word_at ws 0) (unsigned (word_at ws 1))
  signed_fit [] fit = absurd (fit (λ h. h))
  signed_fit (w ∷ []) fit = absurd (fit (λ h. h))
  signed_fit (w ∷ v ∷ []) fit = fills w (unsigned v) (λ no. fit (λ h. no h.1.1))
  signed_fit (w ∷ v ∷ u ∷ more) fit = absurd (fit (λ h. h))

  rename_fit : (ws : List (List ℕ)) → ¬ ¬ IsRenameLine ws → FitsPattern (word_at ws 0) (word_at ws 1)
  rename_fit [] fit = absurd (fit (λ h. h))
  rename_fit (w ∷ []) fit = absurd (fit (λ h. h))
  rename_fit (w ∷ v ∷ []) fit = fills w v (λ no. fit (λ h. no h.1.1))
  rename_fit (w ∷ v ∷ u ∷ more) fit = absurd (fit (λ h. h))

  match_fit : (key : MatchKeyword) (ws : List (List ℕ)) → ¬ ¬ MatchFits key ws → RuleFits (match_rule_of key ws)
  match_fit matching.GoldMatch ws fit = signed_fit ws fit
  match_fit matching.GateMatch ws fit = signed_fit ws fit
  match_fit matching.GoldNo ws fit = tt
  match_fit matching.GateNo ws fit = tt

  part_fit : (key : PartKeyword) (ws : List (List ℕ)) → ¬ ¬ PartFits key ws → PartRuleFits (part_rule_of key ws)
  part_fit parting.Merge ws fit = tt
  part_fit parting.Path ws fit = tt
  part_fit parting.Rename ws fit = rename_fit ws fit

  -- ---- what a line says

  abbrev EntryFits : AnyEntry → Type 0
  EntryFits (entry.Match rule) = RuleFits rule
  EntryFits (entry.Partition rule) = PartRuleFits rule
  EntryFits _ = Unit {0}

  abbrev SaidFits : Said → Type 0
  SaidFits (Entry e) = EntryFits e
  SaidFits _ = Unit {0}

  entry_fit : (key : Keyword) (ws : List (List ℕ)) → ¬ ¬ Fits key ws → EntryFits (entry_of key ws)
  entry_fit (keyword.Match key) ws fit = match_fit key ws fit
  entry_fit (keyword.Partition key) ws fit = part_fit key ws fit
  entry_fit _ ws fit = tt

  found_fit : (found : Option Keyword) (ws : List (List ℕ)) → ¬ LineFault found ws BadWord → ¬ LineFault found ws
      BadNumber →
      SaidFits (entry_said found ws)
  found_fit None ws word number = tt
  found_fit (Some key) ws word number = entry_fit key ws (λ no. word (no, number))

  titled_fit : (n : ℕ) (found : Option SectionKind) (ws : List (List ℕ)) → SaidFits (heading_said n found ws)
  titled_fit n None ws = tt
  titled_fit n (Some kind) ws = tt

  form_fit : (n : ℕ) (at : Option SectionKind) (form : Form) → ¬ FormFault at form BadWord → ¬ FormFault at form
      BadNumber →
      SaidFits (form_says n at form)
  form_fit n at silent word number = tt
  form_fit n at (headed ws) word number = titled_fit n (title ws) ws
  form_fit n None (plain w ws) word number = tt
  form_fit n (Some kind) (plain w ws) word number = found_fit (keyword_of kind w) ws word number

  -- ---- sections

  abbrev MatchesFit : MatchSection → Type 0
  MatchesFit s = AllOf RuleFits s.rules

  abbrev PartsFit : PartSection → Type 0
  PartsFit s = AllOf PartRuleFits s.rules

  last_match : (rule : MatchRule) → RuleFits rule → (all : List MatchSection) → AllOf MatchesFit all →
      AllOf MatchesFit (on_last (λ s. record { top = s.top; rules = s.rules ++ rule ∷ [] }) all)
  last_match rule fits [] all = tt
  last_match rule fits (s ∷ []) all = (all_push RuleFits s.rules rule all.0 fits, tt)
  last_match rule fits (s ∷ t ∷ more) all = (all.0, last_match rule fits (t ∷ more) all.1)

  last_part : (rule : PartRule) → PartRuleFits rule → (all : List PartSection) → AllOf PartsFit all →
      AllOf PartsFit (on_last (λ s. record { top = s.top; rules = s.rules ++ rule ∷ [] }) all)
  last_part rule fits [] all = tt
  last_part rule fits (s ∷ []) all = (all_push PartRuleFits s.rules rule all.0 fits, tt)
  last_part rule fits (s ∷ t ∷ more) all = (all.0, last_part rule fits (t ∷ more) all.1)

  match_more : (all : List MatchSection) (said : Said) → SaidFits said → AllOf MatchesFit all → AllOf MatchesFit
      (matches_after all said)
  match_more all (Heading line (heading.Match top)) fits fit = all_push MatchesFit all (record {
    top = top;
    rules = [];
  }) fit tt
  match_more all (Entry (entry.Match rule)) fits fit = last_match rule fits all fit
  match_more all _ fits fit = fit

  part_more : (all : List PartSection) (said : Said) → SaidFits said → AllOf PartsFit all → AllOf PartsFit
      (partitions_after all said)
  part_more all (Heading line (heading.Partition top)) fits fit = all_push PartsFit all (record {
    top = top;
    rules = [];
  }) fit tt
  part_more all (Entry (entry.Partition rule)) fits fit = last_part rule fits all fit
  part_more all _ fits fit = fit

  record SaidsFit (saids : List Said) : Type 0 where
    pub matches : AllOf MatchesFit (matches_of saids)
    pub partitions : AllOf PartsFit (partitions_of saids)

  fit_more : (before : List Said) (said : Said) → SaidFits said → SaidsFit before → SaidsFit (before ++ said ∷ [])
  fit_more before said fits fit = record {
    matches = subst (AllOf MatchesFit) (sym (fold_push matches_after [] before said)) (match_more (matches_of before)
        said fits fit.matches);
    partitions = subst (AllOf PartsFit) (sym (fold_push partitions_after [] before said)) (part_more (partitions_of
        before) said fits fit.partitions);
  }

  line_more : (before : List Said) (line : List ℕ) → spec.IsFine before line → SaidsFit before → SaidsFit (before ++
      spec.said_at before line ∷ [])
  line_more before line fine fit = fit_more before (spec.said_at before line)
      (form_fit (length before + 1) (section_of before) (form_of line) (fine BadWord) (fine BadNumber)) fit

  fit_to : (all : List (List ℕ)) → spec.AreFine all (length all) → (k : ℕ) → k ≤ length all → SaidsFit (spec.before_at
      all k)
  fit_to all fine zero within = record { matches = tt; partitions = tt }
  fit_to all fine (suc k) within =
      let next : suc k ≡ k + 1 = omega arith in
      let there : k < length all = omega arith in
      let front : take (suc k) all ≡ take k all ++ spec.line_at all k ∷ [] = ap (λ (n : ℕ). take n all) next ∙
      take_more all k [] there in
      let saids : spec.before_at all (suc k) ≡ spec.before_at all k ++ spec.said_at (spec.before_at all k)
      (spec.line_at all k) ∷ [] =
      ap spec.saids_of front ∙ fold_push (λ before line. before ++ spec.said_at before line ∷ []) [] (take k all)
      (spec.line_at all k) in
      subst SaidsFit (sym saids) (line_more (spec.before_at all k) (spec.line_at all k) (fine k there) (fit_to all fine
      k (omega arith)))

  sections_all : (sections : List MatchSection) → AllOf MatchesFit sections → All (λ (s : MatchSection). All RuleFits
      s.rules) sections
  sections_all [] all = All-nil (λ (s : MatchSection). All RuleFits s.rules)
  sections_all (s ∷ more) all = All-cons (λ (s : MatchSection). All RuleFits s.rules) s more (all_of RuleFits s.rules
      all.0) (sections_all more all.1)

  parts_all : (sections : List PartSection) → AllOf PartsFit sections → All (λ (s : PartSection). All PartRuleFits s.rules)
      sections
  parts_all [] all = All-nil (λ (s : PartSection). All PartRuleFits s.rules)
  parts_all (s ∷ more) all = All-cons (λ (s : PartSection). All PartRuleFits s.rules) s more (all_of PartRuleFits s.rules
      all.0) (parts_all more all.1)

  pub config_fits : (c : Config) → spec.IsConfig c → HasFittingTemplates c
  config_fits c is =
      let all = lines is.0 in
      let h = is.1 in
      let ended : spec.before_at all (length all) ≡ spec.saids_of all = ap spec.saids_of (take_all (length all) all
      (omega arith)) in
      let fit = subst SaidsFit ended (fit_to all h.fine (length all) (omega arith)) in
      subst HasFittingTemplates (sym h.config_is) (record {
        matches = sections_all (matches_of (spec.saids_of all)) fit.matches;
        partitions = parts_all (partitions_of (spec.saids_of all)) fit.partitions;
      })
