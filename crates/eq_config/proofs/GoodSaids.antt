-- A line without a fault says what can be written again: names, and words that fit their place. That words fit is known
-- as 'it is not so that they don't', since this is what 'no fault' says.
use Rattle.std.proofs.Common.{◌≡◌, ℕ, ◌-◌, ◌≤◌, Bool, true, false, cond, eqb, List, [], ◌∷◌, length, drop, Option, Some, None, refl, sym, subst, arith, inl, inr}
use Rattle.std.specs.Prelude.{filter, All, codes, slice_index, slice_range}
use Rattle.std.specs.List.{slice_split, onto_first, prefix_len, suffix_len}
use Rattle.std.proofs.lemmas.Bool.{cases_Bool, cases_lt}
use Rattle.std.proofs.lemmas.List.Elements.{All-nil, All-cons, All-head, All-tail, All-take, All-drop}
use Rattle.std.proofs.lemmas.List.Splits.{slice_split-cons_yes, slice_split-cons_no}
use Rattle.eq_names.specs.Name.{IsNameByte, IsName}
use Rattle.eq_config.specs.declared.config.MatchRule.{MatchRule}
use Rattle.eq_config.specs.declared.config.CollectRule.{CollectRule}
use Rattle.eq_config.specs.declared.config.PartRule.{PartRule}
use Rattle.eq_config.specs.declared.fault.ConfigKind.{ConfigKind}
use Rattle.eq_config.specs.declared.fault.ConfigKind.TheVariants.{BadWord, BadNumber}
use Rattle.eq_config.specs.declared.keyword.Keyword.{Keyword}
use Rattle.eq_config.specs.declared.keyword.Keyword.TheVariants as keyword
use Rattle.eq_config.specs.declared.keyword.MatchKeyword.{MatchKeyword}
use Rattle.eq_config.specs.declared.keyword.CollectKeyword.{CollectKeyword}
use Rattle.eq_config.specs.declared.keyword.PartKeyword.{PartKeyword}
use Rattle.eq_config.specs.declared.limits.TheConstants.{MOST_DEPTH, MOST_CONFLICTS}
use Rattle.eq_config.specs.declared.said.Heading.{Heading as AnyHeading}
use Rattle.eq_config.specs.declared.said.Heading.TheVariants as heading
use Rattle.eq_config.specs.declared.said.Entry.{Entry as AnyEntry}
use Rattle.eq_config.specs.declared.said.Entry.TheVariants as entry
use Rattle.eq_config.specs.declared.said.Said.{Said}
use Rattle.eq_config.specs.declared.said.Said.TheVariants.{Nothing, Heading, Entry}
use Rattle.eq_config.specs.declared.said.SectionKind.{SectionKind}
use Rattle.eq_config.specs.declared.said.SectionKind.TheVariants as section
use Rattle.eq_config.specs.Lines.{IsTextByte, IsText, is_blank, is_word, words, behind_blanks, before_blanks, bracketed, heading_text}
use Rattle.eq_config.specs.Keywords.{title_of, keyword_of}
use Rattle.eq_config.specs.Words.{IsShort, IsFileWord, IsStrategyWord, IsPatternWord, IsNumber, value_of, word_at, OneWord}
use Rattle.eq_config.specs.Entries.{IsTopLine, IsPatternLine, MatchFits, match_rule_of, collect_rule_of, PartFits, part_rule_of, Fits, entry_of}
use Rattle.eq_config.specs.Headings.{top_words, HeadingFits, heading_of}
use Rattle.eq_config.specs.Forms.{Form, silent, heading as headed, plain, speaking, form_by, form_of, form_says, heading_said, entry_said, HeadingFault, LineFault}
use Rattle.eq_config.specs.inner.Stopping.{IsFine}
use Rattle.eq_config.proofs.SpacedLemmas.{AreNames}

-- a fact of each element
abbrev pub AllOf : {A : Type 0} → (A → Type 0) → List A → Type 0
AllOf P [] = Unit {0}
AllOf P (x ∷ xs) = P x × AllOf P xs

-- ---- what can be written again

abbrev pub IsGoodFile : List ℕ → Type 0
IsGoodFile word = IsName word × ¬ ¬ IsFileWord word

abbrev pub IsGoodTop : List ℕ → Type 0
IsGoodTop word = IsName word × ¬ ¬ IsShort word

abbrev pub IsGoodPattern : List ℕ → Type 0
IsGoodPattern word = IsName word × ¬ ¬ IsPatternWord word

abbrev pub IsGoodName : List ℕ → Type 0
IsGoodName word = IsName word × ¬ ¬ IsStrategyWord word

abbrev pub IsGoodNumber : ℕ → ℕ → Type 0
IsGoodNumber most n = (1 ≤ n) × (n ≤ most)

pub record IsGoodMatch (rule : MatchRule) : Type 0 where
  pub key : MatchKeyword
  pub words : List (List ℕ)
  pub names : AreNames words
  pub fits : ¬ ¬ MatchFits key words
  pub is : match_rule_of key words ≡ rule

pub record IsGoodCollect (rule : CollectRule) : Type 0 where
  pub key : CollectKeyword
  pub words : List (List ℕ)
  pub names : AreNames words
  pub fits : ¬ ¬ IsPatternLine words
  pub is : collect_rule_of key words ≡ rule

pub record IsGoodPart (rule : PartRule) : Type 0 where
  pub key : PartKeyword
  pub words : List (List ℕ)
  pub names : AreNames words
  pub fits : ¬ ¬ PartFits key words
  pub is : part_rule_of key words ≡ rule

abbrev pub IsGoodEntry : AnyEntry → Type 0
IsGoodEntry (entry.Files role files) = AllOf IsGoodFile files
IsGoodEntry (entry.Top role name) = IsGoodTop name
IsGoodEntry (entry.Match rule) = IsGoodMatch rule
IsGoodEntry (entry.Collect rule) = IsGoodCollect rule
IsGoodEntry (entry.Partition rule) = IsGoodPart rule
IsGoodEntry entry.Use = Unit {0}
IsGoodEntry (entry.Depth n) = IsGoodNumber MOST_DEPTH n
IsGoodEntry (entry.Conflicts n) = IsGoodNumber MOST_CONFLICTS n
IsGoodEntry (entry.Apply pattern) = IsGoodPattern pattern

abbrev pub IsGoodHeading : AnyHeading → Type 0
IsGoodHeading heading.Options = Unit {0}
IsGoodHeading (heading.Design role) = Unit {0}
IsGoodHeading (heading.Match top) = IsGoodPattern top
IsGoodHeading (heading.Collect top) = IsGoodPattern top
IsGoodHeading (heading.Partition top) = IsGoodPattern top
IsGoodHeading (heading.Strategy name) = IsGoodName name

abbrev pub IsGoodSaid : Said → Type 0
IsGoodSaid Nothing = Unit {0}
IsGoodSaid (Heading line head) = IsGoodHeading head
IsGoodSaid (Entry line) = IsGoodEntry line

-- ---- words that fit

files_good : (files : List (List ℕ)) → AreNames files → ¬ ¬ All IsFileWord files → AllOf IsGoodFile files
files_good [] names fit = tt
files_good (f ∷ files) names fit = (
  (names.0, λ no. fit (λ all. no (All-head IsFileWord f files all))),
  files_good files names.1 (λ no. fit (λ all. no (All-tail IsFileWord f files all))),
)

one_good : (P : List ℕ → Type 0) (ws : List (List ℕ)) → AreNames ws → ¬ ¬ OneWord P ws
    → IsName (word_at ws 0) × ¬ ¬ P (word_at ws 0)
one_good P [] names fit = absurd (fit (λ h. h))
one_good P (w ∷ []) names fit = (names.0, fit)
one_good P (w ∷ v ∷ more) names fit = absurd (fit (λ h. h))

top_good : (ws : List (List ℕ)) → AreNames ws → ¬ ¬ IsTopLine ws → IsGoodTop (word_at ws 1)
top_good [] names fit = absurd (fit (λ h. h))
top_good (w ∷ []) names fit = absurd (fit (λ h. h))
top_good (w ∷ v ∷ []) names fit = (names.1.0, λ no. fit (λ h. no h.1))
top_good (w ∷ v ∷ u ∷ more) names fit = absurd (fit (λ h. h))

-- an order that isn't refused holds
at_most : (a b : ℕ) → ¬ ¬ (a ≤ b) → a ≤ b
at_most a b h = elim (cases_lt b a) [
  | inl below ↦ absurd (h (λ le. absurd (omega arith)))
  | inr le ↦ le
]

number_good : (most : ℕ) (ws : List (List ℕ)) → AreNames ws → ¬ ¬ OneWord (IsNumber most) ws
    → IsGoodNumber most (value_of (word_at ws 0))
number_good most ws names fit =
    let n : ℕ = value_of (word_at ws 0) in
    let is = (one_good (IsNumber most) ws names fit).1 in
    (at_most 1 n (λ no. is (λ h. no h.some)), at_most n most (λ no. is (λ h. no h.within)))

pub entry_good : (key : Keyword) (ws : List (List ℕ)) → AreNames ws → ¬ ¬ Fits key ws → IsGoodEntry (entry_of key ws)
entry_good (keyword.Files role) ws names fit = files_good ws names (λ no. fit (λ h. no h.files))
entry_good (keyword.Top role) ws names fit = top_good ws names fit
entry_good (keyword.Match key) ws names fit = record { key = key; words = ws; names = names; fits = fit; is = refl }
entry_good (keyword.Collect key) ws names fit = record { key = key; words = ws; names = names; fits = fit; is = refl }
entry_good (keyword.Partition key) ws names fit = record { key = key; words = ws; names = names; fits = fit; is = refl }
entry_good keyword.Use ws names fit = tt
entry_good keyword.Depth ws names fit = number_good MOST_DEPTH ws names fit
entry_good keyword.Conflicts ws names fit = number_good MOST_CONFLICTS ws names fit
entry_good keyword.Apply ws names fit = one_good IsPatternWord ws names fit

star : IsName (codes "*")
star = record {
  some = λ e. absurd (cc);
  bytes = All-cons IsNameByte 42 [] (omega arith, omega arith)
      (All-nil IsNameByte);
}

top_names : (ws : List (List ℕ)) → AreNames ws → AreNames (top_words ws)
top_names [] names = (star, tt)
top_names (w ∷ ws) names = names

heading_good : (kind : SectionKind) (ws : List (List ℕ)) → AreNames ws → ¬ ¬ HeadingFits kind ws
    → IsGoodHeading (heading_of kind ws)
heading_good section.Options ws names fit = tt
heading_good (section.Design role) ws names fit = tt
heading_good section.Match ws names fit = one_good IsPatternWord (top_words ws) (top_names ws names) fit
heading_good section.Collect ws names fit = one_good IsPatternWord (top_words ws) (top_names ws names) fit
heading_good section.Partition ws names fit = one_good IsPatternWord (top_words ws) (top_names ws names) fit
heading_good section.Strategy ws names fit = one_good IsStrategyWord ws names fit

-- ---- the words of a line are names

AreVisible : List (List ℕ) → Type 0
AreVisible [] = Unit {0}
AreVisible (part ∷ parts) = All IsNameByte part × AreVisible parts

visible : (b : ℕ) → IsTextByte b → is_blank b ≡ false → IsNameByte b
visible b text none = grind arith

onto_visible : (b : ℕ) (parts : List (List ℕ)) → IsNameByte b → AreVisible parts → AreVisible (onto_first b parts)
unfolding AreVisible
onto_visible b [] h all = (All-cons IsNameByte b [] h (All-nil IsNameByte), tt)
onto_visible b (part ∷ parts) h all = (All-cons IsNameByte b part h all.0, all.1)

parts_visible : (line : List ℕ) → IsText line → AreVisible (slice_split is_blank line)
unfolding AreVisible
parts_visible [] text = (All-nil IsNameByte, tt)
parts_visible (b ∷ line) text =
    let rest : AreVisible (slice_split is_blank line) = parts_visible line (All-tail IsTextByte b line text) in
    elim (cases_Bool (is_blank b)) [
      | inl yes' ↦ subst AreVisible (sym (slice_split-cons_yes is_blank b line yes')) (All-nil IsNameByte, rest)
      | inr no' ↦ subst AreVisible (sym (slice_split-cons_no is_blank b line no'))
          (onto_visible b (slice_split is_blank line) (visible b (All-head IsTextByte b line text) no') rest)
    ]

names_of : (parts : List (List ℕ)) → AreVisible parts → AreNames (filter is_word parts)
unfolding AreVisible
names_of [] all = tt
names_of ([] ∷ parts) all = names_of parts all.1
names_of ((b ∷ bs) ∷ parts) all = (record { some = λ e. absurd (cc); bytes = all.0 }, names_of parts all.1)

words_names : (line : List ℕ) → IsText line → AreNames (words line)
unfolding words
words_names line text = names_of (slice_split is_blank line) (parts_visible line text)

-- ---- what a line without a fault says

found_good : (found : Option Keyword) (ws : List (List ℕ)) → AreNames ws
    → ((kind : ConfigKind) → ¬ LineFault found ws kind) → IsGoodSaid (entry_said found ws)
found_good None ws names fine = tt
found_good (Some key) ws names fine = entry_good key ws names (λ no. fine BadWord (no, fine BadNumber))

titled_good : (n : ℕ) (found : Option SectionKind) (word : List ℕ) (ws : List (List ℕ)) → AreNames ws
    → ((kind : ConfigKind) → ¬ HeadingFault found ws kind)
    → IsGoodSaid (heading_said n found (word ∷ ws))
titled_good n None word ws names fine = tt
titled_good n (Some kind) word ws names fine = heading_good kind ws names (λ no. fine BadWord no)

abbrev AreFormNames : Form → Type 0
AreFormNames silent = Unit {0}
AreFormNames (headed ws) = AreNames ws
AreFormNames (plain w ws) = AreNames ws

form_good : (n : ℕ) (at : Option SectionKind) (form : Form) → AreFormNames form → IsFine at form
    → IsGoodSaid (form_says n at form)
form_good n at silent names fine = tt
form_good n at (headed []) names fine = tt
form_good n at (headed (w ∷ ws)) names fine = titled_good n (title_of w) w ws names.1 fine
form_good n None (plain w ws) names fine = tt
form_good n (Some kind) (plain w ws) names fine = found_good (keyword_of kind w) ws names fine

-- what stands between the brackets of a line is part of it
inner_text : (line inner : List ℕ) → IsText line → heading_text line ≡ Some inner → IsText inner
unfolding heading_text
inner_text line inner text is = by (before_blanks (behind_blanks line))
    (All-take IsTextByte (length (behind_blanks line) - suffix_len is_blank (behind_blanks line)) (behind_blanks line)
    (All-drop IsTextByte (prefix_len is_blank line) line text)) is
  where
    pick : (c : Bool) (x : List ℕ) → IsText x → cond c (Some x) None ≡ Some inner → IsText inner
    pick true x h e = subst (λ (o : Option (List ℕ)). IsText (Rattle.std.specs.Prelude.unwrap_or o [])) e h
    pick false x h e = absurd (cc)

    by : (t : List ℕ) → IsText t → bracketed t ≡ Some inner → IsText inner
    by t h e = pick _ (slice_range t 1 (length t - 1)) (All-take IsTextByte (length t - 1 - 1) (drop 1 t)
        (All-drop IsTextByte 1 t h)) e

form_names : (line : List ℕ) → IsText line → AreFormNames (form_of line)
unfolding form_of
form_names line text = by (words line) (words_names line text) (heading_text line)
    (λ inner is. words_names inner (inner_text line inner text is))
  where
    spoken : (w : List ℕ) (rest : List (List ℕ)) → AreNames rest → (inner : Option (List ℕ))
        → ((t : List ℕ) → inner ≡ Some t → AreNames (words t)) → (c : Bool)
        → AreFormNames (cond c silent (speaking w rest inner))
    spoken w rest names inner inside true = tt
    spoken w rest names None inside false = names
    spoken w rest names (Some t) inside false = inside t refl

    by : (ws : List (List ℕ)) → AreNames ws → (inner : Option (List ℕ))
        → ((t : List ℕ) → inner ≡ Some t → AreNames (words t)) → AreFormNames (form_by ws inner)
    by [] names inner inside = tt
    by (w ∷ rest) names inner inside = spoken w rest names.1 inner inside (eqb (slice_index w 0) 35)

pub line_good : (n : ℕ) (at : Option SectionKind) (line : List ℕ) → IsText line → IsFine at (form_of line)
    → IsGoodSaid (form_says n at (form_of line))
line_good n at line text fine = form_good n at (form_of line) (form_names line text) fine
