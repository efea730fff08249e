-- The draft of a text's lines, where the text has a configuration: it can be written again, and nothing is missing.
use Rattle.std.proofs.Common.{◌≡◌, ℕ, suc, zero, ◌+◌, ◌<◌, ◌≤◌, eqb, List, [], ◌∷◌, ◌++◌, length, get_or, take, None, sym, ap, subst, ◌∙◌, arith, inl, inr}
use Rattle.std.specs.Str.Lines.{lines}
use Rattle.std.proofs.lemmas.Bool.{cases_Bool, cases_lt, both_ways, eqb-true, eq-eqb, false_from_ne_true}
use Rattle.std.proofs.lemmas.List.{take_more, take_all}
use Rattle.eq_config.specs.declared.config.Config.{Config}
use Rattle.eq_config.specs.declared.draft.Draft.{Draft}
use Rattle.eq_config.specs.declared.fault.ConfigKind.TheVariants.{NotAscii, Twice, TooMany}
use Rattle.eq_config.specs.declared.said.Said.{Said}
use Rattle.eq_config.specs.Lines.{IsTextByte, IsText}
use Rattle.eq_config.specs.Sections.{section_of}
use Rattle.eq_config.specs.Configs as spec
use Rattle.eq_config.specs.inner.Drafts.{draft_of}
use Rattle.eq_config.specs.inner.Wholes.{missing_in_draft, config_of_draft}
use Rattle.eq_config.proofs.DraftLemmas.{draft_more, twice_same, too_many_same}
use Rattle.eq_config.proofs.Ended.{missing_of_draft, whole_of_draft}
use Rattle.eq_config.proofs.GoodDrafts.{IsGood, good_start, good_more}
use Rattle.eq_config.proofs.GoodSaids.{line_good}
use Rattle.eq_config.proofs.Passing.{said_more}
use Rattle.eq_config.proofs.Verdicts.{own_fine}

-- a line that isn't NotAscii has bytes of text alone
byte_stable : (b : ℕ) → ¬ ¬ IsTextByte b → IsTextByte b
byte_stable b h = elim (cases_lt b 0x20) [
  | inl low ↦ elim (cases_Bool (eqb b 9)) [
    | inl yes' ↦ inl (eqb-true b 9 yes')
    | inr no' ↦ absurd (h (λ t. elim t [
      | inl tab ↦ both_ways (eqb b 9) no' (eq-eqb b 9 tab)
      | inr r ↦ absurd (omega (arith, r.0))
    ]))
  ]
  | inr from ↦ elim (cases_lt 0x7E b) [
    | inl above ↦ absurd (h (λ t. elim t [
      | inl tab ↦ absurd (omega arith)
      | inr r ↦ absurd (omega (arith, r.1))
    ]))
    | inr to ↦ inr (from, to)
  ]
]

text_stable : (line : List ℕ) → ¬ ¬ IsText line → IsText line
text_stable line h = λ k d lt. byte_stable (get_or line k d) (λ no. h (λ text. no (text k d lt)))

-- a line more
good_line : (before : List Said) (line : List ℕ) → spec.IsFine before line → IsGood (draft_of before)
    → IsGood (draft_of (before ++ spec.said_at before line ∷ []))
good_line before line fine h =
    let said : Said = spec.said_at before line in
    let good = line_good (length before + 1) (section_of before) line (text_stable line (fine NotAscii))
    (own_fine before line fine) in
    let once = twice_same before said ∙ false_from_ne_true _ (fine Twice) in
    let few = too_many_same before said ∙ false_from_ne_true _ (fine TooMany) in
    subst IsGood (sym (draft_more before said)) (good_more (draft_of before) said h good once few)

good_at : (all : List (List ℕ)) → spec.AreFine all (length all) → (k : ℕ) → k ≤ length all
    → IsGood (draft_of (spec.before_at all k))
good_at all fine zero within = good_start
good_at all fine (suc k) within =
    let next : suc k ≡ k + 1 = omega arith in
    let there : k < length all = omega arith in
    let front : take (suc k) all ≡ take k all ++ spec.line_at all k ∷ [] = ap (λ (n : ℕ). take n all) next
    ∙ take_more all k [] there in
    let saids : spec.before_at all (suc k) ≡ spec.before_at all k ++ spec.said_at (spec.before_at all k)
    (spec.line_at all k) ∷ [] = ap spec.saids_of front ∙ said_more (take k all) (spec.line_at all k) in
    subst (λ (s : List Said). IsGood (draft_of s)) (sym saids)
    (good_line (spec.before_at all k) (spec.line_at all k) (fine k there) (good_at all fine k (omega arith)))

-- what a draft is that a text with a configuration has
pub record IsWhole (d : Draft) (c : Config) : Type 0 where
  pub good : IsGood d
  pub end : ℕ
  pub whole : missing_in_draft end d ≡ None
  pub config_is : c ≡ config_of_draft d

pub whole_draft : (text : List ℕ) (c : Config) → spec.HasConfig text c
    → IsWhole (draft_of (spec.saids_of (lines text))) c
whole_draft text c h =
    let all : List (List ℕ) = lines text in
    let ended : spec.before_at all (length all) ≡ spec.saids_of all =
    ap spec.saids_of (take_all (length all) all (omega arith)) in
    record {
      good = subst (λ (s : List Said). IsGood (draft_of s)) ended (good_at all h.fine (length all) (omega arith));
      end = length (spec.saids_of all) + 1;
      whole = missing_of_draft (spec.saids_of all) ∙ h.whole;
      config_is = h.config_is ∙ sym (whole_of_draft (spec.saids_of all));
    }
