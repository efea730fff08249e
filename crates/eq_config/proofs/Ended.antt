-- What is missing, and the whole, by the draft of all lines.
use Rattle.std.proofs.Common.{◌≡◌, ℕ, ◌+◌, List, length, Some, None, refl, sym, ap, ◌∙◌, inr}
use Rattle.std.specs.Str.Lines.{lines}
use Rattle.eq_config.specs.declared.config.Config.{Config}
use Rattle.eq_config.specs.declared.draft.Draft.{Draft}
use Rattle.eq_config.specs.declared.fault.ConfigKind.TheVariants.{Missing}
use Rattle.eq_config.specs.declared.said.Said.{Said}
use Rattle.eq_config.specs.Configs.{saids_of, missing, config_of, HasConfig, HasFault, AreFine}
use Rattle.eq_config.specs.inner.Drafts.{draft_of}
use Rattle.eq_config.specs.inner.Wholes.{missing_in_draft, config_of_draft}
use Rattle.eq_config.proofs.Passing.{length_saids}

-- what is missing of the lines, and their whole, are those of their draft
pub missing_of_draft : (saids : List Said) → missing_in_draft (length saids + 1) (draft_of saids) ≡ missing saids
unfolding draft_of
missing_of_draft saids = refl

pub whole_of_draft : (saids : List Said) → config_of_draft (draft_of saids) ≡ config_of saids
unfolding draft_of
whole_of_draft saids = refl

missing_at_end : (text : List ℕ) (number : ℕ) (draft : Draft) → draft ≡ draft_of (saids_of (lines text)) → number ≡ length (lines text) → missing_in_draft (number + 1) draft ≡ missing (saids_of (lines text))
missing_at_end text number draft said count =
    ap (λ (n : ℕ). missing_in_draft (n + 1) draft) (count ∙ sym (length_saids (lines text)))
    ∙ ap (λ (d : Draft). missing_in_draft (length (saids_of (lines text)) + 1) d) said
    ∙ missing_of_draft (saids_of (lines text))

pub misses : (text : List ℕ) (number line : ℕ) (draft : Draft) → draft ≡ draft_of (saids_of (lines text)) → number ≡ length (lines text) → AreFine (lines text) (length (lines text))
    → missing_in_draft (number + 1) draft ≡ Some line → HasFault text line Missing
misses text number line draft said count fine is = inr (record {
  missing_is = refl;
  fine = fine;
  line_is = sym (missing_at_end text number draft said count) ∙ is;
})

pub has_config : (text : List ℕ) (number : ℕ) (draft : Draft) (config : Config) → draft ≡ draft_of (saids_of (lines text)) → number ≡ length (lines text) → AreFine (lines text) (length (lines text))
    → missing_in_draft (number + 1) draft ≡ None → config ≡ config_of_draft draft → HasConfig text config
has_config text number draft config said count fine is whole = record {
  fine = fine;
  whole = sym (missing_at_end text number draft said count) ∙ is;
  config_is = whole ∙ ap config_of_draft said ∙ whole_of_draft (saids_of (lines text));
}
