-- What a draft keeps is what the lines so far say together.
use Rattle.std.proofs.Common.{◌≡◌, List, [], ◌∷◌, ◌++◌, None, refl}
use Rattle.std.proofs.lemmas.List.Sums.{fold_push}
use Rattle.eq_config.specs.declared.said.Role.TheVariants.{Gold, Gate}
use Rattle.eq_config.specs.declared.said.Heading.TheVariants as heading
use Rattle.eq_config.specs.declared.said.Entry.TheVariants as entry
use Rattle.eq_config.specs.declared.said.Said.{Said}
use Rattle.eq_config.specs.declared.said.Said.TheVariants.{Nothing, Heading, Entry}
use Rattle.eq_config.specs.Sections.{section_of, section_after, options_after, line_after, files_after, top_after, matches_after, collects_after, partitions_after, strategies_after, rules_after}
use Rattle.eq_config.specs.Limits as limits
use Rattle.eq_config.specs.inner.Drafts.{draft_of, draft_after, is_twice, is_too_many}

-- one line more
pub draft_more : (saids : List Said) (said : Said) → draft_of (saids ++ said ∷ []) ≡ draft_after (draft_of saids) said
unfolding draft_of
draft_more saids said = λ i. record {
  section = fold_push section_after None saids said i;
  options = fold_push options_after None saids said i;
  gold = record { line = fold_push (line_after Gold) None saids said i; files = fold_push (files_after Gold) [] saids said i; top = fold_push (top_after Gold) None saids said i };
  gate = record { line = fold_push (line_after Gate) None saids said i; files = fold_push (files_after Gate) [] saids said i; top = fold_push (top_after Gate) None saids said i };
  matches = fold_push matches_after [] saids said i;
  collects = fold_push collects_after [] saids said i;
  partitions = fold_push partitions_after [] saids said i;
  strategies = fold_push strategies_after [] saids said i;
  rules = fold_push rules_after 0 saids said i;
}

pub draft_section : (saids : List Said) → (draft_of saids).section ≡ section_of saids
unfolding draft_of
draft_section saids = refl

-- the draft tells what is said twice
pub twice_same : (saids : List Said) (said : Said) → is_twice (draft_of saids) said ≡ limits.is_twice saids said
unfolding draft_of
twice_same saids Nothing = refl
twice_same saids (Heading line heading.Options) = refl
twice_same saids (Heading line (heading.Design Gold)) = refl
twice_same saids (Heading line (heading.Design Gate)) = refl
twice_same saids (Heading line (heading.Match top)) = refl
twice_same saids (Heading line (heading.Collect top)) = refl
twice_same saids (Heading line (heading.Partition top)) = refl
twice_same saids (Heading line (heading.Strategy name)) = refl
twice_same saids (Entry (entry.Files role files)) = refl
twice_same saids (Entry (entry.Top Gold name)) = refl
twice_same saids (Entry (entry.Top Gate name)) = refl
twice_same saids (Entry (entry.Match rule)) = refl
twice_same saids (Entry (entry.Collect rule)) = refl
twice_same saids (Entry (entry.Partition rule)) = refl
twice_same saids (Entry entry.Use) = refl
twice_same saids (Entry (entry.Depth n)) = refl
twice_same saids (Entry (entry.Conflicts n)) = refl
twice_same saids (Entry (entry.Apply pattern)) = refl

-- and what is one too many
pub too_many_same : (saids : List Said) (said : Said) → is_too_many (draft_of saids) said ≡ limits.is_too_many saids said
unfolding draft_of
too_many_same saids Nothing = refl
too_many_same saids (Heading line heading.Options) = refl
too_many_same saids (Heading line (heading.Design role)) = refl
too_many_same saids (Heading line (heading.Match top)) = refl
too_many_same saids (Heading line (heading.Collect top)) = refl
too_many_same saids (Heading line (heading.Partition top)) = refl
too_many_same saids (Heading line (heading.Strategy name)) = refl
too_many_same saids (Entry (entry.Files Gold files)) = refl
too_many_same saids (Entry (entry.Files Gate files)) = refl
too_many_same saids (Entry (entry.Top role name)) = refl
too_many_same saids (Entry (entry.Match rule)) = refl
too_many_same saids (Entry (entry.Collect rule)) = refl
too_many_same saids (Entry (entry.Partition rule)) = refl
too_many_same saids (Entry entry.Use) = refl
too_many_same saids (Entry (entry.Depth n)) = refl
too_many_same saids (Entry (entry.Conflicts n)) = refl
too_many_same saids (Entry (entry.Apply pattern)) = refl
