-- Mirrors src/draft.rt; nothing here has to be believed.
use Rattle.std.specs.Prelude.{ℕ, ◌+◌, Bool, false, List, [], length, nat_le, nat_lt, None, is_some}
use Rattle.std.specs.List.{list_any}
use Rattle.std.specs.Str.{bytes_eq}
use Rattle.eq_config.specs.declared.draft.Draft.{Draft}
use Rattle.eq_config.specs.declared.section.SideSection.{SideSection}
use Rattle.eq_config.specs.declared.limits.TheConstants.{MOST_FILES, MOST_STRATEGIES, MOST_RULES}
use Rattle.eq_config.specs.declared.said.Role.TheVariants.{Gold, Gate}
use Rattle.eq_config.specs.declared.said.Heading.{Heading as AnyHeading}
use Rattle.eq_config.specs.declared.said.Heading.TheVariants as heading
use Rattle.eq_config.specs.declared.said.Entry.{Entry as AnyEntry}
use Rattle.eq_config.specs.declared.said.Entry.TheVariants as entry
use Rattle.eq_config.specs.declared.said.Said.{Said}
use Rattle.eq_config.specs.declared.said.Said.TheVariants.{Nothing, Heading, Entry}
use Rattle.eq_config.specs.Sections.{section_of, options_line, line_of, files_of, top_of, matches_of, collects_of, partitions_of, strategies_of, rules_of, section_after, options_after, line_after, files_after, top_after, matches_after, collects_after, partitions_after, strategies_after, rules_after}
use Rattle.eq_config.specs.Limits.{last_passes}

abbrev pub no_side : SideSection
no_side = record { line = None; files = []; top = None }

-- what these lines say together
unfoldable pub draft_of : List Said → Draft
draft_of saids = record {
  section = section_of saids;
  options = options_line saids;
  gold = record { line = line_of Gold saids; files = files_of Gold saids; top = top_of Gold saids };
  gate = record { line = line_of Gate saids; files = files_of Gate saids; top = top_of Gate saids };
  matches = matches_of saids;
  collects = collects_of saids;
  partitions = partitions_of saids;
  strategies = strategies_of saids;
  rules = rules_of saids;
}

-- what one line more says
abbrev pub draft_after : Draft → Said → Draft
draft_after d said = record {
  section = section_after d.section said;
  options = options_after d.options said;
  gold = record { line = line_after Gold d.gold.line said; files = files_after Gold d.gold.files said; top = top_after Gold d.gold.top said };
  gate = record { line = line_after Gate d.gate.line said; files = files_after Gate d.gate.files said; top = top_after Gate d.gate.top said };
  matches = matches_after d.matches said;
  collects = collects_after d.collects said;
  partitions = partitions_after d.partitions said;
  strategies = strategies_after d.strategies said;
  rules = rules_after d.rules said;
}

abbrev pub with_heading : Draft → ℕ → AnyHeading → Draft
with_heading d line head = draft_after d (Heading line head)

abbrev pub with_entry : Draft → AnyEntry → Draft
with_entry d line = draft_after d (Entry line)

abbrev pub repeats_heading : Draft → AnyHeading → Bool
repeats_heading d heading.Options = is_some d.options
repeats_heading d (heading.Design Gold) = is_some d.gold.line
repeats_heading d (heading.Design Gate) = is_some d.gate.line
repeats_heading d (heading.Strategy name) = list_any (λ s. bytes_eq s.name name) d.strategies
repeats_heading d _ = false

abbrev pub repeats_entry : Draft → AnyEntry → Bool
repeats_entry d (entry.Top Gold name) = is_some d.gold.top
repeats_entry d (entry.Top Gate name) = is_some d.gate.top
repeats_entry d entry.Use = last_passes (λ s. s.used) d.strategies
repeats_entry d (entry.Depth n) = last_passes (λ s. is_some s.depth) d.strategies
repeats_entry d (entry.Conflicts n) = last_passes (λ s. is_some s.conflicts) d.strategies
repeats_entry d _ = false

abbrev pub is_twice : Draft → Said → Bool
is_twice d Nothing = false
is_twice d (Heading line head) = repeats_heading d head
is_twice d (Entry line) = repeats_entry d line

abbrev pub is_full : List (List ℕ) → List (List ℕ) → Bool
is_full files more = nat_lt MOST_FILES (length files + length more)

abbrev pub exceeds : Draft → AnyEntry → Bool
exceeds d (entry.Files Gold files) = is_full d.gold.files files
exceeds d (entry.Files Gate files) = is_full d.gate.files files
exceeds d (entry.Match rule) = nat_le MOST_RULES d.rules
exceeds d (entry.Collect rule) = nat_le MOST_RULES d.rules
exceeds d (entry.Partition rule) = nat_le MOST_RULES d.rules
exceeds d (entry.Apply pattern) = nat_le MOST_RULES d.rules
exceeds d _ = false

abbrev pub is_too_many : Draft → Said → Bool
is_too_many d (Heading line (heading.Strategy name)) = nat_le MOST_STRATEGIES (length d.strategies)
is_too_many d (Entry line) = exceeds d line
is_too_many d _ = false
