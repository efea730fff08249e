-- What a line may not say behind the lines before it: the same again, or one too many.
use Rattle.std.specs.Prelude.{◌+◌, ◌-◌, Bool, false, List, length, nat_le, nat_lt, Option, Some, None, is_some, slice_get}
use Rattle.std.specs.List.{list_any}
use Rattle.std.specs.Str.{bytes_eq}
use Rattle.eq_config.specs.declared.limits.TheConstants.{MOST_FILES, MOST_STRATEGIES, MOST_RULES}
use Rattle.eq_config.specs.declared.said.Heading.TheVariants as heading
use Rattle.eq_config.specs.declared.said.Entry.TheVariants as entry
use Rattle.eq_config.specs.declared.said.Said.{Said}
use Rattle.eq_config.specs.declared.said.Said.TheVariants.{Heading, Entry}
use Rattle.eq_config.specs.declared.section.StrategySection.{StrategySection}
use Rattle.eq_config.specs.Sections.{options_line, line_of, files_of, top_of, strategies_of, rules_of}

-- the last section of a strategy, if there is one, passes a test
abbrev pub passes : (StrategySection → Bool) → Option StrategySection → Bool
passes test None = false
passes test (Some s) = test s

abbrev pub last_passes : (StrategySection → Bool) → List StrategySection → Bool
last_passes test all = passes test (slice_get all (length all - 1))

-- a second `[options]`, `[gold]` or `[gate]`, a second strategy of one name, or a second `prep`, `use`, `depth` or
-- `conflicts` of a section
abbrev pub is_twice : List Said → Said → Bool
is_twice before (Heading line heading.Options) = is_some (options_line before)
is_twice before (Heading line (heading.Design role)) = is_some (line_of role before)
is_twice before (Heading line (heading.Strategy name)) = list_any (λ s. bytes_eq s.name name) (strategies_of before)
is_twice before (Entry (entry.Top role name)) = is_some (top_of role before)
is_twice before (Entry entry.Use) = last_passes (λ s. s.used) (strategies_of before)
is_twice before (Entry (entry.Depth n)) = last_passes (λ s. is_some s.depth) (strategies_of before)
is_twice before (Entry (entry.Conflicts n)) = last_passes (λ s. is_some s.conflicts) (strategies_of before)
is_twice before _ = false

-- the 17th strategy, the 65th file of a side, or the 4,097th rule
abbrev pub is_too_many : List Said → Said → Bool
is_too_many before (Heading line (heading.Strategy name)) = nat_le MOST_STRATEGIES (length (strategies_of before))
is_too_many before (Entry (entry.Files role files)) = nat_lt MOST_FILES (length (files_of role before) + length files)
is_too_many before (Entry (entry.Match rule)) = nat_le MOST_RULES (rules_of before)
is_too_many before (Entry (entry.Collect rule)) = nat_le MOST_RULES (rules_of before)
is_too_many before (Entry (entry.Partition rule)) = nat_le MOST_RULES (rules_of before)
is_too_many before (Entry (entry.Apply pattern)) = nat_le MOST_RULES (rules_of before)
is_too_many before _ = false
