-- What lines say together, in their order.
use Rattle.std.specs.Prelude.{ℕ, ◌+◌, true, false, List, [], ◌∷◌, ◌++◌, fold, Option, Some, None}
use Rattle.eq_config.specs.declared.config.MatchSection.{MatchSection}
use Rattle.eq_config.specs.declared.config.CollectSection.{CollectSection}
use Rattle.eq_config.specs.declared.config.PartSection.{PartSection}
use Rattle.eq_config.specs.declared.said.Role.{Role}
use Rattle.eq_config.specs.declared.said.Role.TheVariants.{Gold, Gate}
use Rattle.eq_config.specs.declared.said.SectionKind.{SectionKind}
use Rattle.eq_config.specs.declared.said.SectionKind.TheVariants as section
use Rattle.eq_config.specs.declared.said.Heading.{Heading as AnyHeading}
use Rattle.eq_config.specs.declared.said.Heading.TheVariants as heading
use Rattle.eq_config.specs.declared.said.Entry.TheVariants as entry
use Rattle.eq_config.specs.declared.said.Said.{Said}
use Rattle.eq_config.specs.declared.said.Said.TheVariants.{Heading, Entry}
use Rattle.eq_config.specs.declared.section.StrategySection.{StrategySection}

-- a list with its last element changed
abbrev pub on_last : {A : Type 0} → (A → A) → List A → List A
on_last change [] = []
on_last change (x ∷ []) = change x ∷ []
on_last change (x ∷ y ∷ more) = x ∷ on_last change (y ∷ more)

-- ---- the section in which a line stands: that of the last heading before it

abbrev pub kind_of : AnyHeading → SectionKind
kind_of heading.Options = section.Options
kind_of (heading.Design role) = section.Design role
kind_of (heading.Match top) = section.Match
kind_of (heading.Collect top) = section.Collect
kind_of (heading.Partition top) = section.Partition
kind_of (heading.Strategy name) = section.Strategy

abbrev pub section_after : Option SectionKind → Said → Option SectionKind
section_after at (Heading line head) = Some (kind_of head)
section_after at _ = at

abbrev pub section_of : List Said → Option SectionKind
section_of saids = fold section_after None saids

-- ---- the lines of the headings `[options]`, `[gold]` and `[gate]`

abbrev pub options_after : Option ℕ → Said → Option ℕ
options_after found (Heading line heading.Options) = Some line
options_after found _ = found

abbrev pub options_line : List Said → Option ℕ
options_line saids = fold options_after None saids

abbrev pub line_after : Role → Option ℕ → Said → Option ℕ
line_after Gold found (Heading line (heading.Design Gold)) = Some line
line_after Gate found (Heading line (heading.Design Gate)) = Some line
line_after _ found _ = found

abbrev pub line_of : Role → List Said → Option ℕ
line_of role saids = fold (line_after role) None saids

-- ---- the files of a side, all of them in their order, and its top

abbrev pub files_after : Role → List (List ℕ) → Said → List (List ℕ)
files_after Gold files (Entry (entry.Files Gold more)) = files ++ more
files_after Gate files (Entry (entry.Files Gate more)) = files ++ more
files_after _ files _ = files

abbrev pub files_of : Role → List Said → List (List ℕ)
files_of role saids = fold (files_after role) [] saids

abbrev pub top_after : Role → Option (List ℕ) → Said → Option (List ℕ)
top_after Gold found (Entry (entry.Top Gold name)) = Some name
top_after Gate found (Entry (entry.Top Gate name)) = Some name
top_after _ found _ = found

abbrev pub top_of : Role → List Said → Option (List ℕ)
top_of role saids = fold (top_after role) None saids

-- ---- sections of rules: a heading begins one, and each rule joins the last

abbrev pub matches_after : List MatchSection → Said → List MatchSection
matches_after all (Heading line (heading.Match top)) = all ++ record { top = top; rules = [] } ∷ []
matches_after all (Entry (entry.Match rule)) = on_last (λ s. record { top = s.top; rules = s.rules ++ rule ∷ [] }) all
matches_after all _ = all

abbrev pub matches_of : List Said → List MatchSection
matches_of saids = fold matches_after [] saids

abbrev pub collects_after : List CollectSection → Said → List CollectSection
collects_after all (Heading line (heading.Collect top)) = all ++ record { top = top; rules = [] } ∷ []
collects_after all (Entry (entry.Collect rule)) = on_last (λ s. record { top = s.top; rules = s.rules ++ rule ∷ [] }) all
collects_after all _ = all

abbrev pub collects_of : List Said → List CollectSection
collects_of saids = fold collects_after [] saids

abbrev pub partitions_after : List PartSection → Said → List PartSection
partitions_after all (Heading line (heading.Partition top)) = all ++ record { top = top; rules = [] } ∷ []
partitions_after all (Entry (entry.Partition rule)) = on_last (λ s. record { top = s.top; rules = s.rules ++ rule ∷ [] }) all
partitions_after all _ = all

abbrev pub partitions_of : List Said → List PartSection
partitions_of saids = fold partitions_after [] saids

-- ---- sections of strategies: a heading begins one, and each line says something of the last

abbrev pub begun : ℕ → List ℕ → StrategySection
begun line name = record { line = line; name = name; used = false; depth = None; conflicts = None; apply = [] }

abbrev pub with_use : StrategySection → StrategySection
with_use s = record { line = s.line; name = s.name; used = true; depth = s.depth; conflicts = s.conflicts; apply = s.apply }

abbrev pub with_depth : ℕ → StrategySection → StrategySection
with_depth n s = record { line = s.line; name = s.name; used = s.used; depth = Some n; conflicts = s.conflicts; apply = s.apply }

abbrev pub with_conflicts : ℕ → StrategySection → StrategySection
with_conflicts n s = record { line = s.line; name = s.name; used = s.used; depth = s.depth; conflicts = Some n; apply = s.apply }

abbrev pub with_apply : List ℕ → StrategySection → StrategySection
with_apply p s = record { line = s.line; name = s.name; used = s.used; depth = s.depth; conflicts = s.conflicts; apply = s.apply ++ p ∷ [] }

abbrev pub strategies_after : List StrategySection → Said → List StrategySection
strategies_after all (Heading line (heading.Strategy name)) = all ++ begun line name ∷ []
strategies_after all (Entry entry.Use) = on_last with_use all
strategies_after all (Entry (entry.Depth n)) = on_last (with_depth n) all
strategies_after all (Entry (entry.Conflicts n)) = on_last (with_conflicts n) all
strategies_after all (Entry (entry.Apply pattern)) = on_last (with_apply pattern) all
strategies_after all _ = all

abbrev pub strategies_of : List Said → List StrategySection
strategies_of saids = fold strategies_after [] saids

-- ---- how many rules there are: lines of match, collect and partition sections, and `apply` lines

abbrev pub rules_after : ℕ → Said → ℕ
rules_after n (Entry (entry.Match rule)) = n + 1
rules_after n (Entry (entry.Collect rule)) = n + 1
rules_after n (Entry (entry.Partition rule)) = n + 1
rules_after n (Entry (entry.Apply pattern)) = n + 1
rules_after n _ = n

abbrev pub rules_of : List Said → ℕ
rules_of saids = fold rules_after 0 saids
