-- The first words of headings, and of the lines in each kind of section.
use Rattle.std.specs.Prelude.{ℕ, if◌then◌else◌, List, [], ◌∷◌, Option, Some, None, codes}
use Rattle.std.specs.Str.{bytes_eq}
use Rattle.eq_config.specs.declared.said.Role.TheVariants as role
use Rattle.eq_config.specs.declared.said.SectionKind.{SectionKind}
use Rattle.eq_config.specs.declared.said.SectionKind.TheVariants as section
use Rattle.eq_config.specs.declared.keyword.Keyword.{Keyword}
use Rattle.eq_config.specs.declared.keyword.Keyword.TheVariants as keyword
use Rattle.eq_config.specs.declared.keyword.MatchKeyword.TheVariants as matching
use Rattle.eq_config.specs.declared.keyword.CollectKeyword.TheVariants as collecting
use Rattle.eq_config.specs.declared.keyword.PartKeyword.TheVariants as parting

-- what stands beside a word in a table
abbrev pub looked_up : {A : Type 0} → List (List ℕ × A) → List ℕ → Option A
looked_up [] word = None
looked_up (row ∷ rows) word = if bytes_eq row.0 word then Some row.1 else looked_up rows word

-- the first words of headings
abbrev pub titles : List (List ℕ × SectionKind)
titles =
    (codes "options", section.Options) ∷ (codes "gold", section.Design role.Gold) ∷ (codes "gate", section.Design role.Gate)
    ∷ (codes "match", section.Match) ∷ (codes "collect", section.Collect) ∷ (codes "partition", section.Partition)
    ∷ (codes "strategy", section.Strategy) ∷ []

-- the first words of the lines in a section
abbrev pub rows : SectionKind → List (List ℕ × Keyword)
rows section.Options = []
rows (section.Design r) = (codes "read_verilog", keyword.Files r) ∷ (codes "prep", keyword.Top r) ∷ []
rows section.Match =
    (codes "gold-match", keyword.Match matching.GoldMatch) ∷ (codes "gate-match", keyword.Match matching.GateMatch)
    ∷ (codes "gold-nomatch", keyword.Match matching.GoldNo) ∷ (codes "gate-nomatch", keyword.Match matching.GateNo) ∷ []
rows section.Collect =
    (codes "group", keyword.Collect collecting.Group) ∷ (codes "join", keyword.Collect collecting.Join)
    ∷ (codes "solo", keyword.Collect collecting.Solo) ∷ []
rows section.Partition =
    (codes "merge", keyword.Partition parting.Merge) ∷ (codes "path", keyword.Partition parting.Path)
    ∷ (codes "name", keyword.Partition parting.Rename) ∷ []
rows section.Strategy =
    (codes "use", keyword.Use) ∷ (codes "depth", keyword.Depth) ∷ (codes "conflicts", keyword.Conflicts)
    ∷ (codes "apply", keyword.Apply) ∷ []

-- the kind of section that a heading with this first word begins
unfoldable pub title_of : List ℕ → Option SectionKind
title_of word = looked_up titles word

-- what a line with this first word gives in a section
unfoldable pub keyword_of : SectionKind → List ℕ → Option Keyword
keyword_of kind word = looked_up (rows kind) word
