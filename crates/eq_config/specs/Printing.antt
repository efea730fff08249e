-- The text of a configuration: sections gold, gate, match, collect, partition and strategy, each with its heading and
-- its lines, one space between words, no blank line.
use Rattle.std.specs.Prelude.{ℕ, Bool, if◌then◌else◌, List, [], ◌∷◌, ◌++◌, map, codes}
use Rattle.std.specs.Fmt.{decimal}
use Rattle.std.specs.List.{flat_map}
use Rattle.eq_config.specs.declared.config.Config.{Config}
use Rattle.eq_config.specs.declared.config.Side.{Side}
use Rattle.eq_config.specs.declared.config.MatchRule.{MatchRule}
use Rattle.eq_config.specs.declared.config.MatchRule.TheVariants.{GoldMatch, GateMatch, GoldNo, GateNo}
use Rattle.eq_config.specs.declared.config.MatchSection.{MatchSection}
use Rattle.eq_config.specs.declared.config.CollectRule.{CollectRule}
use Rattle.eq_config.specs.declared.config.CollectRule.TheVariants.{Solo, Group, Join}
use Rattle.eq_config.specs.declared.config.CollectSection.{CollectSection}
use Rattle.eq_config.specs.declared.config.PartRule.{PartRule}
use Rattle.eq_config.specs.declared.config.PartRule.TheVariants.{Merge, Path, Rename}
use Rattle.eq_config.specs.declared.config.PartSection.{PartSection}
use Rattle.eq_config.specs.declared.config.Strategy.{Strategy}

-- ---- lines

-- words with one space between two
abbrev pub spaced : List (List ℕ) → List ℕ
spaced [] = []
spaced (word ∷ []) = word
spaced (word ∷ next ∷ more) = word ++ (codes " " ++ spaced (next ∷ more))

-- words between brackets
abbrev pub heading_line : List (List ℕ) → List ℕ
heading_line words = codes "[" ++ (spaced words ++ codes "]")

-- a line and its end, and lines one below the other
abbrev pub ended : List ℕ → List ℕ
ended line = line ++ codes "\n"

abbrev pub text_of : List (List ℕ) → List ℕ
text_of lines = flat_map ended lines

-- ---- a side: its files, one a line, and its top

abbrev pub file_line : List ℕ → List ℕ
file_line file = spaced (codes "read_verilog" ∷ file ∷ [])

abbrev pub top_line : List ℕ → List ℕ
top_line top = spaced (codes "prep" ∷ codes "-top" ∷ top ∷ [])

abbrev pub side_lines : List ℕ → Side → List (List ℕ)
side_lines title side =
    heading_line (title ∷ []) ∷ (map file_line side.files ++ (top_line side.top ∷ []))

-- ---- sections of rules, each with its pattern in its heading

-- an inverted pair has a `~` before its template
abbrev pub signed : Bool → List ℕ → List ℕ
signed inverted template = if inverted then codes "~" ++ template else template

abbrev pub match_line : MatchRule → List ℕ
match_line (GoldMatch pattern template inverted) =
    spaced (codes "gold-match" ∷ pattern ∷ signed inverted template ∷ [])
match_line (GateMatch pattern template inverted) =
    spaced (codes "gate-match" ∷ pattern ∷ signed inverted template ∷ [])
match_line (GoldNo pattern) = spaced (codes "gold-nomatch" ∷ pattern ∷ [])
match_line (GateNo pattern) = spaced (codes "gate-nomatch" ∷ pattern ∷ [])

abbrev pub match_lines : MatchSection → List (List ℕ)
match_lines section =
    heading_line (codes "match" ∷ section.top ∷ []) ∷ map match_line section.rules

abbrev pub collect_line : CollectRule → List ℕ
collect_line (Solo pattern) = spaced (codes "solo" ∷ pattern ∷ [])
collect_line (Group pattern) = spaced (codes "group" ∷ pattern ∷ [])
collect_line (Join pattern) = spaced (codes "join" ∷ pattern ∷ [])

abbrev pub collect_lines : CollectSection → List (List ℕ)
collect_lines section =
    heading_line (codes "collect" ∷ section.top ∷ []) ∷ map collect_line section.rules

abbrev pub part_line : PartRule → List ℕ
part_line (Merge pattern) = spaced (codes "merge" ∷ pattern ∷ [])
part_line (Path from to) = spaced (codes "path" ∷ from ∷ to ∷ [])
part_line (Rename pattern template) = spaced (codes "name" ∷ pattern ∷ template ∷ [])

abbrev pub part_lines : PartSection → List (List ℕ)
part_lines section =
    heading_line (codes "partition" ∷ section.top ∷ []) ∷ map part_line section.rules

-- ---- strategies

abbrev pub apply_line : List ℕ → List ℕ
apply_line pattern = spaced (codes "apply" ∷ pattern ∷ [])

abbrev pub limit_lines : Strategy → List (List ℕ)
limit_lines s =
    spaced (codes "use" ∷ codes "sat" ∷ [])
    ∷ spaced (codes "depth" ∷ decimal s.depth ∷ [])
    ∷ spaced (codes "conflicts" ∷ decimal s.conflicts ∷ [])
    ∷ []

abbrev pub strategy_lines : Strategy → List (List ℕ)
strategy_lines s =
    heading_line (codes "strategy" ∷ s.name ∷ []) ∷ (limit_lines s ++ map apply_line s.apply)

-- ---- the whole

abbrev pub rule_lines : Config → List (List ℕ)
rule_lines c =
    flat_map match_lines c.matches
    ++ (flat_map collect_lines c.collects ++ flat_map part_lines c.partitions)

abbrev pub config_lines : Config → List (List ℕ)
config_lines c =
    side_lines (codes "gold") c.gold
    ++ (side_lines (codes "gate") c.gate ++ (rule_lines c ++ flat_map strategy_lines c.strategies))

-- the text of a configuration
abbrev pub printed : Config → List ℕ
printed c = text_of (config_lines c)
