-- The lines of a section: which words may stand behind the first word of a line, and what the line then says.
use Rattle.std.specs.Prelude.{◌≡◌, ℕ, ◌<◌, List, length, All, codes}
use Rattle.eq_config.specs.declared.config.MatchRule.{MatchRule}
use Rattle.eq_config.specs.declared.config.MatchRule.TheVariants as matched
use Rattle.eq_config.specs.declared.config.CollectRule.{CollectRule}
use Rattle.eq_config.specs.declared.config.CollectRule.TheVariants as collected
use Rattle.eq_config.specs.declared.config.PartRule.{PartRule}
use Rattle.eq_config.specs.declared.config.PartRule.TheVariants as parted
use Rattle.eq_config.specs.declared.fault.ConfigKind.{ConfigKind}
use Rattle.eq_config.specs.declared.fault.ConfigKind.TheVariants.{BadWord, BadNumber}
use Rattle.eq_config.specs.declared.keyword.Keyword.{Keyword}
use Rattle.eq_config.specs.declared.keyword.Keyword.TheVariants as keyword
use Rattle.eq_config.specs.declared.keyword.MatchKeyword.{MatchKeyword}
use Rattle.eq_config.specs.declared.keyword.MatchKeyword.TheVariants as matching
use Rattle.eq_config.specs.declared.keyword.CollectKeyword.{CollectKeyword}
use Rattle.eq_config.specs.declared.keyword.CollectKeyword.TheVariants as collecting
use Rattle.eq_config.specs.declared.keyword.PartKeyword.{PartKeyword}
use Rattle.eq_config.specs.declared.keyword.PartKeyword.TheVariants as parting
use Rattle.eq_config.specs.declared.limits.TheConstants.{MOST_DEPTH, MOST_CONFLICTS}
use Rattle.eq_config.specs.declared.said.Entry.{Entry}
use Rattle.eq_config.specs.declared.said.Entry.TheVariants as entry
use Rattle.eq_config.specs.Words.{IsShort, IsFileWord, IsPatternWord, IsTemplateWord, IsSignedWord, is_inverted, unsigned, IsNumber, value_of, word_at, OneWord, TwoWords}

-- `P`, `P P`, `P T`, and `P T` or `P ~T`
abbrev pub IsPatternLine : List (List ℕ) → Type 0
IsPatternLine words = OneWord IsPatternWord words

abbrev pub IsPathLine : List (List ℕ) → Type 0
IsPathLine words = TwoWords (λ from to. IsPatternWord from × IsPatternWord to) words

abbrev pub IsRenameLine : List (List ℕ) → Type 0
IsRenameLine words = TwoWords (λ pattern template. IsPatternWord pattern × IsTemplateWord pattern template) words

abbrev pub IsSignedLine : List (List ℕ) → Type 0
IsSignedLine words = TwoWords (λ pattern template. IsPatternWord pattern × IsSignedWord pattern template) words

-- `FILE ..`, one file or more
pub record IsFileLine (words : List (List ℕ)) : Type 0 where
  pub some : 0 < length words
  pub files : All IsFileWord words

-- `-top MODULE`
abbrev pub IsTopLine : List (List ℕ) → Type 0
IsTopLine words = TwoWords (λ fixed name. (fixed ≡ codes "-top") × IsShort name) words

-- ---- match lines

abbrev pub MatchFits : MatchKeyword → List (List ℕ) → Type 0
MatchFits matching.GoldMatch words = IsSignedLine words
MatchFits matching.GateMatch words = IsSignedLine words
MatchFits matching.GoldNo words = IsPatternLine words
MatchFits matching.GateNo words = IsPatternLine words

abbrev pub match_rule_of : MatchKeyword → List (List ℕ) → MatchRule
match_rule_of matching.GoldMatch words = matched.GoldMatch (word_at words 0) (unsigned (word_at words 1)) (is_inverted (word_at words 1))
match_rule_of matching.GateMatch words = matched.GateMatch (word_at words 0) (unsigned (word_at words 1)) (is_inverted (word_at words 1))
match_rule_of matching.GoldNo words = matched.GoldNo (word_at words 0)
match_rule_of matching.GateNo words = matched.GateNo (word_at words 0)

-- ---- collect lines, all of which are `P`

abbrev pub collect_rule_of : CollectKeyword → List (List ℕ) → CollectRule
collect_rule_of collecting.Solo words = collected.Solo (word_at words 0)
collect_rule_of collecting.Group words = collected.Group (word_at words 0)
collect_rule_of collecting.Join words = collected.Join (word_at words 0)

-- ---- partition lines

abbrev pub PartFits : PartKeyword → List (List ℕ) → Type 0
PartFits parting.Merge words = IsPatternLine words
PartFits parting.Path words = IsPathLine words
PartFits parting.Rename words = IsRenameLine words

abbrev pub part_rule_of : PartKeyword → List (List ℕ) → PartRule
part_rule_of parting.Merge words = parted.Merge (word_at words 0)
part_rule_of parting.Path words = parted.Path (word_at words 0) (word_at words 1)
part_rule_of parting.Rename words = parted.Rename (word_at words 0) (word_at words 1)

-- ---- all lines

-- the words behind the first word are those that its row asks for
abbrev pub Fits : Keyword → List (List ℕ) → Type 0
Fits (keyword.Files role) words = IsFileLine words
Fits (keyword.Top role) words = IsTopLine words
Fits (keyword.Match key) words = MatchFits key words
Fits (keyword.Collect key) words = IsPatternLine words
Fits (keyword.Partition key) words = PartFits key words
Fits keyword.Use words = OneWord (λ word. word ≡ codes "sat") words
Fits keyword.Depth words = OneWord (IsNumber MOST_DEPTH) words
Fits keyword.Conflicts words = OneWord (IsNumber MOST_CONFLICTS) words
Fits keyword.Apply words = IsPatternLine words

-- what a line with these words says
abbrev pub entry_of : Keyword → List (List ℕ) → Entry
entry_of (keyword.Files role) words = entry.Files role words
entry_of (keyword.Top role) words = entry.Top role (word_at words 1)
entry_of (keyword.Match key) words = entry.Match (match_rule_of key words)
entry_of (keyword.Collect key) words = entry.Collect (collect_rule_of key words)
entry_of (keyword.Partition key) words = entry.Partition (part_rule_of key words)
entry_of keyword.Use words = entry.Use
entry_of keyword.Depth words = entry.Depth (value_of (word_at words 0))
entry_of keyword.Conflicts words = entry.Conflicts (value_of (word_at words 0))
entry_of keyword.Apply words = entry.Apply (word_at words 0)

-- the one word that a number may be is none
abbrev pub IsOtherThan : ℕ → List (List ℕ) → Type 0
IsOtherThan most words = OneWord (λ word. IsShort word × ¬ IsNumber most word) words

abbrev pub IsBadNumber : Keyword → List (List ℕ) → Type 0
IsBadNumber keyword.Depth words = IsOtherThan MOST_DEPTH words
IsBadNumber keyword.Conflicts words = IsOtherThan MOST_CONFLICTS words
IsBadNumber _ words = ⊥

-- what is wrong with these words: a number, or else a word
abbrev pub EntryFault : Keyword → List (List ℕ) → ConfigKind → Type 0
EntryFault key words BadNumber = IsBadNumber key words
EntryFault key words BadWord = (¬ Fits key words) × ¬ IsBadNumber key words
EntryFault key words _ = ⊥
