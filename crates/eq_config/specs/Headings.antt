-- Headings: which words may stand between the brackets, and what they say.
use Rattle.std.specs.Prelude.{◌≡◌, ℕ, List, [], ◌∷◌, Option, None, codes}
use Rattle.eq_config.specs.declared.said.Heading.{Heading}
use Rattle.eq_config.specs.declared.said.Heading.TheVariants as heading
use Rattle.eq_config.specs.declared.said.SectionKind.{SectionKind}
use Rattle.eq_config.specs.declared.said.SectionKind.TheVariants as section
use Rattle.eq_config.specs.Keywords.{title_of}
use Rattle.eq_config.specs.Words.{IsStrategyWord, word_at, OneWord}
use Rattle.eq_config.specs.Entries.{IsPatternLine}

-- the kind of section that a heading of these words begins, by the first of them
abbrev pub title : List (List ℕ) → Option SectionKind
title [] = None
title (word ∷ words) = title_of word

-- a heading without a pattern has `*`
abbrev pub top_words : List (List ℕ) → List (List ℕ)
top_words [] = codes "*" ∷ []
top_words (word ∷ words) = word ∷ words

-- the words behind the first word are those that the table asks for
abbrev pub HeadingFits : SectionKind → List (List ℕ) → Type 0
HeadingFits section.Options words = words ≡ []
HeadingFits (section.Design role) words = words ≡ []
HeadingFits section.Match words = IsPatternLine (top_words words)
HeadingFits section.Collect words = IsPatternLine (top_words words)
HeadingFits section.Partition words = IsPatternLine (top_words words)
HeadingFits section.Strategy words = OneWord IsStrategyWord words

-- what a heading with these words behind its first word says
abbrev pub heading_of : SectionKind → List (List ℕ) → Heading
heading_of section.Options words = heading.Options
heading_of (section.Design role) words = heading.Design role
heading_of section.Match words = heading.Match (word_at (top_words words) 0)
heading_of section.Collect words = heading.Collect (word_at (top_words words) 0)
heading_of section.Partition words = heading.Partition (word_at (top_words words) 0)
heading_of section.Strategy words = heading.Strategy (word_at words 0)
