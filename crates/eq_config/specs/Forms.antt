-- What one line says, and what is wrong in it by itself, in a section of a kind or before the first heading.
use Rattle.std.specs.Prelude.{ℕ, List, [], ◌∷◌, Option, Some, None, drop, slice_index, ◌==◌, if◌then◌else◌, ⊤}
use Rattle.eq_config.specs.declared.fault.ConfigKind.{ConfigKind}
use Rattle.eq_config.specs.declared.fault.ConfigKind.TheVariants.{NoSection, UnknownSection, UnknownLine, BadWord}
use Rattle.eq_config.specs.declared.said.SectionKind.{SectionKind}
use Rattle.eq_config.specs.declared.said.Said.{Said}
use Rattle.eq_config.specs.declared.said.Said.TheVariants as said
use Rattle.eq_config.specs.declared.keyword.Keyword.{Keyword}
use Rattle.eq_config.specs.Lines.{words, heading_text}
use Rattle.eq_config.specs.Keywords.{keyword_of}
use Rattle.eq_config.specs.Entries.{entry_of, EntryFault}
use Rattle.eq_config.specs.Headings.{title, HeadingFits, heading_of}

-- A line says nothing, or is a heading with the words between its brackets, or any other line, with its first word and
-- the words behind it.
pub data Form : Type 0 where
  silent : Form
  heading : List (List ℕ) → Form
  plain : List ℕ → List (List ℕ) → Form

-- a line with a word, by what stands between its brackets if it is a heading
abbrev pub speaking : List ℕ → List (List ℕ) → Option (List ℕ) → Form
speaking word rest None = plain word rest
speaking word rest (Some inner) = heading (words inner)

-- a line without words says nothing, nor does one whose first word begins with `#`
abbrev pub form_by : List (List ℕ) → Option (List ℕ) → Form
form_by [] inner = silent
form_by (word ∷ rest) inner = if slice_index word 0 == 35 then silent else speaking word rest inner

unfoldable pub form_of : List ℕ → Form
form_of line = form_by (words line) (heading_text line)

-- ---- what is said

abbrev pub heading_said : ℕ → Option SectionKind → List (List ℕ) → Said
heading_said number None words = said.Nothing
heading_said number (Some kind) words = said.Heading number (heading_of kind (drop 1 words))

abbrev pub entry_said : Option Keyword → List (List ℕ) → Said
entry_said None words = said.Nothing
entry_said (Some key) words = said.Entry (entry_of key words)

abbrev pub plain_said : Option SectionKind → List ℕ → List (List ℕ) → Said
plain_said None word words = said.Nothing
plain_said (Some kind) word words = entry_said (keyword_of kind word) words

-- what a line of this form and number says in a section; what it says where it is faulty doesn't matter
abbrev pub form_says : ℕ → Option SectionKind → Form → Said
form_says number at silent = said.Nothing
form_says number at (heading words) = heading_said number (title words) words
form_says number at (plain word words) = plain_said at word words

-- ---- what is wrong

abbrev pub HeadingFault : Option SectionKind → List (List ℕ) → ConfigKind → Type 0
HeadingFault None words UnknownSection = ⊤
HeadingFault (Some kind) words BadWord = ¬ HeadingFits kind words
HeadingFault _ words _ = ⊥

abbrev pub LineFault : Option Keyword → List (List ℕ) → ConfigKind → Type 0
LineFault None words UnknownLine = ⊤
LineFault (Some key) words kind = EntryFault key words kind
LineFault None words _ = ⊥

-- The conditions of the table but for NotAscii, Twice and TooMany, for a line of this form: a heading whose first word
-- is unknown or whose other words don't fit; a line before the first heading; a line whose first word its section
-- doesn't have or whose other words don't fit.
abbrev pub FormFault : Option SectionKind → Form → ConfigKind → Type 0
FormFault at silent kind = ⊥
FormFault at (heading words) kind = HeadingFault (title words) (drop 1 words) kind
FormFault None (plain word words) NoSection = ⊤
FormFault None (plain word words) _ = ⊥
FormFault (Some section) (plain word words) kind = LineFault (keyword_of section word) words kind
