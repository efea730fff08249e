-- The configuration of a text, and its first fault.
use Rattle.std.specs.Prelude.{◌≡◌, ℕ, ◌+◌, ◌<◌, ◌⊎◌, true, if◌then◌else◌, List, [], ◌∷◌, ◌++◌, length, map, take, fold, Option, Some, None, unwrap_or, slice_index_or, Result, Err, ⊤}
use Rattle.std.specs.Str.Lines.{lines}
use Rattle.eq_config.specs.declared.config.Config.{Config}
use Rattle.eq_config.specs.declared.config.Side.{Side}
use Rattle.eq_config.specs.declared.config.Strategy.{Strategy}
use Rattle.eq_config.specs.declared.fault.ConfigErr.{ConfigErr}
use Rattle.eq_config.specs.declared.fault.ConfigErr.TheVariants as error
use Rattle.eq_config.specs.declared.fault.ConfigKind.{ConfigKind}
use Rattle.eq_config.specs.declared.fault.ConfigKind.TheVariants as fault
use Rattle.eq_config.specs.declared.limits.TheConstants.{DEFAULT_DEPTH, DEFAULT_CONFLICTS}
use Rattle.eq_config.specs.declared.said.Role.{Role}
use Rattle.eq_config.specs.declared.said.Role.TheVariants.{Gold, Gate}
use Rattle.eq_config.specs.declared.said.Said.{Said}
use Rattle.eq_config.specs.declared.section.StrategySection.{StrategySection}
use Rattle.eq_config.specs.Lines.{IsText}
use Rattle.eq_config.specs.Forms.{form_of, form_says, FormFault}
use Rattle.eq_config.specs.Sections.{section_of, line_of, files_of, top_of, matches_of, collects_of, partitions_of, strategies_of}
use Rattle.eq_config.specs.Limits.{is_twice, is_too_many}

-- ---- lines in their order

-- what a line says behind the lines that said `before`
abbrev pub said_at : List Said → List ℕ → Said
said_at before line = form_says (length before + 1) (section_of before) (form_of line)

-- what lines say, each behind those before it
abbrev pub saids_of : List (List ℕ) → List Said
saids_of all = fold (λ before line. before ++ said_at before line ∷ []) [] all

-- the conditions of the table
abbrev pub Has : ConfigKind → List Said → List ℕ → Type 0
Has fault.NotAscii before line = ¬ IsText line
Has fault.Twice before line = is_twice before (said_at before line) ≡ true
Has fault.TooMany before line = is_too_many before (said_at before line) ≡ true
Has other before line = FormFault (section_of before) (form_of line) other

-- the order of the table
abbrev pub rank : ConfigKind → ℕ
rank fault.NotAscii = 0
rank fault.NoSection = 1
rank fault.UnknownSection = 2
rank fault.UnknownLine = 3
rank fault.BadWord = 4
rank fault.BadNumber = 5
rank fault.Twice = 6
rank fault.TooMany = 7
rank fault.Missing = 8

-- the kind is the first of the table whose condition holds for a line
pub record IsFirstKind (before : List Said) (line : List ℕ) (kind : ConfigKind) : Type 0 where
  pub holds : Has kind before line
  pub first : (other : ConfigKind) → rank other < rank kind → ¬ Has other before line

-- no condition of the table holds for a line
abbrev pub IsFine : List Said → List ℕ → Type 0
IsFine before line = (kind : ConfigKind) → ¬ Has kind before line

-- the lines before a place, and the line there
abbrev pub before_at : List (List ℕ) → ℕ → List Said
before_at all at = saids_of (take at all)

abbrev pub line_at : List (List ℕ) → ℕ → List ℕ
line_at all at = slice_index_or all at []

-- the lines before a place have no fault
abbrev pub AreFine : List (List ℕ) → ℕ → Type 0
AreFine all count = (at : ℕ) → at < count → IsFine (before_at all at) (line_at all at)

-- ---- what has to be there

abbrev pub or_else : Option ℕ → Option ℕ → Option ℕ
or_else None other = other
or_else (Some line) other = Some line

-- a side without its section is missed behind the last line, and its files or its top at its heading
abbrev pub missing_side : ℕ → Option ℕ → List (List ℕ) → Option (List ℕ) → Option ℕ
missing_side end None files top = Some end
missing_side end (Some line) [] top = Some line
missing_side end (Some line) (file ∷ files) None = Some line
missing_side end (Some line) (file ∷ files) (Some name) = None

abbrev pub missing_in : Role → List Said → Option ℕ
missing_in role saids = missing_side (length saids + 1) (line_of role saids) (files_of role saids) (top_of role saids)

-- the first strategy without `use` misses it at its heading
abbrev pub missing_use : List StrategySection → Option ℕ
missing_use [] = None
missing_use (s ∷ more) = if s.used then missing_use more else Some s.line

-- and where there is no strategy, one is missed behind the last line
abbrev pub missing_strategy : ℕ → List StrategySection → Option ℕ
missing_strategy end [] = Some end
missing_strategy end (s ∷ more) = missing_use (s ∷ more)

-- the line at which something is missing, gold first, then gate, then strategies
abbrev pub missing : List Said → Option ℕ
missing saids = or_else (missing_in Gold saids) (or_else (missing_in Gate saids) (missing_strategy (length saids + 1) (strategies_of saids)))

-- ---- configurations and faults

abbrev pub side_of : Role → List Said → Side
side_of role saids = record { files = files_of role saids; top = unwrap_or (top_of role saids) [] }

-- a strategy with its defaults
abbrev pub strategy_of : StrategySection → Strategy
strategy_of s = record { name = s.name; depth = unwrap_or s.depth DEFAULT_DEPTH; conflicts = unwrap_or s.conflicts DEFAULT_CONFLICTS; apply = s.apply }

abbrev pub config_of : List Said → Config
config_of saids = record {
  gold = side_of Gold saids;
  gate = side_of Gate saids;
  matches = matches_of saids;
  collects = collects_of saids;
  partitions = partitions_of saids;
  strategies = map strategy_of (strategies_of saids);
}

-- No line of the text is faulty, nothing is missing, and this is what its lines say.
pub record HasConfig (text : List ℕ) (config : Config) : Type 0 where
  pub fine : AreFine (lines text) (length (lines text))
  pub whole : missing (saids_of (lines text)) ≡ None
  pub config_is : config ≡ config_of (saids_of (lines text))

-- the configuration of some text
abbrev pub IsConfig : Config → Type 0
IsConfig config = (text : List ℕ) × HasConfig text config

-- The first faulty line has this number, and this is the first kind that holds in it.
pub record HasFaultyLine (text : List ℕ) (line : ℕ) (kind : ConfigKind) : Type 0 where
  pub at : ℕ
  pub number : line ≡ at + 1
  pub within : at < length (lines text)
  pub fine : AreFine (lines text) at
  pub first : IsFirstKind (before_at (lines text) at) (line_at (lines text) at) kind

-- No line is faulty, and something is missing at this line.
pub record MissesAt (text : List ℕ) (line : ℕ) (kind : ConfigKind) : Type 0 where
  pub missing_is : kind ≡ fault.Missing
  pub fine : AreFine (lines text) (length (lines text))
  pub line_is : missing (saids_of (lines text)) ≡ Some line

abbrev pub HasFault : List ℕ → ℕ → ConfigKind → Type 0
HasFault text line kind = HasFaultyLine text line kind ⊎ MissesAt text line kind

-- what an error says of the text; want of memory says nothing
abbrev pub Explains : List ℕ → ConfigErr → Type 0
Explains text (error.At line kind) = HasFault text line kind
Explains text error.Memory = ⊤

-- this answer, but for want of memory
abbrev pub IsOrNoMemory : Result Config ConfigErr → Result Config ConfigErr → Type 0
IsOrNoMemory result answer = (result ≡ answer) ⊎ (result ≡ Err error.Memory)
