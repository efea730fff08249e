-- Cited by proofs alone; nothing here has to be believed.
use Rattle.std.specs.Prelude.{◌≡◌, ℕ, List, Option, ⊤}
use Rattle.eq_config.specs.declared.fault.ConfigKind.{ConfigKind}
use Rattle.eq_config.specs.declared.fault.ConfigKind.TheVariants.{BadWord, BadNumber}
use Rattle.eq_config.specs.declared.fault.ConfigErr.{ConfigErr}
use Rattle.eq_config.specs.declared.fault.ConfigErr.TheVariants as error
use Rattle.eq_config.specs.declared.fault.Stop.{Stop}
use Rattle.eq_config.specs.declared.fault.Stop.TheVariants as stop
use Rattle.eq_config.specs.Words.{IsNumber, OneWord}
use Rattle.eq_config.specs.Entries.{IsOtherThan}
use Rattle.eq_config.specs.declared.said.SectionKind.{SectionKind}
use Rattle.eq_config.specs.Forms.{Form, FormFault}

-- what stopped the reading; want of memory says nothing
abbrev pub Stops : (ConfigKind → Type 0) → Stop → Type 0
Stops P (stop.Fault kind) = P kind
Stops P stop.Memory = ⊤

-- words of which a fact doesn't hold
abbrev pub Refuses : Type 0 → Stop → Type 0
Refuses P reason = Stops (λ kind. (kind ≡ BadWord) × ¬ P) reason

-- what is wrong with words that should be one number: a word that isn't one, or else the words
abbrev pub NumberFault : ℕ → List (List ℕ) → ConfigKind → Type 0
NumberFault most words BadNumber = IsOtherThan most words
NumberFault most words BadWord = (¬ OneWord (IsNumber most) words) × ¬ IsOtherThan most words
NumberFault most words _ = ⊥

-- a line of this form has none of the faults that a line has by itself
abbrev pub IsFine : Option SectionKind → Form → Type 0
IsFine at form = (kind : ConfigKind) → ¬ FormFault at form kind

-- the error of what stopped the reading of a line
abbrev pub located : Stop → ℕ → ConfigErr
located (stop.Fault kind) line = error.At line kind
located stop.Memory line = error.Memory

-- an error at a line is so; want of memory says nothing
abbrev pub IsAtLine : (ℕ → ConfigKind → Type 0) → ConfigErr → Type 0
IsAtLine P (error.At line kind) = P line kind
IsAtLine P error.Memory = ⊤
