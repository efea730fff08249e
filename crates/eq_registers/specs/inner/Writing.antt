-- Cited by proofs alone; nothing here has to be believed.
-- Entries of a table that are written, position by position of a target.
use Rattle.std.specs.Prelude.{◌≡◌, ◌<◌, ◌^◌, ℕ, List, Option, Some, All, length, slice_get}
use Rattle.eq_names.specs.declared.BitName.{BitName}
use Rattle.eq_net.specs.declared.types.WordBit.{WordBit}
use Rattle.eq_net.specs.Meaning.{if_there}
use Rattle.eq_verilog.specs.Equations.{place_below}
use Rattle.eq_flatten.specs.Driving.{number_in}
use Rattle.eq_registers.specs.Running.{IsKey}

-- the number of each bit is there, and one of the keys
abbrev pub AreKeyed : List ℕ → List ℕ → List BitName → Type 0
AreKeyed starts keys bits = All (λ (b : BitName).
    (b.net < length starts) × (number_in starts b < 2 ^ 32) × IsKey keys (number_in starts b)) bits

abbrev pub entry : ℕ → ℕ → WordBit
entry word j = record { word = word; bit = j }

-- a bit that stands at one of the first n positions has the word's bit at the last such position
pub record IsWritten (keys : List ℕ) (f : ℕ → Option ℕ) (word : ℕ) (before after : List WordBit) (n : ℕ) : Type 0
  where
    pub size : length after ≡ length before
    pub entries : (p b : ℕ) → slice_get keys p ≡ Some b →
        slice_get after p ≡ if_there (slice_get before p) (λ j. Some (entry word j)) (place_below n f b)
