-- What drives each bit, of the equations so far.
use Rattle.std.specs.Prelude.{◌≡◌, ◌<◌, ◌+◌, ℕ, List, Option, Some, None, length, slice_index_or}
use Rattle.eq_names.specs.declared.BitName.{BitName}
use Rattle.eq_net.specs.declared.types.WordBit.{WordBit}
use Rattle.eq_verilog.specs.Equations.{place_below}
use Rattle.eq_flatten.specs.declared.driving.Slot.{Slot}
use Rattle.eq_flatten.specs.declared.driving.Slot.TheVariants.{Free, Once, Twice}

-- with one equation more
abbrev pub after : Slot → WordBit → Slot
after Free w = Once w
after (Once v) w = Twice
after Twice w = Twice

abbrev pub slot_at : List Slot → ℕ → Slot
slot_at slots b = slice_index_or slots b Free

-- with the word for a target that has the bit at this position, if it has
abbrev pub filled : Slot → ℕ → Option ℕ → Slot
filled s word None = s
filled s word (Some j) = after s (record { word = word; bit = j })

-- the number of a bit, where the nets' first bits have these
abbrev pub number_in : List ℕ → BitName → ℕ
number_in starts b = slice_index_or starts b.net 0 + b.bit

-- f has the number of the bit at each position
abbrev pub AreWired : List ℕ → List BitName → (ℕ → Option ℕ) → Type 0
AreWired starts bits f =
    (j : ℕ) (d : BitName) → j < length bits → f j ≡ Some (number_in starts (slice_index_or bits j d))

-- no bit has two positions
abbrev pub IsApart : (ℕ → Option ℕ) → Type 0
IsApart f = (i j b : ℕ) → f i ≡ Some b → f j ≡ Some b → i ≡ j

-- the first n bits of a target are driven by the bits of a word
pub record IsDriving (starts : List ℕ) (bits : List BitName) (word : ℕ) (old new : List Slot) (n : ℕ) : Type 0 where
  pub size : length new ≡ length old
  pub driven : (f : ℕ → Option ℕ) → AreWired starts bits f → IsApart f → (b : ℕ) →
      slot_at new b ≡ filled (slot_at old b) word (place_below n f b)
