-- Mirrors src/doubling.rt; nothing here has to be believed.
use Rattle.std.specs.Prelude.{ℕ, List, Bool, true, false, ◌&&◌, ◌||◌, slice_index_or}
use Rattle.eq_flatten.specs.declared.driving.Slot.{Slot}
use Rattle.eq_flatten.specs.declared.driving.Slot.TheVariants.{Free, Once, Twice}
use Rattle.eq_flatten.specs.Driving.{slot_at}

abbrev pub is_twice : Slot → Bool
is_twice Free = false
is_twice (Once w) = false
is_twice Twice = true

abbrev pub is_free : Slot → Bool
is_free Free = true
is_free (Once w) = false
is_free Twice = false

-- one of the three tables has two at the bit
abbrev pub is_doubled : List Slot → List Slot → List Slot → ℕ → Bool
is_doubled driven followed begun b =
    is_twice (slot_at driven b) || (is_twice (slot_at followed b) || is_twice (slot_at begun b))

-- the bit is flagged and has no slot of its own
abbrev pub lacks_initial : List Bool → List Slot → ℕ → Bool
lacks_initial flags begun b = slice_index_or flags b false && is_free (slot_at begun b)
