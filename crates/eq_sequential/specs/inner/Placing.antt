-- Cited by proofs alone; nothing here has to be believed.
-- What an always item sets is put into the slots.
use Rattle.std.specs.Prelude.{◌≡◌, ◌<◌, ℕ, List, Some, length, slice_get}
use Rattle.eq_net.specs.declared.types.WordBit.{WordBit}
use Rattle.eq_flatten.specs.declared.driving.Slot.{Slot}
use Rattle.eq_flatten.specs.Driving.{after, slot_at}

-- no bit stands twice
abbrev pub AreOnce : List ℕ → Type 0
AreOnce bits = (p q b : ℕ) → slice_get bits p ≡ Some b → slice_get bits q ≡ Some b → p ≡ q

-- the first n of the bits have one setter more, each the bit of a word beside it
pub record IsPut (bits : List ℕ) (entries : List WordBit) (old new : List Slot) (n : ℕ) : Type 0 where
  pub size : length new ≡ length old
  pub here : (p b : ℕ) (w : WordBit) → p < n → slice_get bits p ≡ Some b → slice_get entries p ≡ Some w →
      slot_at new b ≡ after (slot_at old b) w
  pub others : (b : ℕ) → ((p : ℕ) → p < n → slice_get bits p ≡ Some b → ⊥) → slot_at new b ≡ slot_at old b
