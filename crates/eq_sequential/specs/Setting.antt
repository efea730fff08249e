-- Which always item sets each bit, and to what, of the always items so far.
use Rattle.std.specs.Prelude.{◌≡◌, ◌<◌, ℕ, List, Contains, Bool, true, count_by, length}
use Rattle.eq_net.specs.declared.types.NetInfo.{NetInfo}
use Rattle.eq_net.specs.declared.types.WordBit.{WordBit}
use Rattle.eq_net.specs.Tree.{Tree}
use Rattle.eq_verilog.specs.Registers.{Process, itself, run, sets}
use Rattle.eq_flatten.specs.declared.driving.Slot.{Slot}
use Rattle.eq_flatten.specs.declared.driving.Slot.TheVariants.{Free, Once, Twice}
use Rattle.eq_flatten.specs.Driving.{slot_at}
use Rattle.eq_registers.specs.Standing.{StandsFor}

abbrev pub sets_bit : ℕ → Process → Bool
sets_bit b p = sets p.scope p.body b

-- how many always items set the bit
abbrev pub setters_of : List Process → ℕ → ℕ
setters_of ps b = count_by (sets_bit b) ps

-- the bit of a word stands for what the always item leaves of bit b, which it sets
pub record IsSetting (nets : List NetInfo) (words : List Tree) (p : Process) (b : ℕ) (w : WordBit) : Type 0 where
  pub sets_it : sets_bit b p ≡ true
  pub stands : StandsFor nets words w (run p.scope p.body itself b)

-- what a slot says of bit b among these always items
abbrev pub SlotFollows : List NetInfo → List Tree → List Process → ℕ → Slot → Type 0
SlotFollows nets words ps b Free = setters_of ps b ≡ 0
SlotFollows nets words ps b (Once w) =
    (setters_of ps b ≡ 1) × ((p : Process) × Contains ps p × IsSetting nets words p b w)
SlotFollows nets words ps b Twice = 1 < setters_of ps b

abbrev pub AreFollowed : List NetInfo → List Tree → List Process → List Slot → Type 0
AreFollowed nets words ps slots = (b : ℕ) → b < length slots → SlotFollows nets words ps b (slot_at slots b)
