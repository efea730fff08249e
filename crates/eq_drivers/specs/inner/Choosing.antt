-- Mirrors src/choosing.rt; nothing here has to be believed.
use Rattle.std.specs.Prelude.{◌≡◌, ◌<◌, ◌≤◌, ℕ, List, Bool, true, false, length, slice_get, slice_index_or, sum_by}
use Rattle.eq_model.specs.Nets.{at_bit}
use Rattle.eq_vlex.specs.declared.token.Constant.{Constant}
use Rattle.eq_net.specs.declared.types.Driver.{Driver}
use Rattle.eq_net.specs.declared.types.Driver.TheVariants.{Input, Undriven, Expr as WordOf, Reg}
use Rattle.eq_net.specs.declared.types.NetInfo.{NetInfo}
use Rattle.eq_net.specs.declared.types.WordBit.{WordBit}
use Rattle.eq_net.specs.Meaning.{if_there, cost_of}
use Rattle.eq_net.specs.Net.{AreWords, nets_of}
use Rattle.eq_net.specs.Numbers.{digit}
use Rattle.eq_net.specs.Tree.{Tree}
use Rattle.eq_verilog.specs.Declarations.{comes_in}
use Rattle.eq_verilog.specs.Registers.{itself}
use Rattle.eq_flatten.specs.declared.driving.Slot.{Slot}
use Rattle.eq_flatten.specs.declared.driving.Slot.TheVariants.{Free, Once, Twice}
use Rattle.eq_flatten.specs.Driving.{slot_at}
use Rattle.eq_flatten.specs.Rendering.{KeepsFront}
use Rattle.eq_registers.specs.Standing.{StandsFor}
use Rattle.eq_drivers.specs.declared.slots.Slots.{Slots}

-- words have grown by words that cost nothing
pub record Grows (nets : List NetInfo) (old new : List Tree) : Type 0 where
  pub kept : KeepsFront old new
  pub words : AreWords nets new
  pub costs : sum_by cost_of new ≤ sum_by cost_of old

-- by the equations
abbrev pub driver_by : Slot → Driver
driver_by Free = Undriven
driver_by (Once w) = WordOf w.word w.bit
driver_by Twice = Undriven

abbrev pub digit_of : List Constant → WordBit → Bool
digit_of constants w = if_there false (λ (c : Constant). digit c.value w.bit) (slice_get constants w.word)

-- by the initial values
abbrev pub initial_by : List Constant → Slot → Bool
initial_by constants Free = false
initial_by constants (Once w) = digit_of constants w
initial_by constants Twice = false

-- by the always items: what no item sets keeps its value
abbrev pub IsNextBy : List NetInfo → List Tree → ℕ → Slot → WordBit → Type 0
IsNextBy nets words b Free w = StandsFor nets words w (itself b)
IsNextBy nets words b (Once v) w = w ≡ v
IsNextBy nets words b Twice w = StandsFor nets words w (itself b)

-- bit b is one of an input of the top
abbrev pub comes_from_outside : List NetInfo → ℕ → Bool
comes_from_outside nets b = at_bit false (λ n p. comes_in n.dir) (nets_of nets) b

-- the driver of bit b, as it is one of a reg or not, comes from outside or not, and has these slots
abbrev pub IsChosenBy : List NetInfo → List Tree → ℕ → Bool → Bool → List Constant → Slot → Slot → Slot → Driver → Type 0
IsChosenBy nets words b true outside constants driven followed begun d =
    (w : WordBit) × IsNextBy nets words b followed w × (d ≡ Reg (initial_by constants begun) w.word w.bit)
IsChosenBy nets words b false true constants driven followed begun d = d ≡ Input
IsChosenBy nets words b false false constants driven followed begun d = d ≡ driver_by driven

abbrev pub IsChosen : List NetInfo → List Tree → List Bool → Slots → ℕ → Driver → Type 0
IsChosen nets words flags s b d =
    IsChosenBy nets words b (slice_index_or flags b false) (comes_from_outside nets b) s.constants.items
    (slot_at s.driven.items b) (slot_at s.followed.items b) (slot_at s.begun.items b) d

-- so are the drivers that there are
pub record AreChosen (nets : List NetInfo) (words : List Tree) (flags : List Bool) (s : Slots) (drivers : List Driver) : Type 0 where
  pub are : (b : ℕ) → b < length drivers → IsChosen nets words flags s b (slice_index_or drivers b Undriven)
