-- What one cycle of a netlist gives.
use Rattle.std.specs.Prelude.{◌≡◌, ℕ, suc, ◌<◌, List, Bool, length}
use Rattle.eq_model.specs.Frames.{values}
use Rattle.eq_model.specs.Run.{Given, key}
use Rattle.eq_model.specs.System.{Values, Cycle, nothing}
use Rattle.eq_net.specs.Held.{held_bits, initial_bits, next_bits, register_count}
use Rattle.eq_net.specs.Meaning.{values_of}
use Rattle.eq_net.specs.Net.{IsOutside, Parts, bits_of, design_of, number_of, system_of}

-- the bits of the words, where those of the nets have the values v
abbrev pub word_values : Parts → Values → ℕ → ℕ → Bool
word_values n v = values_of v (number_of n.nets) n.words

-- from the registers' values and the inputs': the values of all bits, and the registers' next ones
pub record IsStep (n : Parts) (state inputs bits after : List Bool) : Type 0 where
  pub size : length bits ≡ bits_of n.nets
  pub cycle : Cycle (system_of n) nothing (values (held_bits n.drivers state inputs)) (values bits)
  pub next : after ≡ next_bits (word_values n (values bits)) n.drivers
  pub count : length after ≡ register_count n.drivers

-- steps one after another, from the initial values. The inputs' bits are given by name and place
pub record AreSteps (n : Parts) (given : Given) (cycles : ℕ) (states inputs bits : ℕ → List Bool) : Type 0 where
  pub first : states 0 ≡ initial_bits n.drivers
  pub each : (c : ℕ) → c < cycles → IsStep n (states c) (inputs c) (bits c) (states (suc c))
  pub given_inputs : (c b : ℕ) → c < cycles → b < bits_of n.nets → IsOutside n b →
      values (held_bits n.drivers (states c) (inputs c)) b ≡ given c (key (design_of n) b)
