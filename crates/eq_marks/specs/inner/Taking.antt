-- Mirrors src/taking.rt; nothing here has to be believed.
-- Which bits take a clock as data, told by marks.
use Rattle.std.specs.Prelude.{◌≡◌, ℕ, ◌<◌, List, [], ◌∷◌, ◌++◌, Bool, true, false, if◌then◌else◌, length, slice_index_or, replicate, Option, Some, None, is_some}
use Rattle.eq_net.specs.declared.types.Dir.{Dir}
use Rattle.eq_net.specs.declared.types.Dir.TheVariants.{Inner, Input as InputPort, Output as OutputPort}
use Rattle.eq_net.specs.declared.types.Driver.{Driver}
use Rattle.eq_net.specs.declared.types.Driver.TheVariants.{Input, Undriven, Expr as WordOf, Reg}
use Rattle.eq_net.specs.declared.types.NetInfo.{NetInfo}
use Rattle.eq_net.specs.Nets.{width_of}
use Rattle.eq_net.specs.Net.{Parts, bits_of, design_of}
use Rattle.eq_verilog.specs.Clocks.{leads_to}
use Rattle.eq_marks.specs.inner.Carrying.{mark_of}
use Rattle.eq_marks.specs.inner.Clocking.{AreWithin}

-- the mark of the bit of a word that drives a bit within the cycle, and of one that drives it within the cycle or at
-- its end
abbrev pub driven_mark : (ℕ → ℕ → Option ℕ) → Driver → Option ℕ
driven_mark mark Input = None
driven_mark mark Undriven = None
driven_mark mark (WordOf w j) = mark w j
driven_mark mark (Reg init w j) = None

abbrev pub read_mark : (ℕ → ℕ → Option ℕ) → Driver → Option ℕ
read_mark mark Input = None
read_mark mark Undriven = None
read_mark mark (WordOf w j) = mark w j
read_mark mark (Reg init w j) = mark w j

-- each bit has its own number as its mark
pub record AreOwn (count : ℕ) (marks : List (Option ℕ)) : Type 0 where
  pub size : length marks ≡ count
  pub each : (b : ℕ) → b < count → mark_of marks b ≡ Some b

-- the list has of each bit the bit of which it is a plain copy
pub record AreCopies (n : Parts) (copies : List (Option ℕ)) : Type 0 where
  pub size : length copies ≡ bits_of n.nets
  pub each : (b : ℕ) → b < bits_of n.nets → mark_of copies b ≡ (design_of n).copy_of b
  pub within : AreWithin copies

-- those bits have marks from which plain copies lead to bit c
pub record IsClassOf (n : Parts) (c : ℕ) (class : List (Option ℕ)) : Type 0 where
  pub size : length class ≡ bits_of n.nets
  pub each : (b : ℕ) → b < bits_of n.nets → is_some (mark_of class b) ≡ leads_to (design_of n).copy_of (bits_of n.nets)
      c b

abbrev pub is_output_net : Dir → Bool
is_output_net Inner = false
is_output_net InputPort = false
is_output_net OutputPort = true

-- of each bit whether it is one of an output
abbrev pub output_flags : List NetInfo → List Bool
output_flags [] = []
output_flags (n ∷ ns) = replicate (width_of n) (is_output_net n.dir) ++ output_flags ns

-- whether bit b takes the clock as data
abbrev pub takes_at : List Driver → List Bool → List (Option ℕ) → (ℕ → ℕ → Option ℕ) → ℕ → Bool
takes_at drivers outputs class mark b =
    if is_some (mark_of class b) then slice_index_or outputs b false else is_some (read_mark mark (slice_index_or
    drivers b Undriven))
