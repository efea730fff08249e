-- Cited by private contracts alone; nothing here has to be believed.
-- Words as cells, and the values that are computed for them.
use Rattle.std.specs.Prelude.{◌≡◌, ℕ, zero, suc, ◌+◌, ◌<◌, ◌≤◌, List, [], Bool, true, false, cond, Option, Some, None, length, slice_index_or}
use Rattle.eq_model.specs.Frames.{values}
use Rattle.eq_model.specs.System.{Values, Meets}
use Rattle.eq_net.specs.declared.cells.gates.Cell.{Cell}
use Rattle.eq_net.specs.declared.types.NetInfo.{NetInfo}
use Rattle.eq_net.specs.declared.types.Driver.{Driver}
use Rattle.eq_net.specs.declared.types.Driver.TheVariants.{Input, Undriven, Expr as WordOf, Reg}
use Rattle.eq_net.specs.Cycles.{word_values}
use Rattle.eq_net.specs.Meaning.{bit_of, width}
use Rattle.eq_net.specs.Net.{Parts, bits_of, number_of, system_of, word_at}
use Rattle.eq_net.specs.Numbers.{Digits}
use Rattle.eq_net.specs.Tree.{Tree}
use Rattle.eq_net.specs.inner.Cells.{Valuation, Computes, Performs, cell_at, computed}
use Rattle.eq_net.specs.inner.Marks.{AreMarked, AreWhole}

-- the number of the cell of a bit of a word, 0 where it isn't there
abbrev pub row : List (List ℕ) → ℕ → ℕ → ℕ
row rows w j = slice_index_or (slice_index_or rows w []) j 0

-- the bits of a word, where those that it picks have the values of their cells
abbrev pub bits_in : List NetInfo → List (List ℕ) → Tree → Valuation → Digits
bits_in nets rows t v = bit_of v.bits (number_of nets) (λ w j. v.cells (row rows w j)) t

-- cells were added for a word, and their numbers stand on top
abbrev pub Puts : List NetInfo → List (List ℕ) → Tree → List Cell → List Cell → List ℕ → List ℕ → Type 0
Puts nets rows t c0 c1 s0 s1 = Performs (width t) (length s0) (bits_in nets rows t) c0 c1 s0 s1

-- the cells of the first k words have the values of the words' bits
abbrev pub AreRight : Parts → Valuation → ℕ → List (List ℕ) → Type 0
AreRight n v k rows = (w j : ℕ) → w < k → j < width (word_at n.words w) → v.cells (row rows w j) ≡ word_values n v.bits w j

-- the rows have the cells of the first k words, wherever the bits of marked words are right
pub record HasRows (n : Parts) (words : List (List Bool)) (whole : List Bool) (k : ℕ) (cells : List Cell) (rows : List (List ℕ)) : Type 0 where
  pub count : length rows ≡ k
  pub sizes : (w : ℕ) → w < k → length (slice_index_or rows w []) ≡ width (word_at n.words w)
  pub each : (v : Valuation) → Computes cells v → AreWhole n v.bits words whole → AreRight n v k rows

-- marked bits meet their drivers
abbrev pub AreDriven : Parts → Values → List Bool → Type 0
AreDriven n v done = (b : ℕ) → b < bits_of n.nets → values done b ≡ true → Meets ((system_of n).driver b) v (v b)

-- in all values that agree with those of marked bits, marked words have their bits, and marked bits meet their drivers
pub record IsSwept (n : Parts) (now done : List Bool) (words : List (List Bool)) (whole : List Bool) : Type 0 where
  pub fits : (v : Values) → AreMarked v now done → AreWhole n v words whole
  pub driven : (v : Values) → AreMarked v now done → AreDriven n v done

-- ---- the bits of nets

-- the number of a constant
abbrev pub constant_number : Bool → ℕ
constant_number x = cond {A = ℕ} x 1 0

-- the number of the cell that gives a bit its value, x where it is given. Where it is marked it has this value too
abbrev pub open_link : Driver → Bool → List (List ℕ) → ℕ
open_link Input x rows = constant_number x
open_link Undriven x rows = 0
open_link (WordOf w j) x rows = row rows w j
open_link (Reg init w j) x rows = constant_number x

abbrev pub link_of : Driver → Bool → Bool → List (List ℕ) → ℕ
link_of d marked x rows = cond {A = ℕ} marked (constant_number x) (open_link d x rows)

-- ---- values

-- the values of cells by their numbers, where a list has them
abbrev pub cells_of : List Bool → Values
cells_of bits zero = false
cells_of bits (suc zero) = true
cells_of bits (suc (suc k)) = slice_index_or bits k false

-- the value of a cell, if it has one yet
abbrev pub value_of : List (Option Bool) → ℕ → Option Bool
value_of all k = slice_index_or all k None

-- v has the values that cells have, and each bit has the value of the cell that it is linked to
pub record Extends (links : List ℕ) (all : List (Option Bool)) (v : Valuation) : Type 0 where
  pub false_first : v.cells 0 ≡ false
  pub then_true : v.cells 1 ≡ true
  pub there : (k : ℕ) (x : Bool) → value_of all k ≡ Some x → v.cells (2 + k) ≡ x
  pub beyond : (k : ℕ) → length all ≤ k → v.cells (2 + k) ≡ false
  pub bits : (b : ℕ) → v.bits b ≡ v.cells (slice_index_or links b 0)

-- each value is what its cell computes from values that are there
abbrev pub AreComputed : List ℕ → List Cell → List (Option Bool) → Type 0
AreComputed links cells all = (k : ℕ) (x : Bool) → value_of all k ≡ Some x → (v : Valuation) → Extends links all v → computed v (cell_at cells k) ≡ x

-- the values of the cells of a list, where each bit is linked to a cell
abbrev pub valuation : List ℕ → List Bool → Valuation
valuation links bits = record { bits = λ b. cells_of bits (slice_index_or links b 0); cells = cells_of bits }
