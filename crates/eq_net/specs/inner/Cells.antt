-- Cited by private contracts alone; nothing here has to be believed.
-- Cells that compute single bits, what one of them gives, and the numbers of cells that stand on a stack.
use Rattle.std.specs.Prelude.{◌≡◌, ℕ, ◌+◌, ◌<◌, ◌≤◌, ◌^◌, List, Bool, true, false, not, ◌&&◌, ◌||◌, cond, length, slice_index_or}
use Rattle.eq_model.specs.System.{Values}
use Rattle.eq_net.specs.declared.cells.gates.Cell.{Cell}
use Rattle.eq_net.specs.declared.cells.gates.Cell.TheVariants.{Bit, Not, And, Or, Xor, Choose}
use Rattle.eq_net.specs.Numbers.{Digits, differ}

-- values of the bits of the nets, and of cells by their numbers
pub record Valuation : Type 0 where
  pub bits : Values
  pub cells : Values

abbrev pub computed : Valuation → Cell → Bool
computed v (Bit b) = v.bits b
computed v (Not a) = not (v.cells a)
computed v (And a b) = v.cells a && v.cells b
computed v (Or a b) = v.cells a || v.cells b
computed v (Xor a b) = differ (v.cells a) (v.cells b)
computed v (Choose c a b) = cond {A = Bool} (v.cells c) (v.cells a) (v.cells b)

abbrev pub cell_at : List Cell → ℕ → Cell
cell_at cells k = slice_index_or cells k (Bit 0)

-- each cell has the value that it computes. The numbers 0 and 1 are the constants, and those of the cells follow; there are
-- no more cells than numbers
pub record Computes (cells : List Cell) (v : Valuation) : Type 0 where
  pub few : 2 + length cells ≤ 2 ^ 32
  pub false_first : v.cells 0 ≡ false
  pub then_true : v.cells 1 ≡ true
  pub each : (k : ℕ) → k < length cells → v.cells (2 + k) ≡ computed v (cell_at cells k)

-- where the cells compute, so did those before
pub record Grown (old new : List Cell) : Type 0 where
  pub before : (v : Valuation) → Computes new v → Computes old v

-- wherever the cells compute, the one of this number has the value that f says
pub record Gives (cells : List Cell) (m : ℕ) (f : Valuation → Bool) : Type 0 where
  pub value : (v : Valuation) → Computes cells v → v.cells m ≡ f v

-- what stands from a place on
abbrev pub seen : Valuation → List ℕ → ℕ → Digits
seen v stack from i = v.cells (slice_index_or stack (from + i) 0)

-- from a place on the stack has w numbers and nothing else, and below it is as it was
pub record Written (from w : ℕ) (old new : List ℕ) : Type 0 where
  pub size : length new ≡ from + w
  pub kept : (k : ℕ) → k < from → slice_index_or new k 0 ≡ slice_index_or old k 0

-- the w cells from a place on give the digits f
abbrev pub Spells : List Cell → List ℕ → ℕ → ℕ → (Valuation → Digits) → Type 0
Spells cells stack from w f = (j : ℕ) → j < w → Gives cells (slice_index_or stack (from + j) 0) (λ v. f v j)

-- cells were added, and from a place on the stack has w numbers of cells that give the digits f
pub record Performs (w from : ℕ) (f : Valuation → Digits) (c0 c1 : List Cell) (s0 s1 : List ℕ) : Type 0 where
  pub grown : Grown c0 c1
  pub written : Written from w s0 s1
  pub spells : Spells c1 s1 from w f
