-- Mirrors src/missing.rt; nothing here has to be believed.
-- Bits that are missed, told by marks.
use Rattle.std.specs.Prelude.{◌≡◌, ◌<◌, ℕ, List, Bool, false, if◌then◌else◌, length, slice_index_or, Option, Some, None}
use Rattle.eq_net.specs.declared.types.Driver.{Driver}
use Rattle.eq_net.specs.declared.types.Driver.TheVariants.{Input, Undriven, Expr as WordOf, Reg}
use Rattle.eq_marks.specs.inner.Carrying.{mark_of}
use Rattle.eq_marks.specs.inner.Marks.{least}
use Rattle.eq_marks.specs.inner.Taking.{read_mark}

-- the mark of a bit with this driver: its number, where it has none
abbrev pub own_mark : Driver → ℕ → Option ℕ
own_mark Input b = None
own_mark Undriven b = Some b
own_mark (WordOf w j) b = None
own_mark (Reg init w j) b = None

-- of the first bits just those without drivers are marked
pub record AreUndriven (drivers : List Driver) (count : ℕ) (marks : List (Option ℕ)) : Type 0 where
  pub size : length marks ≡ count
  pub each : (b : ℕ) → b < count → mark_of marks b ≡ own_mark (slice_index_or drivers b Undriven) b

-- the least bit without driver that bit b is, where it is one of an output, or that its driver reads
abbrev pub missed_at : List Driver → List Bool → List (Option ℕ) → (ℕ → ℕ → Option ℕ) → ℕ → Option ℕ
missed_at drivers outputs marks mark b =
    if slice_index_or outputs b false
    then least (mark_of marks b) (read_mark mark (slice_index_or drivers b Undriven))
    else read_mark mark (slice_index_or drivers b Undriven)
