-- Cited by proofs alone; nothing here has to be believed.
-- What is known while a design is elaborated: no condition held so far, and these are still to be looked for.
use Rattle.std.specs.Prelude.{◌≡◌, ◌<◌, ◌≤◌, ◌+◌, ℕ, List, [], ◌∷◌, Result, Ok, Err, Option, None, Some, sum_by}
use Rattle.eq_model.specs.Agreement.{SameDesign}
use Rattle.eq_net.specs.declared.net.Net.{Net as Netlist}
use Rattle.eq_net.specs.declared.types.Driver.{Driver}
use Rattle.eq_net.specs.Meaning.{cost_of}
use Rattle.eq_net.specs.Net.{bits_of, most_cost, AreWords}
use Rattle.eq_net.specs.Tree.{Tree}
use Rattle.eq_verilog.specs.declared.refusal.ElabErr.{ElabErr}
use Rattle.eq_verilog.specs.declared.refusal.ElabKind.TheVariants as kind
use Rattle.eq_verilog.specs.Trees.{Name, ModuleTree}
use Rattle.eq_verilog.specs.BitRefusals.{path_clash, two_drivers, undriven_bit, no_init, two_clocks, clock_as_data}
use Rattle.eq_verilog.specs.Costs.{design_cost}
use Rattle.eq_verilog.specs.Designs.{design_of, Flat}
use Rattle.eq_verilog.specs.Firsts.{first_of}
use Rattle.eq_verilog.specs.Nets.{bit_name}
use Rattle.eq_verilog.specs.Refusals.{Refusal, fault, named, IsAccepted}
use Rattle.eq_drivers.specs.Wiring.{AreTold}
use Rattle.eq_layout.specs.declared.layout.Layout.{Layout}
use Rattle.eq_layout.specs.Layout.{design_in, trees_of}
use Rattle.eq_marks.specs.Answers.{meaning}
use Rattle.eq_elab.specs.Answers.{Refuses}

-- The netlist agrees with the design and has its cost, and no condition of refusal holds; or the refusal is the first that
-- holds
abbrev pub Elaborates : List ModuleTree → Name → Result Netlist ElabErr → Type 0
Elaborates all top (Ok net) =
    IsAccepted all top × SameDesign (meaning net) (design_of all top) × (net.cost ≡ design_cost all top)
Elaborates all top (Err e) = Refuses all top e

-- the first condition that holds is the first of these
abbrev pub AreLeft : List ModuleTree → Name → List (Option Refusal) → Type 0
AreLeft all top rest = fault all top ≡ first_of rest

-- ---- the conditions on bits, from each on

abbrev pub from_clash : Flat → List (Option Refusal)
from_clash f = named kind.PathClash (path_clash f) ∷ named kind.TwoDrivers (two_drivers f)
    ∷ named kind.Undriven (undriven_bit f) ∷ named kind.NoInit (no_init f)
    ∷ named kind.TwoClocks (two_clocks f) ∷ named kind.ClockAsData (clock_as_data f) ∷ []

abbrev pub from_drivers : Flat → List (Option Refusal)
from_drivers f = named kind.TwoDrivers (two_drivers f)
    ∷ named kind.Undriven (undriven_bit f) ∷ named kind.NoInit (no_init f)
    ∷ named kind.TwoClocks (two_clocks f) ∷ named kind.ClockAsData (clock_as_data f) ∷ []

abbrev pub from_undriven : Flat → List (Option Refusal)
from_undriven f = named kind.Undriven (undriven_bit f) ∷ named kind.NoInit (no_init f)
    ∷ named kind.TwoClocks (two_clocks f) ∷ named kind.ClockAsData (clock_as_data f) ∷ []

abbrev pub from_init : Flat → List (Option Refusal)
from_init f = named kind.NoInit (no_init f)
    ∷ named kind.TwoClocks (two_clocks f) ∷ named kind.ClockAsData (clock_as_data f) ∷ []

abbrev pub from_clocks : Flat → List (Option Refusal)
from_clocks f = named kind.TwoClocks (two_clocks f) ∷ named kind.ClockAsData (clock_as_data f) ∷ []

-- a condition holds at a bit that is there, or doesn't
abbrev pub IsFound : Flat → Option Name → ℕ → Option ℕ → Type 0
IsFound f told bits None = told ≡ None
IsFound f told bits (Some b) = (told ≡ Some (bit_name f.nets b)) × (b < bits)

-- words and drivers are those of a design that is laid out
pub record IsWired (l : Layout) (top : Name) (words : List Tree) (drivers : List Driver) : Type 0 where
  pub words_are : AreWords l.flat.nets.items words
  pub told : AreTold l.flat.nets.items words (design_in l top) drivers

-- no condition on modules holds, the design isn't too large, and this is its cost, which pays for the words
pub record IsCosted (l : Layout) (top : Name) (words : List Tree) (cost : ℕ) : Type 0 where
  pub is : cost ≡ design_cost (trees_of l) top
  pub small : cost ≤ most_cost
  pub pays : (2 + bits_of l.flat.nets.items) + sum_by cost_of words ≤ cost
