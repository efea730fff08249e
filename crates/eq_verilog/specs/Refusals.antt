-- Which designs are refused, and for what. Conditions on modules look at those that are reached from the top, in the
-- order of first visit, and in each at the order of the text; conditions on bits at the order of bits. The first
-- condition that holds counts, and its first place is told.
use Rattle.std.specs.Prelude.{◌≡◌, ◌<◌, ℕ, min, List, [], ◌∷◌, nat_lt, if◌then◌else◌, Option, Some, None, option_map}
use Rattle.eq_model.specs.System.{System, IsChain, IsLoopFree}
use Rattle.eq_verilog.specs.declared.refusal.ElabKind.{ElabKind}
use Rattle.eq_verilog.specs.declared.refusal.ElabKind.TheVariants as kind
use Rattle.eq_verilog.specs.Trees.{Name, ModuleTree}
use Rattle.eq_verilog.specs.Hierarchy.{reached}
use Rattle.eq_verilog.specs.Nets.{bit_name}
use Rattle.eq_verilog.specs.Costs.{design_cost}
use Rattle.eq_verilog.specs.Designs.{Flat, flat_of, design_of}
use Rattle.eq_verilog.specs.Firsts.{first_of, first_found}
use Rattle.eq_verilog.specs.ModuleRefusals.{duplicate_module, no_top, unknown_module, recursive, duplicate_name, unknown_name, bad_range}
use Rattle.eq_verilog.specs.TargetRefusals.{bad_target, bad_connection}
use Rattle.eq_verilog.specs.BitRefusals.{path_clash, two_drivers, undriven_bit, no_init, two_clocks, clock_as_data}

pub data Refusal : Type 0 where
  at : ElabKind → Name → Refusal
  too_large : ℕ → Refusal
  -- the first bit that a chain of reads within a cycle leads back to
  looped : Name → Refusal

-- ---- size

-- the most that a design may cost
abbrev pub most_cost : ℕ
most_cost = 2000000

-- the largest cost that is told
abbrev pub most_told : ℕ
most_told = 1000000000

-- the cost, where it is too much
abbrev pub excess : ℕ → Option ℕ
excess n = if nat_lt most_cost n then Some (min n most_told) else None

-- ---- all conditions but loops, in their order

abbrev pub named : ElabKind → Option Name → Option Refusal
named k o = option_map (at k) o

abbrev pub module_faults : List ModuleTree → Name → List ModuleTree → List (Option Refusal)
module_faults all top ms =
    named kind.DuplicateModule (duplicate_module all)
    ∷ named kind.NoTop (no_top all top)
    ∷ named kind.UnknownModule (first_found (unknown_module all) ms)
    ∷ named kind.Recursive (first_found (recursive all) ms)
    ∷ named kind.DuplicateName (first_found duplicate_name ms)
    ∷ named kind.UnknownName (first_found unknown_name ms)
    ∷ named kind.BadRange (first_found bad_range ms)
    ∷ named kind.BadTarget (first_found (bad_target all) ms)
    ∷ named kind.BadConnection (first_found (bad_connection all) ms)
    ∷ []

abbrev pub bit_faults : Flat → List (Option Refusal)
bit_faults f =
    named kind.PathClash (path_clash f)
    ∷ named kind.TwoDrivers (two_drivers f)
    ∷ named kind.Undriven (undriven_bit f)
    ∷ named kind.NoInit (no_init f)
    ∷ named kind.TwoClocks (two_clocks f)
    ∷ named kind.ClockAsData (clock_as_data f)
    ∷ []

-- the first that holds: of a module, of the size, of a bit
abbrev pub fault : List ModuleTree → Name → Option Refusal
fault all top =
    first_of (
    first_of (module_faults all top (reached all top))
    ∷ option_map too_large (excess (design_cost all top))
    ∷ first_of (bit_faults (flat_of all top))
    ∷ [])

-- ---- loops

-- a chain of reads within a cycle leads from bit b back to it
abbrev pub IsOnLoop : System → ℕ → Type 0
IsOnLoop s b = (cs : List ℕ) × IsChain s b cs b

-- b is the first such bit
pub record IsFirstOnLoop (s : System) (b : ℕ) : Type 0 where
  pub bound : b < s.bits
  pub loop : IsOnLoop s b
  pub first : (c : ℕ) → c < b → IsOnLoop s c → ⊥

-- ---- what is refused and what isn't

-- the design of this top is refused for this
abbrev pub IsRefusedFor : List ModuleTree → Name → Refusal → Type 0
IsRefusedFor all top (looped n) =
    (fault all top ≡ None)
    × ((b : ℕ) × IsFirstOnLoop (design_of all top).system b × (n ≡ bit_name (flat_of all top).nets b))
IsRefusedFor all top r = fault all top ≡ Some r

-- no condition holds
pub record IsAccepted (all : List ModuleTree) (top : Name) : Type 0 where
  pub faultless : fault all top ≡ None
  pub loop_free : IsLoopFree (design_of all top).system
