-- What the two queries ask of a part, and over how many cycles (k-induction: M. Sheeran, S. Singh, G. Stålmarck, "Checking
-- Safety Properties Using Induction and a SAT-Solver", 2000).
use Rattle.std.specs.Prelude.{ℕ, zero, suc, ◌+◌, ◌-◌, ◌*◌, ◌≤◌, ◌<◌, length}
use Rattle.eq_model.specs.System.{Values, IsInitial, nothing}
use Rattle.eq_model.specs.Part.{PartBase, PartDiffer, PartSame, PartStep}
use Rattle.eq_bits.specs.declared.part.Part.{Part}
use Rattle.eq_bits.specs.Node.{system_of}
use Rattle.eq_bits.specs.Replay.{meaning}
use Rattle.eq_unroll.specs.declared.query.Query.{Query}
use Rattle.eq_unroll.specs.declared.query.Query.TheVariants.{Base, Step}

-- the query holds of the part at k cycles
abbrev pub Holds : Part → Query → ℕ → Type 0
Holds part Base k = PartBase (meaning part) k
Holds part Step k = PartStep (meaning part) k

-- how many cycles a run has that shows it
abbrev pub frame_count : Query → ℕ → ℕ
frame_count Base k = k
frame_count Step k = suc k

-- in how many cycles, from the first, the outputs are to agree
abbrev pub agreeing : Query → ℕ → ℕ
agreeing Base k = zero
agreeing Step k = k

-- the cycle in which an output is to differ, counted from 0
abbrev pub last_frame : Query → ℕ → ℕ
last_frame Base k = k - 1
last_frame Step k = k

-- k is in its range, and each variable of both formulas at k has a number that fits a literal
pub record IsUnrollable (part : Part) (k : ℕ) : Type 0 where
  pub from_one : 1 ≤ k
  pub few_cycles : k ≤ 64
  pub few_variables : length part.nodes * (k + 1) + length part.outputs ≤ 2147483647

-- the values of a run's first cycle are what the query allows: for Base the registers begin at their initial values
abbrev pub StartsAs : Part → Query → Values → Type 0
StartsAs part Base v = IsInitial (system_of part.nodes) nothing v
StartsAs part Step v = Unit {0}

-- the values of a run, by cycle and node, are as the query asks
pub record Shows (part : Part) (q : Query) (k : ℕ) (x : ℕ → Values) : Type 0 where
  pub starts : StartsAs part q (x 0)
  pub agrees : (c : ℕ) → c < agreeing q k → PartSame (meaning part) (x c)
  pub differs : PartDiffer (meaning part) (x (last_frame q k))
