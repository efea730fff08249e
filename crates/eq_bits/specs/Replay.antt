-- What a part means, what a run of it is, and where its two sides first differ.
use Rattle.std.specs.Prelude.{◌≡◌, ◌≢◌, ℕ, ◌<◌, List, [], true, All, length, slice_index_or}
use Rattle.eq_model.specs.System.{Values}
use Rattle.eq_model.specs.Frames.{values, frames}
use Rattle.eq_model.specs.Part.{Part as PartMeant, PartRun, PartSame}
use Rattle.eq_bits.specs.declared.part.Output.{Output}
use Rattle.eq_bits.specs.declared.part.Part.{Part}
use Rattle.eq_bits.specs.declared.run.Run.{Run}
use Rattle.eq_bits.specs.Node.{input_of, is_register, node_at, system_of}
use Rattle.eq_bits.specs.Cycle.{place, register_count}

-- the output of a number, and one of node 0 beyond the list
abbrev pub output_at : List Output → ℕ → Output
output_at outputs o = slice_index_or outputs o (record { name = []; gold = 0; gate = 0 })

-- what a part stands for
abbrev pub meaning : Part → PartMeant
meaning part = record {
  system = system_of part.nodes;
  inputs = length part.inputs;
  number = λ m. input_of (node_at part.nodes m);
  outputs = length part.outputs;
  gold = λ o. (output_at part.outputs o).gold;
  gate = λ o. (output_at part.outputs o).gate;
}

-- the run has a value for each register, and in each cycle one for each input
pub record IsRunOf (part : Part) (run : Run) : Type 0 where
  pub regs : length run.regs ≡ register_count part.nodes
  pub inputs : All (λ frame. length frame ≡ length part.inputs) run.inputs

-- x has the nodes' values, by cycle and node, in the part's run with these inputs in each cycle and these values of the
-- registers, in the order of the nodes, in the first
pub record IsReplay (part : Part) (run : Run) (x : ℕ → Values) : Type 0 where
  pub follows : PartRun (meaning part) (frames run.inputs) (length run.inputs) x
  pub begins : 0 < length run.inputs → (m : ℕ) → m < length part.nodes → is_register (node_at part.nodes m) ≡ true →
      x 0 m ≡ values run.regs (place part.nodes m)

-- a run has such values, and any two of them are the same
pub record HasOneReplay (part : Part) (run : Run) : Type 0 where
  pub some : (x : ℕ → Values) × IsReplay part run x
  pub only : (x y : ℕ → Values) → IsReplay part run x → IsReplay part run y →
      (c m : ℕ) → c < length run.inputs → m < length part.nodes → x c m ≡ y c m

-- of n cycles with the values x, cycle c is the first in which an output differs, and o is the first output that does so
-- in it
pub record IsFirstDifference (t : PartMeant) (n : ℕ) (x : ℕ → Values) (c o : ℕ) : Type 0 where
  pub cycle : c < n
  pub output : o < t.outputs
  pub differs : x c (t.gold o) ≢ x c (t.gate o)
  pub first_output : (p : ℕ) → p < o → x c (t.gold p) ≡ x c (t.gate p)
  pub first_cycle : (e : ℕ) → e < c → PartSame t (x e)

-- in none of n cycles with the values x does an output differ
abbrev pub IsSame : PartMeant → ℕ → (ℕ → Values) → Type 0
IsSame t n x = (c : ℕ) → c < n → PartSame t (x c)
