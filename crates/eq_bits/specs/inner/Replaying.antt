-- Cited by proofs alone; nothing here has to be believed.
use Rattle.std.specs.Prelude.{◌≡◌, ◌≢◌, ℕ, ◌<◌, List, Bool, length}
use Rattle.eq_model.specs.System.{Values}
use Rattle.eq_model.specs.Frames.{values}
use Rattle.eq_bits.specs.declared.part.Output.{Output}
use Rattle.eq_bits.specs.declared.part.Part.{Part}
use Rattle.eq_bits.specs.declared.run.Run.{Run}
use Rattle.eq_bits.specs.Replay.{IsReplay, output_at}

-- both nodes of output o have the same value
abbrev pub IsSameAt : List Output → Values → ℕ → Type 0
IsSameAt outputs v o = v (output_at outputs o).gold ≡ v (output_at outputs o).gate

-- output o is the first whose nodes differ
pub record IsFirstOutput (outputs : List Output) (v : Values) (o : ℕ) : Type 0 where
  pub output : o < length outputs
  pub differs : v (output_at outputs o).gold ≢ v (output_at outputs o).gate
  pub first : (p : ℕ) → p < o → IsSameAt outputs v p

-- these are the nodes' values in cycle c of the run
abbrev pub HasCycle : Part → Run → ℕ → List Bool → Type 0
HasCycle part run c xs = (x : ℕ → Values) → IsReplay part run x → (m : ℕ) → m < length part.nodes → values xs m ≡ x c m
