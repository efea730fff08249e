-- When a part says what a partition of two systems says.
use Rattle.std.specs.Prelude.{◌≡◌, ℕ, ◌<◌, Bool, true, false}
use Rattle.eq_model.specs.System.{Values, System, IsInitial, nothing}
use Rattle.eq_model.specs.Plan.{Plan, gate_value}
use Rattle.eq_model.specs.Cut.{CutRun, IsFromInitial}
use Rattle.eq_model.specs.Part.{Part, PartRun, IsTrim}

-- which pair each input and each output of a part stands for: an input for a pair outside the partition, no pair twice,
-- and the outputs for the pairs inside, each of them once
pub record Pinout (p : Plan) (inside : ℕ → Bool) (t : Part) : Type 0 where
  pub input_pair : ℕ → ℕ
  pub output_pair : ℕ → ℕ
  pub outside : (k : ℕ) → k < t.inputs → (input_pair k < p.pairs) × (inside (input_pair k) ≡ false)
  pub apart : (j k : ℕ) → j < t.inputs → k < t.inputs → input_pair j ≡ input_pair k → j ≡ k
  pub within : (o : ℕ) → o < t.outputs → (output_pair o < p.pairs) × (inside (output_pair o) ≡ true)
  pub each : (i : ℕ) → i < p.pairs → inside i ≡ true → (o : ℕ) × (o < t.outputs) ×
      (output_pair o ≡ i)
  pub once : (o u : ℕ) → o < t.outputs → u < t.outputs → output_pair o ≡ output_pair u → o ≡ u

-- a part's run x has in each cycle the values of the systems' v and w on its inputs and outputs. An input has gold's value,
-- and an output's gate node has gate's value, negated where the pair is inverted
pub record Fits (p : Plan) (inside : ℕ → Bool) (t : Part) (pinout : Pinout p inside t) (n : ℕ)
    (given : ℕ → ℕ → Bool) (x v w : ℕ → Values) : Type 0 where
  pub inputs : (c k : ℕ) → c < n → k < t.inputs → given c k ≡ v c (p.gold (pinout.input_pair k))
  pub gold_outputs : (c o : ℕ) → c < n → o < t.outputs →
      x c (t.gold o) ≡ v c (p.gold (pinout.output_pair o))
  pub gate_outputs : (c o : ℕ) → c < n → o < t.outputs →
      x c (t.gate o) ≡ gate_value p (pinout.output_pair o) (w c)

-- on inputs and outputs the part's runs are the partition's cut runs, from any values of the registers and from the initial
-- ones, and the part holds nothing besides
pub record Denotes (gold gate : System) (p : Plan) (inside : ℕ → Bool) (t : Part) : Type 0 where
  pub pinout : Pinout p inside t
  pub part_run : (n : ℕ) (v w : ℕ → Values) → CutRun gold gate p inside n v w →
      (given : ℕ → ℕ → Bool) × (x : ℕ → Values) × PartRun t given n x ×
      Fits p inside t pinout n given x v w
  pub cut_run : (n : ℕ) (given : ℕ → ℕ → Bool) (x : ℕ → Values) → 0 < n → PartRun t given n x →
      (v : ℕ → Values) × (w : ℕ → Values) × CutRun gold gate p inside n v w ×
      Fits p inside t pinout n given x v w
  pub part_run_initial : (n : ℕ) (v w : ℕ → Values) → CutRun gold gate p inside n v w →
      IsFromInitial gold gate p inside v w →
      (given : ℕ → ℕ → Bool) × (x : ℕ → Values) × PartRun t given n x ×
      IsInitial t.system nothing (x 0) × Fits p inside t pinout n given x v w
  pub cut_run_initial : (n : ℕ) (given : ℕ → ℕ → Bool) (x : ℕ → Values) → 0 < n →
      PartRun t given n x → IsInitial t.system nothing (x 0) →
      (v : ℕ → Values) × (w : ℕ → Values) × CutRun gold gate p inside n v w ×
      IsFromInitial gold gate p inside v w × Fits p inside t pinout n given x v w
  pub trim : IsTrim t
