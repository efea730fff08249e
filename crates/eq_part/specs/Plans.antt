-- The plan of two netlists, as one of their designs.
use Rattle.std.specs.Prelude.{◌≡◌, ◌≢◌, ℕ, ◌<◌, AllPairs, map, length, slice_index_or}
use Rattle.eq_model.specs.Plan.{Plan as DesignPlan, Covers}
use Rattle.eq_net.specs.Net.{HasBit, Parts, bits_of, design_of, number_of}
use Rattle.eq_match.specs.Pairs.{pair_at}
use Rattle.eq_part.specs.declared.plan.Plan.{Plan}
use Rattle.eq_part.specs.Tables.{holds, no_part}

-- pairs join bits by their numbers in the two netlists, and partitions hold their outputs
abbrev pub plan_of : Parts → Parts → Plan → DesignPlan
plan_of gold gate plan = record {
  pairs = length plan.pairs;
  gold = λ i. number_of gold.nets (pair_at plan.pairs i).gold;
  gate = λ i. number_of gate.nets (pair_at plan.pairs i).gate;
  inverted = λ i. (pair_at plan.pairs i).inverted;
  input = λ i. (pair_at plan.pairs i).input;
  parts = length plan.parts;
  holds = holds plan.parts;
}

-- no partition has an output twice
abbrev pub HasOutputsOnce : Plan → Type 0
HasOutputsOnce plan = (q : ℕ) → AllPairs (λ i j. i ≢ j) (slice_index_or plan.parts q no_part).outputs

-- the plan is one of these two netlists, and leaves nothing out
pub record IsPlanOf (gold gate : Parts) (plan : Plan) : Type 0 where
  -- gold's bits of the pairs are there by name
  pub gold_there : (i : ℕ) → i < length plan.pairs → HasBit gold.nets (pair_at plan.pairs i).gold
  pub outputs_once : HasOutputsOnce plan
  -- the tables have the numbers of the pairs' bits, and a place for each bit
  pub gold_numbers : plan.gold.bits ≡ map (λ p. number_of gold.nets p.gold) plan.pairs
  pub gate_numbers : plan.gate.bits ≡ map (λ p. number_of gate.nets p.gate) plan.pairs
  pub gold_table : length plan.gold.pairs ≡ bits_of gold.nets
  pub gate_table : length plan.gate.pairs ≡ bits_of gate.nets
  pub covers : Covers (design_of gold) (design_of gate) (plan_of gold gate plan)
