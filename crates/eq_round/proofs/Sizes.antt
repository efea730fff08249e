-- Strategies for two netlists may be tried on the parts that are cut out of these.
use Rattle.std.proofs.Common.{◌≡◌, ℕ, zero, suc, ◌+◌, ◌*◌, ◌<◌, ◌≤◌, List, [], ◌∷◌, Result, Ok, Err, IfOk, fold, length, max, slice_index_or, arith}
use Rattle.std.proofs.Math.Nat.{le-max_left, le-max_right, mul-le-mul_left, mul-le-mul_right}
use Rattle.std.proofs.lemmas.List.Sums.{count_by-le-length}
use Rattle.eq_bits.specs.declared.part.Part.{Part}
use Rattle.eq_cone.specs.Cut.{inverted_count, partition_at}
use Rattle.eq_config.specs.declared.config.Strategy.{Strategy}
use Rattle.eq_match.specs.Pairs.{pair_at}
use Rattle.eq_net.specs.declared.net.Net.{Net}
use Rattle.eq_net.specs.Whole.{parts_of}
use Rattle.eq_wit.specs.Tried.{MayBeTried}
use Rattle.eq_round.specs.Work.{IsWork, deepest, size_number}
use Rattle.eq_round.specs.declared.work.Work.{Work}
use Rattle.eq_round.proofs.Counts.{few_outputs}

-- what holds of a value by two facts of it
pub ok_from_both : {T E : Type 0} (r : Result T E) (P Q R : T → Type 0) → ((x : T) → P x → Q x → R x) → IfOk r P →
    IfOk r Q → IfOk r R
ok_from_both (Ok x) P Q R both p q = both x p q
ok_from_both (Err e) P Q R both p q = tt

plus_one : (a b : ℕ) → a ≤ b → a + 1 ≤ b + 1
plus_one a b le = omega arith

-- a part of at most twice the cost has few variables
few_variables : (cost nodes depth outputs : ℕ) → nodes ≤ cost + cost → outputs ≤ 2000000 →
    cost * (depth + 1) ≤ 2000000 → nodes * (depth + 1) + outputs ≤ 2147483647
few_variables cost nodes depth outputs few_nodes few size =
    let more : nodes * (depth + 1) ≤ (cost + cost) * (depth + 1) = mul-le-mul_right (depth + 1) few_nodes in
    let twice : (cost + cost) * (depth + 1) ≡ cost * (depth + 1) + cost * (depth + 1) = omega arith in
    omega arith

-- no strategy is deeper than the deepest
from_first : (strategies : List Strategy) (a : ℕ) → a ≤ fold (λ depth s. max depth s.depth) a strategies
from_first [] a = omega arith
from_first (s ∷ strategies) a =
    let rest = from_first strategies (max a s.depth) in
    let first = le-max_left a s.depth in
    omega arith

within_deepest : (strategies : List Strategy) (a k : ℕ) (d : Strategy) → k < length strategies →
    (slice_index_or strategies k d).depth ≤ fold (λ depth s. max depth s.depth) a strategies
within_deepest [] a k d lt = absurd (omega arith)
within_deepest (s ∷ strategies) a zero d lt =
    let rest = from_first strategies (max a s.depth) in
    let here = le-max_right a s.depth in
    omega arith
within_deepest (s ∷ strategies) a (suc k) d lt = within_deepest strategies (max a s.depth) k d (omega arith)

size_at_depth : (gold gate : Net) (strategies : List Strategy) → size_number gold gate strategies ≤ 2000000 →
    (k : ℕ) (d : Strategy) → k < length strategies →
    (gold.cost + gate.cost) * ((slice_index_or strategies k d).depth + 1) ≤ 2000000
size_at_depth gold gate strategies size k d lt =
    let depth = within_deepest strategies 0 k d lt in
    let more = mul-le-mul_left (gold.cost + gate.cost) (plus_one (slice_index_or strategies k d).depth
    (deepest strategies) depth) in
    omega arith

module _ (w : Work) (is : IsWork w) (q : ℕ) where
  outputs_few : length (partition_at w.plan.now q).outputs ≤ w.gold.now.cost
  outputs_few =
      let few = few_outputs (parts_of w.gold.now) (parts_of w.gate.now) w.plan.now is.plan q in
      let covered = w.gold.now.is_net.covered in
      omega arith

  pub may_be_tried : (part : Part) → length part.outputs ≡ length (partition_at w.plan.now q).outputs →
      length part.nodes ≤ w.gold.now.cost + w.gate.now.cost
      + inverted_count w.plan.now.pairs (partition_at w.plan.now q).outputs →
      MayBeTried part w.strategies.now
  may_be_tried part outputs bound =
      let few = outputs_few in
      let limited = w.gold.now.is_net.limited in
      let inverted = count_by-le-length (λ i. (pair_at w.plan.now.pairs i).inverted)
      (partition_at w.plan.now q).outputs in
      record {
        few = is.strategies.few;
        usable = λ k d lt. (
            let s = is.strategies.limited k d lt in
            record {
              few_conflicts = s.conflicts;
              unrollable = record {
                from_one = s.some_depth;
                few_cycles = s.depth;
                few_variables = few_variables (w.gold.now.cost + w.gate.now.cost) (length part.nodes)
                    (slice_index_or w.strategies.now k d).depth (length part.outputs) (omega arith) (omega arith)
                    (size_at_depth w.gold.now w.gate.now w.strategies.now is.strategies.size k d lt);
              };
            });
        some_conflicts = λ k d lt. (is.strategies.limited k d lt).some_conflicts;
      }
