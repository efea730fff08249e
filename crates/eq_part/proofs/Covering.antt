-- A plan of matched pairs covers the two designs.
use Rattle.std.proofs.Common.{◌≡◌, ℕ, ◌<◌, List, true, false, length, map, sym, ap, subst, ◌∙◌}
use Rattle.std.proofs.Math.ListN.{get_or-map}
use Rattle.std.proofs.lemmas.Bool.{not-true, not_from_false}
use Rattle.std.proofs.lemmas.List.{length-map}
use Rattle.eq_model.specs.Plan.{Covers}
use Rattle.eq_net.specs.Net.{Parts, design_of}
use Rattle.eq_match.specs.Classes.{Together}
use Rattle.eq_match.specs.Divided.{AreDivided, has, list_at}
use Rattle.eq_match.specs.Groups.{is_held}
use Rattle.eq_match.specs.Matched.{AreMatched}
use Rattle.eq_match.specs.Pairs.{pair_at}
use Rattle.eq_part.specs.declared.plan.Plan.{Plan}
use Rattle.eq_part.specs.declared.types.Partition.{Partition}
use Rattle.eq_part.specs.Plans.{plan_of}
use Rattle.eq_part.specs.Tables.{holds, no_part}

abbrev pub outputs_of : List Partition → List (List ℕ)
outputs_of parts = map (λ (p : Partition). p.outputs) parts

-- what a partition holds stands in the list of its outputs
pub has_held : (parts : List Partition) (q i : ℕ) → has i (list_at (outputs_of parts) q) ≡ holds parts q i
has_held parts q i = ap (has i) (get_or-map (λ (p : Partition). p.outputs) parts q no_part)

module _ (gold gate : Parts) (plan : Plan) (together : Together) (are : AreMatched gold gate plan.pairs)
    (divided : AreDivided (length plan.pairs) (is_held plan.pairs) together (outputs_of plan.parts)) where
  size : length (outputs_of plan.parts) ≡ length plan.parts
  size = length-map plan.parts (λ (p : Partition). p.outputs)

  in_one : (i : ℕ) → i < length plan.pairs → (pair_at plan.pairs i).input ≡ false → (q : ℕ) × (q < length plan.parts) ×
      (holds plan.parts q i ≡ true) × ((r : ℕ) → r < length plan.parts → holds plan.parts r i ≡ true → r ≡ q)
  in_one i lt plain =
      let one = divided.in_one i lt (not_from_false (pair_at plan.pairs i).input plain) in (
        one.0,
        subst (λ (n : ℕ). one.0 < n) size one.1,
        sym (has_held plan.parts one.0 i) ∙ one.2,
        λ r below h. one.3 r (has_held plan.parts r i ∙ h),
      )

  in_pairs : (q i : ℕ) → q < length plan.parts → holds plan.parts q i ≡ true →
      (i < length plan.pairs) × ((pair_at plan.pairs i).input ≡ false)
  in_pairs q i lt h =
      let inside = divided.inside q i (has_held plan.parts q i ∙ h) in
      (inside.0, not-true (pair_at plan.pairs i).input inside.1)

  some_held : (q : ℕ) → q < length plan.parts → (i : ℕ) × (holds plan.parts q i ≡ true)
  some_held q lt =
      let one = divided.some q (subst (λ (n : ℕ). q < n) (sym size) lt) in
      (one.0, sym (has_held plan.parts q one.0) ∙ one.1)

  pub covers : Covers (design_of gold) (design_of gate) (plan_of gold gate plan)
  covers = record {
    one_to_one = record {
      gold_bits = are.gold_bits;
      gate_bits = are.gate_bits;
      gold_once = are.gold_once;
      gate_once = are.gate_once;
    };
    gold_ports = are.gold_ports;
    gate_ports = are.gate_ports;
    plain_ports = are.plain_ports;
    gold_inputs = are.gold_inputs;
    gate_inputs = are.gate_inputs;
    in_one = in_one;
    in_pairs = in_pairs;
    some_held = some_held;
  }
