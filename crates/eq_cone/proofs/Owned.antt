-- Where a cut of two netlists' graphs stops: at just the paired bits outside, and so at each input.
use Rattle.std.proofs.Common.{◌≡◌, ℕ, zero, suc, ◌<◌, ◌≤◌, ◌+◌, ◌-◌, ◌==◌, List, [], ◌∷◌, Bool, true, false, Option, Some, None, length, slice_get, slice_index_or, refl, arith, sym, ap, subst, ◌∙◌, inl, inr}
use Rattle.std.specs.List.{list_any}
use Rattle.std.proofs.lemmas.Bool.{cases_Bool, cases_lt, or_cases, or_left, or_right}
use Rattle.std.proofs.lemmas.Bool.Decides.{Decides-eqb}
use Rattle.std.proofs.lemmas.Option.{get_or_from_slice_get}
use Rattle.eq_model.specs.System.{IsInput}
use Rattle.eq_model.specs.Run.{IsDesign, dir}
use Rattle.eq_bits.specs.declared.node.Node.{Node}
use Rattle.eq_bits.specs.declared.node.Node.TheVariants.{Const, Input, Not, And, Xor, Mux, Buf, Reg}
use Rattle.eq_bits.specs.declared.node.Graph.{Graph}
use Rattle.eq_bits.specs.Node.{driver_of, node_at}
use Rattle.eq_blast.specs.Blasted.{own_of}
use Rattle.eq_net.specs.declared.net.Net.{Net}
use Rattle.eq_net.specs.Net.{design_of, number_of}
use Rattle.eq_net.specs.Whole.{parts_of}
use Rattle.eq_match.specs.Pairs.{pair_at}
use Rattle.eq_part.specs.declared.plan.Plan.{Plan}
use Rattle.eq_part.specs.Plans.{IsPlanOf}
use Rattle.eq_part.specs.Tables.{holds}
use Rattle.eq_cone.specs.Cut.{IsGraphOfNet}
use Rattle.eq_cone.specs.Paired.{ArePaired, own_in_gate, own_in_gold, pair_of}
use Rattle.eq_cone.specs.inner.Cones.{number_at}
use Rattle.eq_cone.specs.inner.Parted.{TellsCuts}
use Rattle.eq_cone.specs.inner.Sides.{is_inside, is_owner, joined, outside, shifted, unless}
use Rattle.eq_cone.proofs.Handed.{cut_pair}
use Rattle.eq_cone.proofs.PairTables.{bit_there, bits_once}
use Rattle.eq_cone.proofs.Pigeons.{pigeonhole}
use Rattle.eq_cone.proofs.Planned.{few_nodes, input_is_own, is_port, no_number, numbers_at, own_nodes, port_of_input}
use Rattle.eq_cone.proofs.Rows.{gate_node, gold_node, joined_length}

get_some : (xs : List (Option ℕ)) (i q : ℕ) → slice_index_or xs i None ≡ Some q → slice_get xs i ≡ Some (Some q)
get_some [] i q e = absurd (cc)
get_some (x ∷ xs) zero q e = ap (λ (y : Option ℕ). Some y) e
get_some (x ∷ xs) (suc i) q e = get_some xs i q e

owner_is : (o : Option ℕ) (q : ℕ) → is_owner o q ≡ true → o ≡ Some q
owner_is None q e = absurd (cc)
owner_is (Some r) q e = ap (λ (x : ℕ). Some x) ((Decides-eqb r q).0 e)

unshifted_input : (d : ℕ) (x : Node) → IsInput (driver_of (shifted d x)) → IsInput (driver_of x)
unshifted_input d (Const b) h = h
unshifted_input d (Input i) h = h
unshifted_input d (Not a) h = h
unshifted_input d (And a b) h = h
unshifted_input d (Xor a b) h = h
unshifted_input d (Mux s a b) h = h
unshifted_input d (Buf a) h = h
unshifted_input d (Reg next init) h = h

-- ---- members of a list

abbrev is_in : ℕ → List ℕ → Bool
is_in i xs = list_any (λ j. j == i) xs

pub has_there : (xs : List ℕ) (o : ℕ) → o < length xs → is_in (number_at xs o) xs ≡ true
has_there [] o lt = absurd (omega arith)
has_there (x ∷ xs) zero lt = or_left (x == x) (is_in x xs) ((Decides-eqb x x).1 refl)
has_there (x ∷ xs) (suc o) lt = or_right (x == number_at xs o) (is_in (number_at xs o) xs) (has_there xs o (omega arith))

pub has_some : (xs : List ℕ) (i : ℕ) → is_in i xs ≡ true → (o : ℕ) × (o < length xs) × (number_at xs o ≡ i)
has_some [] i e = absurd (cc)
has_some (x ∷ xs) i e =
    elim (or_cases (x == i) (is_in i xs) e) [
      | inl here ↦ (0, (omega arith), (Decides-eqb x i).0 here)
      | inr there ↦ (let t = has_some xs i there in (suc t.0, (let lt = t.1 in omega arith), t.2))
    ]

module _ (gold_net gate_net : Net) (gold gate : Graph) (plan : Plan) (paired : List (Option ℕ)) (q : ℕ)
    (of_gold : IsGraphOfNet gold_net gold) (of_gate : IsGraphOfNet gate_net gate)
    (is_plan : IsPlanOf (parts_of gold_net) (parts_of gate_net) plan) (are : ArePaired gold gate plan paired)
    (lt : q < length plan.parts) (gold_design : IsDesign (design_of (parts_of gold_net)))
    (gate_design : IsDesign (design_of (parts_of gate_net))) where
  pub gold_bit : (i : ℕ) → i < length plan.pairs → slice_index_or plan.gold.bits i 0 < length gold.bits
  gold_bit i less =
      let n = plan.gold_count in
      let e = bit_there plan.gold.bits plan.gold.pairs plan.gold.inverse i (omega arith) in
      let f = is_plan.gold_table in
      let h = of_gold.blasted.count in omega arith

  pub gate_bit : (i : ℕ) → i < length plan.pairs → slice_index_or plan.gate.bits i 0 < length gate.bits
  gate_bit i less =
      let n = plan.gate_count in
      let e = bit_there plan.gate.bits plan.gate.pairs plan.gate.inverse i (omega arith) in
      let f = is_plan.gate_table in
      let h = of_gate.blasted.count in omega arith

  pub gold_there : (i : ℕ) → i < length plan.pairs → own_in_gold gold plan i < length gold.nodes
  gold_there i less = (own_nodes gold_net gold of_gold).there (slice_index_or plan.gold.bits i 0) (gold_bit i less)

  pub gate_there : (i : ℕ) → i < length plan.pairs → own_in_gate gate plan i < length gate.nodes
  gate_there i less = (own_nodes gate_net gate of_gate).there (slice_index_or plan.gate.bits i 0) (gate_bit i less)

  pub gold_number : (i : ℕ) → slice_index_or plan.gold.bits i 0 ≡ number_of gold_net.nets (pair_at plan.pairs i).gold
  gold_number i = numbers_at gold_net.nets (λ p. number_of gold_net.nets p.gold) (no_number gold_net.nets) plan.pairs
      plan.gold.bits is_plan.gold_numbers i

  pub gate_number : (i : ℕ) → slice_index_or plan.gate.bits i 0 ≡ number_of gate_net.nets (pair_at plan.pairs i).gate
  gate_number i = numbers_at gate_net.nets (λ p. number_of gate_net.nets p.gate) (no_number gate_net.nets) plan.pairs
      plan.gate.bits is_plan.gate_numbers i

  -- no two pairs have one node of gold
  pub gold_once : (i j : ℕ) → i < length plan.pairs → j < length plan.pairs → own_in_gold gold plan i ≡
      own_in_gold gold plan j → i ≡ j
  gold_once i j li lj same =
      let n = plan.gold_count in
      bits_once plan.gold.bits plan.gold.pairs plan.gold.inverse i j (omega arith) (omega arith)
      ((own_nodes gold_net gold of_gold).once (slice_index_or plan.gold.bits i 0) (slice_index_or plan.gold.bits j 0)
      (gold_bit i li) (gold_bit j lj) same)

  pub few_pairs : length plan.pairs ≤ 2000000
  few_pairs =
      let e = pigeonhole (length plan.pairs) (length gold.nodes) (own_in_gold gold plan) gold_there gold_once in
      let f = few_nodes gold_net gold of_gold in omega arith

  -- ---- who is inside

  inside_held : (i : ℕ) → holds plan.parts q i ≡ true → is_inside plan.owners q i ≡ true
  inside_held i h =
      let e = get_or_from_slice_get plan.owners i (Some q) None ((plan.owned.owned i q).1 h) in
      ap (λ (o : Option ℕ). is_owner o q) e ∙ (Decides-eqb q q).1 refl

  held_inside : (i : ℕ) → is_inside plan.owners q i ≡ true → holds plan.parts q i ≡ true
  held_inside i h = (plan.owned.owned i q).0
      (get_some plan.owners i q (owner_is (slice_index_or plan.owners i None) q h))

  cut_there : (m i : ℕ) → pair_of paired m ≡ Some i → holds plan.parts q i ≡ false →
      outside plan.owners q (pair_of paired m) ≡ Some i
  cut_there m i e out =
      elim (cases_Bool (is_inside plan.owners q i)) [
        | inl inside ↦ (let f : true ≡ false = sym (held_inside i inside) ∙ out in absurd (cc))
        | inr not_inside ↦ ap (outside plan.owners q) e ∙ ap (λ (b : Bool). unless b i) not_inside
      ]

  pub tells : TellsCuts (length gold.nodes) (length plan.pairs) (own_in_gold gold plan) (own_in_gate gate plan)
      (holds plan.parts q) (λ m. outside plan.owners q (pair_of paired m))
  tells = record {
    gold = λ i less out. cut_there (own_in_gold gold plan i) i (are.gold_own i less) out;
    gate = λ i less out. cut_there (length gold.nodes + own_in_gate gate plan i) i (are.gate_own i less) out;
    pair = λ m i e. (
        let t = cut_pair plan.owners q (pair_of paired m) i e in (
          (are.only m i t.0).0,
          (elim (cases_Bool (holds plan.parts q i)) [
            | inl held ↦ (let f : true ≡ false = sym (inside_held i held) ∙ t.1 in absurd (cc))
            | inr not_held ↦ not_held
          ]),
        ));
    only = λ m i e. (are.only m i (cut_pair plan.owners q (pair_of paired m) i e).0).1;
  }

  -- ---- inputs

  -- pairs of inputs stand in no partition
  input_outside : (i : ℕ) → (pair_at plan.pairs i).input ≡ true → holds plan.parts q i ≡ false
  input_outside i input =
      elim (cases_Bool (holds plan.parts q i)) [
        | inl held ↦ (
            let t = is_plan.covers.in_pairs q i lt held in
            let f : true ≡ false = sym input ∙ t.1 in absurd (cc))
        | inr not_held ↦ not_held
      ]

  gold_input_cut : (m : ℕ) → m < length gold.nodes → IsInput (driver_of (node_at gold.nodes m)) →
      (i : ℕ) × (outside plan.owners q (pair_of paired m) ≡ Some i)
  gold_input_cut m less held =
      let own = input_is_own gold_net gold of_gold m less held in
      let port = port_of_input gold_net gold of_gold gold_design own.0 own.1 own.3 in
      let pair = is_plan.covers.gold_ports own.0 own.1 (is_port (dir (design_of (parts_of gold_net)) own.0) port) in
      let here = ap (dir (design_of (parts_of gold_net))) pair.2 ∙ port in
      let input = (is_plan.covers.gold_inputs pair.0 pair.1).1 here in
      let cut = tells.gold pair.0 pair.1 (input_outside pair.0 input) in
      let same : own_in_gold gold plan pair.0 ≡ m =
      ap (own_of gold.bits) (gold_number pair.0 ∙ pair.2) ∙ own.2 in
      (pair.0, subst (λ (x : ℕ). outside plan.owners q (pair_of paired x) ≡ Some pair.0) same cut)

  gate_input_cut : (m : ℕ) → m < length gate.nodes → IsInput (driver_of (node_at gate.nodes m)) →
      (i : ℕ) × (outside plan.owners q (pair_of paired (length gold.nodes + m)) ≡ Some i)
  gate_input_cut m less held =
      let own = input_is_own gate_net gate of_gate m less held in
      let port = port_of_input gate_net gate of_gate gate_design own.0 own.1 own.3 in
      let pair = is_plan.covers.gate_ports own.0 own.1 (is_port (dir (design_of (parts_of gate_net)) own.0) port) in
      let here = ap (dir (design_of (parts_of gate_net))) pair.2 ∙ port in
      let input = (is_plan.covers.gate_inputs pair.0 pair.1).1 here in
      let cut = tells.gate pair.0 pair.1 (input_outside pair.0 input) in
      let same : own_in_gate gate plan pair.0 ≡ m =
      ap (own_of gate.bits) (gate_number pair.0 ∙ pair.2) ∙ own.2 in
      (pair.0, subst (λ (x : ℕ). outside plan.owners q (pair_of paired (length gold.nodes + x)) ≡ Some pair.0) same cut)

  pub uncut : (m : ℕ) → m < length (joined gold.nodes gate.nodes) → outside plan.owners q (pair_of paired m) ≡ None →
      ¬ IsInput (driver_of (node_at (joined gold.nodes gate.nodes) m))
  uncut m less none held =
      let P : Node → Type 0 = λ x. IsInput (driver_of x) in
      let n = joined_length gold.nodes gate.nodes in
      elim (cases_lt m (length gold.nodes)) [
        | inl low ↦ (
            let t = gold_input_cut m low (subst P (gold_node gold.nodes gate.nodes m low) held) in
            let f : None ≡ Some t.0 = sym none ∙ t.1 in absurd (cc))
        | inr high ↦ (
            let k : ℕ = m - length gold.nodes in
            let here : m ≡ length gold.nodes + k = omega arith in
            let Q : ℕ → Type 0 = λ x. IsInput (driver_of (node_at (joined gold.nodes gate.nodes) x)) in
            let R : ℕ → Type 0 = λ x. outside plan.owners q (pair_of paired x) ≡ None in
            let there = subst P (gate_node gold.nodes gate.nodes k) (subst Q here held) in
            let t = gate_input_cut k (omega arith) (unshifted_input (length gold.nodes) (node_at gate.nodes k) there) in
            let f : None ≡ Some t.0 = sym (subst R here none) ∙ t.1 in absurd (cc))
      ]
