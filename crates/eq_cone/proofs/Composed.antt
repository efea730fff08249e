-- The fields of a part made of a copied cone are those of a part.
use Rattle.std.proofs.Common.{◌≡◌, ℕ, ◌<◌, ◌≤◌, ◌^◌, List, [], Option, length, refl, arith, sym, ap, subst, ◌∙◌, inl, inr}
use Rattle.std.proofs.lemmas.Bool.{cases_lt}
use Rattle.std.proofs.lemmas.List.{get_or_default}
use Rattle.eq_model.specs.System.{IsInput}
use Rattle.eq_bits.specs.declared.node.Node.{Node}
use Rattle.eq_bits.specs.declared.node.Node.TheVariants.{Const, Input, Not, And, Xor, Mux, Buf, Reg}
use Rattle.eq_bits.specs.declared.part.Output.{Output}
use Rattle.eq_bits.specs.Node.{AreNodes, NamesInput, driver_of, input_of, node_at}
use Rattle.eq_bits.specs.Part.{MakePart, NamesNodes}
use Rattle.eq_bits.specs.Replay.{output_at}
use Rattle.eq_net.specs.declared.types.NetInfo.{NetInfo}
use Rattle.eq_cone.specs.declared.roots.Graphs.{Graphs}
use Rattle.eq_cone.specs.inner.Copying.{AreInputNodes}
use Rattle.eq_cone.specs.inner.Outputs.{AreNames, AreOutputsOf, HaveNodes}

names_input : (n : ℕ) (node : Node) → ((i : ℕ) → node ≡ Input i → i < n) → NamesInput n node
names_input n (Const b) low = tt
names_input n (Input i) low = low i refl
names_input n (Not a) low = tt
names_input n (And a b) low = tt
names_input n (Xor a b) low = tt
names_input n (Mux s a b) low = tt
names_input n (Buf a) low = tt
names_input n (Reg next init) low = tt

module _ (nets : List NetInfo) (g : Graphs) (positions inputs : List ℕ) (place : ℕ → Option ℕ) (old new : List Node)
    (outs : List Output) (names : List (List ℕ))
    (are : AreOutputsOf nets g positions place old new outs (length positions))
    (named : AreNames nets g inputs names (length inputs)) (input_nodes : AreInputNodes old (length inputs))
    (no_others : (k : ℕ) → length inputs ≤ k → k < length old → ¬ IsInput (driver_of (node_at old k)))
    (have : HaveNodes g positions place old) where
  low : (m i : ℕ) → m < length new → node_at new m ≡ Input i → (m < length inputs) × (i ≡ m)
  low m i lt e =
      let P : Node → Type 0 = λ x. IsInput (driver_of x) in
      let input : IsInput (driver_of (node_at new m)) = subst P (sym e) tt in
      let few = input_nodes.there in
      elim (cases_lt m (length inputs)) [
        | inl less ↦ (less, ap input_of (sym e ∙ are.are.stays m (omega arith) ∙ input_nodes.are m less))
        | inr more ↦ (elim (cases_lt m (length old)) [
          | inl before ↦ absurd (no_others m more before (subst P (are.are.stays m before) input))
          | inr behind ↦ absurd (are.are.no_input m behind lt input)
        ])
      ]

  output_there : (k : ℕ) → k < length positions → NamesNodes (length new) (output_at outs k)
  output_there k lt =
      let e = are.are.gold k lt in
      let f = have.gold k lt in
      let n = are.are.no_less in
      (omega arith, are.are.gate_there k lt)

  pub makes_part : length inputs < 2 ^ 32 → length positions < 2 ^ 32 → length new < 2 ^ 32 → AreNodes new →
      MakePart names new outs
  makes_part few_inputs few_outputs few_nodes operands =
      let n = named.count in
      let m = are.are.count in
      record {
        few_inputs = omega arith;
        few_nodes = few_nodes;
        few_outputs = omega arith;
        operands = operands;
        inputs_there = λ k lt. names_input (length names) (node_at new k) (λ i e. (
            let t = low k i lt e in let a = t.0 in let b = t.1 in omega arith));
        one_node = λ a b i la lb ea eb. (
            let x = low a i la ea in let y = low b i lb eb in sym x.1 ∙ y.1);
        outputs_there = λ k d lt. (
            let P : Output → Type 0 = λ x. NamesNodes (length new) x in
            subst P (get_or_default outs k (record { name = []; gold = 0; gate = 0 }) d lt)
            (output_there k (omega arith)));
      }
