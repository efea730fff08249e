-- The nodes of two graphs in one row are nodes.
use Rattle.std.proofs.Common.{◌≡◌, ℕ, ◌+◌, ◌-◌, ◌<◌, ◌≤◌, List, false, map, length, arith, sym, ap, subst, ◌∙◌, inl, inr, length-append}
use Rattle.std.proofs.Math.ListN.{get_or-append, get_or-map}
use Rattle.std.proofs.Math.Seq.{get_or-append_right}
use Rattle.std.proofs.lemmas.Bool.{cases_lt}
use Rattle.std.proofs.lemmas.List.{length-map}
use Rattle.eq_bits.specs.declared.node.Node.{Node}
use Rattle.eq_bits.specs.declared.node.Node.TheVariants.{Const, Input, Not, And, Xor, Mux, Buf, Reg}
use Rattle.eq_bits.specs.Node.{AreNodes, IsNode, node_at}
use Rattle.eq_cone.specs.inner.Sides.{joined, shifted}

pub node_of_more : (n k m : ℕ) (node : Node) → n ≤ k → IsNode n m node → IsNode k m node
node_of_more n k m (Const b) le is = tt
node_of_more n k m (Input i) le is = tt
node_of_more n k m (Not a) le is = is
node_of_more n k m (And a b) le is = is
node_of_more n k m (Xor a b) le is = is
node_of_more n k m (Mux s a b) le is = is
node_of_more n k m (Buf a) le is = is
node_of_more n k m (Reg next init) le is = omega arith

shifted_node : (d n m : ℕ) (node : Node) → IsNode n m node → IsNode (d + n) (d + m) (shifted d node)
shifted_node d n m (Const b) is = tt
shifted_node d n m (Input i) is = tt
shifted_node d n m (Not a) is = omega arith
shifted_node d n m (And a b) is = (let x = is.0 in let y = is.1 in (omega arith, omega arith))
shifted_node d n m (Xor a b) is = (let x = is.0 in let y = is.1 in (omega arith, omega arith))
shifted_node d n m (Mux s a b) is =
    let x = is.0 in let y = is.1 in let z = is.2 in (omega arith, omega arith, omega arith)
shifted_node d n m (Buf a) is = omega arith
shifted_node d n m (Reg next init) is = omega arith

module _ (gold gate : List Node) where
  pub joined_length : length (joined gold gate) ≡ length gold + length gate
  joined_length = length-append gold (map (shifted (length gold)) gate)
      ∙ ap (λ (k : ℕ). length gold + k) (length-map gate (shifted (length gold)))

  pub gold_node : (m : ℕ) → m < length gold → node_at (joined gold gate) m ≡ node_at gold m
  gold_node m lt = get_or-append gold (map (shifted (length gold)) gate) (Const false) m lt

  pub gate_node : (m : ℕ) → node_at (joined gold gate) (length gold + m) ≡ shifted (length gold) (node_at gate m)
  gate_node m =
      get_or-append_right gold (map (shifted (length gold)) gate) (length gold + m) (Const false) (omega arith)
      ∙ ap (λ (k : ℕ). node_at (map (shifted (length gold)) gate) k)
      (let e : length gold + m - length gold ≡ m = omega arith in e)
      ∙ get_or-map (shifted (length gold)) gate m (Const false)

  pub joined_nodes : AreNodes gold → AreNodes gate → AreNodes (joined gold gate)
  joined_nodes of_gold of_gate m lt =
      let n = joined_length in
      elim (cases_lt m (length gold)) [
        | inl less ↦ (
            let P : Node → Type 0 = λ x. IsNode (length (joined gold gate)) m x in
            subst P (sym (gold_node m less))
            (node_of_more (length gold) (length (joined gold gate)) m (node_at gold m) (omega arith) (of_gold m less)))
        | inr more ↦ (
            let k : ℕ = m - length gold in
            let here : length gold + k ≡ m = omega arith in
            let P : ℕ → Type 0 = λ j. IsNode (length (joined gold gate)) j (node_at (joined gold gate) j) in
            let Q : Node → Type 0 = λ x. IsNode (length (joined gold gate)) (length gold + k) x in
            subst P here (subst Q (sym (gate_node k))
            (node_of_more (length gold + length gate) (length (joined gold gate)) (length gold + k)
            (shifted (length gold) (node_at gate k)) (omega arith)
            (shifted_node (length gold) (length gate) k (node_at gate k) (of_gate k (omega arith))))))
      ]
