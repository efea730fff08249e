-- A list of nodes is a system without a loop, and a part is one of the model: operands stand before the node that reads
-- them, so a node's number is a rank.
use Rattle.std.proofs.Common.{◌≡◌, ℕ, zero, suc, ◌<◌, List, [], ◌∷◌, not, slice_index_or, length, Contains, refl, arith, sym, ap, subst, ◌∙◌}
use Rattle.std.proofs.lemmas.List.Elements.{All-get_or}
use Rattle.eq_model.specs.System.{IsDriver, IsSystem, IsInput, Reads, reads_now}
use Rattle.eq_model.specs.Part.{IsPart}
use Rattle.eq_bits.specs.declared.node.Node.{Node}
use Rattle.eq_bits.specs.declared.node.Node.TheVariants.{Const, Input, Not, And, Xor, Mux, Buf, Reg}
use Rattle.eq_bits.specs.declared.part.Part.{Part}
use Rattle.eq_bits.specs.Node.{driver_of, input_of, node_at, system_of, IsNode, AreNodes, NamesInput}
use Rattle.eq_bits.specs.Part.{NamesNodes}
use Rattle.eq_bits.specs.Replay.{meaning}

-- what holds of the elements of a short list

none : (b : ℕ) → Contains {X = ℕ} [] b → ⊥
none b c = (let lt : c.0 < 0 = c.1 in omega arith)

one_of : (P : ℕ → Type 0) (x b : ℕ) → Contains (x ∷ []) b → P x → P b
one_of P x b c px = go c.0 c.1 c.2
  where
    go : (k : ℕ) → k < length (x ∷ []) → slice_index_or (x ∷ []) k b ≡ b → P b
    go zero lt e = subst P e px
    go (suc k) lt e = absurd (omega arith)

two_of : (P : ℕ → Type 0) (x y b : ℕ) → Contains (x ∷ y ∷ []) b → P x → P y → P b
two_of P x y b c px py = go c.0 c.1 c.2
  where
    go : (k : ℕ) → k < length (x ∷ y ∷ []) → slice_index_or (x ∷ y ∷ []) k b ≡ b → P b
    go zero lt e = subst P e px
    go (suc zero) lt e = subst P e py
    go (suc (suc k)) lt e = absurd (omega arith)

three_of : (P : ℕ → Type 0) (x y z b : ℕ) → Contains (x ∷ y ∷ z ∷ []) b → P x → P y → P z → P b
three_of P x y z b c px py pz = go c.0 c.1 c.2
  where
    go : (k : ℕ) → k < length (x ∷ y ∷ z ∷ []) → slice_index_or (x ∷ y ∷ z ∷ []) k b ≡ b → P b
    go zero lt e = subst P e px
    go (suc zero) lt e = subst P e py
    go (suc (suc zero)) lt e = subst P e pz
    go (suc (suc (suc k))) lt e = absurd (omega arith)

head_in : (x : ℕ) (xs : List ℕ) → Contains (x ∷ xs) x
head_in x xs = (0, omega arith, refl)

tail_in : (y : ℕ) (xs : List ℕ) (x : ℕ) → Contains xs x → Contains (y ∷ xs) x
tail_in y xs x c = (suc c.0, omega arith, c.2)

-- a node's driver is one over the nodes
node_is : (n m : ℕ) → m < n → (node : Node) → IsNode n m node → IsDriver n (driver_of node)
node_is n m lt (Const b) is = record { bounded = λ r c. absurd (none r c); respects = λ v w e. refl }
node_is n m lt (Input i) is = tt
node_is n m lt (Not a) is = record
    { bounded = λ r c. one_of (λ x. x < n) a r c (omega arith); respects = λ v w e. ap not (e a (head_in a [])) }
node_is n m lt (And a b) is = record {
  bounded = λ r c. two_of (λ x. x < n) a b r c (omega arith) (omega arith);
  respects = λ v w e. (let p = e a (head_in a (b ∷ [])) in let q = e b (tail_in a (b ∷ []) b (head_in b [])) in rw
      (p, q) refl);
}
node_is n m lt (Xor a b) is = record {
  bounded = λ r c. two_of (λ x. x < n) a b r c (omega arith) (omega arith);
  respects = λ v w e. (let p = e a (head_in a (b ∷ [])) in let q = e b (tail_in a (b ∷ []) b (head_in b [])) in rw
      (p, q) refl);
}
node_is n m lt (Mux s a b) is = record {
  bounded = λ r c. three_of (λ x. x < n) s a b r c (omega arith) (omega arith) (omega arith);
  respects = λ v w e.
      (let o = e s (head_in s (a ∷ b ∷ [])) in
      let p = e a (tail_in s (a ∷ b ∷ []) a (head_in a (b ∷ []))) in
      let q = e b (tail_in s (a ∷ b ∷ []) b (tail_in a (b ∷ []) b (head_in b []))) in
      rw (o, p, q) refl);
}
node_is n m lt (Buf a) is = record
    { bounded = λ r c. one_of (λ x. x < n) a r c (omega arith); respects = λ v w e. e a (head_in a []) }
node_is n m lt (Reg next init) is = record
    { bounded = λ r c. one_of (λ x. x < n) next r c is; respects = λ v w e. e next (head_in next []) }

-- within a cycle a node reads nodes before it
node_down : (n m : ℕ) (node : Node) → IsNode n m node → (r : ℕ) → Contains (reads_now (driver_of node)) r → r < m
node_down n m (Const b) is r c = absurd (none r c)
node_down n m (Input i) is r c = absurd (none r c)
node_down n m (Not a) is r c = one_of (λ x. x < m) a r c is
node_down n m (And a b) is r c = two_of (λ x. x < m) a b r c is.0 is.1
node_down n m (Xor a b) is r c = two_of (λ x. x < m) a b r c is.0 is.1
node_down n m (Mux s a b) is r c = three_of (λ x. x < m) s a b r c is.0 is.1 is.2
node_down n m (Buf a) is r c = one_of (λ x. x < m) a r c is
node_down n m (Reg next init) is r c = absurd (none r c)

pub system : (nodes : List Node) → AreNodes nodes → IsSystem (system_of nodes)
system nodes are m lt = node_is (length nodes) m lt (node_at nodes m) (are m lt)

pub down : (nodes : List Node) → AreNodes nodes → (a b : ℕ) → a < length nodes → Reads (system_of nodes) a b → b < a
down nodes are a b lt c = node_down (length nodes) a (node_at nodes a) (are a lt) b c

-- an Input node names an input
named : (n : ℕ) (node : Node) → NamesInput n node → IsInput (driver_of node) → input_of node < n
named n (Const b) names input = absurd input
named n (Input i) names input = names
named n (Not a) names input = absurd input
named n (And a b) names input = absurd input
named n (Xor a b) names input = absurd input
named n (Mux s a b) names input = absurd input
named n (Buf a) names input = absurd input
named n (Reg next init) names input = absurd input

-- and is the Input node of that number
input_is : (node : Node) → IsInput (driver_of node) → node ≡ Input (input_of node)
input_is (Const b) input = absurd input
input_is (Input i) input = refl
input_is (Not a) input = absurd input
input_is (And a b) input = absurd input
input_is (Xor a b) input = absurd input
input_is (Mux s a b) input = absurd input
input_is (Buf a) input = absurd input
input_is (Reg next init) input = absurd input

pub a_part : (part : Part) → IsPart (meaning part)
a_part part =
    let is = part.is_part in
    let node = λ (m : ℕ). node_at part.nodes m in
    record {
      drivers = system part.nodes is.operands;
      ordered = down part.nodes is.operands;
      numbers = λ b lt input. named (length part.inputs) (node b) (is.inputs_there b lt) input;
      one_node = λ a b la lb a_input b_input same.
          is.one_node a b (input_of (node a)) la lb (input_is (node a) a_input) (input_is (node b) b_input
          ∙ ap Input (sym same));
      gold_nodes = λ o lt. (All-get_or (NamesNodes (length part.nodes)) part.outputs o
          (record { name = []; gold = 0; gate = 0 }) lt is.outputs_there).0;
      gate_nodes = λ o lt. (All-get_or (NamesNodes (length part.nodes)) part.outputs o
          (record { name = []; gold = 0; gate = 0 }) lt is.outputs_there).1;
    }
