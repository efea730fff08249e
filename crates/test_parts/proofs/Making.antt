-- A table that is one makes a part.
use Rattle.std.proofs.Common.{◌≡◌, ℕ, ◌<◌, ◌^◌, List, [], ◌∷◌, length, map, sym, ap, ◌∙◌, subst, arith}
use Rattle.std.specs.Prelude.{All}
use Rattle.std.proofs.lemmas.List.{length-map}
use Rattle.std.proofs.lemmas.List.Elements.{All-cons, All-head, All-nil, All-tail}
use Rattle.eq_bits.specs.declared.node.Node.{Node}
use Rattle.eq_bits.specs.declared.node.Node.TheVariants.{Const, Input, Not, And, Xor, Mux, Buf, Reg}
use Rattle.eq_bits.specs.declared.part.Output.{Output}
use Rattle.eq_bits.specs.Node.{AllNameInputs, IsNode, NamesInput, node_at}
use Rattle.eq_bits.specs.Part.{MakePart, NamesNodes}
use Rattle.test_parts.specs.declared.table.Sides.{Sides}
use Rattle.test_parts.specs.Table.{IsRow, IsSides, IsTable, sides_of}

row_is_node : (n inputs m : ℕ) (node : Node) → IsRow n inputs m node → IsNode n m node
row_is_node n inputs m (Const b) is = tt
row_is_node n inputs m (Input i) is = tt
row_is_node n inputs m (Not a) is = is
row_is_node n inputs m (And a b) is = is
row_is_node n inputs m (Xor a b) is = is
row_is_node n inputs m (Mux s a b) is = is
row_is_node n inputs m (Buf a) is = is
row_is_node n inputs m (Reg next init) is = is

row_names_input : (n inputs m : ℕ) (node : Node) → IsRow n inputs m node → NamesInput inputs node
row_names_input n inputs m (Const b) is = tt
row_names_input n inputs m (Input i) is = is.1
row_names_input n inputs m (Not a) is = tt
row_names_input n inputs m (And a b) is = tt
row_names_input n inputs m (Xor a b) is = tt
row_names_input n inputs m (Mux s a b) is = tt
row_names_input n inputs m (Buf a) is = tt
row_names_input n inputs m (Reg next init) is = tt

own_number : (n inputs m i : ℕ) (node : Node) → IsRow n inputs m node → node ≡ Input i → i ≡ m
own_number n inputs m i node is e = (subst (IsRow n inputs m) e is).0

sides_there : (n : ℕ) (outputs : List Output) → All (IsSides n) (map sides_of outputs) → All (NamesNodes n) outputs
sides_there n [] all = All-nil (NamesNodes n)
sides_there n (o ∷ os) all =
    All-cons (NamesNodes n) o os (All-head (IsSides n) (sides_of o) (map sides_of os) all)
    (sides_there n os (All-tail (IsSides n) (sides_of o) (map sides_of os) all))

pub makes : (inputs : List (List ℕ)) (nodes : List Node) (outputs : List Output) (count : ℕ)
    (given : List Node) (rows : List Sides) → count < 2 ^ 32 → length inputs ≡ count → nodes ≡ given →
    map sides_of outputs ≡ rows → IsTable count given rows → MakePart inputs nodes outputs
makes inputs nodes outputs count given rows few same copied sides given_is =
    let is : IsTable count nodes rows = subst (λ ns. IsTable count ns rows) (sym copied) given_is in
    let outputs_few : length outputs < 2 ^ 32 = (let e = length-map outputs sides_of in let f = ap length sides in let g = is.few_outputs in omega arith) in
    record {
      few_inputs = omega arith;
      few_nodes = is.few_nodes;
      few_outputs = outputs_few;
      operands = λ m lt. row_is_node (length nodes) count m (node_at nodes m) (is.rows m lt);
      inputs_there = subst (λ k. AllNameInputs k nodes) (sym same) (λ m lt. row_names_input (length nodes) count m (node_at nodes m) (is.rows m lt));
      one_node = λ a b i a_there b_there a_is b_is.
          sym (own_number (length nodes) count a i (node_at nodes a) (is.rows a a_there) a_is)
          ∙ own_number (length nodes) count b i (node_at nodes b) (is.rows b b_there) b_is;
      outputs_there = sides_there (length nodes) outputs (subst (All (IsSides (length nodes))) (sym sides) is.sides);
    }
