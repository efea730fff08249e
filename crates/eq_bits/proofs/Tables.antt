-- The table of gates beside a list of nodes, when the list grows or a register gets its next node.
use Rattle.std.proofs.Common.{◌≡◌, ℕ, ◌<◌, ◌+◌, ◌-◌, ◌^◌, List, [], ◌∷◌, ◌++◌, Bool, true, false, cond, set, slice_get, length, Some, None, arith, sym, ap, subst, ◌∙◌, ◌⊎◌, inl, inr}
use Rattle.std.proofs.Math.ListN.{length-set}
use Rattle.std.proofs.lemmas.Bool.{cases_Bool, cond-true, cond-false}
use Rattle.std.proofs.lemmas.List.{get_or_default}
use Rattle.std.proofs.lemmas.Option.{none-some, same_Some, slice_get-get_or}
use Rattle.std.specs.HashMap.{get, IsUnchanged}
use Rattle.std.specs.Map.{lookup}
use Rattle.eq_bits.specs.contracts.node.NodeEq.TheImpl.Laws as laws
use Rattle.eq_bits.specs.declared.node.Node.{Node}
use Rattle.eq_bits.specs.declared.node.Node.TheVariants.{Const, Reg}
use Rattle.eq_bits.specs.Node.{node_at, is_register, IsNode}
use Rattle.eq_bits.specs.Shared.{HasSmallerFirst, IsKnown, Shared, is_gate, normal_form}
use Rattle.eq_bits.specs.inner.Building.{IsBuilt, IsTable, Numbers, equal}
use Rattle.eq_bits.proofs.Growing.{each_pushed, each_set, is_node_of_more, new_is, old_stays, length_pushed, alone_is_normal, gate_stays, other_stays, register_there, a_register}

-- nodes that `==` calls equal are equal, and each is to itself
exact : (x y : Node) → equal x y ≡ true → x ≡ y
exact x y same = grind arith

itself : (x : Node) → equal x x ≡ true
itself x = laws.laws-law.refl x

-- a table is read by its look-ups alone
pub same_table : (nodes : List Node) (m n : Numbers) → IsUnchanged m n → IsTable nodes m → IsTable nodes n
same_table nodes m n same is =
    let found : (x : Node) → get equal n x ≡ get equal m x = λ x. ap (lookup (equal x)) same in
    record {
      known = λ k lt gate. found (node_at nodes k) ∙ is.known k lt gate;
      there = λ x k e. is.there x k (sym (found x) ∙ e);
      named = λ x k e. is.named x k (sym (found x) ∙ e);
      gates = λ x k e. is.gates x k (sym (found x) ∙ e);
    }

-- a node that stands for itself alone comes to the end
pub with_alone : (nodes : List Node) (numbers : Numbers) (node : Node) → IsBuilt nodes numbers →
    length nodes < 2 ^ 32 - 1 → is_gate node ≡ false →
    IsNode (length nodes + 1) (length nodes) node → IsBuilt (nodes ++ node ∷ []) numbers
with_alone nodes numbers node is room alone operands =
    let size = length_pushed nodes node in
    let k = length (nodes ++ node ∷ []) in
    record {
      few = omega arith;
      operands = each_pushed nodes node (λ m x. IsNode k m x)
          (λ m lt. is_node_of_more (length nodes) k m (node_at nodes m) (omega arith) (is.operands m lt))
          (is_node_of_more (length nodes + 1) k (length nodes) node (omega arith) operands);
      smaller_first = each_pushed nodes node (λ m x. HasSmallerFirst x) is.smaller_first (alone_is_normal node alone);
      table = record {
        known = each_pushed nodes node (λ m x. is_gate x ≡ true →
            get equal numbers x ≡ Some m) is.table.known (λ gate. absurd (cc));
        there = λ x m e. (let lt = is.table.there x m e in omega arith);
        named = λ x m e. old_stays nodes node m (is.table.there x m e) ∙ is.table.named x m e;
        gates = is.table.gates;
      };
    }

-- a gate that isn't there comes to the end, and into the table
module _ (nodes : List Node) (old new : Numbers) (node : Node) (is : IsBuilt nodes old)
    (room : length nodes < 2 ^ 32 - 1) (gate : is_gate node ≡ true)
    (operands : IsNode (length nodes) (length nodes) node) (normal : HasSmallerFirst node)
    (absent : get equal old node ≡ None)
    (put : (x : Node) → get equal new x ≡ cond (equal node x) (Some (length nodes)) (get equal old x)) where
  -- what the table has is what it had or the new gate
  had_or_new : (x : Node) (m : ℕ) → get equal new x ≡ Some m →
      (get equal old x ≡ Some m) ⊎ ((node ≡ x) × (length nodes ≡ m))
  had_or_new x m e =
      elim (cases_Bool (equal node x)) [
        | inl same ↦ inr (
          exact node x same,
          same_Some (length nodes) m
              (sym (cond-true (equal node x) (Some (length nodes)) (get equal old x) same) ∙ sym (put x) ∙ e),
        )
        | inr other ↦ inl (sym (cond-false (equal node x) (Some (length nodes)) (get equal old x) other)
            ∙ sym (put x) ∙ e)
      ]

  still_has : (x : Node) (m : ℕ) → get equal old x ≡ Some m → get equal new x ≡ Some m
  still_has x m e =
      elim (cases_Bool (equal node x)) [
        | inl same ↦ (
            let P : Node → Type 0 = λ y. get equal old y ≡ None in
            absurd (none-some m (sym (subst P (exact node x same) absent) ∙ e)))
        | inr other ↦ put x ∙ cond-false (equal node x) (Some (length nodes)) (get equal old x) other ∙ e
      ]

  new_named : (x : Node) (m : ℕ) → (get equal old x ≡ Some m) ⊎ ((node ≡ x) × (length nodes ≡ m)) →
      node_at (nodes ++ node ∷ []) m ≡ x
  new_named x m (inl had) = old_stays nodes node m (is.table.there x m had) ∙ is.table.named x m had
  new_named x m (inr (same, here)) =
      let P : ℕ → Type 0 = λ k. node_at (nodes ++ node ∷ []) k ≡ x in
      subst P here (new_is nodes node ∙ same)

  new_there : (x : Node) (m : ℕ) → (get equal old x ≡ Some m) ⊎ ((node ≡ x) × (length nodes ≡ m)) →
      m < length (nodes ++ node ∷ [])
  new_there x m (inl had) = (let lt = is.table.there x m had in let size = length_pushed nodes node in omega arith)
  new_there x m (inr (same, here)) = (let size = length_pushed nodes node in omega arith)

  new_gates : (x : Node) (m : ℕ) → (get equal old x ≡ Some m) ⊎ ((node ≡ x) × (length nodes ≡ m)) → is_gate x ≡ true
  new_gates x m (inl had) = is.table.gates x m had
  new_gates x m (inr (same, here)) = sym (ap is_gate same) ∙ gate

  pub with_gate : IsBuilt (nodes ++ node ∷ []) new
  with_gate =
      let size = length_pushed nodes node in
      let k = length (nodes ++ node ∷ []) in
      record {
        few = omega arith;
        operands = each_pushed nodes node (λ m x. IsNode k m x)
            (λ m lt. is_node_of_more (length nodes) k m (node_at nodes m) (omega arith) (is.operands m lt))
            (is_node_of_more (length nodes) k (length nodes) node (omega arith) operands);
        smaller_first = each_pushed nodes node (λ m x. HasSmallerFirst x) is.smaller_first normal;
        table = record {
          known = each_pushed nodes node (λ m x. is_gate x ≡ true → get equal new x ≡ Some m)
              (λ m lt is_one. still_has (node_at nodes m) m (is.table.known m lt is_one))
              (λ is_one. put node ∙ cond-true (equal node node) (Some (length nodes)) (get equal old node)
              (itself node));
          there = λ x m e. new_there x m (had_or_new x m e);
          named = λ x m e. new_named x m (had_or_new x m e);
          gates = λ x m e. new_gates x m (had_or_new x m e);
        };
      }

-- a register gets its next node
pub with_register : (nodes : List Node) (numbers : Numbers) (r next : ℕ) (init : Bool) → IsBuilt nodes numbers →
    is_register (node_at nodes r) ≡ true →
    next < length nodes → IsBuilt (set nodes r (Reg next init)) numbers
with_register nodes numbers r next init is register lt =
    let there = register_there nodes r register in
    let reg = Reg next init in
    let size = length-set nodes r reg in
    let k = length (set nodes r reg) in
    record {
      few = omega arith;
      operands = each_set nodes r there reg (λ m x. IsNode k m x)
          (λ m less. is_node_of_more (length nodes) k m (node_at nodes m) (omega arith) (is.operands m less))
          (omega arith);
      smaller_first = each_set nodes r there reg (λ m x. HasSmallerFirst x) is.smaller_first tt;
      table = record {
        known = each_set nodes r there reg (λ m x. is_gate x ≡ true →
            get equal numbers x ≡ Some m) is.table.known (λ gate. absurd (cc));
        there = λ x m e. (let less = is.table.there x m e in omega arith);
        named = λ x m e. other_stays nodes r there reg m (apart x m e) ∙ is.table.named x m e;
        gates = is.table.gates;
      };
    }
  where
    apart : (x : Node) (m : ℕ) → get equal numbers x ≡ Some m → m ≡ r → ⊥
    apart x m e same =
        let gate : is_gate (node_at nodes m) ≡ true = ap is_gate (is.table.named x m e) ∙ is.table.gates x m e in
        let P : ℕ → Type 0 = λ k. is_register (node_at nodes k) ≡ true in
        let none = a_register (node_at nodes m) (subst P (sym same) register) in
        cc

-- what a builder keeps makes the list shared
pub shared : (nodes : List Node) (numbers : Numbers) → IsBuilt nodes numbers → Shared nodes
shared nodes numbers is = record {
  apart = λ a b la lb gate same. same_Some a b (
      sym (is.table.known a la gate)
      ∙ ap (λ (x : Node). get equal numbers x) same
      ∙ is.table.known b lb (sym (ap is_gate same) ∙ gate));
  smaller_first = is.smaller_first;
}

-- the table finds just what is known

pub found_is_known : (nodes : List Node) (numbers : Numbers) (node : Node) (m : ℕ) → IsBuilt nodes numbers →
    get equal numbers (normal_form node) ≡ Some m → IsKnown nodes node
found_is_known nodes numbers node m is e =
    let there = is.table.there (normal_form node) m e in (
      sym (gate_stays node) ∙ is.table.gates (normal_form node) m e,
      (m, there, get_or_default nodes m (normal_form node) (Const false) there ∙ is.table.named (normal_form node) m e),
    )

pub found_is_there : (nodes : List Node) (numbers : Numbers) (node : Node) (m : ℕ) → IsBuilt nodes numbers →
    get equal numbers node ≡ Some m → slice_get nodes m ≡ Some node
found_is_there nodes numbers node m is e = slice_get-get_or nodes m (Const false) (is.table.there node m e)
    ∙ ap Some (is.table.named node m e)
