-- Lists of nodes that grow by one node, or in which one node changes: what holds of each node of the new list.
use Rattle.std.proofs.Common.{◌≡◌, ℕ, zero, suc, ◌<◌, ◌≤◌, ◌+◌, List, [], ◌∷◌, ◌++◌, true, false, slice_get, set, length, Some, Result, Ok, Err, IfOk, OnOk, refl, arith, sym, ap, subst, ◌∙◌, ◌⊎◌, inl, inr, get_or-set_other, get_or-set_same, length-append}
use Rattle.std.proofs.Math.ListN.{get_or-append, length-set}
use Rattle.std.proofs.Math.Seq.{get_or-append_seam}
use Rattle.std.proofs.lemmas.Bool.{cases_lt}
use Rattle.std.proofs.lemmas.Option.{slice_get-get_or}
use Rattle.eq_bits.specs.declared.node.Node.{Node}
use Rattle.eq_bits.specs.declared.node.Node.TheVariants.{Const, Input, Not, And, Xor, Mux, Buf, Reg}
use Rattle.eq_bits.specs.Node.{node_at, is_register, IsNode}
use Rattle.eq_bits.specs.Shared.{is_gate, normal_form, HasSmallerFirst}

-- a node of n is one of more nodes too
pub is_node_of_more : (n k m : ℕ) (node : Node) → n ≤ k → IsNode n m node → IsNode k m node
is_node_of_more n k m (Const b) le is = tt
is_node_of_more n k m (Input i) le is = tt
is_node_of_more n k m (Not a) le is = is
is_node_of_more n k m (And a b) le is = is
is_node_of_more n k m (Xor a b) le is = is
is_node_of_more n k m (Mux s a b) le is = is
is_node_of_more n k m (Buf a) le is = is
is_node_of_more n k m (Reg next init) le is = omega arith

module _ (nodes : List Node) (node : Node) where
  pub length_pushed : length (nodes ++ node ∷ []) ≡ length nodes + 1
  length_pushed = omega (arith, length-append nodes (node ∷ []))

  pub old_stays : (m : ℕ) → m < length nodes → node_at (nodes ++ node ∷ []) m ≡ node_at nodes m
  old_stays m lt = get_or-append nodes (node ∷ []) (Const false) m lt

  pub new_is : node_at (nodes ++ node ∷ []) (length nodes) ≡ node
  new_is = get_or-append_seam nodes node [] (Const false)

  pub pushed_get : slice_get (nodes ++ node ∷ []) (length nodes) ≡ Some node
  pushed_get =
      slice_get-get_or (nodes ++ node ∷ []) (length nodes) (Const false) (let e = length_pushed in omega arith)
      ∙ ap Some new_is

  -- what holds of each old node and of the new one holds of all
  pub each_pushed : (P : ℕ → Node → Type 0) → ((m : ℕ) → m < length nodes → P m (node_at nodes m)) →
      P (length nodes) node →
      (m : ℕ) → m < length (nodes ++ node ∷ []) → P m (node_at (nodes ++ node ∷ []) m)
  each_pushed P old new m lt =
      elim (cases_lt m (length nodes)) [
        | inl less ↦ subst (P m) (sym (old_stays m less)) (old m less)
        | inr more ↦ (
            let same : length nodes ≡ m = (let e = length_pushed in omega arith) in
            let Q : ℕ → Type 0 = λ k. P k (node_at (nodes ++ node ∷ []) k) in
            subst Q same (subst (P (length nodes)) (sym new_is) new))
      ]

same_or_not : (a b : ℕ) → (a ≡ b) ⊎ (a ≡ b → ⊥)
same_or_not a b =
    elim (cases_lt a b) [
      | inl less ↦ inr (λ e. omega arith)
      | inr more ↦ (elim (cases_lt b a) [
        | inl greater ↦ inr (λ e. omega arith)
        | inr not_greater ↦ inl (omega arith)
      ])
    ]

module _ (nodes : List Node) (r : ℕ) (there : r < length nodes) (node : Node) where
  pub set_is : node_at (set nodes r node) r ≡ node
  set_is = get_or-set_same nodes r node (Const false) there

  pub other_stays : (m : ℕ) → (m ≡ r → ⊥) → node_at (set nodes r node) m ≡ node_at nodes m
  other_stays m other = get_or-set_other nodes r m node (Const false) (omega arith)

  -- what holds of each old node and of the one that was put in holds of all
  pub each_set : (P : ℕ → Node → Type 0) → ((m : ℕ) → m < length nodes → P m (node_at nodes m)) → P r node →
      (m : ℕ) → m < length (set nodes r node) → P m (node_at (set nodes r node) m)
  each_set P old new m lt =
      elim (same_or_not m r) [
        | inl same ↦ (
            let Q : ℕ → Type 0 = λ k. P k (node_at (set nodes r node) k) in
            subst Q (sym same) (subst (P r) (sym set_is) new))
        | inr other ↦ subst (P m) (sym (other_stays m other)) (old m (omega (arith, length-set {A = Node})))
      ]

-- a register is there
pub register_there : (nodes : List Node) (r : ℕ) → is_register (node_at nodes r) ≡ true → r < length nodes
register_there [] r is = absurd (cc)
register_there (n ∷ ns) zero is = omega arith
register_there (n ∷ ns) (suc r) is = (let lt = register_there ns r is in omega arith)

-- where a node comes to the end, it has the number of the nodes before it
pub pushed_ok : {E : Type 0} (r : Result ℕ E) (nodes new : List Node) (node wanted : Node) →
    IfOk r (λ m. m ≡ length nodes) →
    OnOk r (new ≡ nodes ++ node ∷ []) → node ≡ wanted → IfOk r (λ m. slice_get new m ≡ Some wanted)
pushed_ok (Ok m) nodes new node wanted here pushed same =
    let P : ℕ → Type 0 = λ k. slice_get (nodes ++ node ∷ []) k ≡ Some node in
    ap (λ (ns : List Node). slice_get ns m) pushed ∙ subst P (sym here) (pushed_get nodes node) ∙ ap Some same
pushed_ok (Err e) nodes new node wanted here pushed same = tt

-- Normal forms

pub gate_stays : (node : Node) → is_gate (normal_form node) ≡ is_gate node
gate_stays (Const b) = refl
gate_stays (Input i) = refl
gate_stays (Not a) = refl
gate_stays (And a b) = refl
gate_stays (Xor a b) = refl
gate_stays (Mux s a b) = refl
gate_stays (Buf a) = refl
gate_stays (Reg next init) = refl

-- what is no gate has no two operands in any order
pub alone_is_normal : (node : Node) → is_gate node ≡ false → HasSmallerFirst node
alone_is_normal (Const b) alone = tt
alone_is_normal (Input i) alone = tt
alone_is_normal (Not a) alone = tt
alone_is_normal (And a b) alone = absurd (cc)
alone_is_normal (Xor a b) alone = absurd (cc)
alone_is_normal (Mux s a b) alone = tt
alone_is_normal (Buf a) alone = tt
alone_is_normal (Reg next init) alone = tt

pub a_register : (node : Node) → is_register node ≡ true → is_gate node ≡ false
a_register (Const b) is = absurd (cc)
a_register (Input i) is = absurd (cc)
a_register (Not a) is = absurd (cc)
a_register (And a b) is = absurd (cc)
a_register (Xor a b) is = absurd (cc)
a_register (Mux s a b) is = absurd (cc)
a_register (Buf a) is = absurd (cc)
a_register (Reg next init) is = refl
