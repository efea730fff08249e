-- A register gets its next node, and all other nodes stay.
use Rattle.std.proofs.Common.{◌≡◌, ℕ, ◌<◌, ◌+◌, List, Bool, true, false, Option, set, length, refl, arith, sym, ap, subst, ◌∙◌, inl, inr, get_or-set_other, get_or-set_same}
use Rattle.std.proofs.Math.ListN.{length-set}
use Rattle.std.proofs.lemmas.Bool.{cases_lt}
use Rattle.eq_bits.specs.declared.node.Node.{Node}
use Rattle.eq_bits.specs.declared.node.Node.TheVariants.{Const, Input, Not, And, Xor, Mux, Buf, Reg}
use Rattle.eq_bits.specs.Node.{IsNode, is_register, node_at}
use Rattle.eq_bits.specs.Shared.{is_gate, normal_form, with_next}
use Rattle.eq_blast.specs.inner.Sorting.{AreLinked, IsCopy, IsLinked, IsPlacing, IsWithin, is_made, new_of, renamed}
use Rattle.eq_blast.proofs.Passed.{all_made}
use Rattle.eq_blast.proofs.Placed.{same_or_not}

-- where all are made, each node of the plan is
pub every : (plan : List Node) (places : List (Option ℕ)) (nodes : List Node) → IsPlacing plan places nodes 0 →
    (m : ℕ) → m < length plan → is_made places m ≡ true
every plan places nodes is m lt = all_made places (sym is.still) m (let e = is.count in omega arith)

-- a copy of what is no register is one whatever the registers' next nodes
plain : (f : ℕ → ℕ) (node new : Node) → ((next : ℕ) (init : Bool) → node ≡ Reg next init → ⊥) → IsCopy f node new →
    new ≡ normal_form (renamed f node)
plain f (Const b) new other copy = copy.1
plain f (Input i) new other copy = copy.1
plain f (Not a) new other copy = copy.1
plain f (And a b) new other copy = copy.1
plain f (Xor a b) new other copy = copy.1
plain f (Mux s a b) new other copy = copy.1
plain f (Buf a) new other copy = copy.1
plain f (Reg next init) new other copy = absurd (other next init refl)

-- one node more is linked
pub linked_one : (plan : List Node) (places : List (Option ℕ)) (nodes : List Node) (m : ℕ) →
    AreLinked plan places nodes m → IsLinked plan places nodes m → AreLinked plan places nodes (m + 1)
linked_one plan places nodes m before one a lt =
    elim (cases_lt a m) [
      | inl less ↦ before a less
      | inr more ↦ (
          let here : m ≡ a = omega arith in
          let P : ℕ → Type 0 = λ k. IsLinked plan places nodes k in
          subst P here one)
    ]

pub linked_plain : (plan : List Node) (places : List (Option ℕ)) (nodes : List Node) (m : ℕ) →
    IsPlacing plan places nodes 0 → m < length plan → ((next : ℕ) (init : Bool) → node_at plan m ≡ Reg next init → ⊥) →
    AreLinked plan places nodes m → AreLinked plan places nodes (m + 1)
linked_plain plan places nodes m is lt other before = linked_one plan places nodes m before
    (plain (new_of places) (node_at plan m) (node_at nodes (new_of places m)) other
    (is.copies m (every plan places nodes is m lt)))

module _ (plan : List Node) (places : List (Option ℕ)) (nodes : List Node) (m next : ℕ) (init : Bool)
    (is : IsPlacing plan places nodes 0) (within : IsWithin plan) (lt : m < length plan)
    (reg : node_at plan m ≡ Reg next init) where
  r : ℕ
  r = new_of places m

  made_m : is_made places m ≡ true
  made_m = every plan places nodes is m lt

  a_copy : IsCopy (new_of places) (Reg next init) (node_at nodes (new_of places m))
  a_copy = (let P : Node → Type 0 = λ x. IsCopy (new_of places) x (node_at nodes (new_of places m)) in
      subst P reg (is.copies m made_m))

  pub is_one : is_register (node_at nodes (new_of places m)) ≡ true
  is_one = ap is_register a_copy.1

  pub next_there : new_of places next < length nodes
  next_there = (let P : Node → Type 0 = λ x. IsNode (length plan) (length plan) x in
      is.there next (every plan places nodes is next (subst P reg (within m lt))))

  no_gate : is_gate (node_at plan m) ≡ false
  no_gate = ap is_gate reg

  there : new_of places m < length nodes
  there = is.there m made_m

  linked_reg : Node
  linked_reg = with_next (node_at nodes (new_of places m)) (new_of places next)

  now : List Node
  now = set nodes (new_of places m) linked_reg

  is_reg : linked_reg ≡ Reg (new_of places next) init
  unfolding linked_reg
  is_reg = ap (λ (x : Node). with_next x (new_of places next)) a_copy.1

  here : node_at now (new_of places m) ≡ Reg (new_of places next) init
  unfolding now
  here = get_or-set_same nodes (new_of places m) linked_reg (Const false) there ∙ is_reg

  other : (k : ℕ) → (k ≡ new_of places m → ⊥) → node_at now k ≡ node_at nodes k
  unfolding now
  other k apart = get_or-set_other nodes (new_of places m) k linked_reg (Const false) apart

  -- only node m of the plan has this new node
  alone : (a : ℕ) → is_made places a ≡ true → new_of places a ≡ new_of places m → m ≡ a
  alone a made same = is.apart m a made_m made (sym same) no_gate

  stays : (a : ℕ) → is_made places a ≡ true → (a ≡ m → ⊥) →
      node_at now (new_of places a) ≡ node_at nodes (new_of places a)
  stays a made apart = other (new_of places a) (λ same. apart (sym (alone a made same)))

  copies_now : (a : ℕ) → is_made places a ≡ true →
      IsCopy (new_of places) (node_at plan a) (node_at now (new_of places a))
  copies_now a made =
      elim (same_or_not a m) [
        | inl same ↦ (
            let P : ℕ → Type 0 = λ k. IsCopy (new_of places) (node_at plan k) (node_at now (new_of places k)) in
            let Q : Node → Type 0 = λ x. IsCopy (new_of places) x (node_at now (new_of places m)) in
            let one : IsCopy (new_of places) (Reg next init) (node_at now (new_of places m)) =
            (new_of places next, here) in
            subst P (sym same) (subst Q (sym reg) one))
        | inr apart ↦ (
            let P : Node → Type 0 = λ x. IsCopy (new_of places) (node_at plan a) x in
            subst P (sym (stays a made apart)) (is.copies a made))
      ]

  only_now : (k : ℕ) → k < length nodes → is_gate (node_at now k) ≡ false →
      (a : ℕ) × (is_made places a ≡ true) × (new_of places a ≡ k)
  only_now k less gate =
      elim (same_or_not k (new_of places m)) [
        | inl same ↦ (m, made_m, sym same)
        | inr apart ↦ is.only k less (sym (ap is_gate (other k apart)) ∙ gate)
      ]

  pub placing_still : IsPlacing plan places
      (set nodes (new_of places m) (with_next (node_at nodes (new_of places m)) (new_of places next))) 0
  unfolding now linked_reg
  placing_still =
      let size = length-set nodes (new_of places m) linked_reg in
      record {
        count = is.count;
        still = is.still;
        room = (let e = is.room in omega arith);
        there = λ a made. (let e = is.there a made in omega arith);
        ready = is.ready;
        copies = copies_now;
        apart = is.apart;
        only = λ k less. only_now k (omega arith);
      }

  pub linked_register : AreLinked plan places nodes m → AreLinked plan places
      (set nodes (new_of places m) (with_next (node_at nodes (new_of places m)) (new_of places next))) (m + 1)
  unfolding now linked_reg
  linked_register before = linked_one plan places now m
      (λ a less. stays a (every plan places nodes is a (omega arith)) (λ same. omega arith) ∙ before a less)
      (here ∙ ap (λ (x : Node). normal_form (renamed (new_of places) x)) (sym reg))
