-- A register's copy gets its next node, and all other nodes stay.
use Rattle.std.proofs.Common.{◌≡◌, ℕ, ◌<◌, ◌≤◌, ◌+◌, List, Bool, true, false, Option, Some, None, set, length, refl, arith, sym, ap, subst, ◌∙◌, inl, inr, get_or-set_other, get_or-set_same}
use Rattle.std.proofs.Math.ListN.{length-set}
use Rattle.std.proofs.lemmas.Bool.{cases_lt}
use Rattle.std.proofs.lemmas.Bool.Decides.{eqb_tells}
use Rattle.eq_model.specs.System.{IsInput}
use Rattle.eq_bits.specs.declared.node.Node.{Node}
use Rattle.eq_bits.specs.declared.node.Node.TheVariants.{Const, Input, Not, And, Xor, Mux, Buf, Reg}
use Rattle.eq_bits.specs.Node.{driver_of, is_register, node_at}
use Rattle.eq_bits.specs.Shared.{normal_form, with_next}
use Rattle.eq_cone.specs.inner.Cones.{AreAscending, number_at}
use Rattle.eq_cone.specs.inner.Copying.{AreFront, HaveNexts, IsCopied, IsCopyOf, HasNext, IsMade, IsSignedInput, new_of, number_or_zero, renamed}
use Rattle.eq_cone.proofs.Made.{copy_kind}

-- a copy of what is no register is one whatever the registers' next nodes
plain : (f : ℕ → ℕ) (node new : Node) → ((next : ℕ) (init : Bool) → node ≡ Reg next init → ⊥) → IsCopyOf f node new →
    new ≡ normal_form (renamed f node)
plain f (Const b) new other copy = copy.1
plain f (Input i) new other copy = copy.1
plain f (Not a) new other copy = copy.1
plain f (And a b) new other copy = copy.1
plain f (Xor a b) new other copy = copy.1
plain f (Mux s a b) new other copy = copy.1
plain f (Buf a) new other copy = copy.1
plain f (Reg next init) new other copy = absurd (other next init refl)

module _ (nodes : List Node) (cut place : ℕ → Option ℕ) (new : List Node) (cone : List ℕ) (n : ℕ)
    (before : HaveNexts nodes cut place new cone n) where
  -- one node more is linked
  pub linked_one : HasNext nodes cut place new (number_at cone n) → HaveNexts nodes cut place new cone (n + 1)
  linked_one one j lt =
      elim (cases_lt j n) [
        | inl less ↦ before j less
        | inr more ↦ (
            let here : n ≡ j = omega arith in
            let P : ℕ → Type 0 = λ k. HasNext nodes cut place new (number_at cone k) in
            subst P here one)
      ]

  pub linked_cut : (m i : ℕ) → m ≡ number_at cone n → cut m ≡ Some i → HaveNexts nodes cut place new cone (n + 1)
  linked_cut m i this c =
      let P : ℕ → Type 0 = λ k. HasNext nodes cut place new k in
      linked_one (subst P this (λ none. (let f : None ≡ Some i = sym none ∙ c in absurd (cc))))

  pub linked_plain : (negated : ℕ → ℕ → Bool) (inputs : List ℕ) (m : ℕ) → IsCopied nodes cut negated inputs place new →
      m ≡ number_at cone n → IsMade place m → ((next : ℕ) (init : Bool) → node_at nodes m ≡ Reg next init → ⊥) →
      HaveNexts nodes cut place new cone (n + 1)
  linked_plain negated inputs m is this made other =
      let P : ℕ → Type 0 = λ k. HasNext nodes cut place new k in
      linked_one (subst P this (λ none.
      ap (node_at new) (ap number_or_zero made.1)
      ∙ plain (new_of place) (node_at nodes m) (node_at new made.0) other (is.copies m made.0 made.1 none)))

module _ (nodes : List Node) (cut : ℕ → Option ℕ) (negated : ℕ → ℕ → Bool) (inputs : List ℕ) (place : ℕ → Option ℕ)
    (new : List Node) (is : IsCopied nodes cut negated inputs place new) (m next : ℕ) (init : Bool)
    (reg : node_at nodes m ≡ Reg next init) (none : cut m ≡ None) (made : IsMade place m) where
  r : ℕ
  r = new_of place m

  at_r : new_of place m ≡ made.0
  at_r = ap number_or_zero made.1

  kind_m : is_register (node_at nodes m) ≡ true
  kind_m = ap is_register reg

  pub is_one : is_register (node_at new (new_of place m)) ≡ true
  is_one = ap (λ (k : ℕ). is_register (node_at new k)) at_r
      ∙ copy_kind (new_of place) (node_at nodes m) (node_at new made.0) (is.copies m made.0 made.1 none) ∙ kind_m

  there : new_of place m < length new
  there = (let e = at_r in let f = is.there m made.0 made.1 in omega arith)

  a_copy : IsCopyOf (new_of place) (Reg next init) (node_at new (new_of place m))
  a_copy =
      let P : Node → Type 0 = λ x. IsCopyOf (new_of place) x (node_at new made.0) in
      let Q : ℕ → Type 0 = λ k. IsCopyOf (new_of place) (Reg next init) (node_at new k) in
      subst Q (sym at_r) (subst P reg (is.copies m made.0 made.1 none))

  linked_reg : Node
  linked_reg = with_next (node_at new (new_of place m)) (new_of place next)

  now : List Node
  now = set new (new_of place m) linked_reg

  is_reg : linked_reg ≡ Reg (new_of place next) init
  unfolding linked_reg
  is_reg = ap (λ (x : Node). with_next x (new_of place next)) a_copy.1

  here : node_at now (new_of place m) ≡ Reg (new_of place next) init
  unfolding now
  here = get_or-set_same new (new_of place m) linked_reg (Const false) there ∙ is_reg

  other : (k : ℕ) → (k ≡ new_of place m → ⊥) → node_at now k ≡ node_at new k
  unfolding now
  other k apart = get_or-set_other new (new_of place m) k linked_reg (Const false) apart

  size : length now ≡ length new
  unfolding now
  size = length-set new (new_of place m) linked_reg

  -- another node stands elsewhere, where the node there is no register
  elsewhere : (k : ℕ) → is_register (node_at new k) ≡ false → k ≡ new_of place m → ⊥
  elsewhere k kind same =
      let P : ℕ → Type 0 = λ x. is_register (node_at new x) ≡ false in
      let f : true ≡ false = sym is_one ∙ subst P same kind in absurd (cc)

  -- no other node has this new node
  alone : (a k : ℕ) → place a ≡ Some k → cut a ≡ None → k ≡ new_of place m → a ≡ m
  alone a k e c same =
      let P : ℕ → Type 0 = λ x. place a ≡ Some x in
      let here_a : place a ≡ Some made.0 = subst P (same ∙ at_r) e in
      sym (is.apart m a made.0 made.1 here_a none c kind_m)

  signed_now : (b : Bool) (j k : ℕ) → j < length inputs → IsSignedInput new b j k → IsSignedInput now b j k
  signed_now false j k lt signed = signed
  signed_now true j k lt signed = other k (elsewhere k (ap is_register signed)) ∙ signed

  no_others_now : (k : ℕ) → length inputs ≤ k → k < length new → ¬ IsInput (driver_of (node_at now k))
  no_others_now k more lt =
      elim (eqb_tells k (new_of place m)) [
        | inl same ↦ (λ input.
            let P : ℕ → Type 0 = λ x. IsInput (driver_of (node_at now x)) in
            let Q : Node → Type 0 = λ x. IsInput (driver_of x) in
            subst Q here (subst P same.1 input))
        | inr apart ↦ (
            let P : Node → Type 0 = λ x. ¬ IsInput (driver_of x) in
            subst P (sym (other k apart.1)) (is.no_others k more lt))
      ]

  copies_now : (a k : ℕ) → place a ≡ Some k → cut a ≡ None → IsCopyOf (new_of place) (node_at nodes a) (node_at now k)
  copies_now a k e c =
      elim (eqb_tells k (new_of place m)) [
        | inl same ↦ (
            let P : ℕ → Type 0 = λ x. IsCopyOf (new_of place) (node_at nodes x) (node_at now k) in
            let Q : Node → Type 0 = λ x. IsCopyOf (new_of place) x (node_at now k) in
            let R : ℕ → Type 0 = λ x. IsCopyOf (new_of place) (Reg next init) (node_at now x) in
            let one : IsCopyOf (new_of place) (Reg next init) (node_at now (new_of place m)) =
            (new_of place next, here) in
            subst P (sym (alone a k e c same.1)) (subst Q (sym reg) (subst R (sym same.1) one)))
        | inr apart ↦ (
            let P : Node → Type 0 = λ x. IsCopyOf (new_of place) (node_at nodes a) x in
            subst P (sym (other k apart.1)) (is.copies a k e c))
      ]

  pub copied_still : IsCopied nodes cut negated inputs place
      (set new (new_of place m) (with_next (node_at new (new_of place m)) (new_of place next)))
  unfolding now linked_reg
  copied_still =
      let n = size in
      record {
        input_nodes = record {
          there = (let e = is.input_nodes.there in omega arith);
          are = λ j lt. other j (elsewhere j (ap is_register (is.input_nodes.are j lt))) ∙ is.input_nodes.are j lt;
        };
        no_others = λ k more lt. no_others_now k more (omega arith);
        there = λ a k e. (let f = is.there a k e in omega arith);
        stops = λ a k i e c. (let t = is.stops a k i e c in
            (t.0, t.1, t.2, signed_now (negated a i) t.0 k t.1 t.3));
        copies = copies_now;
        ready = is.ready;
        apart = is.apart;
        only = λ k more lt. is.only k more (omega arith);
      }

  module _ (cone : List ℕ) (n : ℕ) (lt : n < length cone) (this : m ≡ number_at cone n)
      (ascending : AreAscending cone) (front : AreFront cone place (length cone))
      (before : HaveNexts nodes cut place new cone n) where
    earlier : HaveNexts nodes cut place now cone n
    earlier j less c =
        let made_j = front.made j (omega arith) in
        let at_j : new_of place (number_at cone j) ≡ made_j.0 = ap number_or_zero made_j.1 in
        other (new_of place (number_at cone j)) (λ same. (
        let one = alone (number_at cone j) made_j.0 made_j.1 c (sym at_j ∙ same) in
        let f = ascending j n 0 less lt in omega arith))
        ∙ before j less c

    pub linked_register : HaveNexts nodes cut place
        (set new (new_of place m) (with_next (node_at new (new_of place m)) (new_of place next))) cone (n + 1)
    unfolding now linked_reg
    linked_register =
        let P : ℕ → Type 0 = λ k. HasNext nodes cut place now k in
        linked_one nodes cut place now cone n earlier (subst P this (λ c.
        here ∙ ap (λ (x : Node). normal_form (renamed (new_of place) x)) (sym reg)))
