-- What a builder's answers say of the list: a copy is added, and the nodes before it stay.
use Rattle.std.proofs.Common.{◌≡◌, ℕ, zero, suc, ◌<◌, ◌+◌, List, [], ◌∷◌, ◌++◌, Bool, true, false, Result, Ok, Err, IfOk, OnOk, Some, slice_get, length, refl, arith, sym, subst, ◌∙◌, ◌⊎◌, inl, inr, length-append}
use Rattle.std.proofs.Math.ListN.{get_or-append}
use Rattle.std.proofs.Math.Seq.{get_or-append_seam}
use Rattle.std.proofs.lemmas.Option.{same_Some}
use Rattle.eq_bits.specs.declared.node.Node.{Node}
use Rattle.eq_bits.specs.declared.node.Node.TheVariants.{Const, Input, Not, And, Xor, Mux, Buf, Reg}
use Rattle.eq_bits.specs.Node.{node_at}
use Rattle.eq_bits.specs.Shared.{IsKnown, is_gate, normal_form}
use Rattle.eq_blast.specs.inner.Sorting.{IsAdded, IsCopy, IsCopyAdded, renamed}

module _ (old : List Node) (node : Node) where
  size : length (old ++ node ∷ []) ≡ length old + 1
  size = omega (arith, length-append old (node ∷ []))

  -- a node that comes to the end
  pub pushed : IsAdded old (old ++ node ∷ []) node (length old)
  pushed = record {
    there = (let e = size in omega arith);
    is = get_or-append_seam old node [] (Const false);
    old_stays = λ k lt. get_or-append old (node ∷ []) (Const false) k lt;
    no_less = (let e = size in omega arith);
    one_more = (let e = size in omega arith);
    last = λ k more less. (
        let P : ℕ → Type 0 = λ j. node_at (old ++ node ∷ []) j ≡ node in
        let here : length old ≡ k = (let e = size in omega arith) in
        subst P here (get_or-append_seam old node [] (Const false)));
    alone = λ gate. refl;
  }

-- a register that a builder appended
pub register_added : {E : Type 0} (f : ℕ → ℕ) (r : Result ℕ E) (old new : List Node) (node : Node) (next : ℕ)
    (init : Bool) →
    node ≡ Reg next init → IfOk r (λ m. m ≡ length old) → OnOk r (new ≡ old ++ Reg (length old) init ∷ []) →
    IfOk r (λ m. IsCopyAdded f node old new m)
register_added f (Ok m) old new node next init is number ok =
    let copy : IsCopy f (Reg next init) (Reg (length old) init) = (length old, refl) in
    let P : Node → Type 0 = λ x. IsCopyAdded f x old new m in
    let Q : List Node → Type 0 = λ ns. IsAdded old ns (Reg (length old) init) m in
    let R : ℕ → Type 0 = λ k. IsAdded old (old ++ Reg (length old) init ∷ []) (Reg (length old) init) k in
    subst P (sym is) (
      Reg (length old) init,
      copy,
      subst Q (sym ok) (subst R (sym number) (pushed old (Reg (length old) init))),
    )
register_added f (Err e) old new node next init is number ok = tt

gate_stays : (node : Node) → is_gate (normal_form node) ≡ is_gate node
gate_stays (Const b) = refl
gate_stays (Input i) = refl
gate_stays (Not a) = refl
gate_stays (And a b) = refl
gate_stays (Xor a b) = refl
gate_stays (Mux s a b) = refl
gate_stays (Buf a) = refl
gate_stays (Reg next init) = refl

got : (nodes : List Node) (m : ℕ) (node : Node) → slice_get nodes m ≡ Some node →
    (m < length nodes) × (node_at nodes m ≡ node)
got [] m node e = absurd (cc)
got (x ∷ xs) zero node e = (omega arith, same_Some x node e)
got (x ∷ xs) (suc m) node e = (let rest = got xs m node e in (omega arith, rest.1))

-- what a builder answered for a node other than a register
node_is_added : (old new : List Node) (node : Node) (m : ℕ) → slice_get new m ≡ Some (normal_form node) →
    (¬ IsKnown old node → m ≡ length old) → (new ≡ old) ⊎ (new ≡ old ++ normal_form node ∷ []) →
    IsAdded old new (normal_form node) m
node_is_added old new node m is last (inl same) =
    let at = got new m (normal_form node) is in
    let P : List Node → Type 0 = λ ns. IsAdded old ns (normal_form node) m in
    let Q : List Node → Type 0 = λ ns. (m < length ns) × (node_at ns m ≡ normal_form node) in
    let here = subst Q same at in
    subst P (sym same) (record {
      there = here.0;
      is = here.1;
      old_stays = λ k lt. refl;
      no_less = omega arith;
      one_more = omega arith;
      last = λ k more less. absurd (omega arith);
      alone = λ gate. last (λ known. (
          let f : true ≡ false = sym known.0 ∙ sym (gate_stays node) ∙ gate in absurd (cc)));
    })
node_is_added old new node m is last (inr more) =
    let at = got new m (normal_form node) is in
    let P : List Node → Type 0 = λ ns. IsAdded old ns (normal_form node) m in
    let Q : List Node → Type 0 = λ ns. (m < length ns) × (node_at ns m ≡ normal_form node) in
    let here = subst Q more at in
    let end = pushed old (normal_form node) in
    subst P (sym more) (record {
      there = here.0;
      is = here.1;
      old_stays = end.old_stays;
      no_less = end.no_less;
      one_more = end.one_more;
      last = end.last;
      alone = λ gate. last (λ known. (
          let f : true ≡ false = sym known.0 ∙ sym (gate_stays node) ∙ gate in absurd (cc)));
    })

plain_copy : (f : ℕ → ℕ) (node : Node) → IsCopy f node (normal_form (renamed f node))
plain_copy f (Const b) = (0, refl)
plain_copy f (Input i) = (0, refl)
plain_copy f (Not a) = (0, refl)
plain_copy f (And a b) = (0, refl)
plain_copy f (Xor a b) = (0, refl)
plain_copy f (Mux s a b) = (0, refl)
plain_copy f (Buf a) = (0, refl)
plain_copy f (Reg next init) = (f next, refl)

pub node_added : {E : Type 0} (f : ℕ → ℕ) (r : Result ℕ E) (old new : List Node) (node asked : Node) →
    asked ≡ renamed f node →
    IfOk r (λ m. slice_get new m ≡ Some (normal_form asked)) → (¬ IsKnown old asked → IfOk r (λ m. m ≡ length old)) →
    (new ≡ old) ⊎ (new ≡ old ++ normal_form asked ∷ []) → IfOk r (λ m. IsCopyAdded f node old new m)
node_added f (Ok m) old new node asked same is last grown =
    let P : Node → Type 0 = λ x. IsAdded old new (normal_form x) m in
    (normal_form (renamed f node), plain_copy f node, subst P same (node_is_added old new asked m is last grown))
node_added f (Err e) old new node asked same is last grown = tt
