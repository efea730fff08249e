-- What a builder's answers say of the list: the nodes before stay, and a node comes to the end or was there.
use Rattle.std.proofs.Common.{◌≡◌, ℕ, zero, suc, ◌<◌, ◌+◌, List, [], ◌∷◌, ◌++◌, Bool, true, false, Result, Ok, Err, IfOk, OnOk, Some, slice_get, length, refl, arith, sym, ap, subst, ◌∙◌, ◌⊎◌, inl, inr, length-append}
use Rattle.std.proofs.Math.ListN.{get_or-append}
use Rattle.std.proofs.Math.Seq.{get_or-append_seam}
use Rattle.std.proofs.lemmas.Bool.{cases_lt}
use Rattle.std.proofs.lemmas.Option.{same_Some}
use Rattle.eq_model.specs.System.{IsInput}
use Rattle.eq_bits.specs.declared.node.Node.{Node}
use Rattle.eq_bits.specs.declared.node.Node.TheVariants.{Const, Input, Not, And, Xor, Mux, Buf, Reg}
use Rattle.eq_bits.specs.Node.{driver_of, is_register, node_at}
use Rattle.eq_bits.specs.Shared.{IsKnown, normal_form}
use Rattle.eq_cone.specs.inner.Cones.{IsPlace}
use Rattle.eq_cone.specs.inner.Copying.{AreInputNodes, IsCopyOf, IsCopyMade, IsGrown, IsSignedInput, IsStopMade, renamed}

module _ (old : List Node) (node : Node) where
  pub size : length (old ++ node ∷ []) ≡ length old + 1
  size = omega (arith, length-append old (node ∷ []))

  pub at_end : node_at (old ++ node ∷ []) (length old) ≡ node
  at_end = get_or-append_seam old node [] (Const false)

  pub pushed : IsGrown old (old ++ node ∷ []) (length old)
  pushed = record {
    there = (let e = size in omega arith);
    stays = λ k lt. get_or-append old (node ∷ []) (Const false) k lt;
    no_less = (let e = size in omega arith);
    one_more = (let e = size in omega arith);
    last = λ k more less. (let e = size in omega arith);
  }

pub nothing_grown : (old : List Node) (m : ℕ) → m < length old → IsGrown old old m
nothing_grown old m lt = record {
  there = lt;
  stays = λ k less. refl;
  no_less = omega arith;
  one_more = omega arith;
  last = λ k more less. absurd (omega arith);
}

got : (nodes : List Node) (m : ℕ) (node : Node) → slice_get nodes m ≡ Some node →
    (m < length nodes) × (node_at nodes m ≡ node)
got [] m node e = absurd (cc)
got (x ∷ xs) zero node e = (omega arith, same_Some x node e)
got (x ∷ xs) (suc m) node e = (let rest = got xs m node e in (omega arith, rest.1))

-- what a builder answered for a node other than a register
pub node_grown : (old new : List Node) (node : Node) (m : ℕ) → slice_get new m ≡ Some (normal_form node) →
    (IsKnown old node → new ≡ old) → (¬ IsKnown old node → m ≡ length old) →
    (new ≡ old) ⊎ (new ≡ old ++ normal_form node ∷ []) →
    IsGrown old new m × (node_at new m ≡ normal_form node)
node_grown old new node m is known fresh (inl same) =
    let at = got new m (normal_form node) is in
    let P : List Node → Type 0 = λ ns. IsGrown old ns m in
    let Q : List Node → Type 0 = λ ns. m < length ns in
    (subst P (sym same) (nothing_grown old m (subst Q same at.0)), at.1)
node_grown old new node m is known fresh (inr more) =
    let at = got new m (normal_form node) is in
    let P : List Node → Type 0 = λ ns. IsGrown old ns m in
    let Q : ℕ → Type 0 = λ k. IsGrown old (old ++ normal_form node ∷ []) k in
    let not_known : ¬ IsKnown old node = λ k. (
    let e = ap (λ (ns : List Node). length ns) (known k) in
    let f = ap (λ (ns : List Node). length ns) more in
    let g = size old (normal_form node) in omega arith) in
    (subst P (sym more) (subst Q (sym (fresh not_known)) (pushed old (normal_form node))), at.1)

plain_copy : (f : ℕ → ℕ) (node : Node) → IsCopyOf f node (normal_form (renamed f node))
plain_copy f (Const b) = (0, refl)
plain_copy f (Input i) = (0, refl)
plain_copy f (Not a) = (0, refl)
plain_copy f (And a b) = (0, refl)
plain_copy f (Xor a b) = (0, refl)
plain_copy f (Mux s a b) = (0, refl)
plain_copy f (Buf a) = (0, refl)
plain_copy f (Reg next init) = (f next, refl)

no_register : (node : Node) → ((next : ℕ) (init : Bool) → node ≡ Reg next init → ⊥) → is_register node ≡ true → ⊥
no_register (Const b) other reg = cc
no_register (Input i) other reg = cc
no_register (Not a) other reg = cc
no_register (And a b) other reg = cc
no_register (Xor a b) other reg = cc
no_register (Mux s a b) other reg = cc
no_register (Buf a) other reg = cc
no_register (Reg next init) other reg = other next init refl

pub node_made : {E : Type 0} (f : ℕ → ℕ) (r : Result ℕ E) (old new : List Node) (node asked : Node) →
    asked ≡ renamed f node → ((next : ℕ) (init : Bool) → node ≡ Reg next init → ⊥) →
    IfOk r (λ m. slice_get new m ≡ Some (normal_form asked)) → (IsKnown old asked → OnOk r (new ≡ old)) →
    (¬ IsKnown old asked → IfOk r (λ m. m ≡ length old)) →
    (new ≡ old) ⊎ (new ≡ old ++ normal_form asked ∷ []) → IfOk r (λ m. IsCopyMade f node old new m)
node_made f (Ok m) old new node asked same other is known fresh grown =
    let made = node_grown old new asked m is known fresh grown in
    let P : Node → Type 0 = λ x. IsCopyOf f node x in
    let here : node_at new m ≡ normal_form (renamed f node) = made.1 ∙ ap normal_form same in
    record {
      grown = made.0;
      copy = subst P (sym here) (plain_copy f node);
      apart = λ reg. absurd (no_register node other reg);
    }
node_made f (Err e) old new node asked same other is known fresh grown = tt

-- a register that a builder appended
pub register_made : {E : Type 0} (f : ℕ → ℕ) (r : Result ℕ E) (old new : List Node) (node : Node) (next : ℕ)
    (init : Bool) →
    node ≡ Reg next init → IfOk r (λ m. m ≡ length old) → OnOk r (new ≡ old ++ Reg (length old) init ∷ []) →
    IfOk r (λ m. IsCopyMade f node old new m)
register_made f (Ok m) old new node next init is number ok =
    let P : Node → Type 0 = λ x. IsCopyMade f x old new m in
    let Q : List Node → Type 0 = λ ns. IsCopyMade f (Reg next init) old ns m in
    let R : ℕ → Type 0 = λ k. IsCopyMade f (Reg next init) old (old ++ Reg (length old) init ∷ []) k in
    let S : Node → Type 0 = λ x. IsCopyOf f (Reg next init) x in
    let copy : IsCopyOf f (Reg next init) (Reg (length old) init) = (length old, refl) in
    subst P (sym is) (subst Q (sym ok) (subst R (sym number) (record {
      grown = pushed old (Reg (length old) init);
      copy = subst S (sym (at_end old (Reg (length old) init))) copy;
      apart = λ reg. omega arith;
    })))
register_made f (Err e) old new node next init is number ok = tt

-- an input is negated
pub stop_made : {E : Type 0} (inputs : List ℕ) (negated : Bool) (i j : ℕ) (r : Result ℕ E) (old new : List Node) →
    negated ≡ true → IsPlace inputs i j →
    IfOk r (λ m. slice_get new m ≡ Some (Not j)) → (IsKnown old (Not j) → OnOk r (new ≡ old)) →
    (¬ IsKnown old (Not j) → IfOk r (λ m. m ≡ length old)) →
    (new ≡ old) ⊎ (new ≡ old ++ Not j ∷ []) → IfOk r (λ m. IsStopMade inputs negated i old new m)
stop_made inputs negated i j (Ok m) old new neg place is known fresh grown =
    let made = node_grown old new (Not j) m is known fresh grown in
    let P : Bool → Type 0 = λ b. IsSignedInput new b j m in
    let Q : Node → Type 0 = λ x. IsInput (driver_of x) in
    record {
      grown = made.0;
      stop = (j, place.0, place.1, subst P (sym neg) made.1);
      no_input = λ more input. subst Q made.1 input;
    }
stop_made inputs negated i j (Err e) old new neg place is known fresh grown = tt

-- the next input
pub input_on : (old new : List Node) (n : ℕ) → AreInputNodes old n → length old ≡ n → new ≡ old ++ Input n ∷ [] →
    AreInputNodes new (n + 1)
input_on old new n are count more =
    let P : List Node → Type 0 = λ ns. AreInputNodes ns (n + 1) in
    let e = size old (Input n) in
    subst P (sym more) (record {
      there = omega arith;
      are = λ j lt. elim (cases_lt j n) [
        | inl less ↦ get_or-append old (Input n ∷ []) (Const false) j (omega arith) ∙ are.are j less
        | inr here ↦ (
            let same : length old ≡ j = omega arith in
            let same_n : n ≡ j = omega arith in
            ap (λ (k : ℕ). node_at (old ++ Input n ∷ []) k) (sym same) ∙ at_end old (Input n)
            ∙ ap (λ (k : ℕ). Input k) same_n)
      ];
    })
