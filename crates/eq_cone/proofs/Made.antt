-- A node of the cone is made: it has a place, and all that was made before stays as it is.
use Rattle.std.proofs.Common.{◌≡◌, ℕ, ◌<◌, ◌≤◌, ◌+◌, List, [], ◌∷◌, Bool, true, false, cond, nat_eq, Option, Some, None, Contains, length, refl, arith, sym, ap, subst, ◌∙◌, ◌⊎◌, inl, inr}
use Rattle.std.proofs.lemmas.Bool.{cases_lt}
use Rattle.std.proofs.lemmas.Bool.Decides.{eqb_tells}
use Rattle.std.proofs.lemmas.Option.{same_Some}
use Rattle.eq_model.specs.System.{IsInput, reads_now}
use Rattle.eq_bits.specs.declared.node.Node.{Node}
use Rattle.eq_bits.specs.declared.node.Node.TheVariants.{Const, Input, Not, And, Xor, Mux, Buf, Reg}
use Rattle.eq_bits.specs.Node.{driver_of, is_register, node_at}
use Rattle.eq_cone.specs.inner.Cones.{number_at}
use Rattle.eq_cone.specs.inner.Copying.{AreFront, AreInputNodes, IsCopied, IsCopyOf, IsGrown, IsMade, IsMadeOf, IsSignedInput, IsInputFor, new_of, number_or_zero}

contains_first : (a : ℕ) (xs : List ℕ) → Contains (a ∷ xs) a
contains_first a xs = (0, omega arith, refl)

contains_second : (a b : ℕ) (xs : List ℕ) → Contains (a ∷ b ∷ xs) b
contains_second a b xs = (1, omega arith, refl)

contains_third : (a b c : ℕ) → Contains (a ∷ b ∷ c ∷ []) c
contains_third a b c = (2, omega arith, refl)

-- a copy over other operands that are the same
pub same_copy : (f g : ℕ → ℕ) (node new : Node) → ((r : ℕ) → Contains (reads_now (driver_of node)) r → f r ≡ g r) →
    IsCopyOf f node new → IsCopyOf g node new
same_copy f g (Const b) new same copy = copy
same_copy f g (Input i) new same copy = copy
same_copy f g (Not a) new same copy = rw (← same a (contains_first a [])) copy
same_copy f g (And a b) new same copy =
    rw (← same a (contains_first a (b ∷ [])), ← same b (contains_second a b [])) copy
same_copy f g (Xor a b) new same copy =
    rw (← same a (contains_first a (b ∷ [])), ← same b (contains_second a b [])) copy
same_copy f g (Mux s a b) new same copy =
    rw (
      ← same s (contains_first s (a ∷ b ∷ [])),
      ← same a (contains_second s a (b ∷ [])),
      ← same b (contains_third s a b),
    ) copy
same_copy f g (Buf a) new same copy = rw (← same a (contains_first a [])) copy
same_copy f g (Reg next init) new same copy = copy

pub copy_kind : (f : ℕ → ℕ) (node new : Node) → IsCopyOf f node new → is_register new ≡ is_register node
copy_kind f (Const b) new copy = ap is_register copy.1
copy_kind f (Input i) new copy = ap is_register copy.1
copy_kind f (Not a) new copy = ap is_register copy.1
copy_kind f (And a b) new copy = ap is_register copy.1
copy_kind f (Xor a b) new copy = ap is_register copy.1
copy_kind f (Mux s a b) new copy = ap is_register copy.1
copy_kind f (Buf a) new copy = ap is_register copy.1
copy_kind f (Reg next init) new copy = ap is_register copy.1

-- an input is still one where nodes stay
pub signed_still : (old new : List Node) (b : Bool) (j k : ℕ) → node_at new k ≡ node_at old k →
    IsSignedInput old b j k → IsSignedInput new b j k
signed_still old new false j k same is = is
signed_still old new true j k same is = same ∙ is

pub stop_still : (inputs : List ℕ) (old new : List Node) (b : Bool) (i k : ℕ) → node_at new k ≡ node_at old k →
    IsInputFor inputs old b i k → IsInputFor inputs new b i k
stop_still inputs old new b i k same stop = (stop.0, stop.1, stop.2, signed_still old new b stop.0 k same stop.3)

-- the node of a stop stands among the inputs, or negates one
stop_low : (inputs : List ℕ) (nodes : List Node) (b : Bool) (i k : ℕ) → IsInputFor inputs nodes b i k →
    (k < length inputs) ⊎ ((j : ℕ) × (node_at nodes k ≡ Not j))
stop_low inputs nodes false i k stop = inl (let e = stop.1 in let f = stop.3 in omega arith)
stop_low inputs nodes true i k stop = inr (stop.0, stop.3)

itself : (x : ℕ) → nat_eq x x ≡ true
itself x = elim (eqb_tells x x) [ inl e ↦ e.0 | inr e ↦ absurd (e.1 refl) ]

module _ (nodes : List Node) (cut : ℕ → Option ℕ) (negated : ℕ → ℕ → Bool) (inputs : List ℕ)
    (place now : ℕ → Option ℕ) (old new : List Node) (m number : ℕ)
    (is : IsCopied nodes cut negated inputs place old) (absent : place m ≡ None)
    (made : IsMadeOf nodes cut negated inputs place m old new number)
    (operands : cut m ≡ None → (r : ℕ) → Contains (reads_now (driver_of (node_at nodes m))) r → IsMade place r)
    (put : (x : ℕ) → now x ≡ cond (nat_eq m x) (Some number) (place x)) where
  grown : IsGrown old new number
  grown = made.grown

  here : now m ≡ Some number
  here = put m ∙ ap (λ (b : Bool). cond {A = Option ℕ} b (Some number) (place m)) (itself m)

  other : (x : ℕ) → (m ≡ x → ⊥) → now x ≡ place x
  other x apart =
      elim (eqb_tells m x) [
        | inl e ↦ absurd (apart e.1)
        | inr e ↦ put x ∙ ap (λ (b : Bool). cond {A = Option ℕ} b (Some number) (place x)) e.0
      ]

  not_m : (x k : ℕ) → place x ≡ Some k → m ≡ x → ⊥
  not_m x k e same =
      let P : ℕ → Type 0 = λ y. place y ≡ None in
      let f : Some k ≡ None = sym e ∙ subst P same absent in absurd (cc)

  still : (x k : ℕ) → place x ≡ Some k → now x ≡ Some k
  still x k e = other x (not_m x k e) ∙ e

  pub still_made : (x : ℕ) → IsMade place x → IsMade now x
  still_made x h = (h.0, still x h.0 h.1)

  -- what is made is node m or was made before
  cases_made : (x k : ℕ) → now x ≡ Some k → ((m ≡ x) × (number ≡ k)) ⊎ (place x ≡ Some k)
  cases_made x k e =
      elim (eqb_tells m x) [
        | inl same ↦ inl (
          same.1,
          (
              let P : ℕ → Type 0 = λ y. now y ≡ Some k in
              let f : now m ≡ Some k = subst P (sym same.1) e in
              same_Some number k (sym here ∙ f)),
        )
        | inr apart ↦ inr (sym (other x apart.1) ∙ e)
      ]

  same_new : (r : ℕ) → IsMade place r → new_of place r ≡ new_of now r
  same_new r h = ap number_or_zero (sym (other r (not_m r h.0 h.1)))

  same_node : (x k : ℕ) → place x ≡ Some k → node_at new k ≡ node_at old k
  same_node x k e = grown.stays k (is.there x k e)

  stops_now : (x k i : ℕ) → now x ≡ Some k → cut x ≡ Some i → IsInputFor inputs new (negated x i) i k
  stops_now x k i e c =
      elim (cases_made x k e) [
        | inl t ↦ (
            let P : ℕ → Type 0 = λ y. IsInputFor inputs new (negated y i) i number in
            let Q : ℕ → Type 0 = λ y. IsInputFor inputs new (negated x i) i y in
            let R : ℕ → Type 0 = λ y. cut y ≡ Some i in
            subst Q t.1 (subst P t.0 (made.stop i (subst R (sym t.0) c))))
        | inr before ↦ stop_still inputs old new (negated x i) i k (same_node x k before) (is.stops x k i before c)
      ]

  copies_now : (x k : ℕ) → now x ≡ Some k → cut x ≡ None → IsCopyOf (new_of now) (node_at nodes x) (node_at new k)
  copies_now x k e c =
      elim (cases_made x k e) [
        | inl t ↦ (
            let P : ℕ → Type 0 = λ y. IsCopyOf (new_of now) (node_at nodes y) (node_at new number) in
            let Q : ℕ → Type 0 = λ y. IsCopyOf (new_of now) (node_at nodes x) (node_at new y) in
            let R : ℕ → Type 0 = λ y. cut y ≡ None in
            let c_m : cut m ≡ None = subst R (sym t.0) c in
            subst Q t.1 (subst P t.0 (same_copy (new_of place) (new_of now) (node_at nodes m) (node_at new number)
            (λ r reads. same_new r (operands c_m r reads)) (made.copy c_m))))
        | inr before ↦ (
            let P : Node → Type 0 = λ y. IsCopyOf (new_of now) (node_at nodes x) y in
            subst P (sym (same_node x k before)) (same_copy (new_of place) (new_of now) (node_at nodes x)
            (node_at old k)
            (λ r reads. same_new r (is.ready x r (k, before) c reads)) (is.copies x k before c)))
      ]

  ready_now : (x r : ℕ) → IsMade now x → cut x ≡ None → Contains (reads_now (driver_of (node_at nodes x))) r →
      IsMade now r
  ready_now x r h c reads =
      elim (cases_made x h.0 h.1) [
        | inl t ↦ (
            let P : ℕ → Type 0 = λ y. Contains (reads_now (driver_of (node_at nodes y))) r in
            let R : ℕ → Type 0 = λ y. cut y ≡ None in
            still_made r (operands (subst R (sym t.0) c) r (subst P (sym t.0) reads)))
        | inr before ↦ still_made r (is.ready x r (h.0, before) c reads)
      ]

  -- a register stands behind all that was made
  fresh : (a x k : ℕ) → m ≡ a → number ≡ k → cut a ≡ None → is_register (node_at nodes a) ≡ true → place x ≡ Some k → ⊥
  fresh a x k same same_number c reg before =
      let R : ℕ → Type 0 = λ y. cut y ≡ None in
      let S : ℕ → Type 0 = λ y. is_register (node_at nodes y) ≡ true in
      let e = made.apart (subst R (sym same) c) (subst S (sym same) reg) in
      let f = is.there x k before in omega arith

  -- a register's copy is no copy of another node
  late : (a b k : ℕ) → place a ≡ Some k → m ≡ b → number ≡ k → cut a ≡ None → cut b ≡ None →
      is_register (node_at nodes a) ≡ true → ⊥
  late a b k before same same_number ca cb reg =
      let R : ℕ → Type 0 = λ y. cut y ≡ None in
      let c_m : cut m ≡ None = subst R (sym same) cb in
      let old_kind : is_register (node_at new k) ≡ true = ap is_register (same_node a k before)
      ∙ copy_kind (new_of place) (node_at nodes a) (node_at old k) (is.copies a k before ca) ∙ reg in
      let kind : is_register (node_at nodes m) ≡ true =
      sym (copy_kind (new_of place) (node_at nodes m) (node_at new number) (made.copy c_m))
      ∙ ap (λ (y : ℕ). is_register (node_at new y)) same_number ∙ old_kind in
      let e = made.apart c_m kind in
      let f = is.there a k before in omega arith

  apart_now : (a b k : ℕ) → now a ≡ Some k → now b ≡ Some k → cut a ≡ None → cut b ≡ None →
      is_register (node_at nodes a) ≡ true → a ≡ b
  apart_now a b k ea eb ca cb reg =
      elim (cases_made a k ea) [
        | inl x ↦ (elim (cases_made b k eb) [
          | inl y ↦ sym x.0 ∙ y.0
          | inr before ↦ absurd (fresh a b k x.0 x.1 ca reg before)
        ])
        | inr before ↦ (elim (cases_made b k eb) [
          | inl y ↦ absurd (late a b k before y.0 y.1 ca cb reg)
          | inr before_b ↦ is.apart a b k before before_b ca cb reg
        ])
      ]

  no_others_now : (k : ℕ) → length inputs ≤ k → k < length new → ¬ IsInput (driver_of (node_at new k))
  no_others_now k more lt =
      elim (cases_lt k (length old)) [
        | inl less ↦ (let P : Node → Type 0 = λ y. ¬ IsInput (driver_of y) in
            subst P (sym (grown.stays k less)) (is.no_others k more less))
        | inr late ↦ (
            let e = grown.last k late lt in
            let P : ℕ → Type 0 = λ y. ¬ IsInput (driver_of (node_at new y)) in
            subst P (sym e) (made.no_input (omega arith)))
      ]

  only_now : (k : ℕ) → length inputs ≤ k → k < length new → (x : ℕ) × (now x ≡ Some k)
  only_now k more lt =
      elim (cases_lt k (length old)) [
        | inl less ↦ (let t = is.only k more less in (t.0, still t.0 k t.1))
        | inr late ↦ (m, here ∙ ap (λ (y : ℕ). Some y) (sym (grown.last k late lt)))
      ]

  there_now : (x k : ℕ) → now x ≡ Some k → k < length new
  there_now x k e =
      elim (cases_made x k e) [
        | inl t ↦ (let f = grown.there in let g = t.1 in omega arith)
        | inr before ↦ (let f = is.there x k before in let g = grown.no_less in omega arith)
      ]

  pub copied_on : IsCopied nodes cut negated inputs now new
  copied_on = record {
    input_nodes = record {
      there = (let e = is.input_nodes.there in let f = grown.no_less in omega arith);
      are = λ j lt. grown.stays j (let e = is.input_nodes.there in omega arith) ∙ is.input_nodes.are j lt;
    };
    no_others = no_others_now;
    there = there_now;
    stops = stops_now;
    copies = copies_now;
    ready = ready_now;
    apart = apart_now;
    only = only_now;
  }

  pub front_on : (cone : List ℕ) (n : ℕ) → number_at cone n ≡ m → AreFront cone place n → AreFront cone now (n + 1)
  front_on cone n this front = record {
    made = λ j lt. elim (cases_lt j n) [
      | inl less ↦ still_made (number_at cone j) (front.made j less)
      | inr last ↦ (
          let e : n ≡ j = omega arith in
          let P : ℕ → Type 0 = λ y. IsMade now y in
          subst P (sym this ∙ ap (number_at cone) e) (number, here))
    ];
    only = λ x h. elim (cases_made x h.0 h.1) [
      | inl t ↦ (n, omega arith, this ∙ t.0)
      | inr before ↦ (let t = front.only x (h.0, before) in (t.0, (let lt = t.1 in omega arith), t.2))
    ];
  }

-- nothing is made yet
pub copied_begins : (nodes : List Node) (cut : ℕ → Option ℕ) (negated : ℕ → ℕ → Bool) (inputs : List ℕ)
    (place : ℕ → Option ℕ) (new : List Node) → ((x : ℕ) → place x ≡ None) → AreInputNodes new (length inputs) →
    length new ≡ length inputs → IsCopied nodes cut negated inputs place new
copied_begins nodes cut negated inputs place new none are count =
    let never : (x k : ℕ) → place x ≡ Some k → ⊥ = λ x k e. (
    let f : Some k ≡ None = sym e ∙ none x in absurd (cc)) in
    record {
      input_nodes = are;
      no_others = λ k more lt. absurd (omega arith);
      there = λ x k e. absurd (never x k e);
      stops = λ x k i e. absurd (never x k e);
      copies = λ x k e. absurd (never x k e);
      ready = λ x r h. absurd (never x h.0 h.1);
      apart = λ a b k e. absurd (never a k e);
      only = λ k more lt. absurd (omega arith);
    }

pub front_begins : (cone : List ℕ) (place : ℕ → Option ℕ) → ((x : ℕ) → place x ≡ None) → AreFront cone place 0
front_begins cone place none = record {
  made = λ j lt. absurd (omega arith);
  only = λ x h. (let f : Some h.0 ≡ None = sym h.1 ∙ none x in absurd (cc));
}
