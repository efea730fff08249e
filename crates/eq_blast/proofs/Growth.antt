-- What a node gives stays as gates are added, and what a gate gives comes from what its operands give.
use Rattle.std.proofs.Common.{◌≡◌, ℕ, zero, suc, ◌+◌, ◌<◌, ◌≤◌, ◌++◌, ◌∷◌, [], List, Bool, true, false, not, ◌&&◌, min, max, length, slice_get, Some, ◌⊎◌, inl, inr, Result, Ok, Err, OnOk, IfOk, ◌||◌, refl, arith, sym, ap, subst, ◌∙◌, length-append}
use Rattle.std.proofs.Math.ListN.{get_or-append}
use Rattle.std.proofs.Math.Seq.{get_or-append_seam}
use Rattle.std.proofs.lemmas.Bool.{cases_lt}
use Rattle.eq_model.specs.System.{Values, Meets}
use Rattle.eq_bits.specs.declared.node.Node.{Node}
use Rattle.eq_bits.specs.declared.node.Node.TheVariants.{Const, Input, Not, And, Xor, Mux, Buf, Reg}
use Rattle.eq_bits.specs.Node.{driver_of, is_register, node_at, xor}
use Rattle.eq_bits.specs.Shared.{is_gate, normal_form}
use Rattle.eq_net.specs.Numbers.{differ}
use Rattle.eq_blast.specs.inner.Wiring.{Computes, HasOperands, IsClosed}
use Rattle.eq_blast.specs.inner.Growing.{Gives, Grown, HasConstants, has_in, value_in}

-- nothing is added
pub grown_none : (nodes : List Node) → Grown 0 nodes nodes
grown_none nodes = record { size = omega arith; bound = omega arith; kept = λ m lt. refl; gates = λ m le lt. absurd (omega arith) }

pub grown_more : (k l : ℕ) (old new : List Node) → k ≤ l → Grown k old new → Grown l old new
grown_more k l old new le g = record { size = g.size; bound = (let b = g.bound in omega arith); kept = g.kept; gates = g.gates }

pub grown_twice : (k l : ℕ) (a b c : List Node) → Grown k a b → Grown l b c → Grown (k + l) a c
grown_twice k l a b c g h = record {
  size = (let s = g.size in let t = h.size in omega arith);
  bound = (let s = g.bound in let t = h.bound in omega arith);
  kept = λ m lt. h.kept m (let s = g.size in omega arith) ∙ g.kept m lt;
  gates = λ m le lt. elim (cases_lt m (length b)) [
    | inl less ↦ ap is_gate (h.kept m less) ∙ g.gates m le less
    | inr more ↦ h.gates m more lt
  ];
}

module _ (k : ℕ) (old new : List Node) (g : Grown k old new) where
  pub computed_before : (x : Values) → Computes new x → Computes old x
  computed_before x c m lt gate =
      let P : Node → Type 0 = λ n. Meets (driver_of n) x (x m) in
      subst P (g.kept m lt) (c m (let s = g.size in omega arith) (ap is_gate (g.kept m lt) ∙ gate))

  pub closed_before : (d : Values) → IsClosed new d → IsClosed old d
  closed_before d c m lt gate has =
      let P : Node → Type 0 = λ n. HasOperands d n in
      c m (let s = g.size in omega arith) (ap is_gate (g.kept m lt) ∙ gate) (subst P (sym (g.kept m lt)) has)

  pub gives_still : (m : ℕ) (f h : Values → Bool) → Gives old m f h → Gives new m f h
  gives_still m f h i = record {
    there = (let s = g.size in let t = i.there in omega arith);
    value = λ x c. i.value x (computed_before x c);
    has = λ d c. i.has d (closed_before d c);
  }

  pub constants_still : HasConstants old → HasConstants new
  constants_still h = record {
    room = (let s = g.size in let t = h.room in omega arith);
    zero_node = g.kept 0 (let t = h.room in omega arith) ∙ h.zero_node;
    one_node = g.kept 1 (let t = h.room in omega arith) ∙ h.one_node;
  }

-- ---- a gate

by_order : (a b : ℕ) (P : ℕ → ℕ → Type 0) → P a b → P b a → P (min a b) (max a b)
by_order a b P straight turned = elim (cases_lt a b) [
  | inl less ↦ (
      let lo : a ≡ min a b = omega arith in
      let hi : b ≡ max a b = omega arith in
      let Q : ℕ → Type 0 = λ n. P n b in
      let R : ℕ → Type 0 = λ n. P (min a b) n in
      subst R hi (subst Q lo straight))
  | inr more ↦ (
      let lo : b ≡ min a b = omega arith in
      let hi : a ≡ max a b = omega arith in
      let Q : ℕ → Type 0 = λ n. P n a in
      let R : ℕ → Type 0 = λ n. P (min a b) n in
      subst R hi (subst Q lo turned))
]

and_turned : (x y : Bool) → (y && x) ≡ (x && y)
and_turned true true = refl
and_turned true false = refl
and_turned false true = refl
and_turned false false = refl

xor_is : (x y : Bool) → xor x y ≡ differ x y
xor_is true y = refl
xor_is false y = refl

xor_turned : (x y : Bool) → xor y x ≡ differ x y
xor_turned true true = refl
xor_turned true false = refl
xor_turned false true = refl
xor_turned false false = refl

met : (node : Node) (x : Values) (b : Bool) → is_gate node ≡ true → Meets (driver_of (normal_form node)) x b → b ≡ value_in node x
met (Const b) x v gate h = h
met (Input i) x v gate h = absurd (cc)
met (Not a) x v gate h = h
met (And a b) x v gate h =
    let P : ℕ → ℕ → Type 0 = λ m n. (x m && x n) ≡ (x a && x b) in
    h ∙ by_order a b P refl (and_turned (x a) (x b))
met (Xor a b) x v gate h =
    let P : ℕ → ℕ → Type 0 = λ m n. xor (x m) (x n) ≡ differ (x a) (x b) in
    h ∙ by_order a b P (xor_is (x a) (x b)) (xor_turned (x a) (x b))
met (Mux s a b) x v gate h = h
met (Buf a) x v gate h = absurd (cc)
met (Reg next init) x v gate h = absurd (cc)

pub left_of : (x y : Bool) → (x && y) ≡ true → x ≡ true
left_of true y e = refl
left_of false y e = e

pub right_of : (x y : Bool) → (x && y) ≡ true → y ≡ true
right_of true y e = e
right_of false y e = absurd (cc)

pub both_of : (x y : Bool) → x ≡ true → y ≡ true → (x && y) ≡ true
both_of true y e f = f
both_of false y e f = e

asked : (node : Node) (d : Values) → is_gate node ≡ true → has_in node d ≡ true → HasOperands d (normal_form node)
asked (Const b) d gate h = tt
asked (Input i) d gate h = absurd (cc)
asked (Not a) d gate h = h
asked (And a b) d gate h =
    let P : ℕ → ℕ → Type 0 = λ m n. (d m ≡ true) × (d n ≡ true) in
    by_order a b P (left_of (d a) (d b) h, right_of (d a) (d b) h) (right_of (d a) (d b) h, left_of (d a) (d b) h)
asked (Xor a b) d gate h =
    let P : ℕ → ℕ → Type 0 = λ m n. (d m ≡ true) × (d n ≡ true) in
    by_order a b P (left_of (d a) (d b) h, right_of (d a) (d b) h) (right_of (d a) (d b) h, left_of (d a) (d b) h)
asked (Mux s a b) d gate h =
    let r = right_of (d s) (d a && d b) h in
    (left_of (d s) (d a && d b) h, left_of (d a) (d b) r, right_of (d a) (d b) r)
asked (Buf a) d gate h = absurd (cc)
asked (Reg next init) d gate h = absurd (cc)

gate_still : (node : Node) → is_gate node ≡ true → is_gate (normal_form node) ≡ true
gate_still (Const b) e = refl
gate_still (Input i) e = e
gate_still (Not a) e = refl
gate_still (And a b) e = refl
gate_still (Xor a b) e = refl
gate_still (Mux s a b) e = refl
gate_still (Buf a) e = e
gate_still (Reg next init) e = e

found : (nodes : List Node) (m : ℕ) (node : Node) → slice_get nodes m ≡ Some node → (m < length nodes) × (node_at nodes m ≡ node)
found [] m node e = absurd (cc)
found (n ∷ ns) zero node e = (omega arith, cc)
found (n ∷ ns) (suc m) node e = (let h = found ns m node e in (omega arith, h.1))

-- what the node gives that stands for a gate
pub given : (nodes : List Node) (m : ℕ) (node : Node) → is_gate node ≡ true → slice_get nodes m ≡ Some (normal_form node) → Gives nodes m (value_in node) (has_in node)
given nodes m node gate at =
    let f = found nodes m (normal_form node) at in
    let g : is_gate (node_at nodes m) ≡ true = ap is_gate f.1 ∙ gate_still node gate in
    record {
      there = f.0;
      value = λ x c. met node x (x m) gate (let P : Node → Type 0 = λ n. Meets (driver_of n) x (x m) in subst P f.1 (c m f.0 g));
      has = λ d c h. c m f.0 g (let P : Node → Type 0 = λ n. HasOperands d n in subst P (sym f.1) (asked node d gate h));
    }

pub one_gate : (old new : List Node) (node : Node) → is_gate node ≡ true → (new ≡ old) ⊎ (new ≡ old ++ normal_form node ∷ []) → Grown 1 old new
one_gate old new node gate (inl e) = (let P : List Node → Type 0 = λ ns. Grown 1 old ns in subst P (sym e) (grown_more 0 1 old old (omega arith) (grown_none old)))
one_gate old new node gate (inr e) =
    let P : List Node → Type 0 = λ ns. Grown 1 old ns in
    let size = length-append old (normal_form node ∷ []) in
    subst P (sym e) (record {
      size = omega arith;
      bound = omega arith;
      kept = λ m lt. get_or-append old (normal_form node ∷ []) (Const false) m lt;
      gates = λ m le lt. (
          let same : length old ≡ m = omega arith in
          let Q : ℕ → Type 0 = λ n. is_gate (node_at (old ++ normal_form node ∷ []) n) ≡ true in
          subst Q same (ap is_gate (get_or-append_seam old (normal_form node) [] (Const false)) ∙ gate_still node gate));
    })

pub no_register : (node : Node) → is_gate node ≡ true → is_register node ≡ false
no_register (Const b) e = refl
no_register (Input i) e = refl
no_register (Not a) e = refl
no_register (And a b) e = refl
no_register (Xor a b) e = refl
no_register (Mux s a b) e = refl
no_register (Buf a) e = refl
no_register (Reg next init) e = absurd (cc)

-- ---- gates over gates

-- the node itself
pub itself : (nodes : List Node) (m : ℕ) → m < length nodes → Gives nodes m (λ x. x m) (λ d. d m)
itself nodes m lt = record { there = lt; value = λ x c. refl; has = λ d c h. h }

-- the same, said in another way
pub gives_same : (nodes : List Node) (m : ℕ) (f g f' g' : Values → Bool) → Gives nodes m f g → ((x : Values) → f x ≡ f' x) → ((d : Values) → g' d ≡ true → g d ≡ true) →
    Gives nodes m f' g'
gives_same nodes m f g f' g' i values has = record { there = i.there; value = λ x c. i.value x c ∙ values x; has = λ d c h. i.has d c (has d h) }

module _ (nodes : List Node) (m a : ℕ) (f g : Values → Bool) where
  pub through_one : (F : Bool → Bool) → Gives nodes m (λ x. F (x a)) (λ d. d a) → Gives nodes a f g → Gives nodes m (λ x. F (f x)) g
  through_one F i j = record {
    there = i.there;
    value = λ x c. i.value x c ∙ ap F (j.value x c);
    has = λ d c h. i.has d c (j.has d c h);
  }

module _ (nodes : List Node) (m a b : ℕ) (f g f' g' : Values → Bool) where
  pub through_two : (F : Bool → Bool → Bool) → Gives nodes m (λ x. F (x a) (x b)) (λ d. d a && d b) → Gives nodes a f g → Gives nodes b f' g' →
      Gives nodes m (λ x. F (f x) (f' x)) (λ d. g d && g' d)
  through_two F i j k = record {
    there = i.there;
    value = λ x c. i.value x c ∙ ap (λ y. F y (x b)) (j.value x c) ∙ ap (λ y. F (f x) y) (k.value x c);
    has = λ d c h. i.has d c (both_of (d a) (d b) (j.has d c (left_of (g d) (g' d) h)) (k.has d c (right_of (g d) (g' d) h)));
  }

pub on_ok_all : {T E P : Type 0} (r : Result T E) → P → OnOk r P
on_ok_all (Ok x) p = p
on_ok_all (Err e) p = tt

-- what holds of each answer and what holds of all, together
pub with_both : {T E P : Type 0} (r : Result T E) (Q R : T → Type 0) → ((x : T) → P → Q x → R x) → OnOk r P → IfOk r Q → IfOk r R
with_both (Ok x) Q R f p q = f x p q
with_both (Err e) Q R f p q = tt

pub or_by_and : (x y : Bool) → not (not x && not y) ≡ (x || y)
or_by_and true true = refl
or_by_and true false = refl
or_by_and false true = refl
or_by_and false false = refl
