-- Equations item by item: nothing adds none, and one list follows another.
use Rattle.std.proofs.Common.{◌≡◌, ℕ, zero, suc, ◌+◌, ◌-◌, ◌*◌, ◌<◌, ◌≤◌, List, [], ◌∷◌, ◌++◌, drop, take, map, length, slice_index_or, refl, arith, sym, ap, subst, ◌∙◌}
use Rattle.std.specs.Prelude.{flat_map, sum_by}
use Rattle.std.proofs.lemmas.List.{append_assoc, append-nil, drop-map, length-map, length-take, take-map}
use Rattle.std.proofs.lemmas.List.Concat.{flat_map-append}
use Rattle.std.proofs.lemmas.List.Sums.{sum_by-append, sum_by-cons}
use Rattle.eq_vparse.specs.declared.tree.GateKind.{GateKind}
use Rattle.eq_vparse.specs.declared.tree.GateKind.TheVariants as kind
use Rattle.eq_vparse.specs.declared.tree.Expr.{Expr}
use Rattle.eq_vparse.specs.declared.tree.Item.{Item}
use Rattle.eq_net.specs.declared.types.NetInfo.{NetInfo}
use Rattle.eq_net.specs.Tree.{Tree}
use Rattle.eq_verilog.specs.Trees.{Name, ExprTree, expr_tree, join_all, item_tree}
use Rattle.eq_verilog.specs.Scopes.{Scope}
use Rattle.eq_verilog.specs.Sizes.{own}
use Rattle.eq_verilog.specs.Costs.{cost}
use Rattle.eq_verilog.specs.Equations.{Equation, assignment, gated, gate_inputs, gate_outputs, outputs_among}
use Rattle.eq_analysis.specs.Measuring.{AllSmall, IsFit}
use Rattle.eq_flatten.specs.declared.driving.Slot.{Slot}
use Rattle.eq_flatten.specs.Equating.{AddsEquations, AreDriven}
use Rattle.eq_flatten.specs.Gating.{outputs_of, AreBits, HasInputs}
use Rattle.eq_flatten.specs.Items.{gate_cost, gate_equations, AreReady, IsReady}
use Rattle.eq_flatten.specs.Rendering.{part_costs}
use Rattle.eq_flatten.proofs.Gated.{bits_own}
use Rattle.eq_flatten.proofs.Making.{extends_itself, extends_twice, join_costs}

module _ (nets : List NetInfo) where
  pub adds_nothing : (words : List Tree) (slots : List Slot) → AddsEquations nets words words slots slots [] 0
  adds_nothing words slots = record {
    extends = extends_itself words;
    words = λ are. are;
    size = refl;
    driven = λ earlier so_far. subst (λ es. AreDriven nets words es slots) (sym (append-nil earlier)) so_far;
    costs = omega arith;
  }

  pub adds_then : (a b c : List Tree) (x y z : List Slot) (es fs : List Equation) (m n : ℕ)
      → AddsEquations nets a b x y es m → AddsEquations nets b c y z fs n
      → AddsEquations nets a c x z (es ++ fs) (m + n)
  adds_then a b c x y z es fs m n one other = record {
    extends = extends_twice a b c one.extends other.extends;
    words = λ are. other.words (one.words are);
    size = other.size ∙ one.size;
    driven = λ earlier so_far.
        subst (λ gs. AreDriven nets c gs z) (append_assoc earlier es fs)
        (other.driven (earlier ++ es) (one.driven earlier so_far));
    costs = (let p = one.costs in let q = other.costs in omega (arith, p, q));
  }

  pub adds_more : (a b : List Tree) (x y : List Slot) (es : List Equation) (m n : ℕ) → m ≤ n →
      AddsEquations nets a b x y es m → AddsEquations nets a b x y es n
  adds_more a b x y es m n most h = record {
    extends = h.extends;
    words = h.words;
    size = h.size;
    driven = h.driven;
    costs = (let p = h.costs in omega (arith, p, most));
  }

  -- one more of those that have equations and cost
  pub adds_each : {X : Type 0} (f : X → List Equation) (g : X → ℕ) (is : List X) (i : X) (a b c : List Tree)
      (x y z : List Slot) → AddsEquations nets a b x y (flat_map f is) (sum_by g is) → AddsEquations nets b c y z (f i) (g i)
      → AddsEquations nets a c x z (flat_map f (is ++ i ∷ [])) (sum_by g (is ++ i ∷ []))
  adds_each f g is i a b c x y z so_far one =
      let equations : flat_map f (is ++ i ∷ []) ≡ flat_map f is ++ f i =
      flat_map-append f is (i ∷ []) ∙ ap (λ es. flat_map f is ++ es) (append-nil (f i)) in
      let costs : sum_by g (is ++ i ∷ []) ≡ sum_by g is + g i =
      (let p = sum_by-append g is (i ∷ []) in
      let o : sum_by g (i ∷ []) ≡ 0 + g i = refl in
      omega (arith, p, o)) in
      subst (λ es. AddsEquations nets a c x z es (sum_by g (is ++ i ∷ []))) (sym equations)
      (subst (λ n. AddsEquations nets a c x z (flat_map f is ++ f i) n) (sym costs)
      (adds_then a b c x y z (flat_map f is) (f i) (sum_by g is) (g i) so_far one))

taken_suc : (is : List Item) (k : ℕ) (i : Item) → k < length is → i ≡ slice_index_or is k i →
    map item_tree (take (suc k) is) ≡ map item_tree (take k is) ++ item_tree i ∷ []
taken_suc [] k i inside is = absurd (omega (arith, inside))
taken_suc (x ∷ xs) zero i inside is = ap (λ y. item_tree y ∷ []) (sym is)
taken_suc (x ∷ xs) (suc k) i inside is = ap (λ ts. item_tree x ∷ ts) (taken_suc xs k i (omega (arith, inside)) is)

-- the items up to one more
pub taken_item : (is : List Item) (k : ℕ) (i : Item) → k < length is → i ≡ slice_index_or is k i →
    map item_tree (take (k + 1) is) ≡ map item_tree (take k is) ++ item_tree i ∷ []
taken_item is k i inside eq =
    let next : suc k ≡ k + 1 = omega arith in
    subst (λ m. map item_tree (take m is) ≡ map item_tree (take k is) ++ item_tree i ∷ []) next
    (taken_suc is k i inside eq)

-- each item is ready
pub ready_at : (nets : List NetInfo) (names : List Name) (from : ℕ) (is : List Item) (k : ℕ) (i : Item) →
    k < length is → i ≡ slice_index_or is k i → AreReady nets names from (map item_tree is) →
    IsReady nets names from (item_tree i)
ready_at nets names from [] k i inside is h = absurd (omega (arith, inside))
ready_at nets names from (x ∷ xs) zero i inside is h = subst (λ y. IsReady nets names from (item_tree y)) (sym is) h.0
ready_at nets names from (x ∷ xs) (suc k) i inside is h =
    ready_at nets names from xs k i (omega (arith, inside)) is h.1

-- ---- terminals

module _ (nets : List NetInfo) (names : List Name) (from : ℕ) where
  pub fit_front : (ts : List ExprTree) (n : ℕ) → IsFit nets names from (join_all ts) →
      IsFit nets names from (join_all (take n ts))
  fit_front ts zero h = tt
  fit_front [] (suc n) h = tt
  fit_front (t ∷ ts) (suc n) h = (h.0, fit_front ts n h.1)

  pub fit_rest : (ts : List ExprTree) (n : ℕ) → IsFit nets names from (join_all ts) →
      IsFit nets names from (join_all (drop n ts))
  fit_rest ts zero h = h
  fit_rest [] (suc n) h = tt
  fit_rest (t ∷ ts) (suc n) h = fit_rest ts n h.1

module _ (s : Scope) where
  pub bits_front : (ts : List ExprTree) (n : ℕ) → AreBits s ts → AreBits s (take n ts)
  bits_front ts zero h = tt
  bits_front [] (suc n) h = tt
  bits_front (t ∷ ts) (suc n) h = (h.0, bits_front ts n h.1)

  pub bits_rest : (ts : List ExprTree) (n : ℕ) → AreBits s ts → AreBits s (drop n ts)
  bits_rest ts zero h = h
  bits_rest [] (suc n) h = tt
  bits_rest (t ∷ ts) (suc n) h = bits_rest ts n h.1

  pub small_rest : (ts : List ExprTree) (n : ℕ) → AllSmall s ts → AllSmall s (drop n ts)
  small_rest ts zero h = h
  small_rest [] (suc n) h = tt
  small_rest (t ∷ ts) (suc n) h = small_rest ts n h.1

  rest_costs : (ts : List ExprTree) (n : ℕ) → part_costs s (drop n ts) ≤ sum_by (λ e. cost s e (own s e)) ts
  rest_costs [] zero = omega arith
  rest_costs [] (suc n) = omega arith
  rest_costs (t ∷ ts) zero =
      (let h = rest_costs ts 0 in let c = sum_by-cons (λ e. cost s e (own s e)) t ts in omega (arith, h, c))
  rest_costs (t ∷ ts) (suc n) =
      (let h = rest_costs ts n in let c = sum_by-cons (λ e. cost s e (own s e)) t ts in omega (arith, h, c))

-- how many are outputs, of terminals of the code and of their trees
pub outputs_are : (k : GateKind) (ts : List ExprTree) (n : ℕ) → length ts ≡ n → outputs_among k ts ≡ outputs_of k n
outputs_are kind.And ts n e = refl
outputs_are kind.Nand ts n e = refl
outputs_are kind.Or ts n e = refl
outputs_are kind.Nor ts n e = refl
outputs_are kind.Xor ts n e = refl
outputs_are kind.Xnor ts n e = refl
outputs_are kind.Buf ts n e = ap (λ m. m - 1) e
outputs_are kind.Not ts n e = ap (λ m. m - 1) e

-- a buffer and an inverter have one input
pub inputs_left : (k : GateKind) (n m : ℕ) → 1 < n → m ≡ n - outputs_of k n → HasInputs k m
inputs_left kind.And n m two is = tt
inputs_left kind.Nand n m two is = tt
inputs_left kind.Or n m two is = tt
inputs_left kind.Nor n m two is = tt
inputs_left kind.Xor n m two is = tt
inputs_left kind.Xnor n m two is = tt
inputs_left kind.Buf n m two is = omega (arith, two, is)
inputs_left kind.Not n m two is = omega (arith, two, is)

outputs_some : (k : GateKind) (n : ℕ) → 1 < n → 0 < outputs_of k n
outputs_some kind.And n two = omega arith
outputs_some kind.Nand n two = omega arith
outputs_some kind.Or n two = omega arith
outputs_some kind.Nor n two = omega arith
outputs_some kind.Xor n two = omega arith
outputs_some kind.Xnor n two = omega arith
outputs_some kind.Buf n two = omega (arith, two)
outputs_some kind.Not n two = omega (arith, two)

outputs_most : (k : GateKind) (n : ℕ) → 1 < n → outputs_of k n ≤ n
outputs_most kind.And n two = omega (arith, two)
outputs_most kind.Nand n two = omega (arith, two)
outputs_most kind.Or n two = omega (arith, two)
outputs_most kind.Nor n two = omega (arith, two)
outputs_most kind.Xor n two = omega (arith, two)
outputs_most kind.Xnor n two = omega (arith, two)
outputs_most kind.Buf n two = omega (arith, two)
outputs_most kind.Not n two = omega (arith, two)

-- the outputs and the inputs of a gate, as slices of the code
pub outputs_split : (k : GateKind) (terms front : List Expr) (n : ℕ) → n ≡ outputs_of k (length terms) →
    front ≡ take n terms → map expr_tree front ≡ gate_outputs k (map expr_tree terms)
outputs_split k terms front n count is =
    ap (λ ts. map expr_tree ts) is
    ∙ sym (take-map expr_tree n terms)
    ∙ ap (λ m. take m (map expr_tree terms))
    (count ∙ sym (outputs_are k (map expr_tree terms) (length terms) (length-map terms expr_tree)))

pub inputs_split : (k : GateKind) (terms back : List Expr) (n : ℕ) → n ≡ outputs_of k (length terms) →
    back ≡ drop n terms → map expr_tree back ≡ gate_inputs k (map expr_tree terms)
inputs_split k terms back n count is =
    ap (λ ts. map expr_tree ts) is
    ∙ sym (drop-map expr_tree n terms)
    ∙ ap (λ m. drop m (map expr_tree terms))
    (count ∙ sym (outputs_are k (map expr_tree terms) (length terms) (length-map terms expr_tree)))

-- ---- what a gate costs

-- a gate's word costs at most four nodes an input and one more, besides its inputs
gated_cost : (nets : List NetInfo) (s : Scope) (k : GateKind) (es : List ExprTree) → AreBits s es →
    cost s (gated k (join_all es)) 1 ≤ (4 * length es + 1) + part_costs s es
gated_cost nets s kind.And es bits = (let b = bits_own s es bits in let c = join_costs nets s es (own s (join_all es)) in omega (arith, b, c))
gated_cost nets s kind.Nand es bits = (let b = bits_own s es bits in let c = join_costs nets s es (own s (join_all es)) in omega (arith, b, c))
gated_cost nets s kind.Or es bits = (let b = bits_own s es bits in let c = join_costs nets s es (own s (join_all es)) in omega (arith, b, c))
gated_cost nets s kind.Nor es bits = (let b = bits_own s es bits in let c = join_costs nets s es (own s (join_all es)) in omega (arith, b, c))
gated_cost nets s kind.Xor es bits = (let b = bits_own s es bits in let c = join_costs nets s es (own s (join_all es)) in omega (arith, b, c))
gated_cost nets s kind.Xnor es bits = (let b = bits_own s es bits in let c = join_costs nets s es (own s (join_all es)) in omega (arith, b, c))
gated_cost nets s kind.Buf es bits = (let c = join_costs nets s es 1 in omega (arith, c))
gated_cost nets s kind.Not es bits = (let c = join_costs nets s es 1 in omega (arith, c))

some_outputs : (k : GateKind) (ts : List ExprTree) → 1 < length ts → 0 < length (gate_outputs k ts)
some_outputs k ts two =
    (let l = length-take (outputs_among k ts) ts in
    let o = outputs_are k ts (length ts) refl in
    let m = outputs_some k (length ts) two in
    let most = outputs_most k (length ts) two in
    omega (arith, l, o, m, most, two))

at_least : (a b : ℕ) → 0 < a → b ≤ a * b
at_least zero b some = absurd (omega (arith, some))
at_least (suc a) b some = (let e : suc a * b ≡ b + a * b = omega arith in omega (arith, e))

-- the equations of a gate, told of its terminals
pub gate_adds : (nets : List NetInfo) (s : Scope) (k : GateKind) (terms outs ins : List ExprTree) (a b : List Tree)
    (x y : List Slot) → 1 < length terms → outs ≡ gate_outputs k terms → ins ≡ gate_inputs k terms → AreBits s terms
    → AddsEquations nets a b x y (map (λ t. assignment s t s (gated k (join_all ins))) outs)
    (cost s (gated k (join_all ins)) 1)
    → AddsEquations nets a b x y (gate_equations s k terms) (gate_cost s k terms)
gate_adds nets s k terms outs ins a b x y two front back bits made =
    let rest = gate_inputs k terms in
    let n = 4 * length rest + 1 in
    let outputs = length (gate_outputs k terms) in
    let one = gated_cost nets s k rest (bits_rest s terms (outputs_among k terms) bits) in
    let parts = rest_costs s terms (outputs_among k terms) in
    let many = at_least outputs n (some_outputs k terms two) in
    adds_more nets a b x y (gate_equations s k terms) (cost s (gated k (join_all rest)) 1) (gate_cost s k terms)
    (omega (arith, one, parts, many))
    (subst (λ is. AddsEquations nets a b x y (map (λ t. assignment s t s (gated k (join_all is))) (gate_outputs k terms))
    (cost s (gated k (join_all is)) 1)) back
    (subst (λ os. AddsEquations nets a b x y (map (λ t. assignment s t s (gated k (join_all ins))) os)
    (cost s (gated k (join_all ins)) 1)) front made))
