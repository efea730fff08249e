-- The sorted plan of a net is the net's graph: wherever the inner nodes compute, the wired nodes compute with the values
-- of their new nodes, so each bit's own node has what the bit's driver gives.
use Rattle.std.proofs.Common.{◌≡◌, ℕ, zero, suc, ◌<◌, List, Bool, true, false, ◌==◌, ◌&&◌, Option, None, min, max, length, Result, Ok, Err, IfOk, refl, arith, sym, ap, subst, ◌∙◌, inl, inr}
use Rattle.std.proofs.lemmas.Bool.{cases_lt, or_cases, or_left, or_right, false_from_ne_true}
use Rattle.std.proofs.lemmas.Bool.Decides.{Decides-eqb}
use Rattle.std.proofs.lemmas.List.{get_or_past}
use Rattle.eq_model.specs.System.{Values, IsDriver, IsHeld, IsSystem, Meets}
use Rattle.eq_model.specs.Cut.{any_below}
use Rattle.eq_model.specs.Graph.{DrivesNode, InnerComputes, is_own}
use Rattle.eq_bits.specs.declared.node.Node.{Node}
use Rattle.eq_bits.specs.declared.node.Node.TheVariants.{Const, Input, Not, And, Xor, Mux, Buf, Reg}
use Rattle.eq_bits.specs.declared.node.Graph.{Graph}
use Rattle.eq_bits.specs.Node.{driver_of, node_at, xor, system_of as system_of_nodes}
use Rattle.eq_bits.specs.Shared.{is_gate, normal_form}
use Rattle.eq_net.specs.declared.types.NetInfo.{NetInfo}
use Rattle.eq_net.specs.declared.types.Driver.{Driver}
use Rattle.eq_net.specs.declared.types.Driver.TheVariants.{Input as InputDriver, Undriven, Expr, Reg as RegDriver}
use Rattle.eq_net.specs.Net.{Parts, bits_of, driver_at, source_of, system_of}
use Rattle.eq_net.specs.Tree.{Tree}
use Rattle.eq_blast.specs.Blasted.{IsBlasted, IsOwnNode, inputs_before, own_of}
use Rattle.eq_blast.specs.inner.Planned.{AreOwnNumbers, IsPlan, own_node, own_node_of}
use Rattle.eq_blast.specs.inner.Sorting.{IsSorted, is_made, is_there, new_of, renamed}
use Rattle.eq_blast.specs.inner.Wiring.{Computes, IsGiven, IsWired, drive_of, node_of, source_at}
use Rattle.eq_blast.proofs.Plans.{bit_there, gate_or_bit, own_alone, plan_bit, plan_gate, size}
use Rattle.eq_blast.proofs.Waiting.{copy_kind}

-- ---- tests on the numbers below another

any_from : (n : ℕ) (test : ℕ → Bool) (i : ℕ) → i < n → test i ≡ true → any_below n test ≡ true
any_from zero test i lt h = absurd (omega arith)
any_from (suc n) test i lt h =
    elim (cases_lt i n) [
      | inl less ↦ or_right (test n) (any_below n test) (any_from n test i less h)
      | inr more ↦ or_left (test n) (any_below n test)
          (let e : i ≡ n = omega arith in let P : ℕ → Type 0 = λ x. test x ≡ true in subst P e h)
    ]

any_some : (n : ℕ) (test : ℕ → Bool) → any_below n test ≡ true → (i : ℕ) × (i < n) × (test i ≡ true)
any_some zero test h = absurd (cc)
any_some (suc n) test h =
    elim (or_cases (test n) (any_below n test) h) [
      | inl e ↦ (n, omega arith, e)
      | inr e ↦ (let t : (i : ℕ) × (i < n) × (test i ≡ true) = any_some n test e in (t.0, omega arith, t.2))
    ]

-- ---- nodes

and_either : (x : Values) (a b : ℕ) → x (min a b) && x (max a b) ≡ x a && x b
and_either x a b = grind arith

xor_either : (x : Values) (a b : ℕ) → xor (x (min a b)) (x (max a b)) ≡ xor (x a) (x b)
xor_either x a b = grind arith

-- what a new node computes the old one computes from the values of the new operands
pub meets_renamed : (f : ℕ → ℕ) (x : Values) (y : Bool) (node : Node) → is_gate node ≡ true →
    Meets (driver_of (normal_form (renamed f node))) x y → Meets (driver_of node) (λ m. x (f m)) y
meets_renamed f x y (Const b) gate h = h
meets_renamed f x y (Input i) gate h = absurd (cc)
meets_renamed f x y (Not a) gate h = h
meets_renamed f x y (And a b) gate h = h ∙ and_either x (f a) (f b)
meets_renamed f x y (Xor a b) gate h = h ∙ xor_either x (f a) (f b)
meets_renamed f x y (Mux s a b) gate h = h
meets_renamed f x y (Buf a) gate h = absurd (cc)
meets_renamed f x y (Reg next init) gate h = absurd (cc)

held_alone : (node : Node) → IsHeld (driver_of node) → is_gate node ≡ false
held_alone (Const b) held = absurd held
held_alone (Input i) held = refl
held_alone (Not a) held = absurd held
held_alone (And a b) held = absurd held
held_alone (Xor a b) held = absurd held
held_alone (Mux s a b) held = absurd held
held_alone (Buf a) held = absurd held
held_alone (Reg next init) held = refl

own_kind : (f : ℕ → ℕ) (i drive : ℕ) (d : Driver) → IsOwnNode i d (normal_form (renamed f (own_node d i drive)))
own_kind f i drive InputDriver = refl
own_kind f i drive Undriven = (f drive, refl)
own_kind f i drive (Expr w j) = (f drive, refl)
own_kind f i drive (RegDriver init w j) = (f drive, refl)

-- an own node follows its bit's driver
module _ (nets : List NetInfo) (words : List Tree) (nodes : List Node) (n : ℕ) (own f : ℕ → ℕ) (v : Values → Values)
    (same : (x : Values) (b : ℕ) → b < n → v x b ≡ x (own b)) where
  own_drives : (i drive : ℕ) (d : Driver) → IsDriver n (source_of nets words d) →
      ((x : Values) → InnerComputes (system_of_nodes nodes) n own x →
      IsGiven (source_of nets words d) (v x) (x (f drive))) →
      DrivesNode (system_of_nodes nodes) n own (source_of nets words d)
      (driver_of (normal_form (renamed f (own_node d i drive))))
  own_drives i drive InputDriver sound h = tt
  own_drives i drive Undriven sound h = h
  own_drives i drive (Expr w j) sound h = λ x inner.
      h x inner ∙ sound.respects (v x) (λ b. x (own b)) (λ b c. same x b (sound.bounded b c))
  own_drives i drive (RegDriver init w j) sound h = (
    refl,
    λ x inner.
        h x inner ∙ sound.respects (v x) (λ b. x (own b)) (λ b c. same x b (sound.bounded b c)),
  )

module _ (net : Parts) (wires : List Node) (drives : List ℕ) (plan : List Node) (places : List (Option ℕ))
    (nodes : List Node) (bits : List ℕ) (wired : IsWired net wires drives) (is : IsPlan net wires drives plan)
    (sound : IsSystem (system_of net)) (sorted : IsSorted plan places nodes)
    (numbered : AreOwnNumbers places (bits_of net.nets) bits) where
  f : ℕ → ℕ
  f m = new_of places m

  in_plan : (m : ℕ) → m < length wires → m < length plan
  in_plan m lt = (let e : length plan ≡ length wires = size net wires drives plan wired is in omega arith)

  bit_in_plan : (b : ℕ) → b < bits_of net.nets → node_of b < length plan
  bit_in_plan b lt = in_plan (node_of b) (bit_there net wires drives plan wired is b lt)

  -- the own node of a bit
  own_is : (b : ℕ) → b < bits_of net.nets →
      node_at nodes (own_of bits b) ≡ normal_form (renamed (new_of places) (own_node_of net drives b))
  own_is b lt = ap (node_at nodes) (numbered.each b lt) ∙ sorted.linked (node_of b) (bit_in_plan b lt)
      ∙ ap (λ (x : Node). normal_form (renamed (new_of places) x)) (plan_bit net wires drives plan wired is b lt)

  pub kinds : (b : ℕ) → b < bits_of net.nets →
      IsOwnNode (inputs_before net b) (driver_at net b) (node_at nodes (own_of bits b))
  kinds b lt = (let P : Node → Type 0 = λ x. IsOwnNode (inputs_before net b) (driver_at net b) x in
      subst P (sym (own_is b lt))
      (own_kind (new_of places) (inputs_before net b) (drive_of drives b) (driver_at net b)))

  there : (m : ℕ) → m < length plan → new_of places m < length nodes
  there m lt = sorted.placing.there m (sorted.all m lt)

  own_there : (b : ℕ) → b < bits_of net.nets → own_of bits b < length nodes
  own_there b lt = (let e = numbered.each b lt in let h = there (node_of b) (bit_in_plan b lt) in omega arith)

  -- a node of the plan is a gate where its new node is one
  same_kind : (m : ℕ) → m < length plan → is_gate (node_at nodes (new_of places m)) ≡ is_gate (node_at plan m)
  same_kind m lt = copy_kind (new_of places) (node_at plan m) (node_at nodes (new_of places m))
      (sorted.placing.copies m (sorted.all m lt))

  bit_alone : (b : ℕ) → b < bits_of net.nets → is_gate (node_at plan (node_of b)) ≡ false
  bit_alone b lt = ap is_gate (plan_bit net wires drives plan wired is b lt)
      ∙ own_alone (inputs_before net b) (drive_of drives b) (driver_at net b)

  once : (a b : ℕ) → a < bits_of net.nets → b < bits_of net.nets → own_of bits a ≡ own_of bits b → a ≡ b
  once a b la lb same =
      let e = sorted.placing.apart (node_of a) (node_of b) (sorted.all (node_of a) (bit_in_plan a la))
      (sorted.all (node_of b) (bit_in_plan b lb))
      (sym (numbered.each a la) ∙ same ∙ numbered.each b lb) (bit_alone a la) in
      omega arith

  -- the own nodes are no gates
  own_alone_at : (k : ℕ) → is_own (bits_of net.nets) (own_of bits) k ≡ true → is_gate (node_at nodes k) ≡ false
  own_alone_at k own =
      let t = any_some (bits_of net.nets) (λ b. own_of bits b == k) own in
      let e : own_of bits t.0 ≡ k = (Decides-eqb (own_of bits t.0) k).0 t.2 in
      ap (λ (j : ℕ). is_gate (node_at nodes j)) (sym e ∙ numbered.each t.0 t.1)
      ∙ same_kind (node_of t.0) (bit_in_plan t.0 t.1) ∙ bit_alone t.0 t.1

  owns : (b k : ℕ) → b < bits_of net.nets → own_of bits b ≡ k → is_own (bits_of net.nets) (own_of bits) k ≡ true
  owns b k lt same = any_from (bits_of net.nets) (λ j. own_of bits j == k) b lt ((Decides-eqb (own_of bits b) k).1 same)

  -- what is made is a node of the plan
  made_there : (m : ℕ) → is_made places m ≡ true → m < length plan
  made_there m made =
      elim (cases_lt m (length places)) [
        | inl less ↦ (let e = sorted.placing.count in omega arith)
        | inr more ↦ absurd (
            let none : is_made places m ≡ false = ap is_there (get_or_past places m None more) in
            let g : true ≡ false = sym made ∙ none in
            cc)
      ]

  -- a node that is an input or a register is a bit's own
  others : (k : ℕ) → k < length nodes → is_own (bits_of net.nets) (own_of bits) k ≡ false →
      IsHeld (driver_of (node_at nodes k)) → ⊥
  others k lt own held =
      let alone = held_alone (node_at nodes k) held in
      let t = sorted.placing.only k lt alone in
      let less = made_there t.0 t.1 in
      let plain : is_gate (node_at plan t.0) ≡ false = sym (same_kind t.0 less)
      ∙ ap (λ (j : ℕ). is_gate (node_at nodes j)) t.2 ∙ alone in
      let count : length plan ≡ length wires = size net wires drives plan wired is in
      let wire : t.0 < length wires = omega arith in
      elim (gate_or_bit (bits_of net.nets) wires wired.open_graph t.0 wire) [
        | inl gate ↦ (
            let g : true ≡ false = sym gate ∙ ap is_gate (sym (plan_gate net wires drives plan wired is t.0 wire gate))
            ∙ plain in
            absurd (cc))
        | inr b ↦ (
            let e : own_of bits b.0 ≡ k = numbered.each b.0 b.1 ∙ ap (new_of places) b.2 ∙ t.2 in
            let g : true ≡ false = sym (owns b.0 k b.1 e) ∙ own in
            absurd (cc))
      ]

  -- the values of the new nodes, at the wired nodes
  seen : Values → Values
  seen x m = x (new_of places m)

  wires_compute : (x : Values) → InnerComputes (system_of_nodes nodes) (bits_of net.nets) (own_of bits) x →
      Computes wires (λ m. x (new_of places m))
  wires_compute x inner m lt gate =
      let same : node_at plan m ≡ node_at wires m = plan_gate net wires drives plan wired is m lt gate in
      let linked : node_at nodes (new_of places m) ≡ normal_form (renamed (new_of places) (node_at wires m)) =
      sorted.linked m (in_plan m lt) ∙ ap (λ (y : Node). normal_form (renamed (new_of places) y)) same in
      let kind : is_gate (node_at nodes (new_of places m)) ≡ true =
      same_kind m (in_plan m lt) ∙ ap is_gate same ∙ gate in
      let free : is_own (bits_of net.nets) (own_of bits) (new_of places m) ≡ false =
      false_from_ne_true (is_own (bits_of net.nets) (own_of bits) (new_of places m))
      (λ own. (let g : true ≡ false = sym kind ∙ own_alone_at (new_of places m) own in absurd (cc))) in
      let P : Node → Type 0 = λ y. Meets (driver_of y) x (x (new_of places m)) in
      meets_renamed (new_of places) x (x (new_of places m)) (node_at wires m) gate
      (subst P linked (inner (new_of places m) (there m (in_plan m lt)) free))

  driven : (b : ℕ) → b < bits_of net.nets → DrivesNode (system_of_nodes nodes) (bits_of net.nets) (own_of bits)
      (source_at net b) (driver_of (node_at nodes (own_of bits b)))
  driven b lt =
      let P : Node → Type 0 = λ y. DrivesNode (system_of_nodes nodes) (bits_of net.nets) (own_of bits)
      (source_at net b) (driver_of y) in
      subst P (sym (own_is b lt))
      (own_drives net.nets net.words nodes (bits_of net.nets) (own_of bits) (new_of places)
      (λ x c. x (new_of places (node_of c))) (λ x c lc. ap x (sym (numbered.each c lc)))
      (inputs_before net b) (drive_of drives b) (driver_at net b) (sound b lt)
      (λ x inner. wired.value b lt (λ m. x (new_of places m)) (wires_compute x inner)))

  pub blasted : IsBlasted net nodes bits
  blasted = record {
    count = numbered.count;
    kinds = kinds;
    follows = record {
      nodes = own_there;
      once = once;
      others = others;
      drivers = driven;
    };
  }

-- so the graph that has these nodes and numbers is the net's
pub order_blasted : {E : Type 0} (r : Result Graph E) (net : Parts) (wires : List Node) (drives : List ℕ)
    (plan : List Node) (places : List (Option ℕ)) (nodes : List Node) (n : ℕ) → IsWired net wires drives →
    IsPlan net wires drives plan → IsSystem (system_of net) → IsSorted plan places nodes → n ≡ bits_of net.nets →
    IfOk r (λ g. g.nodes ≡ nodes) → IfOk r (λ g. AreOwnNumbers places n g.bits) →
    IfOk r (λ g. IsBlasted net g.nodes g.bits)
order_blasted (Ok g) net wires drives plan places nodes n wired is sound sorted count same numbered =
    let P : List Node → Type 0 = λ ns. IsBlasted net ns g.bits in
    let Q : ℕ → Type 0 = λ k. AreOwnNumbers places k g.bits in
    subst P (sym same)
    (blasted net wires drives plan places nodes g.bits wired is sound sorted (subst Q count numbered))
order_blasted (Err e) net wires drives plan places nodes n wired is sound sorted count same numbered = tt
