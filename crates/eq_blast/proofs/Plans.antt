-- The plan, node by node: each gate as it is wired, and in the place of each bit its own node.
use Rattle.std.proofs.Common.{◌≡◌, ℕ, zero, suc, ◌<◌, ◌≤◌, ◌+◌, List, [], ◌∷◌, ◌++◌, true, false, slice_index_or, length, length-append, refl, arith, sym, ap, subst, ◌∙◌, ◌⊎◌, inl, inr}
use Rattle.std.proofs.lemmas.Bool.{cases_lt}
use Rattle.std.proofs.Math.ListN.{get_or-append}
use Rattle.std.proofs.Math.Seq.{get_or-append_seam}
use Rattle.std.proofs.lemmas.List.{get_or_default, get_or-map, length-map}
use Rattle.eq_bits.specs.declared.node.Node.{Node}
use Rattle.eq_bits.specs.declared.node.Node.TheVariants.{Const, Input, Not, And, Xor, Mux, Buf, Reg}
use Rattle.eq_bits.specs.Node.{AllNameInputs, IsNode, NamesInput, node_at}
use Rattle.eq_bits.specs.Shared.{is_gate}
use Rattle.eq_net.specs.declared.types.Driver.{Driver}
use Rattle.eq_net.specs.declared.types.Driver.TheVariants.{Input as InputDriver, Undriven, Expr, Reg as RegDriver}
use Rattle.eq_net.specs.Net.{Parts, bits_of, driver_at}
use Rattle.eq_blast.specs.Blasted.{inputs_before}
use Rattle.eq_blast.specs.inner.Planned.{AreOwn, IsPlan, own_node, own_node_of, planned}
use Rattle.eq_blast.specs.inner.Sorting.{IsWithin}
use Rattle.eq_blast.specs.inner.Wiring.{IsOpen, IsWired, drive_of, node_of}

gate_names : (n : ℕ) (node : Node) → is_gate node ≡ true → NamesInput n node
gate_names n (Const b) gate = tt
gate_names n (Input i) gate = absurd (cc)
gate_names n (Not a) gate = tt
gate_names n (And a b) gate = tt
gate_names n (Xor a b) gate = tt
gate_names n (Mux s a b) gate = tt
gate_names n (Buf a) gate = tt
gate_names n (Reg next init) gate = tt

gate_stays : (own : List Node) (node : Node) → is_gate node ≡ true → planned own node ≡ node
gate_stays own (Const b) gate = refl
gate_stays own (Input i) gate = absurd (cc)
gate_stays own (Not a) gate = refl
gate_stays own (And a b) gate = refl
gate_stays own (Xor a b) gate = refl
gate_stays own (Mux s a b) gate = refl
gate_stays own (Buf a) gate = refl
gate_stays own (Reg next init) gate = refl

wider : (n m : ℕ) (node : Node) → m ≤ n → IsNode n m node → IsNode n n node
wider n m (Const b) le is = tt
wider n m (Input i) le is = tt
wider n m (Not a) le is = omega arith
wider n m (And a b) le is = (omega arith, omega arith)
wider n m (Xor a b) le is = (omega arith, omega arith)
wider n m (Mux s a b) le is = (omega arith, omega arith, omega arith)
wider n m (Buf a) le is = omega arith
wider n m (Reg next init) le is = is

own_within : (n i drive : ℕ) (d : Driver) → drive < n → IsNode n n (own_node d i drive)
own_within n i drive InputDriver lt = tt
own_within n i drive Undriven lt = lt
own_within n i drive (Expr w j) lt = lt
own_within n i drive (RegDriver init w j) lt = lt

-- an own node is no gate
pub own_alone : (i drive : ℕ) (d : Driver) → is_gate (own_node d i drive) ≡ false
own_alone i drive InputDriver = refl
own_alone i drive Undriven = refl
own_alone i drive (Expr w j) = refl
own_alone i drive (RegDriver init w j) = refl

-- the driver of bit b, as the code reads it from the list
pub driver_is : (net : Parts) (drivers : List Driver) (b : ℕ) (d : Driver) → drivers ≡ net.drivers →
    b < length drivers → slice_index_or drivers b d ≡ driver_at net b
driver_is net drivers b d same lt =
    get_or_default drivers b d Undriven lt ∙ ap (λ (ds : List Driver). slice_index_or ds b Undriven) same

-- one own node more
pub own_more : (net : Parts) (drives : List ℕ) (b inputs : ℕ) (own : List Node) (driver : Driver) →
    driver ≡ driver_at net b → inputs ≡ inputs_before net b → AreOwn net drives b own →
    AreOwn net drives (b + 1) (own ++ own_node driver inputs (drive_of drives b) ∷ [])
own_more net drives b inputs own driver is before are =
    let node = own_node driver inputs (drive_of drives b) in
    let right : node ≡ own_node_of net drives b = rw (is, before) refl in
    record {
      count = (let e = length-append own (node ∷ []) in let f = are.count in omega arith);
      each = λ a lt. (
          elim (cases_lt a b) [
            | inl less ↦ get_or-append own (node ∷ []) (Const false) a (let f = are.count in omega arith)
                ∙ are.each a less
            | inr more ↦ (
                let here : length own ≡ a = (let f = are.count in omega arith) in
                let P : ℕ → Type 0 = λ k. node_at (own ++ node ∷ []) k ≡ own_node_of net drives b in
                let Q : ℕ → Type 0 = λ k. node_at (own ++ node ∷ []) a ≡ own_node_of net drives k in
                let same : b ≡ a = omega arith in
                subst Q same (subst P here (get_or-append_seam own node [] (Const false) ∙ right)))
          ]);
    }

module _ (n : ℕ) (nodes : List Node) (is : IsOpen n nodes) where
  -- each node is a gate or stands for a bit
  pub gate_or_bit : (m : ℕ) → m < length nodes →
      (is_gate (node_at nodes m) ≡ true) ⊎ ((b : ℕ) × (b < n) × (node_of b ≡ m))
  gate_or_bit zero lt = inl (ap is_gate is.zero_node)
  gate_or_bit (suc zero) lt = inl (ap is_gate is.one_node)
  gate_or_bit (suc (suc b)) lt =
      elim (cases_lt b n) [
        | inl less ↦ inr (b, less, omega arith)
        | inr more ↦ inl (is.gates (suc (suc b)) (omega arith) lt)
      ]

  -- the inputs are the bits
  pub names_bits : AllNameInputs n nodes
  names_bits m lt = go (gate_or_bit m lt)
    where
      go : (is_gate (node_at nodes m) ≡ true) ⊎ ((b : ℕ) × (b < n) × (node_of b ≡ m)) → NamesInput n (node_at nodes m)
      go (inl gate) = gate_names n (node_at nodes m) gate
      go (inr t) =
          let P : ℕ → Type 0 = λ k. NamesInput n (node_at nodes k) in
          let Q : Node → Type 0 = λ x. NamesInput n x in
          subst P t.2 (subst Q (sym (is.bits t.0 t.1)) t.1)

module _ (net : Parts) (nodes : List Node) (drives : List ℕ) (plan : List Node) (wired : IsWired net nodes drives)
    (is : IsPlan net nodes drives plan) where
  pub size : length plan ≡ length nodes
  size = ap length is.2 ∙ length-map nodes (planned is.0)

  at : (m : ℕ) → m < length nodes → node_at plan m ≡ planned is.0 (node_at nodes m)
  at m lt = ap (λ (ns : List Node). node_at ns m) is.2
      ∙ get_or-map (planned is.0) nodes m (Const false) (Const false) lt

  pub plan_gate : (m : ℕ) → m < length nodes → is_gate (node_at nodes m) ≡ true → node_at plan m ≡ node_at nodes m
  plan_gate m lt gate = at m lt ∙ gate_stays is.0 (node_at nodes m) gate

  pub bit_there : (b : ℕ) → b < bits_of net.nets → node_of b < length nodes
  bit_there b lt = (let e = wired.open_graph.room in omega arith)

  pub plan_bit : (b : ℕ) → b < bits_of net.nets → node_at plan (node_of b) ≡ own_node_of net drives b
  plan_bit b lt = at (node_of b) (bit_there b lt) ∙ ap (planned is.0) (wired.open_graph.bits b lt) ∙ is.1.each b lt

  pub within : IsWithin plan
  within m lt = go (gate_or_bit (bits_of net.nets) nodes wired.open_graph m less)
    where
      less : m < length nodes
      less = (let e : length plan ≡ length nodes = size in omega arith)

      enough : IsNode (length nodes) (length nodes) (node_at plan m) →
          IsNode (length plan) (length plan) (node_at plan m)
      enough h = (let P : ℕ → Type 0 = λ k. IsNode k k (node_at plan m) in subst P (sym size) h)

      go : (is_gate (node_at nodes m) ≡ true) ⊎ ((b : ℕ) × (b < bits_of net.nets) × (node_of b ≡ m)) →
          IsNode (length plan) (length plan) (node_at plan m)
      go (inl gate) =
          let P : Node → Type 0 = λ x. IsNode (length nodes) (length nodes) x in
          enough (subst P (sym (plan_gate m less gate))
          (wider (length nodes) m (node_at nodes m) (let h : m < length nodes = less in omega arith)
          (wired.open_graph.operands m less)))
      go (inr t) =
          let P : ℕ → Type 0 = λ k. IsNode (length nodes) (length nodes) (node_at plan k) in
          let Q : Node → Type 0 = λ x. IsNode (length nodes) (length nodes) x in
          enough (subst P t.2 (subst Q (sym (plan_bit t.0 t.1))
          (own_within (length nodes) (inputs_before net t.0) (drive_of drives t.0) (driver_at net t.0)
          (wired.there t.0 t.1))))
