-- The plan of a net can be made: reads within a cycle return to no bit, and a bit's own node waits for what drives the
-- bit alone, which reads no more bits than the driver does.
use Rattle.std.proofs.Common.{◌≡◌, ℕ, zero, suc, ◌<◌, List, Bool, true, false, None, Contains, length, refl, arith, sym, subst, ◌⊎◌, inl, inr}
use Rattle.eq_model.specs.System.{Driver as Source, input, undriven, equation, register, IsSystem, IsDriver, Reads, reads_now, reads_ever}
use Rattle.eq_bits.specs.declared.node.Node.{Node}
use Rattle.eq_bits.specs.declared.node.Node.TheVariants.{Const, Input, Not, And, Xor, Mux, Buf, Reg}
use Rattle.eq_bits.specs.Node.{IsNode, node_at}
use Rattle.eq_bits.specs.Shared.{is_gate}
use Rattle.eq_net.specs.declared.types.NetInfo.{NetInfo}
use Rattle.eq_net.specs.declared.types.Driver.{Driver}
use Rattle.eq_net.specs.declared.types.Driver.TheVariants.{Input as InputDriver, Undriven, Expr, Reg as RegDriver}
use Rattle.eq_net.specs.Net.{Parts, bits_of, driver_at, source_of, system_of}
use Rattle.eq_net.specs.Tree.{Tree}
use Rattle.eq_blast.specs.Blasted.{inputs_before}
use Rattle.eq_blast.specs.inner.Planned.{IsPlan, own_node}
use Rattle.eq_blast.specs.inner.Sorting.{IsClosedTo, unless, waits_for}
use Rattle.eq_blast.specs.inner.Wiring.{HasBits, HasOperands, IsClosed, IsWired, drive_of, node_of, source_at}
use Rattle.eq_blast.proofs.Plans.{bit_there, gate_or_bit, plan_bit, plan_gate, size}

-- what is in the set isn't waited for
none : (x : Bool) (a : ℕ) → x ≡ true → unless x a ≡ None
none true a e = refl
none false a e = absurd (cc)

module _ (d : ℕ → Bool) where
  gate_waits : (node : Node) → is_gate node ≡ true → HasOperands d node → waits_for d node ≡ None
  gate_waits (Const b) gate has = refl
  gate_waits (Input i) gate has = refl
  gate_waits (Not a) gate has = none (d a) a has
  gate_waits (And a b) gate has = rw (has.0, has.1) refl
  gate_waits (Xor a b) gate has = rw (has.0, has.1) refl
  gate_waits (Mux s a b) gate has = rw (has.0, has.1, has.2) refl
  gate_waits (Buf a) gate has = none (d a) a has
  gate_waits (Reg next init) gate has = refl

  -- a gate whose operands stand before it
  has_operands : (n m : ℕ) (node : Node) → is_gate node ≡ true → IsNode n m node → ((a : ℕ) → a < m → d a ≡ true) →
      HasOperands d node
  has_operands n m (Const b) gate is all = tt
  has_operands n m (Input i) gate is all = tt
  has_operands n m (Not a) gate is all = all a is
  has_operands n m (And a b) gate is all = (all a is.0, all b is.1)
  has_operands n m (Xor a b) gate is all = (all a is.0, all b is.1)
  has_operands n m (Mux s a b) gate is all = (all s is.0, all a is.1, all b is.2)
  has_operands n m (Buf a) gate is all = all a is
  has_operands n m (Reg next init) gate is all = absurd (cc)

  -- an own node waits for what drives the bit, where that is read within a cycle
  own_waits : (nets : List NetInfo) (words : List Tree) (driver : Driver) (i drive : ℕ) →
      (HasBits d (reads_ever (source_of nets words driver)) → d drive ≡ true) →
      HasBits d (reads_now (source_of nets words driver)) → waits_for d (own_node driver i drive) ≡ None
  own_waits nets words InputDriver i drive h has = refl
  own_waits nets words Undriven i drive h has = none (d drive) drive (h has)
  own_waits nets words (Expr w j) i drive h has = none (d drive) drive (h has)
  own_waits nets words (RegDriver init w j) i drive h has = refl

reads_bounded : (n : ℕ) (s : Source) → IsDriver n s → (r : ℕ) → Contains (reads_now s) r → r < n
reads_bounded n input h r c = absurd (let lt : c.0 < 0 = c.1 in omega arith)
reads_bounded n undriven h r c = absurd (let lt : c.0 < 0 = c.1 in omega arith)
reads_bounded n (equation e) h r c = h.bounded r c
reads_bounded n (register i e) h r c = absurd (let lt : c.0 < 0 = c.1 in omega arith)

module _ (net : Parts) (nodes : List Node) (drives : List ℕ) (plan : List Node) (wired : IsWired net nodes drives)
    (is : IsPlan net nodes drives plan) (sound : IsSystem (system_of net)) (height : ℕ → ℕ)
    (down : (a b : ℕ) → a < bits_of net.nets → Reads (system_of net) a b → height b < height a)
    (d : ℕ → Bool) (closed : IsClosedTo (length plan) plan d) where
  gates_closed : IsClosed nodes d
  gates_closed m lt gate has =
      let P : Node → Type 0 = λ x. waits_for d x ≡ None in
      closed m (let e = size net nodes drives plan wired is in omega arith)
      (subst P (sym (plan_gate net nodes drives plan wired is m lt gate)) (gate_waits d (node_at nodes m) gate has))

  bits_by_height : (k b : ℕ) → b < bits_of net.nets → height b < k → d (node_of b) ≡ true
  bits_by_height zero b lt less = absurd (omega arith)
  bits_by_height (suc k) b lt less =
      let P : Node → Type 0 = λ x. waits_for d x ≡ None in
      let there = bit_there net nodes drives plan wired is b lt in
      closed (node_of b) (let e = size net nodes drives plan wired is in omega arith)
      (subst P (sym (plan_bit net nodes drives plan wired is b lt))
      (own_waits d net.nets net.words (driver_at net b) (inputs_before net b) (drive_of drives b)
      (wired.reads b lt d gates_closed)
      (λ r c. (
      let lr : r < bits_of net.nets = reads_bounded (bits_of net.nets) (source_at net b) (sound b lt) r c in
      let lower : height r < height b = down b r lt c in
      bits_by_height k r lr (omega arith)))))

  bit_in : (b : ℕ) → b < bits_of net.nets → d (node_of b) ≡ true
  bit_in b lt = bits_by_height (suc (height b)) b lt (omega arith)

  one_in : (m : ℕ) → m < length nodes → ((a : ℕ) → a < m → d a ≡ true) →
      (is_gate (node_at nodes m) ≡ true) ⊎ ((b : ℕ) × (b < bits_of net.nets) × (node_of b ≡ m)) → d m ≡ true
  one_in m lt before (inl gate) = gates_closed m lt gate
      (has_operands d (length nodes) m (node_at nodes m) gate (wired.open_graph.operands m lt) before)
  one_in m lt before (inr t) = (let P : ℕ → Type 0 = λ x. d x ≡ true in subst P t.2 (bit_in t.0 t.1))

  in_order : (k m : ℕ) → m < k → m < length nodes → d m ≡ true
  in_order zero m less lt = absurd (omega arith)
  in_order (suc k) m less lt = one_in m lt (λ a before. in_order k a (omega arith) (omega arith))
      (gate_or_bit (bits_of net.nets) nodes wired.open_graph m lt)

  pub all_in : (m : ℕ) → m < length plan → d m ≡ true
  all_in m lt = in_order (suc m) m (omega arith) (let e = size net nodes drives plan wired is in omega arith)
