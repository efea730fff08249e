-- Values that are written node by node. What a node computes depends on the nodes before it alone, so a value that is
-- written leaves what stands before it computed.
use Rattle.std.proofs.Common.{◌≡◌, ℕ, ◌<◌, ◌+◌, List, Bool, true, false, not, set, length, refl, arith, sym, ap, subst, ◌∙◌, inl, inr, get_or-set_other, get_or-set_same}
use Rattle.std.proofs.lemmas.Bool.{cases_lt}
use Rattle.std.proofs.lemmas.List.Sums.{count_by_more_yes, count_by_more_no}
use Rattle.eq_model.specs.System.{Values, compute}
use Rattle.eq_model.specs.Frames.{values}
use Rattle.eq_bits.specs.declared.node.Node.{Node}
use Rattle.eq_bits.specs.declared.node.Node.TheVariants.{Const, Input, Not, And, Xor, Mux, Buf, Reg}
use Rattle.eq_bits.specs.Cycle.{place}
use Rattle.eq_bits.specs.Node.{driver_of, node_at, is_register, IsNode, AreNodes}
use Rattle.eq_bits.specs.inner.Computing.{HasComputed}

-- a node computes the same from values that agree on the nodes before it
pub compute_same : (n m : ℕ) (node : Node) → IsNode n m node → (v w : Values) (x : Bool) → ((r : ℕ) → r < m →
    v r ≡ w r) →
    compute (driver_of node) v x ≡ compute (driver_of node) w x
compute_same n m (Const b) is v w x agree = refl
compute_same n m (Input i) is v w x agree = refl
compute_same n m (Not a) is v w x agree = ap not (agree a is)
compute_same n m (And a b) is v w x agree = (let p = agree a is.0 in let q = agree b is.1 in rw (p, q) refl)
compute_same n m (Xor a b) is v w x agree = (let p = agree a is.0 in let q = agree b is.1 in rw (p, q) refl)
compute_same n m (Mux s a b) is v w x agree =
    (let o = agree s is.0 in let p = agree a is.1 in let q = agree b is.2 in rw (o, p, q) refl)
compute_same n m (Buf a) is v w x agree = agree a is
compute_same n m (Reg next init) is v w x agree = refl

module _ (nodes : List Node) (are : AreNodes nodes) (u : Values) (xs : List Bool) (m : ℕ) (x : Bool)
    (there : m < length nodes) (room : m < length xs) where
  -- a value written at m leaves what a node up to m computes
  after : (k : ℕ) → k < m + 1 →
      compute (driver_of (node_at nodes k)) (values xs) (u k) ≡ compute (driver_of (node_at nodes k))
      (values (set xs m x)) (u k)
  after k up_to = compute_same (length nodes) k (node_at nodes k) (are k (omega arith)) (values xs)
      (values (set xs m x)) (u k)
      (λ r less. sym (get_or-set_other xs m r x false (omega arith)))

  -- the value of one more node
  pub one_more : HasComputed nodes u m xs → x ≡ compute (driver_of (node_at nodes m)) (values xs) (u m) →
      HasComputed nodes u (m + 1) (set xs m x)
  one_more before here k up_to =
      elim (cases_lt k m) [
        | inl less ↦ get_or-set_other xs m k x false (omega arith) ∙ before k less ∙ after k up_to
        | inr more ↦ (
            let same : m ≡ k = omega arith in
            let P : ℕ → Type 0 = λ j. values (set xs m x) j ≡ compute (driver_of (node_at nodes j))
            (values (set xs m x)) (u j) in
            subst P same (get_or-set_same xs m x false room ∙ here ∙ after m (omega arith)))
      ]

-- the place of the next node's register

pub place_yes : (nodes : List Node) (m : ℕ) → m < length nodes → is_register (node_at nodes m) ≡ true →
    place nodes (m + 1) ≡ place nodes m + 1
place_yes nodes m there is = count_by_more_yes is_register nodes m (Const false) there is

pub place_no : (nodes : List Node) (m : ℕ) → m < length nodes → is_register (node_at nodes m) ≡ false →
    place nodes (m + 1) ≡ place nodes m
place_no nodes m there is = count_by_more_no is_register nodes m (Const false) there is
