-- What is known before a node of the cone is made: it isn't made yet, and its operands are.
use Rattle.std.proofs.Common.{◌≡◌, ℕ, ◌<◌, List, [], ◌∷◌, false, Option, Some, None, Contains, length, refl, arith, sym, ap, subst, ◌∙◌, inl, inr}
use Rattle.std.proofs.lemmas.Bool.{cases_lt}
use Rattle.std.proofs.lemmas.List.{get_or_default}
use Rattle.std.proofs.lemmas.List.Elements.{Contains-get_or}
use Rattle.eq_model.specs.System.{reads_ever, reads_now}
use Rattle.eq_bits.specs.declared.node.Node.{Node}
use Rattle.eq_bits.specs.declared.node.Node.TheVariants.{Const, Input, Not, And, Xor, Mux, Buf, Reg}
use Rattle.eq_bits.specs.Node.{AreNodes, IsNode, driver_of, is_register, node_at}
use Rattle.eq_cone.specs.declared.sides.Sides.{Sides}
use Rattle.eq_cone.specs.inner.Cones.{AreAscending, number_at, reads_unless}
use Rattle.eq_cone.specs.inner.Copying.{AreFront, IsMade, renamed}
use Rattle.eq_cone.specs.inner.Sides.{cut_of, nodes_of}
use Rattle.eq_cone.specs.inner.Underway.{IsToCopy}
use Rattle.eq_cone.proofs.Reaching.{contains_nothing, contains_one}
use Rattle.eq_cone.proofs.Rows.{joined_nodes}
use Rattle.eq_cone.proofs.Walked.{each_of_three, each_of_two}

pub now_ever : (node : Node) (r : ℕ) → Contains (reads_now (driver_of node)) r →
    Contains (reads_ever (driver_of node)) r
now_ever (Const b) r c = c
now_ever (Input i) r c = c
now_ever (Not a) r c = c
now_ever (And a b) r c = c
now_ever (Xor a b) r c = c
now_ever (Mux s a b) r c = c
now_ever (Buf a) r c = c
now_ever (Reg next init) r c = absurd (contains_nothing r c)

-- operands stand before the node
pub reads_below : (n m : ℕ) (node : Node) (r : ℕ) → IsNode n m node → Contains (reads_now (driver_of node)) r → r < m
reads_below n m (Const b) r is c = absurd (contains_nothing r c)
reads_below n m (Input i) r is c = absurd (contains_nothing r c)
reads_below n m (Not a) r is c = (let e = contains_one a r c in omega arith)
reads_below n m (And a b) r is c = each_of_two (λ k. k < m) a b r is.0 is.1 c
reads_below n m (Xor a b) r is c = each_of_two (λ k. k < m) a b r is.0 is.1 c
reads_below n m (Mux s a b) r is c = each_of_three (λ k. k < m) s a b r is.0 is.1 is.2 c
reads_below n m (Buf a) r is c = (let e = contains_one a r c in omega arith)
reads_below n m (Reg next init) r is c = absurd (contains_nothing r c)

pub first : (a : ℕ) (xs : List ℕ) → Contains (a ∷ xs) a
first a xs = (0, omega arith, refl)

pub second : (a b : ℕ) (xs : List ℕ) → Contains (a ∷ b ∷ xs) b
second a b xs = (1, omega arith, refl)

pub third : (a b c : ℕ) → Contains (a ∷ b ∷ c ∷ []) c
third a b c = (2, omega arith, refl)

-- where all that is read has new numbers below n, the renamed node may come next
pub renamed_node : (f : ℕ → ℕ) (n : ℕ) (node : Node) → is_register node ≡ false →
    ((r : ℕ) → Contains (reads_now (driver_of node)) r → f r < n) → IsNode n n (renamed f node)
renamed_node f n (Const b) plain all = tt
renamed_node f n (Input i) plain all = tt
renamed_node f n (Not a) plain all = all a (first a [])
renamed_node f n (And a b) plain all = (all a (first a (b ∷ [])), all b (second a b []))
renamed_node f n (Xor a b) plain all = (all a (first a (b ∷ [])), all b (second a b []))
renamed_node f n (Mux s a b) plain all =
    (all s (first s (a ∷ b ∷ [])), all a (second s a (b ∷ [])), all b (third s a b))
renamed_node f n (Buf a) plain all = all a (first a [])
renamed_node f n (Reg next init) plain all = absurd (cc)

-- where a number stands
pub place_in : (xs : List ℕ) (r : ℕ) → Contains xs r → (j : ℕ) × (j < length xs) × (number_at xs j ≡ r)
place_in xs r c = (c.0, c.1, get_or_default xs c.0 0 r c.1 ∙ c.2)

-- in ascending numbers a smaller one stands before
pub smaller_before : (xs : List ℕ) → AreAscending xs → (j k : ℕ) → j < length xs → k < length xs →
    number_at xs j < number_at xs k → j < k
smaller_before xs ascending j k lj lk less =
    elim (cases_lt j k) [
      | inl before ↦ before
      | inr late ↦ (elim (cases_lt k j) [
        | inl behind ↦ (let e = ascending k j 0 behind lj in absurd (omega arith))
        | inr not_behind ↦ (
            let same : j ≡ k = omega arith in
            let e = ap (λ (x : ℕ). number_at xs x) same in absurd (omega arith))
      ])
    ]

pub cases_option : (o : Option ℕ) (P : Type 0) → (o ≡ None → P) → ((k : ℕ) → o ≡ Some k → P) → P
cases_option None P none some = none refl
cases_option (Some k) P none some = some k refl

module _ (s : Sides) (roots cone inputs : List ℕ) (task : IsToCopy s roots cone inputs) where
  pub are_nodes : AreNodes (nodes_of s)
  are_nodes = joined_nodes s.gold.now s.gate.now task.sides.gold_nodes task.sides.gate_nodes

  pub inside : (n : ℕ) → n < length cone → number_at cone n < length (nodes_of s)
  inside n lt = task.is_cone.within (number_at cone n) (Contains-get_or cone n 0 lt)

  -- what a node of the cone reads is in the cone
  pub read_there : (n r : ℕ) → n < length cone → cut_of s (number_at cone n) ≡ None →
      Contains (reads_ever (driver_of (node_at (nodes_of s) (number_at cone n)))) r → Contains cone r
  read_there n r lt plain c =
      let P : Option ℕ → Type 0 = λ o. Contains (reads_unless o (node_at (nodes_of s) (number_at cone n))) r in
      task.is_cone.closed (number_at cone n) r (Contains-get_or cone n 0 lt) (subst P (sym plain) c)

  module _ (place : ℕ → Option ℕ) (n m : ℕ) (lt : n < length cone) (this : number_at cone n ≡ m)
      (front : AreFront cone place n) where
    pub absent : place m ≡ None
    absent = cases_option (place m) (place m ≡ None) (λ e. e) (λ k e. (
        let t = front.only m (k, e) in
        let f = task.ascending t.0 n 0 t.1 lt in
        let g = t.2 in absurd (omega arith)))

    pub operands : cut_of s m ≡ None → (r : ℕ) → Contains (reads_now (driver_of (node_at (nodes_of s) m))) r →
        IsMade place r
    operands plain r c =
        let P : ℕ → Type 0 = λ x. cut_of s x ≡ None in
        let Q : ℕ → Type 0 = λ x. Contains (reads_now (driver_of (node_at (nodes_of s) x))) r in
        let here = subst Q (sym this) c in
        let in_cone = read_there n r lt (subst P (sym this) plain)
        (now_ever (node_at (nodes_of s) (number_at cone n)) r here) in
        let at = place_in cone r in_cone in
        let below = reads_below (length (nodes_of s)) (number_at cone n) (node_at (nodes_of s) (number_at cone n)) r
        (are_nodes (number_at cone n) (inside n lt)) here in
        let e = at.2 in
        let before = smaller_before cone task.ascending at.0 n at.1 lt (omega arith) in
        let R : ℕ → Type 0 = λ x. IsMade place x in
        subst R at.2 (front.made at.0 before)
