-- From roots to the part: what each step hands to the next.
use Rattle.std.proofs.Common.{◌≡◌, ℕ, ◌<◌, ◌≤◌, ◌+◌, ◌↔◌, List, Bool, true, false, Option, Some, None, Contains, length, refl, arith, ap, subst, ◌∙◌, inl, inr}
use Rattle.std.proofs.lemmas.List.Elements.{Contains-get_or}
use Rattle.std.proofs.lemmas.Option.{same_Some}
use Rattle.eq_bits.specs.declared.node.Node.{Node}
use Rattle.eq_cone.specs.declared.roots.Graphs.{Graphs}
use Rattle.eq_cone.specs.declared.sides.Sides.{Sides}
use Rattle.eq_cone.specs.Paired.{own_in_gate, own_in_gold, pair_of}
use Rattle.eq_cone.specs.inner.Cones.{AreApart, AreInputs, AreWithin, IsCone, number_at}
use Rattle.eq_cone.specs.inner.Copying.{AreFront, IsCopied, new_of, number_or_zero}
use Rattle.eq_cone.specs.inner.Steps.{IsBegun, IsConeOf}
use Rattle.eq_cone.specs.inner.Roots.{HasPositions}
use Rattle.eq_cone.specs.inner.Outputs.{HaveNodes}
use Rattle.eq_cone.specs.inner.Parted.{AreRoots}
use Rattle.eq_cone.specs.inner.Sides.{cut_of, is_inside, has_complement, nodes_of, outside, unless}
use Rattle.eq_cone.specs.inner.Underway.{IsToCopy}
use Rattle.eq_cone.proofs.Advanced.{place_in}
use Rattle.eq_cone.proofs.Pigeons.{few_distinct}
use Rattle.eq_cone.proofs.Rows.{joined_length}

unless_pair : (b : Bool) (j i : ℕ) → unless b j ≡ Some i → (b ≡ false) × (Some j ≡ Some i)
unless_pair true j i e = absurd (cc)
unless_pair false j i e = (refl, e)

pub cut_pair : (owners : List (Option ℕ)) (q : ℕ) (o : Option ℕ) (i : ℕ) → outside owners q o ≡ Some i →
    (o ≡ Some i) × (is_inside owners q i ≡ false)
cut_pair owners q None i e = absurd (cc)
cut_pair owners q (Some j) i e =
    let t = unless_pair (is_inside owners q j) j i e in
    let P : ℕ → Type 0 = λ x. is_inside owners q x ≡ false in
    (t.1, subst P (same_Some j i t.1) t.0)

-- the same numbers in another order are the cone
pub cone_reordered : (nodes : List Node) (cut : ℕ → Option ℕ) (roots old new : List ℕ) →
    ((m : ℕ) → Contains old m ↔ Contains new m) → IsCone nodes cut roots old → IsCone nodes cut roots new
cone_reordered nodes cut roots old new same is = record {
  within = λ m c. is.within m ((same m).1 c);
  roots_there = λ r c. (same r).0 (is.roots_there r c);
  closed = λ m r c reads. (same r).0 (is.closed m r ((same m).1 c) reads);
  led = λ m c. is.led m ((same m).1 c);
}

module _ (g : Graphs) (s : Sides) (positions : List ℕ) (begun : IsBegun g s positions) where
  row_size : length (nodes_of s) ≡ length g.gold.now.nodes + length g.gate.now.nodes
  row_size = joined_length s.gold.now s.gate.now ∙ (
      let e = ap (λ (l : List Node). length l) begun.one.gold in
      let f = ap (λ (l : List Node). length l) begun.one.gate in omega arith)

  pub roots_within : (roots : List ℕ) → AreRoots (length g.gold.now.nodes) (own_in_gold g.gold.now g.plan.now)
      (own_in_gate g.gate.now g.plan.now) positions (length positions) roots → AreWithin (nodes_of s) roots
  roots_within roots are r c =
      let t = are.only r c in
      let n = row_size in
      let pair = begun.has_positions t.0 t.1 in
      elim t.2 [
        | inl is ↦ (let e = begun.graphs.gold_nodes (number_at positions t.0) pair in omega arith)
        | inr is ↦ (let e = begun.graphs.gate_nodes (number_at positions t.0) pair in omega arith)
      ]

  pub few_in_cone : (cone : List ℕ) → AreWithin (nodes_of s) cone → AreApart cone → length cone ≤ 4000000
  few_in_cone cone within distinct =
      let n = row_size in
      let f = begun.graphs.few in
      let e = few_distinct cone (length (nodes_of s)) distinct within in omega arith

  module _ (cone inputs : List ℕ) (are : AreInputs (cut_of s) cone inputs (length cone)) where
    pub input_owned : (i : ℕ) → Contains inputs i → i < length s.owners.now
    input_owned i c =
        let t = are.only i c in
        begun.sides.owned t.0 i (cut_pair s.owners.now s.part (pair_of s.paired.now t.0) i t.2).0

    pub inputs_are_pairs : HasPositions g inputs
    inputs_are_pairs o lt =
        let e = input_owned (number_at inputs o) (Contains-get_or inputs o 0 lt) in
        let f = begun.sides.owners in
        let h = ap (λ l. length l) begun.one.pairs in omega arith

    pub few_inputs : AreApart inputs → length inputs ≤ 4000000
    few_inputs distinct =
        let e = few_distinct inputs (length s.owners.now) distinct input_owned in
        let f = begun.sides.owners in
        let h = begun.sides.few_pairs in omega arith

    pub is_task : (roots : List ℕ) → IsConeOf g s positions roots cone → AreApart inputs →
        IsToCopy s roots cone inputs
    is_task roots is distinct = record {
      sides = begun.sides;
      is_cone = is.is_cone;
      ascending = is.ascending;
      are_inputs = are;
      few_nodes = is.few;
      few_inputs = few_inputs distinct;
      uncut = begun.uncut;
    }

    pub have_nodes : (roots : List ℕ) → IsConeOf g s positions roots cone → (place : ℕ → Option ℕ) (new : List Node) →
        IsCopied (nodes_of s) (cut_of s) (has_complement s) inputs place new → AreFront cone place (length cone) →
        HaveNodes g positions place new
    have_nodes roots is place new copied front =
        let there : (r : ℕ) → Contains roots r → new_of place r < length new = λ r c. (
        let at = place_in cone r (is.is_cone.roots_there r c) in
        let made = front.made at.0 at.1 in
        let P : ℕ → Type 0 = λ x. new_of place x < length new in
        let e = ap number_or_zero made.1 in
        let f = copied.there (number_at cone at.0) made.0 made.1 in
        subst P at.2 (omega arith)) in
        record {
          gold = λ o lt. there (own_in_gold g.gold.now g.plan.now (number_at positions o)) (is.are_roots.gold o lt);
          gate = λ o lt. there (length g.gold.now.nodes + own_in_gate g.gate.now g.plan.now (number_at positions o))
              (is.are_roots.gate o lt);
        }
