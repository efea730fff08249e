-- Edges that are gained, in loops.
use Rattle.std.proofs.Common.{◌≡◌, ℕ, ◌+◌, Bool, true, false, List, arith, sym, subst, inl, inr}
use Rattle.std.proofs.lemmas.Bool.{cases_lt}
use Rattle.eq_net.specs.declared.types.Driver.{Driver}
use Rattle.eq_net.specs.Net.{Parts, driver_at}
use Rattle.eq_match.specs.declared.types.Pair.{Pair}
use Rattle.eq_match.specs.Pairs.{pair_at}
use Rattle.eq_match.specs.Matched.{gold_bit}
use Rattle.eq_reads.specs.declared.graph.Edge.{Edge}
use Rattle.eq_reads.specs.Graph.{Adds}
use Rattle.eq_part.specs.inner.Visits.{FreeVisits, IsWordBit, OneVisits, PairsVisit, part_node}
use Rattle.eq_reads.specs.inner.Drawing.{Gains}
use Rattle.eq_reads.proofs.Gained.{gains_from, gains_same, gains_then}

-- a node's edges to its driver's bit, or none
pub free_next : (gold : Parts) (paired : ℕ → Bool) (places row : List ℕ) (k : ℕ) (e0 e1 e2 : List Edge) →
    paired k ≡ false → Gains e0 e1 (FreeVisits gold paired places row k) →
    Adds e1 e2 k (IsWordBit places row (driver_at gold k)) → Gains e0 e2 (FreeVisits gold paired places row (k + 1))
free_next gold paired places row k e0 e1 e2 free f g =
    gains_then e0 e1 e2 (FreeVisits gold paired places row k) (λ x y. (x ≡ k) × IsWordBit places row
    (driver_at gold k) y) (FreeVisits gold paired places row (k + 1))
    (λ x y p. (let lt = p.before in record { before = omega arith; free = p.free; driven = p.driven }))
    (λ x y q. (let at = q.0 in record {
      before = omega arith;
      free = subst (λ (b : ℕ). paired b ≡ false) (sym q.0) free;
      driven = subst (λ (b : ℕ). IsWordBit places row (driver_at gold b) y) (sym q.0) q.1;
    }))
    (λ x y p. elim (cases_lt x k) [
      | inl less ↦ inl (record { before = less; free = p.free; driven = p.driven })
      | inr more ↦ (
          let lt = p.before in
          let at : x ≡ k = omega arith in
          inr (at, subst (λ (b : ℕ). IsWordBit places row (driver_at gold b) y) at p.driven))
    ])
    f (gains_from e1 e2 k (IsWordBit places row (driver_at gold k)) g)

pub free_other : (gold : Parts) (paired : ℕ → Bool) (places row : List ℕ) (k : ℕ) (e0 e1 : List Edge) →
    paired k ≡ true → Gains e0 e1 (FreeVisits gold paired places row k) →
    Gains e0 e1 (FreeVisits gold paired places row (k + 1))
free_other gold paired places row k e0 e1 taken f =
    gains_same e0 e1 (FreeVisits gold paired places row k) (FreeVisits gold paired places row (k + 1))
    (λ x y p. (let lt = p.before in record { before = omega arith; free = p.free; driven = p.driven }))
    (λ x y p. elim (cases_lt x k) [
      | inl less ↦ record { before = less; free = p.free; driven = p.driven }
      | inr more ↦ (
          let lt = p.before in
          let at : x ≡ k = omega arith in
          let no_mark : paired k ≡ false = subst (λ (b : ℕ). paired b ≡ false) at p.free in
          absurd (cc))
    ])
    f

-- the edges of a pair
pub one_pair : (part bit : ℕ) (driver : Driver) (places row : List ℕ) (e0 e1 e2 : List Edge) (input : Bool) →
    input ≡ false →
    Adds e0 e1 part (IsWordBit places row driver) → Adds e1 e2 bit (λ b. b ≡ part) →
    Gains e0 e2 (OneVisits input part bit driver places row)
one_pair part bit driver places row e0 e1 e2 input held f g =
    gains_then e0 e1 e2 (λ x y. (x ≡ part) × IsWordBit places row driver y) (λ x y. (x ≡ bit) × (y ≡ part))
    (OneVisits input part bit driver places row)
    (λ x y p. (held, inl p)) (λ x y q. (held, inr q)) (λ x y o. o.1)
    (gains_from e0 e1 part (IsWordBit places row driver) f) (gains_from e1 e2 bit (λ b. b ≡ part) g)

pub pairs_next : (gold : Parts) (pairs : List Pair) (leaders places row : List ℕ) (k : ℕ) (e0 e1 e2 : List Edge) →
    Gains e0 e1 (PairsVisit gold pairs leaders places row k) →
    Gains e1 e2 (OneVisits (pair_at pairs k).input (part_node gold leaders k) (gold_bit gold pairs k)
    (driver_at gold (gold_bit gold pairs k)) places row) →
    Gains e0 e2 (PairsVisit gold pairs leaders places row (k + 1))
pairs_next gold pairs leaders places row k e0 e1 e2 f g =
    let Q : ℕ → ℕ → ℕ → Type 0 = λ i. OneVisits (pair_at pairs i).input (part_node gold leaders i)
    (gold_bit gold pairs i) (driver_at gold (gold_bit gold pairs i)) places row in
    gains_then e0 e1 e2 (PairsVisit gold pairs leaders places row k) (Q k) (PairsVisit gold pairs leaders places row
    (k + 1))
    (λ x y p. (let lt = p.before in record { pair = p.pair; before = omega arith; visits = p.visits }))
    (λ x y q. record { pair = k; before = omega arith; visits = q })
    (λ x y p. elim (cases_lt p.pair k) [
      | inl less ↦ inl (record { pair = p.pair; before = less; visits = p.visits })
      | inr more ↦ (let lt = p.before in let at : p.pair ≡ k = omega arith in inr
          (subst (λ (i : ℕ). Q i x y) at p.visits))
    ])
    f g
