-- The bits on the way back from a node, until the bit is reached that the way began at.
use Rattle.std.proofs.Common.{◌≡◌, ◌≢◌, ℕ, suc, ◌<◌, ◌≤◌, List, [], ◌∷◌, ◌++◌, All, AllPairs, slice_index, slice_index_or, refl, arith, sym, subst, ap, inl, inr}
use Rattle.std.proofs.lemmas.Bool.{cases_lt}
use Rattle.std.proofs.lemmas.List.Elements.{All-cons, All-push}
use Rattle.std.proofs.lemmas.List.Kept.{AllPairs-cons}
use Rattle.std.proofs.lemmas.List.Quantifiers.{all_pairs_push}
use Rattle.eq_model.specs.System.{System}
use Rattle.eq_model.proofs.Order.{extend}
use Rattle.eq_reads.specs.declared.graph.Edge.{Edge}
use Rattle.eq_reads.specs.Graph.{Joins, to_at}
use Rattle.eq_loops.specs.inner.Back.{IsRound, IsSoundFor, IsStepBack, IsTraced, LeadBack}

no_all : (P : ℕ → Type 0) → All P []
no_all P k d lt = absurd (omega arith)

no_pairs : (R : ℕ → ℕ → Type 0) → AllPairs R []
no_pairs R i j d lt le = absurd (omega arith)

step_joins : (edges : List Edge) (ranks : List ℕ) (v e : ℕ) → IsStepBack edges ranks v e → Joins edges v (to_at edges e)
step_joins edges ranks v e step = record { edge = e; there = step.there; starts = step.starts; ends = refl }

-- nothing but the bit was written
pub traced_none : (s : System) (edges : List Edge) (outer b : ℕ) (ranks : List ℕ) (x : ℕ) → b < outer → IsSoundFor s edges outer →
    Joins edges b x → IsTraced s edges outer b ranks x (b ∷ [])
traced_none s edges outer b ranks x lt sound j = record {
  rest = [];
  is = refl;
  leads = λ d l. sound b d lt (x, j, l);
  bound = no_all (λ (c : ℕ). c < outer);
  above = no_all (λ (c : ℕ). slice_index ranks x < slice_index ranks c);
  apart = no_pairs (λ (c d : ℕ). c ≢ d);
}

-- an inner node was passed
pub traced_inner : (s : System) (edges : List Edge) (outer b : ℕ) (ranks vias : List ℕ) (x : ℕ) (bits : List ℕ) → outer ≤ x →
    IsStepBack edges ranks x (slice_index vias x) →
    IsTraced s edges outer b ranks x bits → IsTraced s edges outer b ranks (to_at edges (slice_index vias x)) bits
traced_inner s edges outer b ranks vias x bits inner step t =
    let y : ℕ = to_at edges (slice_index vias x) in
    let falls = step.falls in
    record {
      rest = t.rest;
      is = t.is;
      leads = λ d l. t.leads d (suc l.0, (y, inner, step_joins edges ranks x (slice_index vias x) step, l.1));
      bound = t.bound;
      above = λ k d lt. (let more = t.above k d lt in omega arith);
      apart = t.apart;
    }

-- a bit was passed and written
pub traced_bit : (s : System) (edges : List Edge) (outer b : ℕ) (ranks vias : List ℕ) (x : ℕ) (bits : List ℕ) → x < outer →
    IsSoundFor s edges outer → IsStepBack edges ranks x (slice_index vias x) →
    IsTraced s edges outer b ranks x bits → IsTraced s edges outer b ranks (to_at edges (slice_index vias x)) (bits ++ x ∷ [])
traced_bit s edges outer b ranks vias x bits lt sound step t =
    let y : ℕ = to_at edges (slice_index vias x) in
    let falls = step.falls in
    record {
      rest = t.rest ++ x ∷ [];
      is = ap (λ (xs : List ℕ). xs ++ x ∷ []) t.is;
      leads = λ d l. extend s b t.rest x d (t.leads x (0, (refl, lt)))
          (sound x d lt (y, step_joins edges ranks x (slice_index vias x) step, l));
      bound = All-push (λ (c : ℕ). c < outer) t.rest x t.bound lt;
      above = All-push (λ (c : ℕ). slice_index ranks y < slice_index ranks c) t.rest x
          (λ k d within. (let more = t.above k d within in omega arith)) falls;
      apart = all_pairs_push (λ (c d : ℕ). c ≢ d) t.rest x t.apart
          (λ k d within same. (let more = t.above k d within in
          let is : slice_index ranks (slice_index_or t.rest k d) ≡ slice_index ranks x = ap (λ (u : ℕ). slice_index ranks u) same in
          absurd (omega arith)));
    }

-- a node was passed, and written where it is a bit
pub traced_more : (s : System) (edges : List Edge) (outer b : ℕ) (ranks vias : List ℕ) (x y : ℕ) (bits next : List ℕ) →
    IsStepBack edges ranks x (slice_index vias x) → y ≡ to_at edges (slice_index vias x) →
    (x < outer → next ≡ bits ++ x ∷ []) → (outer ≤ x → next ≡ bits) → IsSoundFor s edges outer →
    IsTraced s edges outer b ranks x bits → IsTraced s edges outer b ranks y next
traced_more s edges outer b ranks vias x y bits next step is bit inner sound t =
    subst (λ (u : ℕ). IsTraced s edges outer b ranks u next) (sym is) (elim (cases_lt x outer) [
      | inl lt ↦ subst (λ (n : List ℕ). IsTraced s edges outer b ranks (to_at edges (slice_index vias x)) n) (sym (bit lt))
          (traced_bit s edges outer b ranks vias x bits lt sound step t)
      | inr le ↦ subst (λ (n : List ℕ). IsTraced s edges outer b ranks (to_at edges (slice_index vias x)) n) (sym (inner le))
          (traced_inner s edges outer b ranks vias x bits le step t)
    ])

-- the way is back at its bit
pub traced_all : (s : System) (edges : List Edge) (outer b : ℕ) (ranks vias : List ℕ) (x : ℕ) (bits : List ℕ) → b < outer →
    LeadBack edges b ranks vias → slice_index ranks x ≡ 1 → IsTraced s edges outer b ranks x bits → IsRound s outer b bits
traced_all s edges outer b ranks vias x bits lt back one t =
    let begins = back.begins in
    let at : x ≡ b = back.only x one in
    subst (λ (xs : List ℕ). IsRound s outer b xs) (sym t.is) (
      refl,
      All-cons (λ (c : ℕ). c < outer) b t.rest lt t.bound,
      AllPairs-cons (λ (c d : ℕ). c ≢ d) b t.rest (λ k d within same. (let more = t.above k d within in
          let is : slice_index ranks b ≡ slice_index ranks (slice_index_or t.rest k d) = ap (λ (u : ℕ). slice_index ranks u) same in
          absurd (omega arith))) t.apart,
      t.leads b (0, (at, lt)),
    )
