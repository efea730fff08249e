-- Edges that are gained, and what nodes lead to after them.
use Rattle.std.proofs.Common.{◌≡◌, ℕ, zero, suc, ◌+◌, ◌<◌, ◌⊎◌, ◌↔◌, List, slice_index_or, arith, sym, subst, inl, inr}
use Rattle.std.proofs.lemmas.Bool.{cases_lt}
use Rattle.eq_net.specs.declared.types.Driver.{Driver}
use Rattle.eq_net.specs.declared.types.Driver.TheVariants.{Undriven}
use Rattle.eq_reads.specs.declared.graph.Edge.{Edge}
use Rattle.eq_reads.specs.Graph.{Adds, Joins, Leads, LeadsBy}
use Rattle.eq_reads.specs.inner.Drawing.{Gains, IsNowBit, NowDrawn}

-- more is gained afterwards
pub gains_then : (a b c : List Edge) (P Q R : ℕ → ℕ → Type 0) → ((x y : ℕ) → P x y → R x y) →
    ((x y : ℕ) → Q x y → R x y) → ((x y : ℕ) → R x y → P x y ⊎ Q x y) →
    Gains a b P → Gains b c Q → Gains a c R
gains_then a b c P Q R pr qr rpq f g = record {
  kept = λ u v j. g.kept u v (f.kept u v j);
  there = λ u v r. elim (rpq u v r) [ inl p ↦ g.kept u v (f.there u v p) | inr q ↦ g.there u v q ];
  only = λ u v j. elim (g.only u v j) [
    | inl before ↦ elim (f.only u v before) [ inl old ↦ inl old | inr p ↦ inr (pr u v p) ]
    | inr q ↦ inr (qr u v q)
  ];
}

-- the same, said otherwise
pub gains_same : (a b : List Edge) (P Q : ℕ → ℕ → Type 0) → ((x y : ℕ) → P x y → Q x y) → ((x y : ℕ) → Q x y → P x y)
    → Gains a b P → Gains a b Q
gains_same a b P Q pq qp f = record {
  kept = f.kept;
  there = λ u v q. f.there u v (qp u v q);
  only = λ u v j. elim (f.only u v j) [ inl old ↦ inl old | inr p ↦ inr (pq u v p) ];
}

-- edges from one node
pub gains_from : (a b : List Edge) (from : ℕ) (P : ℕ → Type 0) → Adds a b from P → Gains a b (λ x y. (x ≡ from) × P y)
gains_from a b from P f = record {
  kept = f.kept;
  there = λ u v p. subst (λ (x : ℕ). Joins b x v) (sym p.0) (f.there v p.1);
  only = f.only;
}

-- edges that begin at no inner node change nothing of what nodes lead to
module _ (edges after : List Edge) (outer : ℕ) (P : ℕ → ℕ → Type 0) (gains : Gains edges after P)
    (outside : (a b : ℕ) → P a b → a < outer) where
  kept_by : (n x c : ℕ) → LeadsBy edges outer n x c → LeadsBy after outer n x c
  kept_by zero x c l = l
  kept_by (suc n) x c (y, inner, j, l) = (y, inner, gains.kept x y j, kept_by n y c l)

  back_by : (n x c : ℕ) → LeadsBy after outer n x c → LeadsBy edges outer n x c
  back_by zero x c l = l
  back_by (suc n) x c (y, inner, j, l) = elim (gains.only x y j) [
    | inl old ↦ (y, inner, old, back_by n y c l)
    | inr new ↦ (let out = outside x y new in absurd (omega arith))
  ]

  pub leads_still : (x c : ℕ) → Leads after outer x c ↔ Leads edges outer x c
  leads_still x c = (λ l. (l.0, back_by l.0 x c l.1), λ l. (l.0, kept_by l.0 x c l.1))

-- one more bit leads to what drives it
pub drawn_next : (drivers : List Driver) (places row : List ℕ) (k : ℕ) (e0 e1 e2 : List Edge) →
    Gains e0 e1 (NowDrawn drivers places row k) →
    Adds e1 e2 k (IsNowBit places row (slice_index_or drivers k Undriven)) →
    Gains e0 e2 (NowDrawn drivers places row (k + 1))
drawn_next drivers places row k e0 e1 e2 f g =
    let Q : ℕ → ℕ → Type 0 = λ i. IsNowBit places row (slice_index_or drivers i Undriven) in
    gains_then e0 e1 e2 (NowDrawn drivers places row k) (λ x y. (x ≡ k) × Q k y) (NowDrawn drivers places row (k + 1))
    (λ x y p. (let lt = p.before in record { before = omega arith; driven = p.driven }))
    (λ x y q. (let at = q.0 in record {
      before = omega arith;
      driven = subst (λ (i : ℕ). Q i y) (sym q.0) q.1;
    }))
    (λ x y p. elim (cases_lt x k) [
      | inl less ↦ inl (record { before = less; driven = p.driven })
      | inr more ↦ (
          let lt = p.before in
          let at : x ≡ k = omega arith in
          inr (at, subst (λ (i : ℕ). Q i y) at p.driven))
    ])
    f (gains_from e1 e2 k (Q k) g)
