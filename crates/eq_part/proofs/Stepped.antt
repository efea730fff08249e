-- Chains of edges between bits and partitions are chains of visits.
use Rattle.std.proofs.Common.{◌≡◌, ℕ, zero, suc, ◌<◌, ◌≤◌, ◌⊎◌, List, refl, arith, sym, subst, inl, inr}
use Rattle.std.proofs.lemmas.Bool.{cases_lt}
use Rattle.eq_net.specs.Net.{Parts}
use Rattle.eq_match.specs.declared.types.Pair.{Pair}
use Rattle.eq_reads.specs.declared.graph.Edge.{Edge}
use Rattle.eq_reads.specs.inner.Chains.{Chain}
use Rattle.eq_reads.specs.Graph.{Joins, Leads, LeadsBy}
use Rattle.eq_part.specs.inner.Visits.{AreVisits, Visits, outer}
use Rattle.eq_reads.proofs.Grown.{step}
use Rattle.eq_reads.proofs.Ways.{Way, way_from, way_none, way_one, way_then}

module _ (gold : Parts) (pairs : List Pair) (leaders : List ℕ) (edges : List Edge) (nodes : ℕ)
    (graph : AreVisits gold pairs leaders edges nodes) where
  abbrev first : ℕ
  first = outer gold pairs

  abbrev V : ℕ → ℕ → Type 0
  V = Visits gold pairs leaders

  leads_way : (n x c : ℕ) → LeadsBy edges first n x c → Way (Joins edges) x c
  leads_way zero x c l = subst (λ (y : ℕ). Way (Joins edges) x y) l.0 (way_none (Joins edges) x)
  leads_way (suc n) x c (y, inner, j, l) = way_from (Joins edges) x y c j (leads_way n y c l)

  visit_way : (a b : ℕ) → V a b → Way (Joins edges) a b
  visit_way a b v = (let g = graph.there a b v in way_from (Joins edges) a g.0 b g.1 (leads_way g.2.0 g.0 b g.2.1))

  chain_way : (n a b : ℕ) → Chain V n a b → Way (Joins edges) a b
  chain_way zero a b is = subst (λ (y : ℕ). Way (Joins edges) a y) is (way_none (Joins edges) a)
  chain_way (suc n) a b (c, chain, v) = way_then (Joins edges) a c b (chain_way n a c chain) (visit_way c b v)

  -- chains of visits are chains of edges
  pub visits_way : (a b : ℕ) → Way V a b → Way (Joins edges) a b
  visits_way a b w = chain_way w.0 a b w.1

  -- x is y, or an inner node through which y visits all that x leads to
  record IsFrom (y x : ℕ) : Type 0 where
    outside : y < first
    is : (x ≡ y) ⊎ ((first ≤ x) × ((c : ℕ) → Leads edges first x c → V y c))

  record Comes (a x : ℕ) : Type 0 where
    last : ℕ
    way : Way V a last
    from : IsFrom last x

  arrives : (a y x : ℕ) → Way V a y → y < first → ((c : ℕ) → Leads edges first x c → V y c) → Comes a x
  arrives a y x w lt leads = elim (cases_lt x first) [
    | inl less ↦ record {
      last = x;
      way = way_then V a y x w (way_one V y x (leads x (0, (refl, less))));
      from = record { outside = less; is = inl refl };
    }
    | inr more ↦ record { last = y; way = w; from = record { outside = lt; is = inr (more, leads) } }
  ]

  next : (a z x : ℕ) → Comes a z → Joins edges z x → Comes a x
  next a z x k j = elim k.from.is [
    | inl same ↦ arrives a k.last x k.way k.from.outside
        (λ c l. graph.only k.last x c k.from.outside (subst (λ (y : ℕ). Joins edges y x) same j) l)
    | inr deep ↦ arrives a k.last x k.way k.from.outside
        (λ c l. deep.1 c (step edges first z x c deep.0 j l))
  ]

  comes : (n a x : ℕ) → a < first → Chain (Joins edges) n a x → Comes a x
  comes zero a x lt is = record { last = a; way = way_none V a; from = record { outside = lt; is = inl (sym is) } }
  comes (suc n) a x lt (z, chain, j) = next a z x (comes n a z lt chain) j

  -- chains of edges from bits and partitions to such are chains of visits
  pub edges_way : (a b : ℕ) → a < first → b < first → Way (Joins edges) a b → Way V a b
  edges_way a b la lb w =
      let k = comes w.0 a b la w.1 in
      elim k.from.is [
        | inl same ↦ subst (λ (y : ℕ). Way V a y) (sym same) k.way
        | inr deep ↦ (let le = deep.0 in absurd (omega arith))
      ]
