-- What nodes lead to stays when nodes are added, and what an added node leads to.
use Rattle.std.proofs.Common.{◌≡◌, ℕ, zero, suc, ◌+◌, ◌<◌, ◌≤◌, ◌⊎◌, ◌↔◌, List, [], length, refl, arith, ap, subst, ◌∙◌, inl, inr}
use Rattle.eq_reads.specs.declared.graph.Edge.{Edge}
use Rattle.eq_reads.specs.declared.graph.Nodes.{Nodes}
use Rattle.eq_reads.specs.Graph.{Joins, Leads, LeadsBy, Adds}
use Rattle.eq_reads.specs.Words.{AreNodes, LeadsTo, number_at}
use Rattle.eq_reads.specs.inner.Leading.{LeadsToBoth, NodesGrew, SomeLeads}

-- an edge from an inner node, and what lies behind it
pub step : (edges : List Edge) (none a b c : ℕ) → none ≤ a → Joins edges a b → Leads edges none b c →
    Leads edges none a c
step edges none a b c inner j l = (suc l.0, (b, inner, j, l.1))

pub unstep : (edges : List Edge) (none n a c : ℕ) → none ≤ a → LeadsBy edges none n a c → (b : ℕ) × Joins edges a b ×
    Leads edges none b c
unstep edges none zero a c inner l = (let lt = l.1 in let e = l.0 in absurd (omega arith))
unstep edges none (suc n) a c inner (b, deep, j, l) = (b, j, (n, l))

-- a node that is no inner one leads to itself alone
leaf_only : (edges : List Edge) (none n x c : ℕ) → x < none → LeadsBy edges none n x c → x ≡ c
leaf_only edges none zero x c lt l = l.0
leaf_only edges none (suc n) x c lt (b, inner, j, l) = absurd (omega arith)

pub leaf_leads : (edges : List Edge) (none x c : ℕ) → x < none → Leads edges none x c ↔ (x ≡ c)
leaf_leads edges none x c lt = (λ l. leaf_only edges none l.0 x c lt l.1, λ e. (0, (e, omega arith)))

-- the node that leads to nothing
pub none_leads : (s : Nodes) → AreNodes s → (c : ℕ) → ¬ LeadsTo s s.none c
none_leads s are c l =
    let u = unstep s.edges.items s.none l.0 s.none c (omega arith) l.1 in
    let inner = are.inner s.none u.0 u.1 in
    absurd (omega arith)

pub grew_none : (s : Nodes) → AreNodes s → NodesGrew s s
grew_none s are = record { none = refl; later = omega arith; kept = λ a b j. j; only = λ a b j. inl j; are = are }

pub grew_then : (s t u : Nodes) → NodesGrew s t → NodesGrew t u → NodesGrew s u
grew_then s t u f g = record {
  none = g.none ∙ f.none;
  later = (let x = f.later in let y = g.later in omega arith);
  kept = λ a b j. g.kept a b (f.kept a b j);
  only = λ a b j. elim (g.only a b j) [
    | inl before ↦ f.only a b before
    | inr new ↦ (let x = f.later in inr (omega arith))
  ];
  are = g.are;
}

-- no edges, and the one node that leads to nothing
pub no_edges : (s : Nodes) → s.edges.items ≡ [] → s.next ≡ s.none + 1 → AreNodes s
no_edges s none next =
    let never : (a b : ℕ) → ¬ Joins s.edges.items a b = λ a b j. (let e = ap length none in let lt = j.there in absurd
    (omega arith)) in
    record {
      room = omega arith;
      inner = λ a b j. absurd (never a b j);
      starts = λ a b j. absurd (never a b j);
      down = λ a b j. absurd (never a b j);
    }

module _ (s now : Nodes) (are : AreNodes s) (grew : NodesGrew s now) where
  led : (n x c : ℕ) → LeadsBy s.edges.items s.none n x c → LeadsBy now.edges.items now.none n x c
  led zero x c l = (l.0, (let e = grew.none in let lt = l.1 in omega arith))
  led (suc n) x c (y, inner, j, l) = (y, (let e = grew.none in omega arith), grew.kept x y j, led n y c l)

  back : (n x c : ℕ) → x < s.next → LeadsBy now.edges.items now.none n x c → LeadsBy s.edges.items s.none n x c
  back zero x c lt l = (l.0, (let e = grew.none in let below = l.1 in omega arith))
  back (suc n) x c lt (y, inner, j, l) = elim (grew.only x y j) [
    | inl old ↦ (let d = are.down x y old in (y, (let e = grew.none in omega arith), old, back n y c (omega arith) l))
    | inr new ↦ absurd (omega arith)
  ]

  -- what was there leads to what it led to
  pub still : (x c : ℕ) → x < s.next → LeadsTo now x c ↔ LeadsTo s x c
  still x c lt = (λ l. (l.0, back l.0 x c lt l.1), λ l. (l.0, led l.0 x c l.1))

-- a node with two edges
module _ (s now : Nodes) (are : AreNodes s) (x y : ℕ) (lx : x < s.next) (ly : y < s.next) (e1 : List Edge)
    (none : now.none ≡ s.none) (next : now.next ≡ s.next + 1)
    (f : Adds s.edges.items e1 s.next (λ b. b ≡ x)) (g : Adds e1 now.edges.items s.next (λ b. b ≡ y)) where
  joined : (a b : ℕ) → Joins now.edges.items a b → Joins s.edges.items a b ⊎ ((a ≡ s.next) × ((b ≡ x) ⊎ (b ≡ y)))
  joined a b j = elim (g.only a b j) [
    | inl before ↦ elim (f.only a b before) [ inl old ↦ inl old | inr p ↦ inr (p.0, inl p.1) ]
    | inr q ↦ inr (q.0, inr q.1)
  ]

  within : (b : ℕ) → (b ≡ x) ⊎ (b ≡ y) → b < s.next
  within b (inl e) = omega arith
  within b (inr e) = omega arith

  pub both_grew : NodesGrew s now
  both_grew = record {
    none = none;
    later = omega arith;
    kept = λ a b j. g.kept a b (f.kept a b j);
    only = λ a b j. elim (joined a b j) [ inl old ↦ inl old | inr p ↦ (let e = p.0 in inr (omega arith)) ];
    are = record {
      room = (let r = are.room in omega arith);
      inner = λ a b j. elim (joined a b j) [
        | inl old ↦ (let i = are.inner a b old in omega arith)
        | inr p ↦ (let e = p.0 in let r = are.room in omega arith)
      ];
      starts = λ a b j. elim (joined a b j) [
        | inl old ↦ (let i = are.starts a b old in omega arith)
        | inr p ↦ (let e = p.0 in omega arith)
      ];
      down = λ a b j. elim (joined a b j) [
        | inl old ↦ are.down a b old
        | inr p ↦ (let e = p.0 in let w = within b p.1 in omega arith)
      ];
    };
  }

  deep : now.none ≤ s.next
  deep = (let r = are.room in omega arith)

  to_one : (z c : ℕ) → z < s.next → Joins now.edges.items s.next z → LeadsTo s z c → LeadsTo now s.next c
  to_one z c lt j l = step now.edges.items now.none s.next z c deep j ((still s now are both_grew z c lt).1 l)

  from_both : (c : ℕ) → LeadsTo now s.next c → LeadsTo s x c ⊎ LeadsTo s y c
  from_both c l =
      let u = unstep now.edges.items now.none l.0 s.next c deep l.1 in
      elim (joined s.next u.0 u.1) [
        | inl old ↦ (let lt = are.starts s.next u.0 old in absurd (omega arith))
        | inr p ↦ elim p.1 [
          | inl e ↦ inl ((still s now are both_grew x c lx).0 (subst (λ (z : ℕ). LeadsTo now z c) e u.2))
          | inr e ↦ inr ((still s now are both_grew y c ly).0 (subst (λ (z : ℕ). LeadsTo now z c) e u.2))
        ]
      ]

  pub both_leads : LeadsToBoth s now x y s.next
  both_leads = record {
    there = omega arith;
    leads = λ c. (
      from_both c,
      λ e. elim e [
        | inl l ↦ to_one x c lx (g.kept s.next x (f.there x refl)) l
        | inr l ↦ to_one y c ly (g.there y refl) l
      ],
    );
  }

-- ---- some of a row

pub one_leads : (s : Nodes) (row : List ℕ) (p high c : ℕ) → high ≡ suc p → LeadsTo s (number_at row p) c ↔ SomeLeads s
    row p high c
one_leads s row p high c is = (
  λ l. record { place = p; from_low = omega arith; to_high = omega arith; leads = l },
  λ i. (
      let x = i.from_low in
      let y = i.to_high in
      let at : i.place ≡ p = omega arith in
      subst (λ (k : ℕ). LeadsTo s (number_at row k) c) at i.leads),
)

pub none_lead : (s : Nodes) (row : List ℕ) (p c : ℕ) → ¬ SomeLeads s row p p c
none_lead s row p c i = (let x = i.from_low in let y = i.to_high in absurd (omega arith))
