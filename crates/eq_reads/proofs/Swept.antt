-- Loops over rows of nodes: what was done up to a place, and the next place.
use Rattle.std.proofs.Common.{◌≡◌, ℕ, ◌+◌, ◌-◌, ◌<◌, ◌≤◌, ◌⊎◌, ◌↔◌, List, length, refl, arith, sym, ap, subst, ◌∙◌, inl, inr}
use Rattle.std.proofs.lemmas.Bool.{cases_lt}
use Rattle.eq_reads.specs.declared.graph.Nodes.{Nodes}
use Rattle.eq_reads.specs.Words.{AreNodes, AreThere, LeadsTo, number_at}
use Rattle.eq_reads.specs.inner.Leading.{DownLeads, LeadsToBoth, NodesGrew, PairLeads, RowGrew, SomeLeads, UpLeads}
use Rattle.eq_reads.proofs.Grown.{grew_none, grew_then, none_lead, still}

-- `all` leads to what a start and the places from `bottom` up to `top` led to
pub record Gathered (s : Nodes) (row : List ℕ) (now : Nodes) (start all bottom top : ℕ) : Type 0 where
  pub nodes : NodesGrew s now
  pub there : all < now.next
  pub leads : (c : ℕ) → LeadsTo now all c ↔ (LeadsTo s start c ⊎ SomeLeads s row bottom top c)

pub gather_none : (s : Nodes) (row : List ℕ) (start p : ℕ) → AreNodes s → start < s.next → Gathered s row s start
    start p p
gather_none s row start p are lt = record {
  nodes = grew_none s are;
  there = lt;
  leads = λ c. (λ l. inl l, λ e. elim e [ inl l ↦ l | inr i ↦ absurd (none_lead s row p c i) ]);
}

-- one more place, above or below those that were gathered
module _ (s : Nodes) (row : List ℕ) (t now : Nodes) (start all next bottom top low high k : ℕ) (are : AreNodes s)
    (there : number_at row k < s.next)
    (within : (p : ℕ) → low ≤ p → p < high → (p ≡ k) ⊎ ((bottom ≤ p) × (p < top)))
    (wider : (p : ℕ) → bottom ≤ p → p < top → (low ≤ p) × (p < high)) (inside : (low ≤ k) × (k < high))
    (f : Gathered s row t start all bottom top) (grew : NodesGrew t now) (g : LeadsToBoth t now all (number_at row k)
    next) where
  more : (c : ℕ) → LeadsTo s start c ⊎ SomeLeads s row low high c → LeadsTo t all c ⊎ LeadsTo t (number_at row k) c
  more c (inl l) = inl ((f.leads c).1 (inl l))
  more c (inr i) = elim (within i.place i.from_low i.to_high) [
    | inl at ↦ inr ((still s t are f.nodes (number_at row k) c there).1
        (subst (λ (p : ℕ). LeadsTo s (number_at row p) c) at i.leads))
    | inr old ↦ inl ((f.leads c).1
        (inr (record { place = i.place; from_low = old.0; to_high = old.1; leads = i.leads })))
  ]

  fewer : (c : ℕ) → LeadsTo t all c ⊎ LeadsTo t (number_at row k) c → LeadsTo s start c ⊎ SomeLeads s row low high c
  fewer c (inl l) = elim ((f.leads c).0 l) [
    | inl first ↦ inl first
    | inr i ↦ (let w = wider i.place i.from_low i.to_high in inr
        (record { place = i.place; from_low = w.0; to_high = w.1; leads = i.leads }))
  ]
  fewer c (inr l) = inr (record {
    place = k;
    from_low = inside.0;
    to_high = inside.1;
    leads = (still s t are f.nodes (number_at row k) c there).0 l;
  })

  pub gather_next : Gathered s row now start next low high
  gather_next = record {
    nodes = grew_then s t now f.nodes grew;
    there = g.there;
    leads = λ c. (λ l. fewer c ((g.leads c).0 l), λ e. (g.leads c).1 (more c e));
  }

module _ (s : Nodes) (row : List ℕ) (t now : Nodes) (start all next k : ℕ) (are : AreNodes s)
    (there : number_at row k < s.next)
    (grew : NodesGrew t now) (g : LeadsToBoth t now all (number_at row k) next) where
  pub gather_up : (from : ℕ) → from ≤ k → Gathered s row t start all from k → Gathered s row now start next from (k + 1)
  gather_up from le f =
      gather_next s row t now start all next from k from (k + 1) k are there
      (λ p lo hi. elim (cases_lt p k) [ inl less ↦ inr (lo, less) | inr more ↦ inl (omega arith) ])
      (λ p lo hi. (lo, omega arith)) (le, omega arith) f grew g

  pub gather_down : (bottom low end : ℕ) → bottom ≡ k + 1 → low ≡ k → k < end → Gathered s row t start all bottom end
      → Gathered s row now start next low end
  gather_down bottom low end is_bottom is_low lt f =
      gather_next s row t now start all next bottom end low end k are there
      (λ p lo hi. elim (cases_lt k p) [ inl more ↦ inr (omega arith, hi) | inr less ↦ inl (omega arith) ])
      (λ p lo hi. (omega arith, hi)) (omega arith, lt) f grew g

-- the same, and the nodes of these places lead to what P says
pub record Swept (s : Nodes) (row : List ℕ) (now : Nodes) (after : List ℕ) (bottom top : ℕ) (P : ℕ → ℕ → Type 0) :
    Type 0 where
  pub nodes : NodesGrew s now
  pub size : length after ≡ length row
  pub rest : (p : ℕ) → (p < bottom) ⊎ (top ≤ p) → number_at after p ≡ number_at row p
  pub there : (p : ℕ) → bottom ≤ p → p < top → number_at after p < now.next
  pub leads : (p : ℕ) → bottom ≤ p → p < top → (c : ℕ) → LeadsTo now (number_at after p) c ↔ P p c

pub sweep_none : (s : Nodes) (row : List ℕ) (p : ℕ) (P : ℕ → ℕ → Type 0) → AreNodes s → Swept s row s row p p P
sweep_none s row p P are = record {
  nodes = grew_none s are;
  size = refl;
  rest = λ q out. refl;
  there = λ q low high. absurd (omega arith);
  leads = λ q low high. absurd (omega arith);
}

module _ (s : Nodes) (row : List ℕ) (t : Nodes) (before : List ℕ) (now : Nodes) (after : List ℕ)
    (bottom top low high k node : ℕ)
    (P : ℕ → ℕ → Type 0)
    (within : (p : ℕ) → low ≤ p → p < high → (p ≡ k) ⊎ ((bottom ≤ p) × (p < top)))
    (apart : (p : ℕ) → (p < low) ⊎ (high ≤ p) → ((p < k) ⊎ (k < p)) × ((p < bottom) ⊎ (top ≤ p)))
    (fresh : (k < bottom) ⊎ (top ≤ k))
    (size : length after ≡ length before) (put : number_at after k ≡ node)
    (below : (p : ℕ) → p < k → number_at after p ≡ number_at before p) (above : (p : ℕ) → k < p → number_at after p ≡
    number_at before p)
    (f : Swept s row t before bottom top P) (grew : NodesGrew t now) (there : node < now.next)
    (leads : (c : ℕ) → LeadsTo now node c ↔ P k c) where
  others : (p : ℕ) → (p < k) ⊎ (k < p) → number_at after p ≡ number_at before p
  others p (inl less) = below p less
  others p (inr more) = above p more

  other : (p : ℕ) → bottom ≤ p → p < top → number_at after p ≡ number_at before p
  other p lo hi = others p (elim fresh [ inl less ↦ inr (omega arith) | inr more ↦ inl (omega arith) ])

  pub sweep_next : Swept s row now after low high P
  sweep_next = record {
    nodes = grew_then s t now f.nodes grew;
    size = size ∙ f.size;
    rest = λ p out. (let a = apart p out in others p a.0 ∙ f.rest p a.1);
    there = λ p lo hi. elim (within p lo hi) [
      | inl at ↦ subst (λ (q : ℕ). number_at after q < now.next) (sym at) (omega arith)
      | inr old ↦ (let lt = f.there p old.0 old.1 in let later = grew.later in let same = other p old.0 old.1 in omega
          arith)
    ];
    leads = λ p lo hi. elim (within p lo hi) [
      | inl at ↦ subst (λ (q : ℕ). (c : ℕ) → LeadsTo now (number_at after q) c ↔ P q c) (sym at)
          (subst (λ (n : ℕ). (c : ℕ) → LeadsTo now n c ↔ P k c) (sym put) leads)
      | inr old ↦ subst (λ (n : ℕ). (c : ℕ) → LeadsTo now n c ↔ P p c) (sym (other p old.0 old.1))
          (λ c. (let e = still t now f.nodes.are grew (number_at before p) c (f.there p old.0 old.1) in let
          o = f.leads p old.0 old.1 c in
          (λ l. o.0 (e.0 l), λ h. e.1 (o.1 h))))
    ];
  }

module _ (s : Nodes) (row : List ℕ) (t : Nodes) (before : List ℕ) (now : Nodes) (after : List ℕ) (k node : ℕ)
    (P : ℕ → ℕ → Type 0)
    (size : length after ≡ length before) (put : number_at after k ≡ node)
    (below : (p : ℕ) → p < k → number_at after p ≡ number_at before p) (above : (p : ℕ) → k < p → number_at after p ≡
    number_at before p)
    (grew : NodesGrew t now) (there : node < now.next) (leads : (c : ℕ) → LeadsTo now node c ↔ P k c) where
  pub sweep_up : (from top high : ℕ) → from ≤ k → top ≡ k → high ≡ k + 1 → Swept s row t before from top P →
      Swept s row now after from high P
  sweep_up from top high le is_top is_high f =
      sweep_next s row t before now after from top from high k node P
      (λ p lo hi. elim (cases_lt p k) [ inl less ↦ inr (lo, omega arith) | inr more ↦ inl (omega arith) ])
      (λ p out. elim out [
        | inl less ↦ (inl (omega arith), inl less)
        | inr more ↦ (
          inr (omega arith),
          inr (omega arith),
        )
      ])
      (inr (omega arith)) size put below above f grew there leads

  pub sweep_down : (bottom low end : ℕ) → bottom ≡ k + 1 → low ≡ k → k < end → Swept s row t before bottom end P →
      Swept s row now after low end P
  sweep_down bottom low end is_bottom is_low lt f =
      sweep_next s row t before now after bottom end low end k node P
      (λ p lo hi. elim (cases_lt k p) [ inl more ↦ inr (omega arith, hi) | inr less ↦ inl (omega arith) ])
      (λ p out. elim out [
        | inl less ↦ (inl (omega arith), inl (omega arith))
        | inr more ↦ (
          inr (omega arith),
          inr more,
        )
      ])
      (inl (omega arith)) size put below above f grew there leads

-- what a place leads to after each of the loops
abbrev pub ClimbLeads : Nodes → List ℕ → ℕ → ℕ → ℕ → ℕ → Type 0
ClimbLeads s row start from p c = LeadsTo s start c ⊎ SomeLeads s row from (p + 1) c

abbrev pub DescendLeads : Nodes → List ℕ → ℕ → ℕ → ℕ → ℕ → Type 0
DescendLeads s row start end p c = LeadsTo s start c ⊎ SomeLeads s row p end c

abbrev pub CombineLeads : Nodes → List ℕ → ℕ → ℕ → ℕ → ℕ → Type 0
CombineLeads s row left right p c = LeadsTo s (number_at row p) c ⊎ LeadsTo s (number_at row (p + (right - left))) c

pub up_leads : (s : Nodes) (row : List ℕ) (start from j c : ℕ) → ClimbLeads s row start from (from + j) c ↔ UpLeads s
    row from start j c
up_leads s row start from j c = (
  λ e. elim e [
    | inl l ↦ inl l
    | inr i ↦ inr
        (record {
          place = i.place;
          from_low = i.from_low;
          to_high = (let y = i.to_high in omega arith);
          leads = i.leads;
        })
  ],
  λ e. elim e [
    | inl l ↦ inl l
    | inr i ↦ inr
        (record {
          place = i.place;
          from_low = i.from_low;
          to_high = (let y = i.to_high in omega arith);
          leads = i.leads;
        })
  ],
)

pub down_leads : (s : Nodes) (row : List ℕ) (start from j c : ℕ) → DescendLeads s row start (length row) (from + j) c
    ↔ DownLeads s row from start j c
down_leads s row start from j c = (λ e. e, λ e. e)

pub pair_leads : (s : Nodes) (row : List ℕ) (left right j c : ℕ) → left ≤ right → CombineLeads s row left right
    (left + j) c ↔ PairLeads s row left right j c
pair_leads s row left right j c le =
    let at : (left + j) + (right - left) ≡ right + j = omega arith in (
      λ e. elim e [ inl l ↦ inl l | inr l ↦ inr (subst (λ (p : ℕ). LeadsTo s (number_at row p) c) at l) ],
      λ e. elim e [ inl l ↦ inl l | inr l ↦ inr (subst (λ (p : ℕ). LeadsTo s (number_at row p) c) (sym at) l) ],
    )

-- a node for two places that weren't swept yet leads to what they led to
pub combined_leads : (s : Nodes) (row : List ℕ) (t : Nodes) (before : List ℕ) (now : Nodes)
    (left right j x y node : ℕ) (P : ℕ → ℕ → Type 0) → AreNodes s → AreThere s row →
    left ≤ right → j < right - left → length row ≡ right + (right - left) → Swept s row t before left (left + j) P →
    x ≡ number_at before (left + j) → y ≡ number_at before (right + j) → LeadsToBoth t now x y node →
    (c : ℕ) → LeadsTo now node c ↔ CombineLeads s row left right (left + j) c
combined_leads s row t before now left right j x y node P are there le lt size f is_x is_y g c =
    let at : (left + j) + (right - left) ≡ right + j = omega arith in
    let x_row : x ≡ number_at row (left + j) = is_x ∙ f.rest (left + j) (inr (omega arith)) in
    let y_row : y ≡ number_at row ((left + j) + (right - left)) = is_y ∙ f.rest (right + j) (inr (omega arith)) ∙ ap
    (number_at row) (sym at) in
    let kx = subst (λ (z : ℕ). LeadsTo t z c ↔ LeadsTo s (number_at row (left + j)) c) (sym x_row)
    (still s t are f.nodes (number_at row (left + j)) c (there (left + j) (omega arith))) in
    let ky = subst (λ (z : ℕ). LeadsTo t z c ↔ LeadsTo s (number_at row ((left + j) + (right - left))) c) (sym y_row)
    (still s t are f.nodes (number_at row ((left + j) + (right - left))) c (there ((left + j) + (right - left))
    (omega arith))) in
    let o = g.leads c in (
      λ l. elim (o.0 l) [ inl h ↦ inl (kx.0 h) | inr h ↦ inr (ky.0 h) ],
      λ e. o.1 (elim e [ inl h ↦ inl (kx.1 h) | inr h ↦ inr (ky.1 h) ]),
    )

-- nodes behind a place, all of which up to another were swept, where what stood behind that was dropped
pub swept_row : (s : Nodes) (row : List ℕ) (now : Nodes) (mid after : List ℕ) (from top count : ℕ)
    (P Q : ℕ → ℕ → Type 0) → AreThere s row → from ≤ top →
    top ≤ length row → count ≡ top - from → length after ≡ top →
    ((p : ℕ) → p < top → number_at after p ≡ number_at mid p) →
    ((j c : ℕ) → j < count → P (from + j) c ↔ Q j c) → Swept s row now mid from top P → RowGrew s row now after from
    count Q
swept_row s row now mid after from top count P Q there le within is size kept same f = record {
  nodes = f.nodes;
  size = omega arith;
  kept = λ p lt. kept p (omega arith) ∙ f.rest p (inl lt);
  there = λ p lt. (let k = kept p (omega arith) in elim (cases_lt p from) [
    | inl less ↦ (let at = f.rest p (inl less) in let l = there p (omega arith) in let later = f.nodes.later in omega
        arith)
    | inr more ↦ (let l = f.there p (omega arith) (omega arith) in omega arith)
  ]);
  leads = λ j lt c. subst (λ (x : ℕ). LeadsTo now x c ↔ Q j c) (sym (kept (from + j) (omega arith))) (
      let o = f.leads (from + j) (omega arith) (omega arith) c in
      let e = same j c lt in
      (λ l. e.0 (o.0 l), λ h. o.1 (e.1 h)));
}
