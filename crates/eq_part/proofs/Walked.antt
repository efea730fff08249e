-- Nodes that are marked and put into a queue.
use Rattle.std.proofs.Common.{◌≡◌, ◌≢◌, ℕ, zero, suc, ◌+◌, ◌<◌, ◌≤◌, ◌⊎◌, List, [], ◌∷◌, ◌++◌, Bool, true, false, length, slice_index_or, replicate, refl, arith, sym, ap, subst, ◌∙◌, inl, inr, length-append}
use Rattle.std.proofs.lemmas.Bool.{cases_lt, cases_order}
use Rattle.std.proofs.lemmas.Bool.Decides.{eqb_tells}
use Rattle.std.proofs.lemmas.List.{get_or-set_same, get_or-set_other}
use Rattle.std.proofs.Math.ListN.{get_or-append, length-replicate, set}
use Rattle.std.proofs.Math.Seq.{get_or-append_seam}
use Rattle.eq_model.specs.Frames.{values}
use Rattle.eq_reads.specs.declared.graph.Edge.{Edge}
use Rattle.eq_reads.specs.inner.Chains.{Chain}
use Rattle.eq_part.specs.inner.Graph.{IsReached}
use Rattle.eq_reads.specs.Graph.{Joins, edge_at, from_at, to_at}
use Rattle.eq_part.specs.inner.Walking.{AreLinks, Grew, IsSettled, IsUnderway, last_from, unmarked}
use Rattle.eq_reads.specs.Words.{number_at}
use Rattle.eq_part.proofs.Linking.{last_begins, last_is_last, last_within}

pub fewer_unmarked : (marks : List Bool) (v : ℕ) → v < length marks → values marks v ≡ false → suc (unmarked (set marks v true)) ≡ unmarked marks
fewer_unmarked [] v lt is = absurd (omega arith)
fewer_unmarked (true ∷ marks) zero lt is = absurd (cc)
fewer_unmarked (false ∷ marks) zero lt is = refl
fewer_unmarked (true ∷ marks) (suc v) lt is = fewer_unmarked marks v (omega arith) is
fewer_unmarked (false ∷ marks) (suc v) lt is = ap suc (fewer_unmarked marks v (omega arith) is)

pub all_unmarked : (n : ℕ) → unmarked (replicate n false) ≡ n
all_unmarked zero = refl
all_unmarked (suc n) = ap suc (all_unmarked n)

pub none_marked : (n x : ℕ) → values (replicate n false) x ≡ true → ⊥
none_marked zero x is = absurd (cc)
none_marked (suc n) zero is = absurd (cc)
none_marked (suc n) (suc x) is = none_marked n x is

-- nothing was marked
pub grew_not : (marks : List Bool) (queue : List ℕ) → Grew marks marks queue queue
grew_not marks queue = record {
  kept = λ x is. is;
  longer = omega arith;
  stays = λ k lt. refl;
  new = λ x is. inl is;
  there = λ k le lt. absurd (omega arith);
  counted = refl;
}

-- one node was marked
pub grew_one : (marks : List Bool) (queue : List ℕ) (v : ℕ) → v < length marks → values marks v ≡ false → Grew marks (set marks v true) queue (queue ++ v ∷ [])
grew_one marks queue v lt clear =
    let size = length-append queue (v ∷ []) in
    let seam : number_at (queue ++ v ∷ []) (length queue) ≡ v = get_or-append_seam queue v [] 0 in
    let fewer = fewer_unmarked marks v lt clear in
    record {
      kept = λ x is. elim (eqb_tells x v) [
        | inl same ↦ subst (λ (u : ℕ). values (set marks v true) u ≡ true) (sym same.1) (get_or-set_same marks v true false lt)
        | inr other ↦ get_or-set_other marks v x true false other.1 ∙ is
      ];
      longer = omega arith;
      stays = λ k lk. get_or-append queue (v ∷ []) 0 k lk;
      new = λ x is. elim (eqb_tells x v) [
        | inl same ↦ inr (length queue, omega arith, omega arith, seam ∙ sym same.1)
        | inr other ↦ inl (sym (get_or-set_other marks v x true false other.1) ∙ is)
      ];
      there = λ k le lk. (
          let at : length queue ≡ k = omega arith in
          subst (λ (u : ℕ). (number_at (queue ++ v ∷ []) u < length marks) × (values (set marks v true) (number_at (queue ++ v ∷ []) u) ≡ true)) at
          (subst (λ (u : ℕ). (u < length marks) × (values (set marks v true) u ≡ true)) (sym seam) (lt, get_or-set_same marks v true false lt)));
      counted = omega arith;
    }

-- more were marked afterwards
pub grew_then : (a b c : List Bool) (p q r : List ℕ) → length b ≡ length a → Grew a b p q → Grew b c q r → Grew a c p r
grew_then a b c p q r size f g =
    let fl = f.longer in
    let gl = g.longer in
    let fc = f.counted in
    let gc = g.counted in
    record {
      kept = λ x is. g.kept x (f.kept x is);
      longer = omega arith;
      stays = λ k lk. g.stays k (omega arith) ∙ f.stays k lk;
      new = λ x is. elim (g.new x is) [
        | inl before ↦ elim (f.new x before) [
          | inl old ↦ inl old
          | inr w ↦ (let lt = w.2 in inr (w.0, w.1, omega arith, g.stays w.0 w.2 ∙ w.3))
        ]
        | inr w ↦ (let le = w.1 in inr (w.0, omega arith, w.2, w.3))
      ];
      there = λ k le lk. elim (cases_lt k (length q)) [
        | inl less ↦ (let h = f.there k le less in
            subst (λ (u : ℕ). (u < length a) × (values c u ≡ true)) (sym (g.stays k less)) (h.0, g.kept (number_at q k) h.1))
        | inr more ↦ (let h = g.there k more lk in let lt = h.0 in (omega arith, h.1))
      ];
      counted = omega arith;
    }

-- the node at the head of the queue was visited
pub visited : (edges : List Edge) (a b : List Bool) (p q : List ℕ) (head : ℕ) → head < length p → length b ≡ length a →
    IsUnderway edges a p head → Grew a b p q → IsSettled edges b (number_at p head) → IsUnderway edges b q (head + 1)
visited edges a b p q head lt size u g here =
    let longer = g.longer in
    let gc = g.counted in
    let uc = u.counted in
    record {
      settled = λ x is. elim (g.new x is) [
        | inl old ↦ elim (u.settled x old) [
          | inl done ↦ inl (λ e le from. g.kept (to_at edges e) (done e le from))
          | inr w ↦ (
              let le = w.1 in
              let lw = w.2 in
              elim (cases_lt head w.0) [
                | inl later ↦ inr (w.0, omega arith, omega arith, g.stays w.0 w.2 ∙ w.3)
                | inr now ↦ (
                    let same : w.0 ≡ head = omega arith in
                    let is_x : number_at p head ≡ x = ap (number_at p) (sym same) ∙ w.3 in
                    inl (subst (IsSettled edges b) is_x here))
              ])
        ]
        | inr w ↦ (let le = w.1 in inr (w.0, omega arith, w.2, w.3))
      ];
      there = λ k lk. elim (cases_lt k (length p)) [
        | inl less ↦ (let h = u.there k less in let lt = h.0 in
            subst (λ (n : ℕ). (n < length b) × (values b n ≡ true)) (sym (g.stays k less)) (omega arith, g.kept (number_at p k) h.1))
        | inr more ↦ (let h = g.there k more lk in let lt = h.0 in (omega arith, h.1))
      ];
      counted = omega arith;
    }

-- what an edge leads to from what is reached
pub reached_next : (edges : List Edge) (roots : List Bool) (v x : ℕ) → IsReached edges roots v → Joins edges v x → IsReached edges roots x
reached_next edges roots v x r j = record { root = r.root; marked = r.marked; steps = suc r.steps; chain = (v, r.chain, j) }

-- marks that are settled and have the roots have all that is reached
pub all_marked : (edges : List Edge) (marks : List Bool) → ((x : ℕ) → values marks x ≡ true → IsSettled edges marks x) →
    (n a b : ℕ) → values marks a ≡ true → Chain (Joins edges) n a b → values marks b ≡ true
all_marked edges marks settled zero a b is same = subst (λ (u : ℕ). values marks u ≡ true) same is
all_marked edges marks settled (suc n) a b is (c, chain, j) =
    subst (λ (u : ℕ). values marks u ≡ true) j.ends (settled c (all_marked edges marks settled n a c is chain) j.edge j.there j.starts)

-- what the loop over the roots keeps
pub record Begun (roots marks after : List Bool) (queue now : List ℕ) (n : ℕ) : Type 0 where
  pub grew : Grew marks after queue now
  pub roots_are : (x : ℕ) → x < n → values roots x ≡ true → values after x ≡ true
  pub only : (x : ℕ) → values after x ≡ true → (values marks x ≡ true) ⊎ (values roots x ≡ true)

-- one more root is marked
pub begun_root : (roots marks after later : List Bool) (queue now then : List ℕ) (n : ℕ) → length after ≡ length marks →
    Begun roots marks after queue now n → values roots n ≡ true → Grew after later now then → values later n ≡ true →
    ((x : ℕ) → x ≢ n → values later x ≡ values after x) → Begun roots marks later queue then (n + 1)
begun_root roots marks after later queue now then n size b root g marked others = record {
  grew = grew_then marks after later queue now then size b.grew g;
  roots_are = λ x lt is. elim (cases_lt x n) [
    | inl less ↦ g.kept x (b.roots_are x less is)
    | inr more ↦ (let same : n ≡ x = omega arith in subst (λ (u : ℕ). values later u ≡ true) same marked)
  ];
  only = λ x is. elim (eqb_tells x n) [
    | inl same ↦ inr (subst (λ (u : ℕ). values roots u ≡ true) (sym same.1) root)
    | inr other ↦ b.only x (sym (others x other.1) ∙ is)
  ];
}

-- a node that is no root
pub begun_other : (roots marks after : List Bool) (queue now : List ℕ) (n : ℕ) → Begun roots marks after queue now n → values roots n ≡ false →
    Begun roots marks after queue now (n + 1)
begun_other roots marks after queue now n b no_root = record {
  grew = b.grew;
  roots_are = λ x lt is. elim (cases_lt x n) [
    | inl less ↦ b.roots_are x less is
    | inr more ↦ (let same : x ≡ n = omega arith in let at : values roots n ≡ true = subst (λ (u : ℕ). values roots u ≡ true) same is in absurd (cc))
  ];
  only = b.only;
}

-- what the loop over the edges of a node keeps
pub record Visiting (edges : List Edge) (node link : ℕ) (marks after : List Bool) (queue now : List ℕ) : Type 0 where
  pub within : link ≤ length edges
  pub own : (e : ℕ) → link ≡ suc e → from_at edges e ≡ node
  pub done : (e : ℕ) → link ≤ e → e < length edges → from_at edges e ≡ node → values after (to_at edges e) ≡ true
  pub grew : Grew marks after queue now
  pub joined : (x : ℕ) → values after x ≡ true → (values marks x ≡ true) ⊎ Joins edges node x

-- nothing is visited
pub visiting_none : (edges : List Edge) (node link nodes : ℕ) (last before : List ℕ) (marks : List Bool) (queue : List ℕ) →
    AreLinks edges (length edges) nodes last before → node < nodes → link ≡ number_at last node → Visiting edges node link marks marks queue queue
visiting_none edges node link nodes last before marks queue links lt is =
    let at : link ≡ last_from edges node (length edges) = is ∙ links.lasts node lt in
    record {
      within = (let h = last_within edges node (length edges) in omega arith);
      own = λ e h. (last_begins edges node (length edges) e (sym at ∙ h)).0;
      done = λ e le lk from. absurd (last_is_last edges node (length edges) e (omega arith) lk from);
      grew = grew_not marks queue;
      joined = λ x is. inl is;
    }

-- the link before a link is lower
pub before_lower : (edges : List Edge) (node e nodes : ℕ) (last before : List ℕ) → AreLinks edges (length edges) nodes last before →
    e < length edges → number_at before e ≤ e
before_lower edges node e nodes last before links lt =
    let at = links.befores e lt in let h = last_within edges (from_at edges e) e in omega arith

-- one more edge is visited
pub visiting_one : (edges : List Edge) (node e link nodes : ℕ) (last before : List ℕ) (marks after later : List Bool) (queue now then : List ℕ) →
    AreLinks edges (length edges) nodes last before → length after ≡ length marks → link ≡ number_at before e →
    Visiting edges node (suc e) marks after queue now → Grew after later now then → values later (to_at edges e) ≡ true →
    ((x : ℕ) → x ≢ to_at edges e → values later x ≡ values after x) → Visiting edges node link marks later queue then
visiting_one edges node e link nodes last before marks after later queue now then links size is v g marked others =
    let here = v.own e refl in
    let lt = v.within in
    let at : link ≡ last_from edges node e = is ∙ links.befores e (omega arith) ∙ ap (λ (u : ℕ). last_from edges u e) here in
    record {
      within = (let h = last_within edges node e in omega arith);
      own = λ d h. (last_begins edges node e d (sym at ∙ h)).0;
      done = λ d le ld from. elim (cases_order d e) [
        | inl same ↦ subst (λ (u : ℕ). values later (to_at edges u) ≡ true) (sym same) marked
        | inr far ↦ elim far [
          | inl less ↦ absurd (last_is_last edges node e d (omega arith) less from)
          | inr more ↦ g.kept (to_at edges d) (v.done d (omega arith) ld from)
        ]
      ];
      grew = grew_then marks after later queue now then size v.grew g;
      joined = λ x is. elim (eqb_tells x (to_at edges e)) [
        | inl same ↦ inr (record { edge = e; there = omega arith; starts = here; ends = sym same.1 })
        | inr other ↦ v.joined x (sym (others x other.1) ∙ is)
      ];
    }

-- what the loop over the queue keeps
pub record Walking (edges : List Edge) (marks after : List Bool) (queue : List ℕ) (head : ℕ) : Type 0 where
  pub within : head ≤ length queue
  pub underway : IsUnderway edges after queue head
  pub kept : (x : ℕ) → values marks x ≡ true → values after x ≡ true
  pub reached : (x : ℕ) → values after x ≡ true → IsReached edges marks x

-- nothing is visited
pub walking_none : (edges : List Edge) (marks : List Bool) (queue : List ℕ) → IsUnderway edges marks queue 0 → Walking edges marks marks queue 0
walking_none edges marks queue u = record {
  within = omega arith;
  underway = u;
  kept = λ x is. is;
  reached = λ x is. record { root = x; marked = is; steps = 0; chain = refl };
}

-- a node of the queue is visited
pub walking_one : (edges : List Edge) (marks after later : List Bool) (queue now : List ℕ) (head : ℕ) → length later ≡ length after → head < length queue →
    Walking edges marks after queue head → Grew after later queue now → IsSettled edges later (number_at queue head) → values after (number_at queue head) ≡ true →
    ((x : ℕ) → values later x ≡ true → (values after x ≡ true) ⊎ Joins edges (number_at queue head) x) → Walking edges marks later now (head + 1)
walking_one edges marks after later queue now head size lt w g settled head_is joined = record {
  within = (let h = g.longer in omega arith);
  underway = visited edges after later queue now head lt size w.underway g settled;
  kept = λ x is. g.kept x (w.kept x is);
  reached = λ x is. elim (joined x is) [
    | inl old ↦ w.reached x old
    | inr j ↦ reached_next edges marks (number_at queue head) x (w.reached (number_at queue head) head_is) j
  ];
}

-- an element that is there, whatever stands where there is none
pub element : (xs : List ℕ) (k x : ℕ) → k < length xs → x ≡ slice_index_or xs k x → x ≡ number_at xs k
element [] k x lt is = absurd (omega arith)
element (y ∷ ys) zero x lt is = is
element (y ∷ ys) (suc k) x lt is = element ys k x (omega arith) is

pub edge_element : (xs : List Edge) (k : ℕ) (x : Edge) → k < length xs → x ≡ slice_index_or xs k x → x ≡ edge_at xs k
edge_element [] k x lt is = absurd (omega arith)
edge_element (y ∷ ys) zero x lt is = is
edge_element (y ∷ ys) (suc k) x lt is = edge_element ys k x (omega arith) is

-- a walk from the roots begins with a queue of them
pub begun_walk : (edges : List Edge) (nodes : ℕ) (marks after : List Bool) (queue now : List ℕ) → marks ≡ replicate nodes false → queue ≡ [] →
    length after ≡ length marks → Grew marks after queue now → IsUnderway edges after now 0
begun_walk edges nodes marks after queue now clear none size g =
    let count = g.counted in
    let empty : length queue ≡ 0 = ap length none in
    let all : unmarked marks ≡ nodes = ap unmarked clear ∙ all_unmarked nodes in
    let long : length marks ≡ nodes = ap length clear ∙ length-replicate nodes false in
    record {
      settled = λ x is. elim (g.new x is) [
        | inl old ↦ absurd (none_marked nodes x (subst (λ (ms : List Bool). values ms x ≡ true) clear old))
        | inr w ↦ inr (w.0, omega arith, w.2, w.3)
      ];
      there = λ k lk. (let h = g.there k (omega arith) lk in let lt = h.0 in (omega arith, h.1));
      counted = omega arith;
    }

-- what the walk reaches from the marks of the roots is reached from the roots
pub from_roots : (edges : List Edge) (nodes : ℕ) (roots marks after : List Bool) → marks ≡ replicate nodes false →
    ((x : ℕ) → values after x ≡ true → (values marks x ≡ true) ⊎ (values roots x ≡ true)) →
    (x : ℕ) → IsReached edges after x → IsReached edges roots x
from_roots edges nodes roots marks after clear only x r = elim (only r.root r.marked) [
  | inl old ↦ absurd (none_marked nodes r.root (subst (λ (ms : List Bool). values ms r.root ≡ true) clear old))
  | inr root ↦ record { root = r.root; marked = root; steps = r.steps; chain = r.chain }
]

pub to_all : (edges : List Edge) (roots after marks : List Bool) → ((x : ℕ) → values roots x ≡ true → values after x ≡ true) →
    ((x : ℕ) → values after x ≡ true → values marks x ≡ true) → ((x : ℕ) → values marks x ≡ true → IsSettled edges marks x) →
    (x : ℕ) → IsReached edges roots x → values marks x ≡ true
to_all edges roots after marks rooted kept settled x r =
    all_marked edges marks settled r.steps r.root x (kept r.root (rooted r.root r.marked)) r.chain
