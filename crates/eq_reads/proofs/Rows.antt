-- Rows of nodes that grow one after another.
use Rattle.std.proofs.Common.{◌≡◌, ℕ, ◌+◌, ◌-◌, ◌<◌, ◌≤◌, ◌↔◌, List, length, Contains, arith, sym, ap, subst, ◌∙◌, inl, inr}
use Rattle.std.proofs.lemmas.Bool.{cases_lt}
use Rattle.eq_net.specs.Meaning.{width}
use Rattle.eq_net.specs.declared.types.NetInfo.{NetInfo}
use Rattle.eq_net.specs.Net.{word_at}
use Rattle.eq_net.specs.Tree.{Tree}
use Rattle.eq_net.specs.Operators.{Reads}
use Rattle.eq_reads.specs.declared.graph.Nodes.{Nodes}
use Rattle.eq_reads.specs.Words.{AreNodes, AreThere, LeadsTo, IsReady, IsTold, reads_at, number_at}
use Rattle.eq_reads.specs.inner.Leading.{Appended, EachLeads, NodesGrew, PairLeads, RowGrew, SomeLeads}
use Rattle.eq_reads.specs.inner.Reading.{ReadIn, TreeReads, WordGrew}
use Rattle.eq_reads.proofs.Grown.{grew_none, grew_then, still}

-- the row's nodes lead to the same after nodes were added
pub row_still : (s now : Nodes) (row after : List ℕ) (p c : ℕ) → AreNodes s → NodesGrew s now → number_at row p <
    s.next →
    number_at after p ≡ number_at row p → LeadsTo now (number_at after p) c ↔ LeadsTo s (number_at row p) c
row_still s now row after p c are grew lt same =
    subst (λ (x : ℕ). LeadsTo now x c ↔ LeadsTo s (number_at row p) c) (sym same)
    (still s now are grew (number_at row p) c lt)

-- the same, said otherwise
pub row_same : (s : Nodes) (row : List ℕ) (now : Nodes) (after : List ℕ) (from m n : ℕ) (P Q : ℕ → ℕ → Type 0) → m ≡ n →
    ((j c : ℕ) → j < n → P j c ↔ Q j c) → RowGrew s row now after from m P → RowGrew s row now after from n Q
row_same s row now after from m n P Q is same f = record {
  nodes = f.nodes;
  size = (let e = f.size in omega arith);
  kept = f.kept;
  there = f.there;
  leads = λ j lt c. (let e = f.leads j (omega arith) c in let o = same j c lt in (λ l. o.0 (e.0 l), λ h. e.1 (o.1 h)));
}

-- what stands behind a place was replaced
pub row_then : (s : Nodes) (row : List ℕ) (t : Nodes) (mid : List ℕ) (now : Nodes) (after : List ℕ) (from m n k : ℕ)
    (P Q R : ℕ → ℕ → Type 0) → n ≡ k →
    RowGrew s row t mid from m P → ((j c : ℕ) → j < k → Q j c ↔ R j c) → RowGrew t mid now after from n Q →
    RowGrew s row now after from k R
row_then s row t mid now after from m n k P Q R is f same g = record {
  nodes = grew_then s t now f.nodes g.nodes;
  size = (let e = g.size in omega arith);
  kept = λ p lt. g.kept p lt ∙ f.kept p lt;
  there = g.there;
  leads = λ j lt c. (let e = g.leads j (omega arith) c in let o = same j c lt in (λ l. o.0 (e.0 l), λ h. e.1 (o.1 h)));
}

-- what stands behind a place stays
pub row_kept : (s : Nodes) (row : List ℕ) (now : Nodes) (after : List ℕ) (from end : ℕ) → AreThere s row →
    from ≤ end → end ≤ length row → NodesGrew s now →
    length after ≡ end → ((p : ℕ) → p < end → number_at after p ≡ number_at row p) →
    RowGrew s row now after from (end - from) (λ j c. LeadsTo now (number_at after (from + j)) c)
row_kept s row now after from end there le within grew size kept = record {
  nodes = grew;
  size = omega arith;
  kept = λ p lt. kept p (omega arith);
  there = λ p lt. (let k = kept p (omega arith) in let l = there p (omega arith) in let later = grew.later in omega
      arith);
  leads = λ j lt c. (λ l. l, λ l. l);
}

-- more was put behind, whatever it leads to
pub row_over : (s : Nodes) (row : List ℕ) (t : Nodes) (mid : List ℕ) (now : Nodes) (after : List ℕ) (from m n : ℕ)
    (P Q : ℕ → ℕ → Type 0) →
    RowGrew s row t mid from m P → RowGrew t mid now after (length mid) n Q →
    RowGrew s row now after from (m + n) (λ j c. LeadsTo now (number_at after (from + j)) c)
row_over s row t mid now after from m n P Q f g = record {
  nodes = grew_then s t now f.nodes g.nodes;
  size = (let e = f.size in let h = g.size in omega arith);
  kept = λ p lt. (let e = f.size in g.kept p (omega arith) ∙ f.kept p lt);
  there = g.there;
  leads = λ j lt c. (λ l. l, λ l. l);
}

-- one node behind those that were kept
pub row_one : (s : Nodes) (row : List ℕ) (now : Nodes) (mid after : List ℕ) (from node : ℕ) (P : ℕ → ℕ → Type 0) →
    AreThere s row → from ≤ length row → NodesGrew s now →
    length mid ≡ from → ((p : ℕ) → p < from → number_at mid p ≡ number_at row p) →
    length after ≡ length mid + 1 → number_at after (length mid) ≡ node →
    ((p : ℕ) → p < length mid → number_at after p ≡ number_at mid p) →
    node < now.next → ((c : ℕ) → LeadsTo now node c ↔ P 0 c) → RowGrew s row now after from 1 P
row_one s row now mid after from node P there le grew size kept more put others lt leads = record {
  nodes = grew;
  size = omega arith;
  kept = λ p less. others p (omega arith) ∙ kept p less;
  there = λ p less. elim (cases_lt p from) [
    | inl before ↦ (let o = others p (omega arith) in let k = kept p before in let l = there p (omega arith) in let
        later = grew.later in omega arith)
    | inr last ↦ (let at : length mid ≡ p = omega arith in subst (λ (q : ℕ). number_at after q < now.next) at
        (omega arith))
  ];
  leads = λ j less c. (
      let at : length mid ≡ from + j = omega arith in
      let zero_is : 0 ≡ j = omega arith in
      subst (λ (i : ℕ). LeadsTo now (number_at after (from + j)) c ↔ P i c) zero_is
      (subst (λ (p : ℕ). LeadsTo now (number_at after p) c ↔ P 0 c) at (subst (λ (x : ℕ). LeadsTo now x c ↔ P 0 c)
      (sym put) (leads c))));
}

-- more was put behind
pub row_beside : (s : Nodes) (row : List ℕ) (t : Nodes) (mid : List ℕ) (now : Nodes) (after : List ℕ) (from m n : ℕ)
    (P Q R : ℕ → ℕ → Type 0) →
    RowGrew s row t mid from m P → RowGrew t mid now after (length mid) n Q →
    ((j c : ℕ) → j < m → P j c ↔ R j c) → ((j c : ℕ) → j < n → Q j c ↔ R (m + j) c) → RowGrew s row now after from
    (m + n) R
row_beside s row t mid now after from m n P Q R f g low high = record {
  nodes = grew_then s t now f.nodes g.nodes;
  size = (let e = f.size in let h = g.size in omega arith);
  kept = λ p lt. (let e = f.size in g.kept p (omega arith) ∙ f.kept p lt);
  there = g.there;
  leads = λ j lt c. elim (cases_lt j m) [
    | inl less ↦ (
        let e = f.size in
        let k = row_still t now mid after (from + j) c f.nodes.are g.nodes (f.there (from + j) (omega arith))
        (g.kept (from + j) (omega arith)) in
        let a = f.leads j less c in
        let o = low j c less in
        (λ l. o.0 (a.0 (k.0 l)), λ h. k.1 (a.1 (o.1 h))))
    | inr more ↦ (
        let e = f.size in
        let i = j - m in
        let at : from + j ≡ length mid + i = omega arith in
        let back : m + i ≡ j = omega arith in
        let a = g.leads i (omega arith) c in
        let o = high i c (omega arith) in (
          λ l. subst (λ (k : ℕ). R k c) back (o.0 (a.0 (subst (λ (p : ℕ). LeadsTo now (number_at after p) c) at l))),
          λ h. subst (λ (p : ℕ). LeadsTo now (number_at after p) c) (sym at)
              (a.1 (o.1 (subst (λ (k : ℕ). R k c) (sym back) h))),
        ))
  ];
}

-- what stands behind a place was dropped, and nodes were added
pub row_cut : (s : Nodes) (row : List ℕ) (t : Nodes) (mid : List ℕ) (now : Nodes) (after : List ℕ) (from m : ℕ)
    (P Q : ℕ → ℕ → Type 0) →
    RowGrew s row t mid from m P → NodesGrew t now → length after ≡ from →
    ((p : ℕ) → p < from → number_at after p ≡ number_at mid p) →
    RowGrew s row now after from 0 Q
row_cut s row t mid now after from m P Q f g size kept = record {
  nodes = grew_then s t now f.nodes g;
  size = omega arith;
  kept = λ p lt. kept p lt ∙ f.kept p lt;
  there = λ p lt. (
      let e = f.size in
      let is = kept p (omega arith) in
      let l = f.there p (omega arith) in
      let later = g.later in
      omega arith);
  leads = λ j lt c. absurd (omega arith);
}

-- nodes that are there were put behind
pub appended_row : (s : Nodes) (row after : List ℕ) (count : ℕ) (f : ℕ → ℕ) (P : ℕ → ℕ → Type 0) → AreNodes s →
    AreThere s row → Appended row after count f →
    ((j : ℕ) → j < count → f j < s.next) → ((j c : ℕ) → j < count → LeadsTo s (f j) c ↔ P j c) → RowGrew s row s after
    (length row) count P
appended_row s row after count f P are there a fits leads = record {
  nodes = grew_none s are;
  size = a.size;
  kept = a.kept;
  there = λ p lt. (let e = a.size in elim (cases_lt p (length row)) [
    | inl less ↦ (let is = a.kept p less in let l = there p less in omega arith)
    | inr more ↦ (
        let i = p - length row in
        let at : length row + i ≡ p = omega arith in
        let is = a.added i (omega arith) in
        let l = fits i (omega arith) in
        subst (λ (q : ℕ). number_at after q < s.next) at (omega arith))
  ]);
  leads = λ j lt c. subst (λ (x : ℕ). LeadsTo s x c ↔ P j c) (sym (a.added j lt)) (leads j c lt);
}

pub appended_next : (row mid after : List ℕ) (k x : ℕ) (f : ℕ → ℕ) → Appended row mid k f → length after ≡ length mid
    + 1 → number_at after (length mid) ≡ x →
    ((p : ℕ) → p < length mid → number_at after p ≡ number_at mid p) → x ≡ f k → Appended row after (k + 1) f
appended_next row mid after k x f a size there kept is = record {
  size = (let e = a.size in omega arith);
  kept = λ p lt. (let e = a.size in kept p (omega arith) ∙ a.kept p lt);
  added = λ j lt. (let e = a.size in elim (cases_lt j k) [
    | inl less ↦ kept (length row + j) (omega arith) ∙ a.added j less
    | inr more ↦ (
        let at : k ≡ j = omega arith in
        let place : length row + k ≡ length mid = omega arith in
        subst (λ (i : ℕ). number_at after (length row + i) ≡ f i) at (ap (number_at after) place ∙ there ∙ is))
  ]);
}

-- rows to which one node was put behind so that each place has it beside it
pub filled_there : (s : Nodes) (row after : List ℕ) (count node : ℕ) → AreThere s row → node < s.next →
    Appended row after count (λ j. node) → AreThere s after
filled_there s row after count node there lt a p less = (let e = a.size in elim (cases_lt p (length row)) [
  | inl before ↦ (let k = a.kept p before in let l = there p before in omega arith)
  | inr behind ↦ (
      let i = p - length row in
      let at : length row + i ≡ p = omega arith in
      let is = a.added i (omega arith) in
      subst (λ (q : ℕ). number_at after q < s.next) at (omega arith))
])

pub mixed_row : (s : Nodes) (row mid : List ℕ) (now : Nodes) (after : List ℕ) (from count other : ℕ) → AreNodes s →
    from ≤ length row → count ≡ length row - from →
    Appended row mid count (λ j. other) → RowGrew s mid now after from count (PairLeads s mid from (length row)) →
    RowGrew s row now after from count (EachLeads s row from other)
mixed_row s row mid now after from count other are le is a f = record {
  nodes = f.nodes;
  size = f.size;
  kept = λ p lt. f.kept p lt ∙ a.kept p (omega arith);
  there = f.there;
  leads = λ j lt c. (
      let e = f.leads j lt c in
      let x = a.kept (from + j) (omega arith) in
      let y = a.added j lt in (
        λ l. elim (e.0 l) [
          | inl h ↦ inl (subst (λ (z : ℕ). LeadsTo s z c) x h)
          | inr h ↦ inr
              (subst (λ (z : ℕ). LeadsTo s z c) y h)
        ],
        λ o. e.1 (elim o [
          | inl h ↦ inl (subst (λ (z : ℕ). LeadsTo s z c) (sym x) h)
          | inr h ↦ inr
              (subst (λ (z : ℕ). LeadsTo s z c) (sym y) h)
        ]),
      ));
}

-- ---- nodes that lead to what positions read
module _ (s : Nodes) (row : List ℕ) (base m : ℕ) (r : Reads)
    (leads : (j : ℕ) → j < m → (c : ℕ) → LeadsTo s (number_at row (base + j)) c ↔ Contains (r j) c) where
  pub some_in : (l h c low high : ℕ) → low ≡ base + l → high ≡ base + h → h ≤ m → SomeLeads s row low high c →
      ReadIn r l h c
  some_in l h c low high is_low is_high le i =
      let x = i.from_low in
      let y = i.to_high in
      let j = i.place - base in
      let at : i.place ≡ base + j = omega arith in
      record {
        position = j;
        from_low = omega arith;
        to_high = omega arith;
        reads = (leads j (omega arith) c).0 (subst (λ (p : ℕ). LeadsTo s (number_at row p) c) at i.leads);
      }

  pub in_some : (l h c low high : ℕ) → low ≡ base + l → high ≡ base + h → h ≤ m → ReadIn r l h c → SomeLeads s row low
      high c
  in_some l h c low high is_low is_high le i =
      let x = i.from_low in
      let y = i.to_high in
      record {
        place = base + i.position;
        from_low = omega arith;
        to_high = omega arith;
        leads = (leads i.position (omega arith) c).1 i.reads;
      }

-- the nodes of the words before stay
pub ready_still : (nets : List NetInfo) (words : List Tree) (places : List ℕ) (s : Nodes) (row : List ℕ) (now : Nodes) (after : List ℕ) (n : ℕ)
    (P : ℕ → ℕ → Type 0) →
    IsReady nets words places s row → RowGrew s row now after (length row) n P → IsReady nets words places now after
ready_still nets words places s row now after n P ready f = record {
  are = f.nodes.are;
  there = f.there;
  low = (let l = ready.low in let e = f.nodes.none in omega arith);
  told = λ w j lw lj. (
      let t = ready.told w j lw lj in
      let p = number_at places w + j in
      let k = λ (c : ℕ). row_still s now row after p c ready.are f.nodes (ready.there p t.there) (f.kept p t.there) in
      record {
        there = (let lt = t.there in let e = f.size in omega arith);
        leads = λ c. (let e = t.leads c in (λ l. e.0 ((k c).0 l), λ h. (k c).1 (e.1 h)));
      });
}

-- the nodes of a word were put behind them
pub ready_next : (nets : List NetInfo) (words : List Tree) (places places_after : List ℕ) (s : Nodes) (row : List ℕ) (now : Nodes)
    (after : List ℕ) (k : ℕ) → length places ≡ k →
    IsReady nets words places s row → WordGrew nets words places s row now after (word_at words k) →
    length places_after ≡ k + 1 → ((w : ℕ) → w < k → number_at places_after w ≡ number_at places w) →
    number_at places_after k ≡ length row →
    IsReady nets words places_after now after
ready_next nets words places places_after s row now after k count ready f size kept last =
    let P : ℕ → Type 0 = λ n. RowGrew s row now after (length row) (width (word_at words k))
    (TreeReads nets words n (word_at words k)) in
    let g = subst P count f in
    let still_ready = ready_still nets words places s row now after (width (word_at words k))
    (TreeReads nets words k (word_at words k)) ready g in
    record {
      are = still_ready.are;
      there = still_ready.there;
      low = still_ready.low;
      told = λ w j lw lj. elim (cases_lt w k) [
        | inl less ↦ (
            let t = still_ready.told w j (omega arith) lj in
            let at = sym (kept w less) in
            record {
              there = subst (λ (p : ℕ). p + j < length after) at t.there;
              leads = λ c. subst (λ (p : ℕ). LeadsTo now (number_at after (p + j)) c ↔ Contains (reads_at nets words w j) c)
                  at (t.leads c);
            })
        | inr more ↦ (
            let same : k ≡ w = omega arith in
            let lk : j < width (word_at words k) = subst (λ (v : ℕ). j < width (word_at words v)) (sym same)
            lj in
            let at = sym last in
            let here : IsTold nets words places_after now after k j = record {
              there = (let e = g.size in let l = last in omega arith);
              leads = λ c. subst (λ (p : ℕ). LeadsTo now (number_at after (p + j)) c ↔ Contains (reads_at nets words k j) c)
                  at (g.leads j lk c);
            } in
            subst (λ (v : ℕ). IsTold nets words places_after now after v j) same here)
      ];
    }
