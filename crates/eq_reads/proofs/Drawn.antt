-- The edges of words and of what drives bits within a cycle make the graph of reads.
use Rattle.std.proofs.Common.{◌≡◌, ℕ, ◌+◌, ◌<◌, ◌↔◌, List, length, slice_index_or, All, Contains, refl, arith, sym, subst, inl, inr}
use Rattle.eq_model.specs.System.{Reads, reads_now}
use Rattle.eq_net.specs.declared.types.Driver.{Driver}
use Rattle.eq_net.specs.declared.types.Driver.TheVariants.{Input, Undriven, Expr as WordOf, Reg}
use Rattle.eq_net.specs.declared.types.NetInfo.{NetInfo}
use Rattle.eq_net.specs.Net.{NamesWord, bits_of, design_of, source_of}
use Rattle.eq_net.specs.Tree.{Tree}
use Rattle.eq_reads.specs.declared.graph.Edge.{Edge}
use Rattle.eq_reads.specs.declared.graph.Nodes.{Nodes}
use Rattle.eq_reads.specs.Graph.{AreReads, Joins, Leads, LeadsOver, bare, from_at, to_at}
use Rattle.eq_reads.specs.Words.{IsReady, LeadsTo, number_at, picked_node}
use Rattle.eq_reads.specs.inner.Drawing.{Gains, IsNowBit, IsPlacedDriver, NowDrawn}
use Rattle.eq_reads.proofs.Gained.{leads_still}
use Rattle.eq_reads.proofs.Placed.{placed_driver, word_leads}
use Rattle.eq_reads.proofs.Ranged.{none_read}
use Rattle.eq_reads.proofs.Ways.{all_at}

module _ (nets : List NetInfo) (words : List Tree) (drivers : List Driver) (names : All (NamesWord words) drivers)
    (places : List ℕ) (s : Nodes) (row : List ℕ) (ready : IsReady nets words places s row)
    (count : length places ≡ length words) (size : length drivers ≡ bits_of nets) (none_is : s.none ≡ bits_of nets)
    (edges : List Edge) (gains : Gains s.edges.items edges (NowDrawn drivers places row (length drivers))) where
  abbrev outer : ℕ
  outer = bits_of nets

  abbrev D : ℕ → ℕ → Type 0
  D = NowDrawn drivers places row (length drivers)

  abbrev d_at : ℕ → Driver
  d_at b = slice_index_or drivers b Undriven

  -- ---- what drives a bit within a cycle

  leads_word : (w j c : ℕ) → NamesWord words (WordOf w j) →
      LeadsTo s (picked_node places row (record { word = w; bit = j })) c ↔
      Contains (reads_now (source_of nets words (WordOf w j))) c
  leads_word w j c named = word_leads nets words places s row ready (omega arith) w j c named

  now_leads : (d : Driver) → NamesWord words d → (x c : ℕ) → IsNowBit places row d x → LeadsTo s x c →
      Contains (reads_now (source_of nets words d)) c
  now_leads Input named x c driven l = absurd driven
  now_leads Undriven named x c driven l = absurd driven
  now_leads (WordOf w j) named x c driven l = (leads_word w j c named).0 (subst (λ (y : ℕ). LeadsTo s y c) driven l)
  now_leads (Reg init w j) named x c driven l = absurd driven

  now_read : (d : Driver) → NamesWord words d → (c : ℕ) → Contains (reads_now (source_of nets words d)) c →
      (x : ℕ) × IsNowBit places row d x × LeadsTo s x c
  now_read Input named c h = absurd (none_read c h)
  now_read Undriven named c h = absurd (none_read c h)
  now_read (WordOf w j) named c h =
      (picked_node places row (record { word = w; bit = j }), refl, (leads_word w j c named).1 h)
  now_read (Reg init w j) named c h = absurd (none_read c h)

  now_there : (d : Driver) → IsPlacedDriver places row d → (x : ℕ) → IsNowBit places row d x → x < s.next
  now_there Input at x driven = absurd driven
  now_there Undriven at x driven = absurd driven
  now_there (WordOf w j) at x driven = (let l = ready.there (number_at places w + j) at.1 in omega arith)
  now_there (Reg init w j) at x driven = absurd driven

  named_at_bit : (b : ℕ) → NamesWord words (d_at b)
  named_at_bit b = all_at (NamesWord words) drivers Undriven names tt b

  -- ---- the graph

  below : (a b : ℕ) → Joins edges a b → (a < s.next) × (b < s.next)
  below a b j = elim (gains.only a b j) [
    | inl old ↦ (
        let st = ready.are.starts a b old in
        let d = ready.are.down a b old in
        (st, omega arith))
    | inr new ↦ (
        let lt = new.before in
        let room = ready.are.room in
        let placed = placed_driver nets words places s row ready (omega arith) drivers names a in
        (omega arith, now_there (d_at a) placed b new.driven))
  ]

  outside : (a b : ℕ) → D a b → a < outer
  outside a b d = (let lt = d.before in omega arith)

  still : (x c : ℕ) → Leads edges outer x c ↔ LeadsTo s x c
  still x c = subst (λ (n : ℕ). Leads edges outer x c ↔ Leads s.edges.items n x c) (sym none_is)
      (leads_still s.edges.items edges outer D gains outside x c)

  abbrev Read : ℕ → ℕ → Type 0
  Read = Reads (design_of (bare nets words drivers)).system

  there : (a b : ℕ) → a < outer → Read a b → LeadsOver edges outer a b
  there a b lt reads =
      let r = now_read (d_at a) (named_at_bit a) b reads in
      let drawn : D a r.0 = record { before = omega arith; driven = r.1 } in
      (r.0, gains.there a r.0 drawn, (still r.0 b).1 r.2)

  only : (a b : ℕ) → a < outer → LeadsOver edges outer a b → Read a b
  only a b lt (x, j, l) = elim (gains.only a x j) [
    | inl old ↦ (let i = ready.are.inner a x old in absurd (omega arith))
    | inr new ↦ now_leads (d_at a) (named_at_bit a) x b new.driven ((still x b).0 l)
  ]

  -- the graph of reads
  pub all_reads : AreReads nets words drivers edges s.next
  all_reads = record {
    bits = (let r = ready.are.room in omega arith);
    between = record {
      starts = λ e lt. (below (from_at edges e) (to_at edges e)
          (record { edge = e; there = lt; starts = refl; ends = refl })).0;
      ends = λ e lt. (below (from_at edges e) (to_at edges e)
          (record { edge = e; there = lt; starts = refl; ends = refl })).1;
    };
    sound = λ a b lt. (there a b lt, only a b lt);
    inner = λ a b le j. elim (gains.only a b j) [
      | inl old ↦ ready.are.down a b old
      | inr new ↦ (let out = outside a b new in absurd (omega arith))
    ];
  }
