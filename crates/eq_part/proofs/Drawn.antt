-- The edges of words, pairs and bits that are in none make the graph of visits.
use Rattle.std.proofs.Common.{◌≡◌, ℕ, ◌+◌, ◌<◌, ◌↔◌, List, Bool, true, false, not, length, Contains, refl, arith, sym, subst, ◌∙◌, inl, inr}
use Rattle.eq_model.specs.Frames.{values}
use Rattle.eq_model.specs.System.{reads_ever}
use Rattle.eq_net.specs.declared.types.Driver.{Driver}
use Rattle.eq_net.specs.declared.types.Driver.TheVariants.{Input, Undriven, Expr as WordOf, Reg}
use Rattle.eq_net.specs.Net.{IsNet, NamesWord, Parts, bits_of, driver_at, source_of}
use Rattle.eq_match.specs.declared.types.Pair.{Pair}
use Rattle.eq_match.specs.Matched.{gold_bit}
use Rattle.eq_match.specs.Pairs.{pair_at}
use Rattle.eq_reads.specs.declared.graph.Nodes.{Nodes}
use Rattle.eq_reads.specs.declared.graph.Edge.{Edge}
use Rattle.eq_reads.specs.Graph.{Joins, from_at, to_at, Leads}
use Rattle.eq_reads.specs.Words.{LeadsTo, IsReady, picked_node, number_at}
use Rattle.eq_part.specs.inner.Visits.{AreLed, AreVisits, DrawnVisits, IsWordBit, Unpaired, Visits, outer, part_node}
use Rattle.eq_reads.specs.inner.Drawing.{Gains, IsPlacedDriver}
use Rattle.eq_reads.proofs.Grown.{leaf_leads}
use Rattle.eq_reads.proofs.Gained.{leads_still}
use Rattle.eq_reads.proofs.Placed.{named_there, placed_driver, word_leads}
use Rattle.eq_reads.proofs.Ranged.{none_read}
use Rattle.eq_reads.proofs.Ways.{all_at}

held_is : (b : Bool) → b ≡ false → not b ≡ true
held_is true is = absurd (cc)
held_is false is = refl

input_is : (b : Bool) → not b ≡ true → b ≡ false
input_is true is = absurd (cc)
input_is false is = refl

module _ (gold : Parts) (net : IsNet gold) (pairs : List Pair) (leaders : List ℕ) (led : AreLed gold pairs leaders)
    (places : List ℕ) (s : Nodes) (row : List ℕ)
    (ready : IsReady gold.nets gold.words places s row) (count : length places ≡ length gold.words)
    (none_is : s.none ≡ outer gold pairs)
    (paired : List Bool) (told : (b : ℕ) → b < bits_of gold.nets → (values paired b ≡ false) ↔ Unpaired gold pairs b)
    (edges : List Edge) (gains : Gains s.edges.items edges (DrawnVisits gold pairs leaders (values paired) places
    row)) where
  abbrev none : ℕ
  none = outer gold pairs

  abbrev D : ℕ → ℕ → Type 0
  D = DrawnVisits gold pairs leaders (values paired) places row

  abbrev d_at : ℕ → Driver
  d_at b = driver_at gold b

  part_outside : (i : ℕ) → i < length pairs → part_node gold leaders i < none
  part_outside i li = (let l = led.led i li in omega arith)

  bit_outside : (i : ℕ) → i < length pairs → gold_bit gold pairs i < none
  bit_outside i li = (let l = named_there gold.nets (pair_at pairs i).gold (led.there i li) in omega arith)

  drawn_outside : (a b : ℕ) → D a b → a < none
  drawn_outside a b (inl p) = elim p.visits.1 [
    | inl part ↦ (let is = part.0 in let l = part_outside p.pair p.before in omega arith)
    | inr out ↦ (let is = out.0 in let l = bit_outside p.pair p.before in omega arith)
  ]
  drawn_outside a b (inr f) = (let lt = f.before in omega arith)

  -- edges from bits and partitions change nothing of what inner nodes lead to
  still : (x c : ℕ) → Leads edges none x c ↔ LeadsTo s x c
  still x c = subst (λ (n : ℕ). Leads edges none x c ↔ Leads s.edges.items n x c) (sym none_is)
      (leads_still s.edges.items edges none D gains drawn_outside x c)

  -- ---- what drives a bit

  leads_word : (w j c : ℕ) → NamesWord gold.words (WordOf w j) →
      LeadsTo s (picked_node places row (record { word = w; bit = j })) c ↔
      Contains (reads_ever (source_of gold.nets gold.words (WordOf w j))) c
  leads_word w j c named = word_leads gold.nets gold.words places s row ready (omega arith) w j c named

  driver_leads : (d : Driver) → NamesWord gold.words d → (x c : ℕ) → IsWordBit places row d x → LeadsTo s x c →
      Contains (reads_ever (source_of gold.nets gold.words d)) c
  driver_leads Input named x c driven l = absurd driven
  driver_leads Undriven named x c driven l = absurd driven
  driver_leads (WordOf w j) named x c driven l = (leads_word w j c named).0 (subst (λ (y : ℕ). LeadsTo s y c) driven l)
  driver_leads (Reg init w j) named x c driven l = (leads_word w j c named).0 (subst (λ (y : ℕ). LeadsTo s y c) driven
      l)

  driver_read : (d : Driver) → NamesWord gold.words d → (c : ℕ) →
      Contains (reads_ever (source_of gold.nets gold.words d)) c → (x : ℕ) × IsWordBit places row d x × LeadsTo s x c
  driver_read Input named c h = absurd (none_read c h)
  driver_read Undriven named c h = absurd (none_read c h)
  driver_read (WordOf w j) named c h = (
    picked_node places row (record { word = w; bit = j }),
    refl,
    (leads_word w j c named).1 h,
  )
  driver_read (Reg init w j) named c h = (
    picked_node places row (record { word = w; bit = j }),
    refl,
    (leads_word w j c named).1 h,
  )

  driver_there : (d : Driver) → IsPlacedDriver places row d → (x : ℕ) → IsWordBit places row d x → x < s.next
  driver_there Input at x driven = absurd driven
  driver_there Undriven at x driven = absurd driven
  driver_there (WordOf w j) at x driven = (let l = ready.there (number_at places w + j) at.1 in omega arith)
  driver_there (Reg init w j) at x driven = (let l = ready.there (number_at places w + j) at.1 in omega arith)

  named : (b : ℕ) → NamesWord gold.words (d_at b)
  named b = all_at (NamesWord gold.words) gold.drivers Undriven net.drivers_named tt b

  bit_there : (b x : ℕ) → IsWordBit places row (d_at b) x → x < s.next
  bit_there b x driven = driver_there (d_at b) (placed_driver gold.nets gold.words places s row ready (omega arith) gold.drivers net.drivers_named b) x driven

  -- ---- the graph

  drawn_below : (a b : ℕ) → D a b → (a < s.next) × (b < s.next)
  drawn_below a b v =
      let room = ready.are.room in
      let out = drawn_outside a b v in (
        omega arith,
        elim v [
          | inl p ↦ elim p.visits.1 [
            | inl part ↦ bit_there (gold_bit gold pairs p.pair) b part.1
            | inr o ↦ (let is = o.1 in let l = part_outside p.pair p.before in omega arith)
          ]
          | inr f ↦ bit_there a b f.driven
        ],
      )

  below : (a b : ℕ) → Joins edges a b → (a < s.next) × (b < s.next)
  below a b j = elim (gains.only a b j) [
    | inl old ↦ (let st = ready.are.starts a b old in let d = ready.are.down a b old in (st, omega arith))
    | inr new ↦ drawn_below a b new
  ]

  there : (a b : ℕ) → Visits gold pairs leaders a b → (x : ℕ) × Joins edges a x × Leads edges none x b
  there a b (inl v) =
      let bit = gold_bit gold pairs v.output in
      let r = driver_read (d_at bit) (named bit) b v.reads in
      let drawn : D a r.0 = inl
      (record {
        pair = v.output;
        before = v.there;
        visits = (
          input_is (pair_at pairs v.output).input v.held,
          inl (v.is, r.1),
        );
      }) in
      (r.0, gains.there a r.0 drawn, (still r.0 b).1 r.2)
  there a b (inr (inl v)) =
      let drawn : D a b = inl (record {
        pair = v.output;
        before = v.there;
        visits = (input_is (pair_at pairs v.output).input v.held, inr (v.is, v.part));
      }) in
      let out = part_outside v.output v.there in
      let is = v.part in
      let lt : b < none = omega arith in
      (b, gains.there a b drawn, (0, (refl, lt)))
  there a b (inr (inr v)) =
      let r = driver_read (d_at a) (named a) b v.reads in
      let drawn : D a r.0 = inr (record { before = v.there; free = (told a v.there).1 v.unpaired; driven = r.1 }) in
      (r.0, gains.there a r.0 drawn, (still r.0 b).1 r.2)

  only_drawn : (a x b : ℕ) → D a x → Leads edges none x b → Visits gold pairs leaders a b
  only_drawn a x b (inl p) l = elim p.visits.1 [
    | inl part ↦ (
        let bit = gold_bit gold pairs p.pair in
        inl (record {
          output = p.pair;
          there = p.before;
          held = held_is (pair_at pairs p.pair).input p.visits.0;
          is = part.0;
          reads = driver_leads (d_at bit) (named bit) x b part.1 ((still x b).0 l);
        }))
    | inr o ↦ (
        let out = part_outside p.pair p.before in
        let is = o.1 in
        let lt : x < none = omega arith in
        let same = (leaf_leads edges none x b lt).0 l in
        inr (inl (record {
          output = p.pair;
          there = p.before;
          held = held_is (pair_at pairs p.pair).input p.visits.0;
          is = o.0;
          part = sym same ∙ o.1;
        })))
  ]
  only_drawn a x b (inr f) l = inr (inr (record {
    there = f.before;
    unpaired = (told a f.before).0 f.free;
    reads = driver_leads (d_at a) (named a) x b f.driven ((still x b).0 l);
  }))

  pub all_visits : AreVisits gold pairs leaders edges s.next
  all_visits = record {
    room = (let r = ready.are.room in omega arith);
    between = record {
      starts = λ e lt. (below (from_at edges e) (to_at edges e)
          (record { edge = e; there = lt; starts = refl; ends = refl })).0;
      ends = λ e lt. (below (from_at edges e) (to_at edges e)
          (record { edge = e; there = lt; starts = refl; ends = refl })).1;
    };
    there = there;
    only = λ a x b lt j l. elim (gains.only a x j) [
      | inl old ↦ (let i = ready.are.inner a x old in absurd (omega arith))
      | inr new ↦ only_drawn a x b new l
    ];
  }
