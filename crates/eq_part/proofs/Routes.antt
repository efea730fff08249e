-- Chains of visits are the steps from partition to partition.
use Rattle.std.proofs.Common.{◌≡◌, ℕ, zero, suc, ◌+◌, ◌<◌, ◌⊎◌, List, Bool, true, length, Contains, refl, arith, sym, ap, subst, inl, inr}
use Rattle.std.proofs.lemmas.Bool.{cases_lt, eq-eqb, eqb-true}
use Rattle.std.proofs.Math.ListN.{get_or-eq_default}
use Rattle.eq_model.specs.System.{Driver as Source, IsDriver, IsSystem, ReadsEver, equation, input, reads_ever, register, undriven}
use Rattle.eq_net.specs.declared.types.Driver.{Driver}
use Rattle.eq_net.specs.declared.types.Driver.TheVariants.{Undriven}
use Rattle.eq_net.specs.Net.{IsNet, Parts, bits_of, driver_at, source_of, system_of}
use Rattle.eq_match.specs.declared.types.Pair.{Pair}
use Rattle.eq_match.specs.Groups.{is_held}
use Rattle.eq_match.specs.Leaders.{one_leader}
use Rattle.eq_match.specs.Pairs.{pair_at}
use Rattle.eq_match.specs.Matched.{gold_bit}
use Rattle.eq_part.specs.Reach.{AreOfOne, GoesOn, LeadsIn, PartLeads, Reaches}
use Rattle.eq_reads.specs.inner.Chains.{Chain}
use Rattle.eq_part.specs.inner.Visits.{AreLed, Unpaired, Visits, part_node}
use Rattle.eq_reads.specs.Words.{number_at}
use Rattle.eq_reads.proofs.Placed.{named_there}
use Rattle.eq_reads.proofs.Ranged.{none_read}
use Rattle.eq_reads.proofs.Ways.{Way, way_from, way_none, way_one, way_then}
use Rattle.eq_part.proofs.Ways.{find_pair}

-- a driver reads bits of the system alone
driver_below : (bits : ℕ) (d : Source) → IsDriver bits d → (c : ℕ) → Contains (reads_ever d) c → c < bits
driver_below bits input is c has = absurd (none_read c has)
driver_below bits undriven is c has = absurd (none_read c has)
driver_below bits (equation e) is c has = is.bounded c has
driver_below bits (register init e) is c has = is.bounded c has

module _ (gold : Parts) (net : IsNet gold) (sys : IsSystem (system_of gold)) (pairs : List Pair) (leaders : List ℕ)
    (led : AreLed gold pairs leaders) where
  abbrev B : ℕ
  B = bits_of gold.nets

  abbrev V : ℕ → ℕ → Type 0
  V = Visits gold pairs leaders

  gold_there : (i : ℕ) → i < length pairs → gold_bit gold pairs i < B
  gold_there i lt = named_there gold.nets (pair_at pairs i).gold (led.there i lt)

  -- a bit that reads is there, and so is what it reads
  reader_there : (b c : ℕ) → ReadsEver (system_of gold) b c → b < B
  reader_there b c reads = elim (cases_lt b B) [
    | inl less ↦ less
    | inr more ↦ (
        let count = net.one_driver in
        let none : driver_at gold b ≡ Undriven = get_or-eq_default gold.drivers Undriven (omega arith) in
        absurd (none_read c (subst (λ (d : Driver). Contains (reads_ever (source_of gold.nets gold.words d)) c) none
        reads)))
  ]

  read_there : (b c : ℕ) → ReadsEver (system_of gold) b c → c < B
  read_there b c reads = driver_below B (source_of gold.nets gold.words (driver_at gold b))
      (sys b (reader_there b c reads)) c reads

  -- ---- from the reads to chains

  -- a chain of reads through bits that are in no pair, from what visits all that its first bit reads
  reads_way : (m x a c : ℕ) → ((d : ℕ) → ReadsEver (system_of gold) a d → V x d) → Reaches gold (Unpaired gold pairs)
      m a c → Way V x c
  reads_way zero x a c from reads = way_one V x c (from c reads)
  reads_way (suc m) x a c from (d, reads, unpaired, more) =
      way_from V x d c (from d reads)
      (reads_way m d d c (λ e next. inr
      (inr (record { there = reader_there d e next; unpaired = unpaired; reads = next }))) more)

  -- ---- partitions

  abbrev T : ℕ → ℕ → Bool
  T = one_leader leaders

  abbrev One : ℕ → ℕ → Type 0
  One = AreOfOne pairs T

  leaders_same : (p q : ℕ) → One p q → number_at leaders p ≡ number_at leaders q
  leaders_same p q one = eqb-true (number_at leaders p) (number_at leaders q) one.one

  of_one : (p q : ℕ) → p < length pairs → q < length pairs → is_held pairs p ≡ true → is_held pairs q ≡ true →
      number_at leaders p ≡ number_at leaders q → One p q
  of_one p q lp lq hp hq same = record {
    here = lp;
    there = lq;
    held_here = hp;
    held_there = hq;
    one = eq-eqb (number_at leaders p) (number_at leaders q) same;
  }

  -- an output of q's partition reaches the bit through bits that are in no pair
  record FromPart (q b : ℕ) : Type 0 where
    output : ℕ
    output_is : One q output
    steps : ℕ
    reaches : Reaches gold (Unpaired gold pairs) steps (gold_bit gold pairs output) b

  -- a chain that goes on at q's outputs begins anew at the last of them
  split : (q m a b : ℕ) → Reaches gold (GoesOn gold pairs T q) m a b →
      ((k : ℕ) × Reaches gold (Unpaired gold pairs) k a b) ⊎ FromPart q b
  split q zero a b h = inl (0, h)
  split q (suc m) a b (c, reads, goes, more) = elim (split q m c b more) [
    | inl rest ↦ elim (find_pair gold pairs c (length pairs)) [
      | inl found ↦ inr (record {
        output = found.0;
        output_is = goes found.0 found.1 found.2;
        steps = rest.0;
        reaches = subst (λ (x : ℕ). Reaches gold (Unpaired gold pairs) rest.0 x b) (sym found.2) rest.1;
      })
      | inr none ↦ inl (suc rest.0, (c, reads, none, rest.1))
    ]
    | inr part ↦ inr part
  ]

  from_part : (q m a b : ℕ) → One q a → Reaches gold (GoesOn gold pairs T q) m (gold_bit gold pairs a) b → FromPart q b
  from_part q m a b one h = elim (split q m (gold_bit gold pairs a) b h) [
    | inl rest ↦ record { output = a; output_is = one; steps = rest.0; reaches = rest.1 }
    | inr part ↦ part
  ]

  -- through no paired bit is through none outside q's partition
  widen : (q m a b : ℕ) → Reaches gold (Unpaired gold pairs) m a b → Reaches gold (GoesOn gold pairs T q) m a b
  widen q zero a b h = h
  widen q (suc m) a b (c, reads, unpaired, more) = (c, reads, λ i lt is. absurd (unpaired i lt is), widen q m c b more)

  -- one more read at the end
  longer : (m a b c : ℕ) → Reaches gold (Unpaired gold pairs) m a b → Unpaired gold pairs b →
      ReadsEver (system_of gold) b c → Reaches gold (Unpaired gold pairs) (suc m) a c
  longer zero a b c h unpaired reads = (b, h, unpaired, reads)
  longer (suc m) a b c (d, first_reads, goes, more) unpaired reads = (
    d,
    first_reads,
    goes,
    longer m d b c more
        unpaired reads,
  )

  abbrev node : ℕ → ℕ
  node = part_node gold leaders

  node_same : (p q : ℕ) → One p q → node p ≡ node q
  node_same p q one = ap (λ (l : ℕ). B + l) (leaders_same p q one)

  part_way : (p r : ℕ) → PartLeads gold pairs T p r → Way V (node r) (node p)
  part_way p r leads =
      let from = from_part r leads.reads leads.output (gold_bit gold pairs leads.read) leads.output_is leads.reaches in
      let o = from.output in
      let one = from.output_is in
      let bit = gold_bit gold pairs leads.read in
      let way = reads_way from.steps (node o) (gold_bit gold pairs o) bit
      (λ d reads. inl (record { output = o; there = one.there; held = one.held_there; is = refl; reads = reads }))
      from.reaches in
      let back : V bit (node leads.read) =
      inr (inl (record {
        output = leads.read;
        there = leads.read_is.there;
        held = leads.read_is.held_there;
        is = refl;
        part = refl;
      })) in
      let whole = way_then V (node o) bit (node leads.read) way (way_one V bit (node leads.read) back) in
      subst (λ (x : ℕ). Way V x (node p)) (sym (node_same r o one))
      (subst (λ (x : ℕ). Way V (node o) x) (sym (node_same p leads.read leads.read_is)) whole)

  -- steps from partition to partition are chains
  pub steps_way : (n p e : ℕ) → LeadsIn gold pairs T n p e → Way V (node e) (node p)
  steps_way zero p e one = subst (λ (x : ℕ). Way V (node e) x) (sym (node_same p e one)) (way_none V (node e))
  steps_way (suc n) p e (r, leads, more) = way_then V (node e) (node r) (node p) (steps_way n r e more)
      (part_way p r leads)

  -- ---- from chains to the reads

  module _ (e : ℕ) where
    -- the bit is read by the gold cone of a partition that leads to e's
    record IsRead (c : ℕ) : Type 0 where
      part : ℕ
      steps : ℕ
      leads : LeadsIn gold pairs T steps part e
      reads : FromPart part c

    -- what a node stands for has to do with e's partition
    record Matters (x : ℕ) : Type 0 where
      bit : x < B → IsRead x
      part : (i : ℕ) → i < length pairs → is_held pairs i ≡ true → x ≡ node i → (n : ℕ) × LeadsIn gold pairs T n i e

    bit_matters : (x : ℕ) → x < B → IsRead x → Matters x
    bit_matters x lt read = record { bit = λ below. read; part = λ i li held at. absurd (omega arith) }

    part_matters : (i : ℕ) → i < length pairs → is_held pairs i ≡ true → (n q : ℕ) → LeadsIn gold pairs T n q e →
        FromPart q (gold_bit gold pairs i) → (x : ℕ) → x ≡ node i → Matters x
    part_matters i li held n q leads from x is = record {
      bit = λ lt. absurd (omega arith);
      part = λ k lk held_k at. (
          let same : number_at leaders k ≡ number_at leaders i = omega arith in (
            suc n,
            (
              q,
              record {
                read = i;
                read_is = of_one k i lk li held_k held same;
                output = from.output;
                output_is = from.output_is;
                reads = from.steps;
                reaches = widen q from.steps (gold_bit gold pairs from.output) (gold_bit gold pairs i) from.reaches;
              },
              leads,
            ),
          ));
    }

    start_matters : e < length pairs → is_held pairs e ≡ true → Matters (node e)
    start_matters le held = record {
      bit = λ lt. absurd (omega arith);
      part = λ k lk held_k at. (let same : number_at leaders k ≡ number_at leaders e = omega arith in
          (0, of_one k e lk le held_k held same));
    }

    visits : (a b : ℕ) → Matters a → V a b → Matters b
    visits a b m (inl v) =
        let i = v.output in
        let h = m.part i v.there v.held v.is in
        bit_matters b (read_there (gold_bit gold pairs i) b v.reads) (record {
          part = i;
          steps = h.0;
          leads = h.1;
          reads = record {
            output = i;
            output_is = of_one i i v.there v.there v.held v.held refl;
            steps = 0;
            reaches = v.reads;
          };
        })
    visits a b m (inr (inl v)) =
        let at = gold_there v.output v.there in
        let is = v.is in
        let r = m.bit (omega arith) in
        part_matters v.output v.there v.held r.steps r.part r.leads (subst (FromPart r.part) v.is r.reads) b v.part
    visits a b m (inr (inr v)) =
        let r = m.bit v.there in
        bit_matters b (read_there a b v.reads) (record {
          part = r.part;
          steps = r.steps;
          leads = r.leads;
          reads = record {
            output = r.reads.output;
            output_is = r.reads.output_is;
            steps = suc r.reads.steps;
            reaches = longer r.reads.steps (gold_bit gold pairs r.reads.output) a b r.reads.reaches v.unpaired v.reads;
          };
        })

    all_matters : e < length pairs → is_held pairs e ≡ true → (n x : ℕ) → Chain V n (node e) x → Matters x
    all_matters le held zero x is = subst Matters is (start_matters le held)
    all_matters le held (suc n) x (y, chain, j) = visits y x (all_matters le held n y chain) j

    -- chains from a partition's node to another's are steps between the two
    pub way_steps : (i : ℕ) → e < length pairs → is_held pairs e ≡ true → i < length pairs → is_held pairs i ≡ true →
        Way V (node e) (node i) →
        (n : ℕ) × LeadsIn gold pairs T n i e
    way_steps i le held li held_i w = (all_matters le held w.0 (node i) w.1).part i li held_i refl
