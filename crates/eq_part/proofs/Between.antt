-- Both walks together.
use Rattle.std.proofs.Common.{◌≡◌, ℕ, zero, suc, ◌<◌, ◌↔◌, List, Bool, true, length, refl, arith, subst}
use Rattle.eq_model.specs.Frames.{values}
use Rattle.eq_model.specs.System.{IsSystem}
use Rattle.eq_net.specs.Net.{IsNet, Parts, system_of}
use Rattle.eq_match.specs.declared.types.Pair.{Pair}
use Rattle.eq_match.specs.Groups.{is_held}
use Rattle.eq_match.specs.Leaders.{one_leader}
use Rattle.eq_part.specs.Reach.{LeadsIn, LiesBetween}
use Rattle.eq_reads.specs.declared.graph.Edge.{Edge}
use Rattle.eq_reads.specs.Graph.{AreBetween, Joins, from_at, to_at}
use Rattle.eq_reads.specs.inner.Chains.{Chain}
use Rattle.eq_part.specs.inner.Visits.{AreLed, AreVisits, IsPassed, IsWalked, Visits, outer, part_node}
use Rattle.eq_part.proofs.Routes.{steps_way, way_steps}
use Rattle.eq_part.proofs.Stepped.{edges_way, visits_way}
use Rattle.eq_reads.proofs.Ways.{Way, way_from, way_none}

-- a chain the other way round
pub chain_turned : (edges along : List Edge) → ((a b : ℕ) → Joins edges a b → Joins along b a) → (n a b : ℕ) →
    Chain (Joins edges) n a b → Way (Joins along) b a
chain_turned edges along turn zero a b is = subst (λ (x : ℕ). Way (Joins along) x a) is (way_none (Joins along) a)
chain_turned edges along turn (suc n) a b (c, chain, j) = way_from (Joins along) b c a (turn c b j)
    (chain_turned edges along turn n a c chain)

module _ (gold : Parts) (pairs : List Pair) (together : ℕ → ℕ → Bool) where
  -- the first and the last of steps are positions that are held
  pub leads_first : (n p q : ℕ) → LeadsIn gold pairs together n p q → (p < length pairs) × (is_held pairs p ≡ true)
  leads_first zero p q one = (one.here, one.held_here)
  leads_first (suc n) p q (r, leads, more) = (leads.read_is.here, leads.read_is.held_here)

  pub leads_last : (n p q : ℕ) → LeadsIn gold pairs together n p q → (q < length pairs) × (is_held pairs q ≡ true)
  leads_last zero p q one = (one.there, one.held_there)
  leads_last (suc n) p q (r, leads, more) = leads_last n r q more

module _ (gold : Parts) (net : IsNet gold) (sys : IsSystem (system_of gold)) (pairs : List Pair) (leaders : List ℕ)
    (led : AreLed gold pairs leaders)
    (edges : List Edge) (nodes : ℕ) (graph : AreVisits gold pairs leaders edges nodes) where
  abbrev V : ℕ → ℕ → Type 0
  V = Visits gold pairs leaders

  node_outside : (i : ℕ) → i < length pairs → part_node gold leaders i < outer gold pairs
  node_outside i li = (let l = led.led i li in omega arith)

  pub turned_within : (along : List Edge) → ((a b : ℕ) → Joins along a b ↔ Joins edges b a) → AreBetween nodes along
  turned_within along turn =
      let back : (e : ℕ) → e < length along → Joins edges (to_at along e) (from_at along e) =
      λ e lt. (turn (from_at along e) (to_at along e)).0 (record { edge = e; there = lt; starts = refl; ends = refl })
      in
      record {
        starts = λ e lt. (let j = back e lt in let b = graph.between.ends j.edge j.there in let is = j.ends in omega
            arith);
        ends = λ e lt. (let j = back e lt in let b = graph.between.starts j.edge j.there in let is = j.starts in omega
            arith);
      }

  module _ (along : List Edge) (turn : (a b : ℕ) → Joins along a b ↔ Joins edges b a) (starts ends : ℕ → Bool) (i : ℕ)
      (li : i < length pairs) where
    abbrev node : ℕ
    node = part_node gold leaders i

    pub passed_between : (is_held pairs i ≡ true) × (IsWalked gold pairs leaders starts along node × IsWalked gold
        pairs leaders ends edges node) →
        LiesBetween gold pairs (one_leader leaders) starts ends i
    passed_between (held, marks) =
        let s = marks.0.root_is in
        let e = marks.1.root_is in
        let back = chain_turned along edges (λ a b. (turn a b).0) marks.0.steps marks.0.root node marks.0.chain in
        let start = part_node gold leaders s.output in
        let finish = part_node gold leaders e.output in
        let before = way_steps gold net sys pairs leaders led i s.output li held s.there s.held
        (edges_way gold pairs leaders edges nodes graph node start (node_outside i li) (node_outside s.output s.there)
        (subst (λ (x : ℕ). Way (Joins edges) node x) s.is back)) in
        let behind = way_steps gold net sys pairs leaders led e.output i e.there e.held li held
        (edges_way gold pairs leaders edges nodes graph finish node (node_outside e.output e.there) (node_outside i li)
        (subst (λ (x : ℕ). Way (Joins edges) x node) e.is (marks.1.steps, marks.1.chain))) in
        record {
          start = s.output;
          is_start = s.hit;
          steps_before = before.0;
          reached = before.1;
          end = e.output;
          is_end = e.hit;
          steps_behind = behind.0;
          leads = behind.1;
        }

    pub between_passed : LiesBetween gold pairs (one_leader leaders) starts ends i →
        (is_held pairs i ≡ true) × (IsWalked gold pairs leaders starts along node × IsWalked gold pairs leaders ends
        edges node)
    between_passed l =
        let together = one_leader leaders in
        let here = leads_first gold pairs together l.steps_behind i l.end l.leads in
        let start = leads_first gold pairs together l.steps_before l.start i l.reached in
        let finish = leads_last gold pairs together l.steps_behind i l.end l.leads in
        let first_node = part_node gold leaders l.start in
        let last_node = part_node gold leaders l.end in
        let back = visits_way gold pairs leaders edges nodes graph node first_node
        (steps_way gold net sys pairs leaders led l.steps_before l.start i l.reached) in
        let forth = chain_turned edges along (λ a b. (turn b a).1) back.0 node (part_node gold leaders l.start) back.1
        in
        let way = visits_way gold pairs leaders edges nodes graph last_node node
        (steps_way gold net sys pairs leaders led l.steps_behind i l.end l.leads) in (
          here.1,
          (
            record {
              root = part_node gold leaders l.start;
              root_is = record { output = l.start; there = start.0; held = start.1; hit = l.is_start; is = refl };
              steps = forth.0;
              chain = forth.1;
            },
            record {
              root = part_node gold leaders l.end;
              root_is = record { output = l.end; there = finish.0; held = finish.1; hit = l.is_end; is = refl };
              steps = way.0;
              chain = way.1;
            },
          ),
        )

  -- what both walks marked lies between
  pub marked_between : (along : List Edge) (turn : (a b : ℕ) → Joins along a b ↔ Joins edges b a) (starts ends : ℕ →
      Bool) (before behind bits : List Bool) →
      ((x : ℕ) → (values before x ≡ true) ↔ IsWalked gold pairs leaders starts along x) →
      ((x : ℕ) → (values behind x ≡ true) ↔ IsWalked gold pairs leaders ends edges x) →
      ((i : ℕ) → i < length pairs → (values bits i ≡ true) ↔ IsPassed gold pairs leaders before behind i) →
      (i : ℕ) → i < length pairs → (values bits i ≡ true) ↔ LiesBetween gold pairs (one_leader leaders) starts ends i
  marked_between along turn starts ends before behind bits before_ok behind_ok bits_ok i li =
      let x = part_node gold leaders i in (
        λ m. (let p = (bits_ok i li).0 m in passed_between along turn starts ends i li
            (p.0, ((before_ok x).0 p.1.0, (behind_ok x).0 p.1.1))),
        λ l. (let w = between_passed along turn starts ends i li l in (bits_ok i li).1
            (w.0, ((before_ok x).1 w.1.0, (behind_ok x).1 w.1.1))),
      )
