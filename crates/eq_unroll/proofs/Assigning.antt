-- From a run to the values of all variables, and so the law: a query's formula is satisfiable exactly where the query holds.
use Rattle.std.proofs.Common.{◌≡◌, ◌↔◌, ℕ, suc, ◌+◌, ◌-◌, ◌*◌, ◌/◌, ◌%◌, ◌<◌, ◌≤◌, Bool, true, false, cond, nat_lt, length, refl, arith, sym, ap, subst, ◌∙◌}
use Rattle.std.proofs.lemmas.Bool.Decides.{nat_tests}
use Rattle.std.proofs.lemmas.Nat.{div-mul-add, mod-mul-add, row_fits}
use Rattle.eq_proof.specs.Satisfying.{SatisfiesAll}
use Rattle.eq_model.specs.System.{Values, Driver, System, IsDriver, IsSystem, Meets, Begins, Follows, Solves, Agree, input, undriven, equation, register, nothing}
use Rattle.eq_model.specs.Part.{Part as PartMeant, IsPart, PartDiffer, PartRun, PartSame}
use Rattle.eq_bits.specs.declared.part.Part.{Part}
use Rattle.eq_bits.specs.Node.{system_of, xor}
use Rattle.eq_bits.specs.Replay.{meaning, output_at}
use Rattle.eq_unroll.specs.declared.query.Query.{Query}
use Rattle.eq_unroll.specs.declared.query.Query.TheVariants.{Base, Step}
use Rattle.eq_unroll.specs.Query.{Holds, frame_count, last_frame, Shows, StartsAs}
use Rattle.eq_unroll.specs.Unrolling.{rows, unrolled}
use Rattle.eq_unroll.specs.Values.{IsSatisfiable}
use Rattle.eq_unroll.proofs.Truth.{rows_ordered, satisfies_all, satisfied_all}
use Rattle.eq_unroll.proofs.Satisfying.{frames_of, Shown, TellsDifferences, shown, satisfied, last_below, agreeing_below}

-- The values of all variables: those of n nodes in each of some frames, and then those of outputs

pub values_of : ℕ → ℕ → (ℕ → Values) → Values → ℕ → Bool
values_of n frames x d var = cond (nat_lt (var - 1) (frames * n)) (x ((var - 1) / n) ((var - 1) % n))
    (d (var - 1 - frames * n))

below_true : (a b : ℕ) → a < b → nat_lt a b ≡ true
below_true a b lt = grind (arith, nat_tests)

below_false : (a b : ℕ) → b ≤ a → nat_lt a b ≡ false
below_false a b le = grind (arith, nat_tests)

node_variable : (c n m : ℕ) → c * n + m + 1 - 1 ≡ c * n + m
node_variable c n m = omega arith

frame_fits : (c n m frames : ℕ) → c < frames → m < n → c * n + m < frames * n
frame_fits c n m frames lc lm = (let fits = row_fits c n frames n lc (omega arith) in omega arith)

pub at_node : (n frames : ℕ) (x : ℕ → Values) (d : Values) (c m : ℕ) → c < frames → m < n →
    values_of n frames x d (c * n + m + 1) ≡ x c m
unfolding values_of
at_node n frames x d c m lc lm =
    rw (
      node_variable c n m,
      below_true (c * n + m) (frames * n) (frame_fits c n m frames lc lm),
      div-mul-add c n m lm,
      mod-mul-add c n m lm,
    ) refl

pub at_output : (n frames : ℕ) (x : ℕ → Values) (d : Values) (i : ℕ) → values_of n frames x d (frames * n + i + 1) ≡ d i
unfolding values_of
at_output n frames x d i =
    let e : frames * n + i + 1 - 1 ≡ frames * n + i = omega arith in
    let f : frames * n + i - frames * n ≡ i = omega arith in
    let least : frames * n ≤ frames * n + i = omega arith in
    rw (e, below_false (frames * n + i) (frames * n) least, f) refl

-- What holds of a run holds of one with the same values

meets_same : (n : ℕ) (d : Driver) → IsDriver n d → (v w : Values) → ((b : ℕ) → b < n → v b ≡ w b) → (y z : Bool) →
    y ≡ z → Meets d v y → Meets d w z
meets_same n input is v w e y z s h = tt
meets_same n undriven is v w e y z s h = sym s ∙ h
meets_same n (equation x) is v w e y z s h = sym s ∙ h ∙ is.respects v w (λ b c. e b (is.bounded b c))
meets_same n (register init x) is v w e y z s h = tt

follows_same : (n : ℕ) (d : Driver) → IsDriver n d → (v w : Values) → ((b : ℕ) → b < n → v b ≡ w b) → (y z : Bool) →
    y ≡ z → Follows d v y → Follows d w z
follows_same n input is v w e y z s h = tt
follows_same n undriven is v w e y z s h = tt
follows_same n (equation x) is v w e y z s h = tt
follows_same n (register init x) is v w e y z s h = sym s ∙ h ∙ is.respects v w (λ b c. e b (is.bounded b c))

pub solves_same : (s : System) → IsSystem s → (n : ℕ) (v w : ℕ → Values) → Agree s n v w → Solves s nothing n v →
    Solves s nothing n w
solves_same s is n v w e h = record {
  now = λ c b lc lb uncut. meets_same s.bits (s.driver b) (is b lb) (v c) (w c) (λ r. e c r lc) (v c b) (w c b)
      (e c b lc lb) (h.now c b lc lb uncut);
  next = λ c b lc lb uncut. follows_same s.bits (s.driver b) (is b lb) (v c) (w c) (λ r. e c r (omega arith))
      (v (suc c) b) (w (suc c) b) (e (suc c) b lc lb) (h.next c b lc lb uncut);
}

starts_same : (part : Part) (q : Query) (v w : Values) → ((b : ℕ) → b < length part.nodes → v b ≡ w b) →
    StartsAs part q v → StartsAs part q w
starts_same part Base v w e h = λ b lb uncut. subst (Begins ((system_of part.nodes).driver b)) (e b lb) (h b lb uncut)
starts_same part Step v w e h = tt

module _ (part : Part) (is : IsPart (meaning part)) where
  same_same : (v w : Values) → ((b : ℕ) → b < length part.nodes → v b ≡ w b) → PartSame (meaning part) v →
      PartSame (meaning part) w
  same_same v w e h o lo =
      sym (e (output_at part.outputs o).gold (is.gold_nodes o lo)) ∙ h o lo
      ∙ e (output_at part.outputs o).gate (is.gate_nodes o lo)

  differ_same : (v w : Values) → ((b : ℕ) → b < length part.nodes → v b ≡ w b) → PartDiffer (meaning part) v →
      PartDiffer (meaning part) w
  differ_same v w e h =
      let o = h.0 in (
        o,
        h.1,
        λ same. h.2 (e (output_at part.outputs o).gold (is.gold_nodes o h.1) ∙ same
            ∙ sym (e (output_at part.outputs o).gate (is.gate_nodes o h.1))),
      )

  pub shows_same : (q : Query) (k : ℕ) → 0 < k → (v w : ℕ → Values) →
      Agree (system_of part.nodes) (frame_count q k) v w → Shows part q k v → Shows part q k w
  shows_same q k lt v w e h = record {
    starts = starts_same part q (v 0) (w 0) (λ b. e 0 b (let below = last_below q k lt in omega arith)) h.starts;
    agrees = λ c lc. same_same (v c) (w c) (λ b. e c b (agreeing_below q k c lc)) (h.agrees c lc);
    differs = differ_same (v (last_frame q k)) (w (last_frame q k))
        (λ b. e (last_frame q k) b (last_below q k lt)) h.differs;
  }

-- A run that shows the query gives satisfying values, whose nodes' values are the run's

pub assigned : Part → Query → ℕ → (ℕ → Values) → ℕ → Bool
assigned part q k x = values_of (length part.nodes) (frame_count q k) x
    (λ i. xor (x (last_frame q k) (output_at part.outputs i).gold) (x (last_frame q k) (output_at part.outputs i).gate))

pub assigned_nodes : (part : Part) (q : Query) (k : ℕ) (x : ℕ → Values) (c m : ℕ) → c < frame_count q k →
    m < length part.nodes →
    frames_of (assigned part q k x) (length part.nodes) c m ≡ x c m
unfolding assigned
assigned_nodes part q k x c m lc lm = at_node (length part.nodes) (frame_count q k) x _ c m lc lm

assigned_outputs : (part : Part) (q : Query) (k : ℕ) (x : ℕ → Values) (i : ℕ) →
    assigned part q k x (frame_count q k * length part.nodes + i + 1) ≡
    xor (x (last_frame q k) (output_at part.outputs i).gold) (x (last_frame q k) (output_at part.outputs i).gate)
unfolding assigned
assigned_outputs part q k x i = at_output (length part.nodes) (frame_count q k) x _ i

pub run_satisfies : (part : Part) → IsPart (meaning part) → (q : Query) (k : ℕ) → 0 < k → (x : ℕ → Values) →
    Solves (system_of part.nodes) nothing (frame_count q k) x → Shows part q k x →
    SatisfiesAll (assigned part q k x) (unrolled part q k)
run_satisfies part is q k lt x solves shows =
    let values = assigned part q k x in
    let s = system_of part.nodes in
    let y = frames_of values (length part.nodes) in
    let same : Agree s (frame_count q k) x y = λ c b lc lb. sym (assigned_nodes part q k x c b lc lb) in
    let z : Shown part values q k = record {
      solved = solves_same s is.drivers (frame_count q k) x y same solves;
      shows = shows_same part is q k lt x y same shows;
    } in
    let last = last_frame q k in
    let tells : TellsDifferences part values last (frame_count q k) = λ i li.
    (let gold = (output_at part.outputs i).gold in
    let gate = (output_at part.outputs i).gate in
    let e = same last gold (last_below q k lt) (is.gold_nodes i li) in
    let f = same last gate (last_below q k lt) (is.gate_nodes i li) in
    assigned_outputs part q k x i ∙ ap (λ b. xor b (x last gate)) e ∙ ap (λ b. xor (y last gold) b) f) in
    satisfies_all values (unrolled part q k) (rows_ordered values (rows part.nodes part.outputs q k)
    ∙ satisfied part values q k z tells)

-- and satisfying values are those of a run that shows it
pub values_show : (part : Part) (q : Query) (k : ℕ) → 0 < k → (values : ℕ → Bool) →
    SatisfiesAll values (unrolled part q k) → Shown part values q k
values_show part q k lt values h =
    shown part values q k lt (sym (rows_ordered values (rows part.nodes part.outputs q k))
    ∙ satisfied_all values (unrolled part q k) h)

-- The query holds where some run shows it

abbrev pub Solved : Type 0
Solved = (t : PartMeant) → IsPart t → (n : ℕ) (x : ℕ → Values) → Solves t.system nothing n x →
    (given : ℕ → ℕ → Bool) × PartRun t given n x

pub holds : Solved → (part : Part) → IsPart (meaning part) → (q : Query) (k : ℕ) → 1 ≤ k → (x : ℕ → Values) →
    Solves (system_of part.nodes) nothing (frame_count q k) x → Shows part q k x → Holds part q k
holds solved part is Base k lt x h shows =
    let run = solved (meaning part) is k x h in
    record { some = omega arith; given = run.0; x = x; run = run.1; initial = shows.starts; differ = shows.differs }
holds solved part is Step k lt x h shows =
    let run = solved (meaning part) is (suc k) x h in
    record { given = run.0; x = x; run = run.1; same = shows.agrees; differ = shows.differs }

pub held : (part : Part) (q : Query) (k : ℕ) → Holds part q k →
    (x : ℕ → Values) × Solves (system_of part.nodes) nothing (frame_count q k) x × Shows part q k x
held part Base k h = (
  h.x,
  h.run.solves,
  record {
    starts = h.initial;
    agrees = λ c lc.
        absurd (omega arith);
    differs = h.differ;
  },
)
held part Step k h = (h.x, h.run.solves, record { starts = tt; agrees = h.same; differs = h.differ })

pub satisfiable : Solved → (part : Part) → IsPart (meaning part) → (q : Query) (k : ℕ) → 1 ≤ k →
    IsSatisfiable (unrolled part q k) ↔ Holds part q k
satisfiable solved part is q k lt = (
  λ s. (let z = values_show part q k (omega arith) s.0 s.1 in
      holds solved part is q k lt (frames_of s.0 (length part.nodes)) z.solved z.shows),
  λ h. (let run = held part q k h in (
    assigned part q k run.0,
    run_satisfies part is q k (omega arith) run.0 run.1 run.2,
  )),
)
