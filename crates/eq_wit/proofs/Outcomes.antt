-- What strategies come to is an evidence.
use Rattle.std.proofs.Common.{◌≡◌, ℕ, ◌+◌, ◌*◌, ◌-◌, ◌^◌, ◌<◌, ◌≤◌, zero, suc, List, [], ◌∷◌, ◌++◌, length, map, take, get_or, Some, slice_get, arith, refl, sym, ap, ◌∙◌, subst, length-append, length-take}
use Rattle.std.proofs.lemmas.List.{length-map}
use Rattle.std.specs.Prelude.{All, AllPairs}
use Rattle.std.proofs.lemmas.Option.{slice_get_within, get_or_from_slice_get}
use Rattle.std.proofs.lemmas.List.Elements.{All-cons}
use Rattle.eq_bits.specs.declared.part.Part.{Part}
use Rattle.eq_config.specs.declared.config.Strategy.{Strategy}
use Rattle.eq_proof.specs.Literal.{Literal, negation}
use Rattle.eq_proof.specs.Inference.{Inference, clauses_of}
use Rattle.eq_proof.specs.Derivation.{AllDerive, Refutes, clauses_before}
use Rattle.eq_unroll.specs.declared.query.Query.{Query}
use Rattle.eq_unroll.specs.Query.{IsUnrollable}
use Rattle.eq_unroll.specs.Unrolling.{unrolled}
use Rattle.eq_induct.specs.declared.types.Answer.{Answer}
use Rattle.eq_induct.specs.declared.types.Answer.TheVariants.{Sat, Unsat, Spent}
use Rattle.eq_induct.specs.declared.types.Asked.{Asked}
use Rattle.eq_induct.specs.declared.types.Attempt.{Attempt}
use Rattle.eq_induct.specs.declared.types.Decided.{Decided}
use Rattle.eq_induct.specs.declared.types.Try.{Try}
use Rattle.eq_induct.specs.Answers.{IsAnswer}
use Rattle.eq_induct.specs.Attempts.{IsAttempt, IsUsable, cycles_at}
use Rattle.eq_induct.specs.Outcome.{IsOutcome}
use Rattle.eq_wit.specs.Evidence.{FitsQuery, HaveEarlier, IsTryOf, IsWithinLimits}
use Rattle.eq_wit.specs.Tried.{AreOf, MayBeTried, OutcomesAreEvidence, head_of, strategy_at}
use Rattle.eq_wit.proofs.Lists.{all_at, map_at}

-- ---- antecedents

-- the antecedents of a refutation are numbers of clauses
refutes_within : (clauses : List (List Literal)) (set : List Literal) (ns : List ℕ) → Refutes clauses set ns →
    All (λ n. n < 1 + length clauses) ns
refutes_within clauses set [] h = absurd h
refutes_within clauses set (n ∷ []) h =
    let within : n - 1 < length clauses = slice_get_within clauses (n - 1) h.0 h.1.1 in
    All-cons (λ (k : ℕ). k < 1 + length clauses) n [] (omega (arith, h.1.0)) (λ k d small. absurd (omega arith))
refutes_within clauses set (n ∷ m ∷ ns) h =
    let within : n - 1 < length clauses = slice_get_within clauses (n - 1) h.0 h.2.1 in
    All-cons (λ (k : ℕ). k < 1 + length clauses) n (m ∷ ns) (omega (arith, h.2.0))
    (refutes_within clauses (set ++ h.1 ∷ []) (m ∷ ns) h.4)

length-before : (clauses : List (List Literal)) (log : List Inference) (place : ℕ) → place < length log →
    length (clauses_before clauses log place) ≡ length clauses + place
length-before clauses log place within =
    length-append clauses (clauses_of (take place log)) ∙ ap (λ (n : ℕ). length clauses + n)
    (length-map (take place log) (λ (s : Inference). s.clause) ∙ length-take place log ∙ omega arith)

earlier : (clauses : List (List Literal)) (log : List Inference) → AllDerive clauses log →
    HaveEarlier (suc (length clauses)) log
earlier clauses log h place step e =
    let within : place < length log = slice_get_within log place step e in
    let d = h place within in
    let same : d.0 ≡ step = cc (d.1, e) in
    let long : length (clauses_before clauses log place) ≡ length clauses + place =
    length-before clauses log place within in
    let all = refutes_within (clauses_before clauses log place) (map negation d.0.clause) d.0.ants d.2.refuted in
    subst (λ (s : Inference). All (λ n. n < suc (length clauses) + place) s.ants) same
    (λ k x small. omega (arith, all k x small, long))

fits : (part : Part) (q : Query) (k : ℕ) (answer : Answer) → IsAnswer part q k answer → FitsQuery part q k answer
fits part q k (Sat run) h = (h.fits, h.cycles)
fits part q k (Unsat log) h = earlier (unrolled part q k) log h.derived
fits part q k (Spent log) h = earlier (unrolled part q k) log h.derived

-- ---- queries

-- each query has a cycle, and every other one more
cycles_grow : (i : ℕ) → (1 ≤ cycles_at i) × (i < 2 * cycles_at i)
cycles_grow zero = (omega arith, omega arith)
cycles_grow (suc zero) = (omega arith, omega arith)
cycles_grow (suc (suc i)) = let h = cycles_grow i in (omega arith, omega (arith, h.1))

times_less : (n a b : ℕ) → a ≤ b → n * (a + 1) ≤ n * (b + 1)
times_less zero a b h = omega arith
times_less (suc n) a b h = let k = times_less n a b h in omega (arith, k)

pub fewer_cycles : (part : Part) (k d : ℕ) → 1 ≤ k → k ≤ d → IsUnrollable part d → IsUnrollable part k
fewer_cycles part k d some small h =
    let less = times_less (length part.nodes) k d small in
    record {
      from_one = some;
      few_cycles = omega (arith, h.few_cycles);
      few_variables = omega (arith, less, h.few_variables);
    }

few_queries : (part : Part) (depth conflicts : ℕ) (t : Attempt) → depth ≤ 64 → IsAttempt part depth conflicts t →
    length t.asked < 2 ^ 32
few_queries part depth conflicts t small h =
    let last : ℕ = length t.asked - 1 in
    let a : Asked = h.ends.0 in
    let there : slice_get t.asked last ≡ Some a = h.ends.1 in
    let k = h.order last a there in
    let within = h.within last a there in
    let grow = cycles_grow last in
    let short : last < 128 = omega (arith, k.1, within, grow.1, small) in
    omega (arith, short)

try_of : (part : Part) (strategies : List Strategy) (s : Strategy) (t : Try) → IsUsable part s →
    IsAttempt part s.depth s.conflicts t.attempt → IsTryOf part t
try_of part strategies s t usable h = record {
  few = few_queries part s.depth s.conflicts t.attempt usable.unrollable.few_cycles h;
  asked = λ i a e.
      let k = (h.order i a e).1 in
      let some : 1 ≤ a.k = subst (λ (n : ℕ). 1 ≤ n) (sym k) (cycles_grow i).0 in
      record {
        unrollable = fewer_cycles part a.k s.depth some (h.within i a e) usable.unrollable;
        fits = fits part a.query a.k a.answer (h.answered i a e);
      };
}

-- ---- tries

-- rising numbers below n are n at most
rising : (tries : List Try) (from n : ℕ) → from ≤ n → ((i : ℕ) (t : Try) → slice_get tries i ≡ Some t →
    (from ≤ t.strategy) × (t.strategy < n)) → AllPairs (λ s t. s.strategy < t.strategy) tries →
    from + length tries ≤ n
rising [] from n fine all pairs = omega arith
rising (t ∷ tries) from n fine all pairs =
    let first = all zero t refl in
    let more = rising tries (t.strategy + 1) n (omega (arith, first.1))
    (λ i u e.
    let later : t.strategy < (get_or tries i u).strategy = pairs zero (suc i) u (omega arith)
    (omega (arith, slice_get_within tries i u e)) in
    let is : get_or tries i u ≡ u = get_or_from_slice_get tries i u u e in
    let above : t.strategy < u.strategy = subst (λ (v : Try). t.strategy < v.strategy) is later in
    (omega (arith, above), (all (suc i) u e).1))
    (λ i j d less within. pairs (suc i) (suc j) d (omega arith) (omega arith)) in
    omega (arith, more, first.0)

-- ---- the whole

-- the strategy of a try is there, and its head is within the limits
limits_at : (part : Part) (strategies : List Strategy) (d : Decided) → MayBeTried part strategies →
    IsOutcome part strategies d → (i : ℕ) (t : Try) → slice_get d.tries i ≡ Some t →
    IsWithinLimits (head_of (strategy_at strategies t.strategy))
limits_at part strategies d may h i t e =
    let tried = h.tried i t e in
    let s : Strategy = tried.0 in
    let usable = all_at (IsUsable part) strategies t.strategy s may.usable tried.1 in
    let some = all_at (λ (v : Strategy). 1 ≤ v.conflicts) strategies t.strategy s may.some_conflicts tried.1 in
    let is : strategy_at strategies t.strategy ≡ s = get_or_from_slice_get strategies t.strategy s _ tried.1 in
    subst (λ (v : Strategy). IsWithinLimits (head_of v)) (sym is) (record {
      some_depth = usable.unrollable.from_one;
      depth = usable.unrollable.few_cycles;
      some_conflicts = some;
      conflicts = usable.few_conflicts;
    })

known : (part : Part) (strategies : List Strategy) (d : Decided) → IsOutcome part strategies d →
    AreOf strategies d.tries
known part strategies d h i t e = let tried = h.tried i t e in slice_get_within strategies t.strategy tried.0 tried.1

pub outcomes : OutcomesAreEvidence
outcomes part strategies d may h =
    let named = known part strategies d h in
    let few : 0 + length d.tries ≤ length strategies = rising d.tries 0 (length strategies) (omega arith)
    (λ i t e. (omega arith, named i t e)) h.order in (
      named,
      record {
        same = length-map d.tries (λ (t : Try). head_of (strategy_at strategies t.strategy));
        few = omega (arith, few, may.few);
        limits = λ i head e.
            let found = map_at (λ (t : Try). head_of (strategy_at strategies t.strategy)) d.tries i head e in
            subst IsWithinLimits (sym found.2) (limits_at part strategies d may h i found.0 found.1);
        tries = λ i t e.
            let tried = h.tried i t e in
            try_of part strategies tried.0 t (all_at (IsUsable part) strategies t.strategy tried.0 may.usable tried.1) tried.3;
        verdict = h.verdict;
        conflicts = h.conflicts;
      },
    )
