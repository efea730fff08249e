-- An attempt ends as k-induction does. Each query before the last one is answered as its place says: each Base of fewer
-- cycles doesn't hold, and each Step does. The last answer then says the rest.
use Rattle.std.proofs.Common.{◌≡◌, ℕ, zero, suc, ◌+◌, ◌-◌, ◌*◌, ◌<◌, ◌≤◌, ◌↔◌, List, length, inl, inr, arith, refl, sym, ap, subst, ◌∙◌}
use Rattle.std.proofs.lemmas.Bool.{cases_lt}
use Rattle.std.proofs.lemmas.Option.{slice_get_within}
use Rattle.eq_model.specs.Kind.{GoesOn, IsKind, fail, proved}
use Rattle.eq_model.specs.Part.{PartBase, PartStep}
use Rattle.eq_model.specs.System.{Solves, Values, nothing}
use Rattle.eq_bits.specs.declared.part.Part.{Part}
use Rattle.eq_bits.specs.declared.run.Run.{Run}
use Rattle.eq_bits.specs.Node.{system_of}
use Rattle.eq_bits.specs.Replay.{HasOneReplay, meaning}
use Rattle.eq_proof.specs.Inference.{Inference}
use Rattle.eq_proof.specs.Laws.{EmptyRefutes}
use Rattle.eq_unroll.specs.declared.query.Query.{Query}
use Rattle.eq_unroll.specs.declared.query.Query.TheVariants.{Base, Step}
use Rattle.eq_unroll.specs.Query.{Holds, Shows, frame_count}
use Rattle.eq_unroll.specs.Unrolling.{unrolled}
use Rattle.eq_unroll.specs.Values.{IsSatisfiable}
use Rattle.eq_induct.specs.declared.types.Answer.{Answer}
use Rattle.eq_induct.specs.declared.types.Answer.TheVariants.{Sat, Unsat, Spent}
use Rattle.eq_induct.specs.declared.types.Attempt.{Attempt}
use Rattle.eq_induct.specs.declared.types.End.{End}
use Rattle.eq_induct.specs.declared.types.End.TheVariants as end
use Rattle.eq_induct.specs.Answers.{IsAnswer, IsRefutation, IsWitness}
use Rattle.eq_induct.specs.Attempts.{AsksNext, EndsSo, IsAttempt, Says, cycles_at, query_at}
use Rattle.eq_induct.proofs.Orders.{base_place, offset, place_of, some_cycles, step_place}
use Rattle.eq_induct.proofs.Places.{element_at}

-- what has to hold for the next query to be asked
Leads : Part → Query → ℕ → Type 0
Leads part Base k = Holds part Base k → ⊥
Leads part Step k = Holds part Step k

module _ (refutes : EmptyRefutes) (replay : (part : Part) (run : Run) → HasOneReplay part run)
    (shown : (part : Part) (q : Query) (k : ℕ) → 1 ≤ k → (Holds part q k ↔ ((x : ℕ → Values) ×
    Solves (system_of part.nodes) nothing (frame_count q k) x × Shows part q k x)))
    (satisfiable : (part : Part) (q : Query) (k : ℕ) → 1 ≤ k → (IsSatisfiable (unrolled part q k) ↔ Holds part q k))
    (part : Part) where
  -- a witness shows that the query holds
  witnessed : (q : Query) (k : ℕ) (run : Run) → 1 ≤ k → IsWitness part q k run → Holds part q k
  witnessed q k run some w =
      let r = (replay part run).some in
      let P : ℕ → Type 0 = λ n. Solves (system_of part.nodes) nothing n r.0 in
      (shown part q k some).1 (r.0, subst P w.cycles r.1.follows.solves, w.shows r.0 r.1)

  -- a refutation shows that it doesn't
  refuted : (q : Query) (k : ℕ) (log : List Inference) → 1 ≤ k → IsRefutation part q k log → Holds part q k → ⊥
  refuted q k log some r holds =
      let values = (satisfiable part q k some).1 holds in
      refutes (unrolled part q k) log r.derived r.ends values.0 values.1

  leads : (q : Query) (k : ℕ) (answer : Answer) → 1 ≤ k → AsksNext q answer → IsAnswer part q k answer →
      Leads part q k
  unfolding Leads
  leads Base k (Unsat log) some next right = refuted Base k log some right
  leads Step k (Sat run) some next right = witnessed Step k run some right
  leads Base k (Sat run) some next right = absurd next
  leads Base k (Spent log) some next right = absurd next
  leads Step k (Unsat log) some next right = absurd next
  leads Step k (Spent log) some next right = absurd next

  module _ (depth conflicts : ℕ) (t : Attempt) (is : IsAttempt part depth conflicts t) where
    -- before the last query each one leads to the next
    leads_at : (i : ℕ) (q : Query) (k : ℕ) → suc i < length t.asked → query_at i ≡ q → cycles_at i ≡ k →
        Leads part q k
    leads_at i q k before query cycles =
        let at = element_at t.asked i (omega arith) in
        let a = at.0 in
        let order = is.order i a at.1 in
        let k_is : a.k ≡ k = order.1 ∙ cycles in
        let q_is : a.query ≡ q = order.0 ∙ query in
        let some : 1 ≤ a.k = (let e = order.1 in let s = some_cycles i in omega arith) in
        let P : ℕ → Type 0 = λ n. Leads part a.query n in
        let Q : Query → Type 0 = λ p. Leads part p k in
        let here = leads a.query a.k a.answer some (is.goes_on i a at.1 before) (is.answered i a at.1) in
        subst Q q_is (subst P k_is here)

    no_base : (j : ℕ) → 2 * j + 1 < length t.asked → Holds part Base (suc j) → ⊥
    unfolding Leads
    no_base j before = let at = base_place (2 * j) j refl in leads_at (2 * j) Base (suc j) (omega arith) at.0 at.1

    a_step : (j : ℕ) → 2 * j + 2 < length t.asked → Holds part Step (suc j)
    unfolding Leads
    a_step j before =
        let at = step_place (2 * j + 1) j refl in leads_at (2 * j + 1) Step (suc j) (omega arith) at.0 at.1

    -- nothing is answered below the last query's number of cycles
    goes_on : (k : ℕ) → 2 * k < length t.asked + 2 → GoesOn (PartBase (meaning part)) (PartStep (meaning part)) k
    goes_on k before zero one less = absurd (omega arith)
    goes_on k before (suc j) one less = (no_base j (omega arith), a_step j (omega arith))

    -- what the last answer says
    says : (q : Query) (k : ℕ) (answer : Answer) (e : End) → 1 ≤ k → k ≤ depth →
        length t.asked + 1 ≡ 2 * k + offset q → IsAnswer part q k answer → EndsSo depth q k answer e →
        Says part depth e
    says Base k (Sat run) (end.Fail j) some within at right ends =
        let P : ℕ → Type 0 = λ n. IsKind (PartBase (meaning part)) (PartStep (meaning part)) depth (fail n) in
        subst P (sym ends) (some, within, goes_on k (omega arith), witnessed Base k run some right)
    says Step k (Unsat log) (end.Proved j) some within at right ends =
        let P : ℕ → Type 0 = λ n. IsKind (PartBase (meaning part)) (PartStep (meaning part)) depth (proved n) in
        let Q : ℕ → Type 0 = λ n. Holds part Base n → ⊥ in
        let here : suc (k - 1) ≡ k = omega arith in
        subst P (sym ends) (
          some,
          within,
          goes_on k (omega arith),
          subst Q here (no_base (k - 1) (omega arith)),
          refuted Step k log some right,
        )
    says Step k (Sat run) end.Deep some within at right ends = λ j one less. elim (cases_lt j k) [
      | inl below ↦ goes_on k (omega arith) j one below
      | inr not_below ↦ (
          let P : ℕ → Type 0 = λ n. (Holds part Base n → ⊥) × Holds part Step n in
          let Q : ℕ → Type 0 = λ n. Holds part Base n → ⊥ in
          let here : suc (k - 1) ≡ k = omega arith in
          let same : k ≡ j = omega arith in
          subst P same (subst Q here (no_base (k - 1) (omega arith)), witnessed Step k run some right))
    ]
    says q k (Spent log) end.Spent some within at right ends = tt
    says _ _ _ _ _ _ _ _ ends = absurd ends

    pub ends_as_induction : Says part depth t.end
    ends_as_induction =
        let i = length t.asked - 1 in
        let last = is.ends in
        let a = last.0 in
        let order = is.order i a last.1 in
        let there = slice_get_within t.asked i a last.1 in
        let k_is = order.1 in
        let q_is = ap offset order.0 in
        let place = place_of i in
        let some = some_cycles i in
        says a.query a.k a.answer t.end (omega arith) (is.within i a last.1) (omega arith) (is.answered i a last.1)
        last.2
