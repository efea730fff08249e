-- A log one step after the other: its highest variable, its clauses, its count.
use Rattle.std.proofs.Common.{◌≡◌, ℕ, ◌+◌, ◌-◌, ◌<◌, ◌≤◌, ◌↔◌, inl, inr, max, cond, Some, List, [], ◌∷◌, ◌++◌, length, take, get_or, slice_get, nat_eq, IsTrue, arith, refl, sym, ap, ◌∙◌, subst, add-one}
use Rattle.std.specs.Prelude.{All, nat_lt}
use Rattle.std.proofs.lemmas.Bool.{cases_lt}
use Rattle.std.proofs.lemmas.Bool.Decides.{Decides-eqb, nat_tests}
use Rattle.std.proofs.lemmas.List.{take-map, length-map, length_push, map_push, nil_from_length}
use Rattle.std.proofs.lemmas.List.Elements.{All-push, All-append, All-take, All-weaker}
use Rattle.std.proofs.lemmas.List.Sums.{sum_by-append}
use Rattle.std.proofs.lemmas.Option.{get_or_from_slice_get, slice_get-map}
use Rattle.eq_proof.specs.Literal.{Literal}
use Rattle.eq_proof.specs.Clause.{IsBefore, IsClause}
use Rattle.eq_proof.specs.Assigned.{AllBelow}
use Rattle.eq_proof.specs.Inference.{Inference, clauses_of}
use Rattle.eq_proof.specs.Derivation.{clauses_before, nonempty_of, EndsEmpty}
use Rattle.eq_proof.proofs.Lists.{clauses_more, taken_at}
use Rattle.eq_proof.proofs.Before.{get_right}

before_var : (a b : Literal) → IsBefore a b → a.var ≤ b.var
before_var a b (inl less) = omega arith
before_var a b (inr h) = omega (arith, h.0)

-- a clause's last literal has the highest variable
pub last_is_most : (clause : List Literal) (last : Literal) → IsClause clause → slice_get clause (length clause - 1) ≡ Some last → All (λ l. l.var ≤ last.var) clause
last_is_most clause last ordered is k d h =
    let end = get_or_from_slice_get clause (length clause - 1) last d is in
    elim (cases_lt k (length clause - 1)) [
      | inl below ↦
          let P : Literal → Type 0 = λ b. IsBefore (get_or clause k d) b in
          before_var (get_or clause k d) last (subst P end (ordered k (length clause - 1) d below (omega arith)))
      | inr at_end ↦
          let same : k ≡ length clause - 1 = omega arith in
          let e : get_or clause k d ≡ last = ap (λ i. get_or clause i d) same ∙ end in
          omega (arith, ap (λ (l : Literal). l.var) e)
    ]

-- the bound of the first steps' clauses, one step on
pub most_more : (log : List Inference) (place : ℕ) (step : Inference) (most one now : ℕ) → slice_get log place ≡ Some step → now ≡ max one most → All (All (λ l. l.var ≤ most)) (clauses_of (take place log)) → All (λ l. l.var ≤ one) step.clause
    → All (All (λ l. l.var ≤ now)) (clauses_of (take (place + 1) log))
most_more log place step most one now is at old new =
    let kept = All-weaker (All (λ l. l.var ≤ most)) (All (λ l. l.var ≤ now)) (λ clause h. All-weaker (λ (l : Literal). l.var ≤ most) (λ l. l.var ≤ now) (λ l k. omega arith) clause h) (clauses_of (take place log)) old in
    let added = All-weaker (λ (l : Literal). l.var ≤ one) (λ l. l.var ≤ now) (λ l k. omega arith) step.clause new in
    rw (add-one, clauses_more log place step is) (All-push (All (λ l. l.var ≤ now)) (clauses_of (take place log)) step.clause kept added)

-- the clause of the step at a place
pub clause_at : (log : List Inference) (place : ℕ) (step : Inference) → slice_get log place ≡ Some step → slice_get (clauses_of log) place ≡ Some step.clause
clause_at log place step is = rw (slice_get-map (λ (s : Inference). s.clause) log place, is) refl

-- literals up to a bound are below a size above it
pub below_from_bound : (bound size : ℕ) (clause : List Literal) → bound < size → All (λ l. l.var ≤ bound) clause → AllBelow size clause
below_from_bound bound size clause h all = All-weaker (λ (l : Literal). l.var ≤ bound) (λ l. l.var < size) (λ l k. omega arith) clause all

-- and so are those of the clauses before a step
pub before_below : (clauses : List (List Literal)) (log : List Inference) (steps vars most size : ℕ) → size ≡ max vars most + 1 → All (λ clause. All (λ l. l.var ≤ vars) clause) clauses → All (All (λ l. l.var ≤ most)) (clauses_of log)
    → All (AllBelow size) (clauses_before clauses log steps)
before_below clauses log steps vars most size is first then =
    let first_below = All-weaker (All (λ (l : Literal). l.var ≤ vars)) (AllBelow size) (λ clause h. below_from_bound vars size clause (omega arith) h) clauses first in
    let taken : clauses_of (take steps log) ≡ take steps (clauses_of log) = sym (take-map (λ (s : Inference). s.clause) steps log) in
    let then_below = All-weaker (All (λ (l : Literal). l.var ≤ most)) (AllBelow size) (λ clause h. below_from_bound most size clause (omega arith) h) (take steps (clauses_of log)) (All-take (All (λ (l : Literal). l.var ≤ most)) steps (clauses_of log) then) in
    All-append (AllBelow size) clauses (clauses_of (take steps log)) first_below (rw taken then_below)

-- the count of nonempty steps, one step on
pub nonempty_more : (log : List Inference) (place : ℕ) (step : Inference) → slice_get log place ≡ Some step → nonempty_of (take (place + 1) log) ≡ nonempty_of (take place log) + cond (nat_eq (length step.clause) 0) 0 1
nonempty_more log place step is =
    let more = taken_at log place step is in
    let sums = sum_by-append (λ (s : Inference). cond {A = ℕ} (nat_lt 0 (length s.clause)) 1 0) (take place log) (step ∷ []) in
    let test : cond {A = ℕ} (nat_lt 0 (length step.clause)) 1 0 ≡ cond (nat_eq (length step.clause) 0) 0 1 = grind (arith, nat_tests) in
    ap nonempty_of more ∙ sums ∙ omega (arith, test)

-- whether the first steps end with the empty clause, one step on
pub ends_more : (log : List Inference) (place : ℕ) (step : Inference) → slice_get log place ≡ Some step → IsTrue (nat_eq (length step.clause) 0) ↔ EndsEmpty (take (place + 1) log)
ends_more log place step is =
    let more = taken_at log place step is in
    let last : slice_get (clauses_of (take place log ++ step ∷ [])) (length (take place log ++ step ∷ []) - 1) ≡ Some step.clause =
    rw (map_push (λ (s : Inference). s.clause) (take place log) step)
    (get_right (clauses_of (take place log)) (step.clause ∷ []) (length (take place log ++ step ∷ []) - 1) 0 step.clause
    (omega (arith, length_push (take place log) step, length-map (take place log) (λ (s : Inference). s.clause))) refl) in
    rw more (
      λ t. last ∙ ap Some (nil_from_length step.clause ((Decides-eqb (length step.clause) 0).0 t)),
      λ e. (Decides-eqb (length step.clause) 0).1 (let same : Some step.clause ≡ Some [] = sym last ∙ e in let nil : step.clause ≡ [] = cc in ap length nil),
    )
