-- Logs of learned clauses, one step more.
use Rattle.std.proofs.Common.{◌≡◌, ◌≢◌, ℕ, ◌+◌, ◌-◌, ◌<◌, ◌≤◌, suc, zero, inl, inr, Bool, false, List, [], ◌∷◌, ◌++◌, length, get_or, slice_get, Some, arith, sym, ap, ◌∙◌, subst, append_assoc}
use Rattle.std.specs.Prelude.{All, Contains}
use Rattle.std.proofs.lemmas.Bool.{cases_lt}
use Rattle.std.proofs.lemmas.List.{length_push, take-append-le, take_all, map_push, get_or_append_left, append-nil, get_or-replicate, get_or_past, length-replicate}
use Rattle.std.proofs.lemmas.List.Elements.{All-contains}
use Rattle.eq_proof.specs.Literal.{Literal}
use Rattle.eq_proof.specs.Inference.{Inference, clauses_of}
use Rattle.eq_proof.specs.Satisfying.{SatisfiesAll}
use Rattle.eq_proof.specs.Assigned.{AllBelow}
use Rattle.eq_proof.specs.Derivation.{IsDerivation, clauses_before, DerivesAt, AllDerive, EndsEmpty}
use Rattle.eq_proof.specs.Fresh.{IsFresh, FreshAt}
use Rattle.eq_proof.proofs.Checking.{clause_at}
use Rattle.eq_cdcl.specs.inner.Knowledge.{known_of, IsLogged}
use Rattle.std.proofs.Math.ListN.{replicate}
use Rattle.eq_cdcl.specs.inner.Resolved.{marked}
use Rattle.eq_cdcl.specs.inner.Judged.{IsLive}
use Rattle.eq_cdcl.specs.Halting.{value_in}
use Rattle.eq_cdcl.specs.inner.Halting.{AllHaveValues, GivesValues}
use Rattle.eq_cdcl.specs.Logged.{HasLiteralsAt, FreshBelow}
use Rattle.eq_cdcl.proofs.Places.{push_last, push_old}

pub logged_start : (clauses : List (List Literal)) → IsLogged clauses []
logged_start clauses = record { derived = λ place h. absurd (omega arith); fresh = λ place h. absurd (omega arith) }

-- what is known with one step more
pub known_more : (clauses : List (List Literal)) (log : List Inference) (step : Inference) → known_of clauses (log ++ step ∷ []) ≡ known_of clauses log ++ step.clause ∷ []
known_more clauses log step =
    ap (λ (cs : List (List Literal)). clauses ++ cs) (map_push (λ (s : Inference). s.clause) log step) ∙ sym (append_assoc clauses (clauses_of log) (step.clause ∷ []))

before_old : (clauses : List (List Literal)) (log : List Inference) (step : Inference) (place : ℕ) → place ≤ length log → clauses_before clauses (log ++ step ∷ []) place ≡ clauses_before clauses log place
before_old clauses log step place h = ap (λ (ls : List Inference). known_of clauses ls) (take-append-le place log (step ∷ []) h)

before_last : (clauses : List (List Literal)) (log : List Inference) (step : Inference) → clauses_before clauses (log ++ step ∷ []) (length log) ≡ known_of clauses log
before_last clauses log step = before_old clauses log step (length log) (omega arith) ∙ ap (λ (ls : List Inference). known_of clauses ls) (take_all (length log) log (omega arith))

derived_more : (clauses : List (List Literal)) (log : List Inference) (step : Inference) → AllDerive clauses log → IsDerivation (known_of clauses log) step → AllDerive clauses (log ++ step ∷ [])
derived_more clauses log step old new place h =
    elim (cases_lt place (length log)) [
      | inl below ↦
          let d = old place below in
          let P : List (List Literal) → Type 0 = λ before. IsDerivation before d.0 in
          (d.0, push_old log (step ∷ []) place d.0 d.1, subst P (sym (before_old clauses log step place (omega arith))) d.2)
      | inr at ↦
          let same : length log ≡ place = omega (arith, length_push log step) in
          let P : List (List Literal) → Type 0 = λ before. IsDerivation before step in
          let Q : ℕ → Type 0 = λ n. DerivesAt clauses (log ++ step ∷ []) n in
          let here : Q (length log) = (step, push_last log step, subst P (sym (before_last clauses log step)) new) in
          subst Q same here
    ]

fresh_old : (clauses : List (List Literal)) (log : List Inference) (step : Inference) (place : ℕ) → place < length log → FreshAt clauses log place × HasLiteralsAt log place → FreshAt clauses (log ++ step ∷ []) place × HasLiteralsAt (log ++ step ∷ []) place
fresh_old clauses log step place below h =
    let f = h.0 in
    let n = h.1 in
    let P : List (List Literal) → Type 0 = λ before. IsFresh before f.0.clause in
    ((f.0, push_old log (step ∷ []) place f.0 f.1, subst P (sym (before_old clauses log step place (omega arith))) f.2), (n.0, push_old log (step ∷ []) place n.0 n.1, n.2))

-- a fresh clause has a literal
fresh_some : (before : List (List Literal)) (clause : List Literal) → IsFresh before clause → clause ≢ []
fresh_some before clause fresh e =
    let member : Contains [] fresh.0 = subst (λ (c : List Literal). Contains c fresh.0) e fresh.1.2.member in
    absurd (let lt : member.0 < 0 = member.1 in omega arith)

-- one learned clause more
pub logged_more : (clauses : List (List Literal)) (log : List Inference) (step : Inference) → IsLogged clauses log → IsDerivation (known_of clauses log) step → IsFresh (known_of clauses log) step.clause → IsLogged clauses (log ++ step ∷ [])
logged_more clauses log step old new fresh = record {
  derived = derived_more clauses log step old.derived new;
  fresh = λ place h. elim (cases_lt place (length log)) [
    | inl below ↦ fresh_old clauses log step place below (old.fresh place below)
    | inr at ↦
        let same : length log ≡ place = omega (arith, length_push log step) in
        let P : List (List Literal) → Type 0 = λ before. IsFresh before step.clause in
        let Q : ℕ → Type 0 = λ n. FreshAt clauses (log ++ step ∷ []) n × HasLiteralsAt (log ++ step ∷ []) n in
        let here : Q (length log) = ((step, push_last log step, subst P (sym (before_last clauses log step)) fresh), (step, push_last log step, fresh_some (known_of clauses log) step.clause fresh)) in
        subst Q same here
  ];
}

-- the empty clause at the end
pub refuted_derived : (clauses : List (List Literal)) (log : List Inference) (step : Inference) → IsLogged clauses log → IsDerivation (known_of clauses log) step → AllDerive clauses (log ++ step ∷ [])
refuted_derived clauses log step old new = derived_more clauses log step old.derived new

pub refuted_ends : (log : List Inference) (step : Inference) → step.clause ≡ [] → EndsEmpty (log ++ step ∷ [])
refuted_ends log step e =
    let last : length (log ++ step ∷ []) - 1 ≡ length log = omega (arith, length_push log step) in
    ap (λ n. slice_get (clauses_of (log ++ step ∷ [])) n) last ∙ clause_at (log ++ step ∷ []) (length log) step (push_last log step) ∙ ap Some e

pub refuted_fresh : (clauses : List (List Literal)) (log : List Inference) (step : Inference) → IsLogged clauses log → FreshBelow clauses (log ++ step ∷ []) (length (log ++ step ∷ []) - 1)
refuted_fresh clauses log step old place h =
    let below : place < length log = omega (arith, length_push log step) in
    fresh_old clauses log step place below (old.fresh place below)

-- values that make a literal of each clause true
pub satisfied : (clauses : List (List Literal)) (log : List Inference) (vars : ℕ) (set : List Literal) (bits : List Bool) → All (All (λ l. l.var ≤ vars)) clauses → All (IsLive set) (known_of clauses log) → AllHaveValues vars set → GivesValues vars set bits → SatisfiesAll (value_in bits) clauses
satisfied clauses log vars set bits within live all values k d h =
    let clause = get_or clauses k d in
    let same : get_or (known_of clauses log) k d ≡ clause = get_or_append_left clauses (clauses_of log) d k h in
    let place : k < length (known_of clauses log) = within_left clauses (clauses_of log) k h in
    let w : IsLive set clause = subst (IsLive set) same (live k d place) in
    let l = w.0 in
    let bound : l.var ≤ vars = All-contains (λ (l : Literal). l.var ≤ vars) clause l (within k d h) w.1 in
    let holds : Contains set l = elim w.3 [ inl there ↦ there | inr none ↦ absurd (all l w.2 bound none) ] in
    (w.1.0, l, w.1.1, w.1.2, values l holds (let p = w.2.0 in omega arith) bound)
  where
    within_left : (xs ys : List (List Literal)) (k : ℕ) → k < length xs → k < length (xs ++ ys)
    within_left [] ys k h = absurd (omega arith)
    within_left (x ∷ xs) ys zero h = omega arith
    within_left (x ∷ xs) ys (suc k) h = let r = within_left xs ys k (omega arith) in omega arith

-- at first only the formula's clauses are known
pub below_start : (clauses : List (List Literal)) (log : List Inference) (vars size : ℕ) → log ≡ [] → size ≡ vars + 1 → All (All (λ l. l.var ≤ vars)) clauses → All (AllBelow size) (known_of clauses log)
below_start clauses log vars size e is within =
    let below : All (AllBelow size) clauses = λ k d h i x lt. let le = within k d h i x lt in omega arith in
    let P : List (List Literal) → Type 0 = All (AllBelow size) in
    let Q : List Inference → Type 0 = λ log. All (AllBelow size) (known_of clauses log) in
    subst Q (sym e) (subst P (sym (append-nil clauses)) below)

-- and nothing is marked
pub clear_start : (n : ℕ) (marks : List Bool) → marks ≡ replicate n false → (p : ℕ) → marked marks p ≡ false
clear_start n marks e p =
    ap (λ (m : List Bool). marked m p) e ∙ elim (cases_lt p n) [
      | inl below ↦ get_or-replicate n p false false below
      | inr past ↦ get_or_past (replicate n false) p false (omega (arith, length-replicate n false))
    ]
