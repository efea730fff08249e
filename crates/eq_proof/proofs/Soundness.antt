-- Values that satisfy the clauses before a derivation satisfy its clause.
use Rattle.std.proofs.Common.{◌≡◌, ℕ, ◌-◌, ◌<◌, ◌≤◌, suc, zero, ◌⊎◌, inl, inr, Bool, true, false, not, List, [], ◌∷◌, ◌++◌, length, take, map, arith, refl, sym, ◌∙◌, subst}
use Rattle.std.specs.Prelude.{All}
use Rattle.std.proofs.lemmas.List.{take_all}
use Rattle.std.proofs.lemmas.List.Elements.{All-push, All-contains, All-append, All-nil, All-cons}
use Rattle.eq_proof.specs.Literal.{Literal, negation}
use Rattle.eq_proof.specs.Inference.{Inference, clauses_of}
use Rattle.eq_proof.specs.Sets.{IsFalse, IsFalsified, IsUnit}
use Rattle.eq_proof.specs.Derivation.{HasNumber, Refutes, IsDerivation, clauses_before, AllDerive, EndsEmpty}
use Rattle.eq_proof.specs.Satisfying.{MakesTrue, Satisfies, SatisfiesAll, Unsatisfiable}
use Rattle.eq_proof.proofs.Lists.{All-at, clauses_more}

-- a literal is true or its negation is
true_or_negation : (values : ℕ → Bool) (l : Literal) → MakesTrue values l ⊎ MakesTrue values (negation l)
true_or_negation values l = signs (values l.var) l.positive where
  signs : (a b : Bool) → (a ≡ b) ⊎ (a ≡ not b)
  signs true true = inl refl
  signs true false = inr refl
  signs false true = inr refl
  signs false false = inl refl

-- and not both
not_both : (values : ℕ → Bool) (l : Literal) → MakesTrue values l → MakesTrue values (negation l) → ⊥
not_both values l p q = apart l.positive (sym p ∙ q) where
  apart : (b : Bool) → b ≡ not b → ⊥
  apart true e = absurd (cc)
  apart false e = absurd (cc)

-- a clause is satisfied, or the negations of its literals are true
satisfied_or_not : (values : ℕ → Bool) (clause : List Literal) → Satisfies values clause ⊎ All (MakesTrue values) (map negation clause)
satisfied_or_not values [] = inr (All-nil (MakesTrue values))
satisfied_or_not values (l ∷ clause) =
    elim (true_or_negation values l) [
      | inl some ↦ inl (0, l, omega arith, refl, some)
      | inr no_one ↦ elim (satisfied_or_not values clause) [
        | inl more ↦ inl (suc more.0, more.1, omega arith, more.3, more.4)
        | inr none ↦ inr (All-cons (MakesTrue values) (negation l) (map negation clause) no_one none)
      ]
    ]

-- a clause whose literals are all false under true literals isn't satisfied
none_true : (values : ℕ → Bool) (set clause : List Literal) → All (MakesTrue values) set → IsFalsified set clause → Satisfies values clause → ⊥
none_true values set clause all falsified some =
    let l = some.1 in
    let false_one : IsFalse set l = subst (IsFalse set) some.3 (falsified some.0 l some.2) in
    not_both values l some.4 (All-contains (MakesTrue values) set (negation l) all false_one)

-- a satisfied unit clause's literal is true
unit_true : (values : ℕ → Bool) (set clause : List Literal) (l : Literal) → All (MakesTrue values) set → IsUnit set clause l → Satisfies values clause → MakesTrue values l
unit_true values set clause l all unit some =
    let m = some.1 in
    let P : Literal → Type 0 = λ m. (m ≡ l) ⊎ IsFalse set m in
    let one : P m = subst P some.3 (unit.others some.0 m some.2) in
    elim one [
      | inl is ↦ subst (MakesTrue values) is some.4
      | inr false_one ↦ absurd (not_both values m some.4 (All-contains (MakesTrue values) set (negation m) all false_one))
    ]

numbered_satisfied : (values : ℕ → Bool) (clauses : List (List Literal)) (n : ℕ) (clause : List Literal) → SatisfiesAll values clauses → HasNumber clauses n clause → Satisfies values clause
numbered_satisfied values clauses n clause all number = All-at (Satisfies values) clauses (n - 1) clause number.1 all

-- what is refuted isn't all true
not_refuted : (values : ℕ → Bool) (clauses : List (List Literal)) (set : List Literal) (ants : List ℕ) → SatisfiesAll values clauses → All (MakesTrue values) set → Refutes clauses set ants → ⊥
not_refuted values clauses set [] all holds r = r
not_refuted values clauses set (n ∷ []) all holds r = none_true values set r.0 holds r.2 (numbered_satisfied values clauses n r.0 all r.1)
not_refuted values clauses set (n ∷ m ∷ ns) all holds r =
    let l = r.1 in
    let holds_too = unit_true values set r.0 l holds r.3 (numbered_satisfied values clauses n r.0 all r.2) in
    not_refuted values clauses (set ++ l ∷ []) (m ∷ ns) all (All-push (MakesTrue values) set l holds holds_too) r.4

-- a derivation keeps the satisfying values
pub derivation_keeps : (before : List (List Literal)) (step : Inference) (values : ℕ → Bool) → IsDerivation before step → SatisfiesAll values before → Satisfies values step.clause
derivation_keeps before step values d all =
    elim (satisfied_or_not values step.clause) [
      | inl some ↦ some
      | inr none ↦ absurd (not_refuted values before (map negation step.clause) step.ants all none d.refuted)
    ]

-- and so do the first steps of a log
steps_keep : (clauses : List (List Literal)) (log : List Inference) (values : ℕ → Bool) → AllDerive clauses log → SatisfiesAll values clauses → (k : ℕ) → k ≤ length log → SatisfiesAll values (clauses_of (take k log))
steps_keep clauses log values d all zero h = All-nil (Satisfies values)
steps_keep clauses log values d all (suc k) h =
    let at = d k (omega arith) in
    let earlier = steps_keep clauses log values d all k (omega arith) in
    let one = derivation_keeps (clauses_before clauses log k) at.0 values at.2 (All-append (Satisfies values) clauses (clauses_of (take k log)) all earlier) in
    rw (clauses_more log k at.0 at.1) (All-push (Satisfies values) (clauses_of (take k log)) at.0.clause earlier one)

-- a log of derivations that ends with the empty clause refutes
pub refutation : (clauses : List (List Literal)) (log : List Inference) → AllDerive clauses log → EndsEmpty log → Unsatisfiable clauses
refutation clauses log d ends values all =
    let P : List Inference → Type 0 = λ log. SatisfiesAll values (clauses_of log) in
    let whole = subst P (take_all (length log) log (omega arith)) (steps_keep clauses log values d all (length log) (omega arith)) in
    let none = All-at (Satisfies values) (clauses_of log) (length log - 1) [] ends whole in
    absurd (let none_there : none.0 < 0 = none.2 in omega arith)
