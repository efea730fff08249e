-- Refutations by antecedents, one antecedent after the other.
use Rattle.std.proofs.Common.{◌≡◌, ℕ, ◌+◌, ◌<◌, ◌↔◌, Some, List, [], ◌∷◌, ◌++◌, length, drop, nat_eq, IsTrue, true, false, arith, refl, sym, ap, ◌∙◌, subst}
use Rattle.std.proofs.lemmas.Bool.Decides.{Decides-eqb}
use Rattle.std.proofs.lemmas.List.{drop_all, length-drop}
use Rattle.std.proofs.lemmas.List.Elements.{All-contains}
use Rattle.eq_proof.specs.Literal.{Literal}
use Rattle.eq_proof.specs.Sets.{IsFalse, IsFalsified, IsUnit}
use Rattle.eq_proof.specs.Judgement.{IsJudged}
use Rattle.eq_proof.specs.declared.judgement.Judgement.TheVariants.{Idle}
use Rattle.eq_proof.specs.Derivation.{HasNumber, Refutes}
use Rattle.eq_proof.proofs.Judging.{the_one}

-- one clause has a number
one_number : (clauses : List (List Literal)) (n : ℕ) (a b : List Literal) → HasNumber clauses n a → HasNumber clauses n b → b ≡ a
one_number clauses n a b p q = let e : Some b ≡ Some a = sym q.1 ∙ p.1 in cc

-- a unit clause isn't falsified
not_both : (set clause : List Literal) (l : Literal) → IsUnit set clause l → ¬ IsFalsified set clause
not_both set clause l unit falsified = unit.no_value.1 (All-contains (IsFalse set) clause l falsified unit.member)

-- a number that no clause has
pub refutes_none : (clauses : List (List Literal)) (set : List Literal) (n : ℕ) (ns : List ℕ) → ((clause : List Literal) → ¬ HasNumber clauses n clause) → ¬ Refutes clauses set (n ∷ ns)
refutes_none clauses set n [] none r = none r.0 r.1
refutes_none clauses set n (m ∷ ns) none r = none r.0 r.2

-- a falsified clause refutes as the last
pub refutes_conflict : (clauses : List (List Literal)) (set : List Literal) (n : ℕ) (ns : List ℕ) (clause : List Literal) → HasNumber clauses n clause → IsFalsified set clause → Refutes clauses set (n ∷ ns) ↔ (ns ≡ [])
refutes_conflict clauses set n [] clause h f = (λ r. refl, λ e. (clause, h, f))
refutes_conflict clauses set n (m ∷ ns) clause h f =
    (λ r. absurd (not_both set r.0 r.1 r.3 (subst (IsFalsified set) (sym (one_number clauses n clause r.0 h r.2)) f)), λ e. absurd (cc))

-- a unit clause's literal becomes true
pub refutes_unit : (clauses : List (List Literal)) (set : List Literal) (n : ℕ) (ns : List ℕ) (clause : List Literal) (l : Literal) → HasNumber clauses n clause → IsUnit set clause l
    → Refutes clauses set (n ∷ ns) ↔ Refutes clauses (set ++ l ∷ []) ns
refutes_unit clauses set n [] clause l h unit =
    (λ r. not_both set clause l unit (subst (IsFalsified set) (one_number clauses n clause r.0 h r.1) r.2), λ r. absurd r)
refutes_unit clauses set n (m ∷ ns) clause l h unit = (
  λ r.
      let same : r.0 ≡ clause = one_number clauses n clause r.0 h r.2 in
      let other : IsUnit set clause r.1 = subst (λ (c : List Literal). IsUnit set c r.1) same r.3 in
      let P : Literal → Type 0 = λ l. Refutes clauses (set ++ l ∷ []) (m ∷ ns) in
      subst P (the_one set clause l r.1 unit other.member other.no_value.1) r.4,
  λ r. (clause, l, h, unit, r),
)

-- a clause that is neither ends it
pub refutes_idle : (clauses : List (List Literal)) (set : List Literal) (n : ℕ) (ns : List ℕ) (clause : List Literal) → HasNumber clauses n clause → IsJudged set clause Idle → ¬ Refutes clauses set (n ∷ ns)
refutes_idle clauses set n [] clause h idle r = idle.0 (subst (IsFalsified set) (one_number clauses n clause r.0 h r.1) r.2)
refutes_idle clauses set n (m ∷ ns) clause h idle r = idle.1 r.1 (subst (λ (c : List Literal). IsUnit set c r.1) (one_number clauses n clause r.0 h r.2) r.3)

-- nothing is left after the last place
pub last_place : (ns : List ℕ) (place : ℕ) → place < length ns → (place + 1 ≡ length ns) ↔ (drop (place + 1) ns ≡ [])
last_place ns place h = (
  λ e. drop_all (place + 1) ns (omega arith),
  λ e. let none : length (drop (place + 1) ns) ≡ 0 = ap length e in omega (arith, length-drop (place + 1) ns),
)

false_true : false ≡ true → ⊥
false_true e = cc

-- an answer `false` where something can't be
pub never : {P : Type 0} → ¬ P → IsTrue false ↔ P
never no_one = (λ t. absurd (false_true t), λ p. absurd (no_one p))

-- and through an equivalence
pub never_by : {P Q : Type 0} → P ↔ Q → ¬ Q → IsTrue false ↔ P
never_by e no_one = never (λ p. no_one (e.0 p))

pub by_both : {P Q R : Type 0} → P ↔ Q → Q ↔ R → P ↔ R
by_both e f = (λ p. f.0 (e.0 p), λ r. e.1 (f.1 r))

-- an answer by a test of two numbers
pub by_test : {P : Type 0} (a b : ℕ) → P ↔ (a ≡ b) → IsTrue (nat_eq a b) ↔ P
by_test a b e = (λ t. e.1 ((Decides-eqb a b).0 t), λ p. (Decides-eqb a b).1 (e.0 p))
