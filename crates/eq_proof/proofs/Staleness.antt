-- Clauses that are never fresh.
use Rattle.std.proofs.Common.{◌≡◌, ◌<◌, ◌⊎◌, inl, inr, suc, List, [], ◌∷◌, get_or, arith}
use Rattle.std.specs.Prelude.{All, Contains}
use Rattle.std.proofs.lemmas.List.Elements.{All-nil, All-cons, All-head, All-tail, All-contains, Contains-get_or}
use Rattle.eq_proof.specs.Literal.{Literal}
use Rattle.eq_proof.specs.Sets.{IsFalse, IsFalsified, IsUnit}
use Rattle.eq_proof.specs.Fresh.{IsFresh}

pub empty_stale : (before : List (List Literal)) → ¬ IsFresh before []
empty_stale before fresh = let none : fresh.1.2.member.0 < 0 = fresh.1.2.member.1 in absurd (omega arith)

-- of literals that are all one literal or false, that one is there or all are false
the_one_or_none : (set lits : List Literal) (l : Literal) → All (λ m. (m ≡ l) ⊎ IsFalse set m) lits → Contains lits l ⊎ IsFalsified set lits
the_one_or_none set [] l all = inr (All-nil (IsFalse set))
the_one_or_none set (m ∷ lits) l all =
    elim (All-head (λ m. (m ≡ l) ⊎ IsFalse set m) m lits all) [
      | inl is ↦ inl (0, omega arith, is)
      | inr f ↦ elim (the_one_or_none set lits l (All-tail (λ m. (m ≡ l) ⊎ IsFalse set m) m lits all)) [
        | inl there ↦ inl (suc there.0, omega (arith, there.1), there.2)
        | inr falsified ↦ inr (All-cons (IsFalse set) m lits f falsified)
      ]
    ]

pub superset_stale : (before : List (List Literal)) (earlier clause : List Literal) → Contains before earlier → ((l : Literal) → Contains earlier l → Contains clause l) → ¬ IsFresh before clause
superset_stale before earlier clause there within fresh =
    let l = fresh.0 in
    let set = fresh.1.0 in
    let settled = fresh.1.1 in
    let unit = fresh.1.2 in
    let P : Literal → Type 0 = λ m. (m ≡ l) ⊎ IsFalse set m in
    let others : All P earlier = λ k d h. All-contains P clause (get_or earlier k d) unit.others (within (get_or earlier k d) (Contains-get_or earlier k d h)) in
    elim (the_one_or_none set earlier l others) [
      | inl member ↦
          let earlier_unit : IsUnit set earlier l = record { member = member; no_value = unit.no_value; others = others } in
          All-contains (λ c. (l : Literal) → ¬ IsUnit set c l) before earlier settled.no_unit there l earlier_unit
      | inr falsified ↦ All-contains (λ c. ¬ IsFalsified set c) before earlier settled.no_conflict there falsified
    ]
