-- Variables without value, and the values of all.
use Rattle.std.proofs.Common.{◌≡◌, ℕ, ◌+◌, ◌-◌, ◌↔◌, inl, inr, Bool, true, false, not, List, [], ◌∷◌, ◌++◌, length, IsTrue, arith, refl, sym, ap, ◌∙◌, subst}
use Rattle.std.specs.Prelude.{Contains}
use Rattle.std.proofs.lemmas.Bool.{cases_lt}
use Rattle.std.proofs.lemmas.List.{get_or_append_left, get_or_push}
use Rattle.eq_proof.specs.Literal.{Literal, negation, literal_is}
use Rattle.eq_proof.specs.Sets.{IsConsistent, HasNoValue}
use Rattle.eq_proof.proofs.Trails.{same_variable}
use Rattle.eq_proof.proofs.Negations.{negation_twice}
use Rattle.eq_cdcl.specs.inner.Halting.{AllHaveValues, GivesValues}

-- literals of one variable have a value or not
no_value_too : (lits : List Literal) (l m : Literal) → l.var ≡ m.var → HasNoValue lits l → HasNoValue lits m
no_value_too lits l m e none =
    elim (same_variable m l (sym e)) [
      | inl is ↦ subst (HasNoValue lits) (sym is) none
      | inr is ↦
          let twice : negation m ≡ l = ap negation is ∙ negation_twice l in
          (λ h. none.1 (subst (Contains lits) is h), λ h. none.0 (subst (Contains lits) twice h))
    ]

-- one variable more that has a value
pub valued_more : (lits : List Literal) (n : ℕ) (l : Literal) → AllHaveValues n lits → l.var ≡ n + 1 → ¬ HasNoValue lits l → AllHaveValues (n + 1) lits
valued_more lits n l so is value m proper h none =
    elim (cases_lt n m.var) [
      | inl above ↦ value (no_value_too lits m l (omega arith) none)
      | inr below ↦ so m proper below none
    ]

by_sign : (lits : List Literal) (l : Literal) (n : ℕ) (b p : Bool) → IsConsistent lits → Contains lits l → l.var ≡ n → l.positive ≡ p → IsTrue b ↔ Contains lits (record { var = n; positive = true }) → b ≡ p
by_sign lits l n b true consistent member at sign is =
    is.1 (subst (Contains lits) (literal_is l (record { var = n; positive = true }) at sign) member)
by_sign lits l n false false consistent member at sign is = refl
by_sign lits l n true false consistent member at sign is =
    let other : negation l ≡ record { var = n; positive = true } = literal_is (negation l) (record { var = n; positive = true }) at (ap not sign) in
    absurd (consistent l member (subst (Contains lits) (sym other) (is.0 refl)))

-- one value more
pub values_more : (lits : List Literal) (bits : List Bool) (n : ℕ) (b : Bool) → IsConsistent lits → length bits ≡ n → IsTrue b ↔ Contains lits (record { var = n + 1; positive = true }) → GivesValues n lits bits → GivesValues (n + 1) lits (bits ++ b ∷ [])
values_more lits bits n b consistent len is old l member from within =
    elim (cases_lt n l.var) [
      | inl above ↦ get_or_push bits b false (l.var - 1) (omega arith) ∙ by_sign lits l (n + 1) b l.positive consistent member (omega arith) refl is
      | inr below ↦ get_or_append_left bits (b ∷ []) false (l.var - 1) (omega arith) ∙ old l member from below
    ]
