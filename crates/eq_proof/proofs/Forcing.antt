-- What settled sets must have: literals of unit clauses, and so all that propagation makes true.
use Rattle.std.proofs.Common.{◌≡◌, ◌≢◌, ℕ, ◌<◌, ◌⊎◌, inl, inr, suc, zero, true, false, List, [], ◌∷◌, ◌++◌, length, get_or, arith, sym, ap, ◌∙◌, subst}
use Rattle.std.specs.Prelude.{All, Contains}
use Rattle.std.proofs.lemmas.Bool.{cases_Bool}
use Rattle.std.proofs.lemmas.Cmp.{nat_eq_equiv}
use Rattle.std.proofs.lemmas.List.Elements.{All-push, All-weaker, All-contains, Contains-push_cases, Contains-push, Contains-append_left}
use Rattle.eq_proof.specs.Literal.{Literal, negation, code_of}
use Rattle.eq_proof.specs.Sets.{IsConsistent, IsFalse, IsFalsified, IsUnit, IsSubset}
use Rattle.eq_proof.specs.Fresh.{IsSettled}
use Rattle.eq_proof.specs.Judgement.{IsJudged}
use Rattle.eq_proof.specs.declared.judgement.Judgement.TheVariants.{Idle}
use Rattle.eq_proof.specs.Propagation.{IsForced, IsRefused, IsDone, OthersFalse}
use Rattle.eq_proof.proofs.Sorting.{same_literal, same_code}

-- a literal is a member or not
pub member_or_not : (set : List Literal) (l : Literal) → Contains set l ⊎ (¬ Contains set l)
member_or_not [] l = inr (λ h. absurd (let none : h.0 < 0 = h.1 in omega arith))
member_or_not (m ∷ set) l =
    elim (cases_Bool (same_literal m l)) [
      | inl e ↦ inl (0, omega arith, same_code m l e)
      | inr e ↦ elim (member_or_not set l) [
        | inl h ↦ inl (suc h.0, omega (arith, h.1), h.2)
        | inr none ↦ inr (λ h. neither h.0 h.1 h.2 (λ is. let clash : true ≡ false = sym (nat_eq_equiv.refl (code_of l)) ∙ ap (λ (x : Literal). same_literal x l) (sym is) ∙ e in cc) none)
      ]
    ]
  where
    neither : (k : ℕ) → k < suc (length set) → get_or (m ∷ set) k l ≡ l → (m ≡ l → ⊥) → (¬ Contains set l) → ⊥
    neither zero h e first rest = first e
    neither (suc k) h e first rest = rest (k, omega arith, e)

-- what is false in a set is so in a larger one
falsified_kept : (few many clause : List Literal) → IsSubset few many → IsFalsified few clause → IsFalsified many clause
falsified_kept few many clause sub f = All-weaker (IsFalse few) (IsFalse many) (λ l h. sub (negation l) h) clause f

-- a settled set has the literal of a clause that is unit under a part of it
unit_forced : (clauses : List (List Literal)) (few set clause : List Literal) (l : Literal) → IsSettled clauses set → IsSubset few set → Contains clauses clause → IsUnit few clause l → Contains set l
unit_forced clauses few set clause l settled sub there unit =
    let P : Literal → Type 0 = λ m. (m ≡ l) ⊎ IsFalse few m in
    let Q : Literal → Type 0 = λ m. (m ≡ l) ⊎ IsFalse set m in
    let others : All Q clause = All-weaker P Q (λ m h. elim h [ inl is ↦ inl is | inr f ↦ inr (sub (negation m) f) ]) clause unit.others in
    elim (member_or_not set l) [
      | inl h ↦ h
      | inr out ↦ elim (member_or_not set (negation l)) [
        | inl f ↦
            let falsified : IsFalsified set clause = All-weaker Q (IsFalse set) (λ m h. elim h [ inl is ↦ subst (IsFalse set) (sym is) f | inr g ↦ g ]) clause others in
            absurd (All-contains (λ c. ¬ IsFalsified set c) clauses clause settled.no_conflict there falsified)
        | inr out_too ↦
            let also : IsUnit set clause l = record { member = unit.member; no_value = (out, out_too); others = others } in
            absurd (All-contains (λ c. (l : Literal) → ¬ IsUnit set c l) clauses clause settled.no_unit there l also)
      ]
    ]

-- one literal more, of a unit clause
pub forced_more : (clauses : List (List Literal)) (old few clause : List Literal) (l : Literal) → Contains clauses clause → IsUnit few clause l → IsForced clauses old few → IsForced clauses old (few ++ l ∷ [])
forced_more clauses old few clause l there unit forced set settled sub m h =
    elim (Contains-push_cases few l m h) [
      | inl before ↦ forced set settled sub m before
      | inr is ↦ subst (Contains set) is (unit_forced clauses few set clause l settled (forced set settled sub) there unit)
    ]

-- a falsified clause refuses
pub refused_by : (clauses : List (List Literal)) (old few clause : List Literal) → Contains clauses clause → IsFalsified few clause → IsForced clauses old few → IsRefused clauses old
refused_by clauses old few clause there f forced set settled sub =
    All-contains (λ c. ¬ IsFalsified set c) clauses clause settled.no_conflict there (falsified_kept few set clause (forced set settled sub) f)

pub subset_more : (old few : List Literal) (l : Literal) → IsSubset old few → IsSubset old (few ++ l ∷ [])
subset_more old few l sub m h = Contains-append_left few (l ∷ []) m (sub m h)

-- the others, one after the other
pub others_equal : (set lits : List Literal) (l m : Literal) → m ≡ l → OthersFalse set lits l → OthersFalse set (lits ++ m ∷ []) l
others_equal set lits l m is others = All-push (λ m. (m ≡ l) ⊎ IsFalse set m) lits m others (inl is)

pub others_false : (set lits : List Literal) (l m : Literal) → IsFalse set m → OthersFalse set lits l → OthersFalse set (lits ++ m ∷ []) l
others_false set lits l m f others = All-push (λ m. (m ≡ l) ⊎ IsFalse set m) lits m others (inr f)

pub others_assigned : (set lits : List Literal) (l m : Literal) → OthersFalse set lits l → OthersFalse (set ++ negation m ∷ []) (lits ++ m ∷ []) l
others_assigned set lits l m others =
    let more = All-weaker (λ m. (m ≡ l) ⊎ IsFalse set m) (λ x. (x ≡ l) ⊎ IsFalse (set ++ negation m ∷ []) x) (λ x h. elim h [ inl is ↦ inl is | inr f ↦ inr (Contains-append_left set (negation m ∷ []) (negation x) f) ]) lits others in
    others_false (set ++ negation m ∷ []) lits l m (Contains-push set (negation m)) more

-- of the others each is false
pub other_false : (set clause : List Literal) (l m : Literal) → OthersFalse set clause l → Contains clause m → m ≢ l → IsFalse set m
other_false set clause l m others member differ = elim (All-contains (λ m. (m ≡ l) ⊎ IsFalse set m) clause m others member) [ inl is ↦ absurd (differ is) | inr f ↦ f ]

pub least_assigned : (trail clause : List Literal) (l m : Literal) → Contains clause m → m ≢ l → ((set : List Literal) → OthersFalse set clause l → IsSubset trail set) → (set : List Literal) → OthersFalse set clause l → IsSubset (trail ++ negation m ∷ []) set
least_assigned trail clause l m member differ least set others x h =
    elim (Contains-push_cases trail (negation m) x h) [
      | inl old ↦ least set others x old
      | inr is ↦ subst (Contains set) is (other_false set clause l m others member differ)
    ]

-- no set makes a true literal false
pub others_refused : (trail clause : List Literal) (l m : Literal) → Contains clause m → m ≢ l → Contains trail m → ((set : List Literal) → OthersFalse set clause l → IsSubset trail set) → (set : List Literal) → IsConsistent set → ¬ OthersFalse set clause l
others_refused trail clause l m member differ holds least set consistent others = consistent m (least set others m holds) (other_false set clause l m others member differ)

-- a set in which propagation is done is settled where it is consistent
pub settled_when_done : (clauses : List (List Literal)) (set : List Literal) → IsConsistent set → IsDone clauses set → IsSettled clauses set
settled_when_done clauses set consistent done = record {
  consistent = consistent;
  no_conflict = All-weaker (λ clause. IsJudged set clause Idle) (λ clause. ¬ IsFalsified set clause) (λ clause h. h.0) clauses done;
  no_unit = All-weaker (λ clause. IsJudged set clause Idle) (λ clause. (l : Literal) → ¬ IsUnit set clause l) (λ clause h. h.1) clauses done;
}

pub equal_when : (a b : Literal) → same_literal a b ≡ true → a ≡ b
equal_when a b e = same_code a b e

pub differ_when : (a b : Literal) → same_literal a b ≡ false → a ≢ b
differ_when a b e is = let clash : true ≡ false = sym (nat_eq_equiv.refl (code_of b)) ∙ ap (λ (x : Literal). same_literal x b) (sym is) ∙ e in cc

-- what is false in a set is so in a larger one
pub others_kept : (few many clause : List Literal) (l : Literal) → IsSubset few many → OthersFalse few clause l → OthersFalse many clause l
others_kept few many clause l sub others = All-weaker (λ m. (m ≡ l) ⊎ IsFalse few m) (λ m. (m ≡ l) ⊎ IsFalse many m) (λ m h. elim h [ inl is ↦ inl is | inr f ↦ inr (sub (negation m) f) ]) clause others
