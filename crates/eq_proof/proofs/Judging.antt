-- What a clause says under a set of true literals, one literal after the other.
use Rattle.std.proofs.Common.{◌≡◌, ◌≢◌, ℕ, ◌+◌, ◌<◌, ◌≤◌, ◌⊎◌, inl, inr, true, false, Option, None, Some, List, [], ◌∷◌, ◌++◌, length, take, get_or, arith, refl, sym, ap, ◌∙◌, subst}
use Rattle.std.specs.Prelude.{Contains}
use Rattle.std.proofs.lemmas.List.{take_more, get_or-take, length-take-le, get_or_default}
use Rattle.std.proofs.lemmas.List.Elements.{All-push, All-weaker, All-contains, Contains-append_left, Contains-push}
use Rattle.eq_proof.specs.Literal.{Literal}
use Rattle.eq_proof.specs.Clause.{IsBefore, IsClause}
use Rattle.eq_proof.specs.Sets.{IsFalse, HasNoValue, IsFalsified, IsUnit}
use Rattle.eq_proof.specs.Judgement.{IsJudged, IsSeen}
use Rattle.eq_proof.specs.declared.judgement.Judgement.TheVariants.{Idle}

-- an item read at a place is the next of the first elements
pub taken_more : {X : Type 0} (xs : List X) (i : ℕ) (x : X) → i < length xs → x ≡ get_or xs i x → take (i + 1) xs ≡ take i xs ++ x ∷ []
taken_more xs i x within is = take_more xs i x within ∙ ap (λ y. take i xs ++ y ∷ []) (sym is)

pub read_member : {X : Type 0} (xs : List X) (i : ℕ) (x : X) → i < length xs → x ≡ get_or xs i x → Contains xs x
read_member xs i x within is = (i, within, sym is)

-- a false literal more
pub seen_false : (set lits : List Literal) (seen : Option Literal) (x : Literal) → IsSeen set lits seen → IsFalse set x → IsSeen set (lits ++ x ∷ []) seen
seen_false set lits None x h f = All-push (IsFalse set) lits x h f
seen_false set lits (Some l) x h f = record {
  member = Contains-append_left lits (x ∷ []) l h.member;
  no_value = h.no_value;
  others = All-push (λ m. (m ≡ l) ⊎ IsFalse set m) lits x h.others (inr f);
}

-- the first literal without value
pub seen_first : (set lits : List Literal) (x : Literal) → IsFalsified set lits → HasNoValue set x → IsUnit set (lits ++ x ∷ []) x
seen_first set lits x f none = record {
  member = Contains-push lits x;
  no_value = none;
  others = All-push (λ m. (m ≡ x) ⊎ IsFalse set m) lits x (All-weaker (IsFalse set) (λ m. (m ≡ x) ⊎ IsFalse set m) (λ m h. inr h) lits f) (inl refl);
}

-- a literal of a unit clause that isn't false is the one
pub the_one : (set clause : List Literal) (l x : Literal) → IsUnit set clause l → Contains clause x → ¬ IsFalse set x → x ≡ l
the_one set clause l x unit member not_false =
    elim (All-contains (λ m. (m ≡ l) ⊎ IsFalse set m) clause x unit.others member) [ inl is ↦ is | inr f ↦ absurd (not_false f) ]

-- a true literal
pub idle_true : (set clause : List Literal) (x : Literal) → Contains clause x → Contains set x × (¬ IsFalse set x) → IsJudged set clause Idle
idle_true set clause x member h = (
  λ f. h.1 (All-contains (IsFalse set) clause x f member),
  λ l unit. unit.no_value.0 (subst (Contains set) (the_one set clause l x unit member h.1) h.0),
)

-- two literals without value
pub idle_two : (set clause : List Literal) (l x : Literal) → Contains clause l → Contains clause x → HasNoValue set l → HasNoValue set x → l ≢ x → IsJudged set clause Idle
idle_two set clause l x member_l member_x none_l none_x differ = (
  λ f. none_x.1 (All-contains (IsFalse set) clause x f member_x),
  λ m unit. differ (the_one set clause m l unit member_l none_l.1 ∙ sym (the_one set clause m x unit member_x none_x.1)),
)

not_before_itself : (a b : Literal) → IsBefore a b → a ≢ b
not_before_itself a b (inl less) e = absurd (let same = ap (λ (l : Literal). l.var) e in omega arith)
not_before_itself a b (inr h) e = absurd (let clash : true ≡ false = sym h.1 ∙ ap (λ (l : Literal). l.positive) e ∙ h.2 in cc)

-- a literal of a clause differs from those before it
pub differs : (clause : List Literal) (i : ℕ) (l x : Literal) → IsClause clause → Contains (take i clause) l → i < length clause → x ≡ get_or clause i x → l ≢ x
differs clause i l x ordered member within is =
    let len = length-take-le i clause (omega arith) in
    let below : member.0 < i = omega (arith, len, member.1) in
    let first : get_or clause member.0 x ≡ l = get_or_default clause member.0 x l (omega arith) ∙ sym (get_or-take i clause member.0 l below) ∙ member.2 in
    let before = ordered member.0 i x below within in
    let P : Literal → Type 0 = λ a. IsBefore a (get_or clause i x) in
    λ e. not_before_itself l (get_or clause i x) (subst P first before) (e ∙ is)

-- a member of the first elements
pub in_whole : {X : Type 0} (xs : List X) (i : ℕ) (x : X) → i ≤ length xs → Contains (take i xs) x → Contains xs x
in_whole xs i x within h =
    let len = length-take-le i xs within in
    (h.0, omega (arith, h.1), sym (get_or-take i xs h.0 x (omega (arith, h.1))) ∙ h.2)
