-- After a sort and a `dedup` the literals are a clause's, in order, and the same as before.
use Rattle.std.proofs.Common.{◌≡◌, ℕ, ◌<◌, ◌+◌, ◌*◌, ◌⊎◌, inl, inr, cond, Bool, true, false, List, [], ◌∷◌, arith, refl, eqb}
use Rattle.std.proofs.lemmas.Bool.{cases_lt}
use Rattle.std.proofs.lemmas.Bool.Decides.{nat_tests, Decides-eqb}
use Rattle.std.proofs.lemmas.Cmp.{nat_cmp_total, on_total, nat_eq_equiv, on_equiv}
use Rattle.std.proofs.lemmas.List.Elements.{All-from_recursion}
use Rattle.std.proofs.lemmas.List.Kept.{IsStrictlySortedBy-dedup, AllPairs-cons, Contains-dedup, Contains-from_dedup}
use Rattle.std.proofs.lemmas.List.Sorted.{Contains-permutation, IsPermutation-sym}
use Rattle.std.specs.List.{dedup, Contains, AllByRecursion}
use Rattle.std.specs.List.Sorted.{IsStrictlySortedBy, IsSorted, IsPermutation}
use Rattle.std.specs.Ordering.{nat_cmp, on, eq_by_cmp}
use Rattle.std.specs.declared.cmp.Ordering.{Ordering}
use Rattle.std.specs.declared.cmp.Ordering.TheVariants.{Less}
use Rattle.eq_proof.specs.Literal.{Literal, code_of, literal_is}
use Rattle.eq_proof.specs.Clause.{IsBefore, IsClause}

-- literals are compared by their numbers
abbrev pub literal_cmp : Literal → Literal → Ordering
literal_cmp = on code_of nat_cmp

abbrev pub same_literal : Literal → Literal → Bool
same_literal = on code_of eqb

signs_before : (x y : ℕ) (p q : Bool) → 2 * x + cond p 0 1 < 2 * y + cond q 0 1 → (x < y) ⊎ ((x ≡ y) × (p ≡ true) × (q ≡ false))
signs_before x y true true h = inl (omega arith)
signs_before x y false true h = inl (omega arith)
signs_before x y false false h = inl (omega arith)
signs_before x y true false h = elim (cases_lt x y) [ inl lt ↦ inl lt | inr le ↦ inr (omega arith, refl, refl) ]

before_from_code : (a b : Literal) → code_of a < code_of b → IsBefore a b
before_from_code a b h = signs_before a.var b.var a.positive b.positive h

signs_same : (x y : ℕ) (p q : Bool) → 2 * x + cond p 0 1 ≡ 2 * y + cond q 0 1 → (x ≡ y) × (p ≡ q)
signs_same x y true true h = (omega arith, refl)
signs_same x y false false h = (omega arith, refl)
signs_same x y false true h = absurd (omega arith)
signs_same x y true false h = absurd (omega arith)

pub same_code : (a b : Literal) → same_literal a b ≡ true → a ≡ b
same_code a b h =
    let e = signs_same a.var b.var a.positive b.positive ((Decides-eqb (code_of a) (code_of b)).0 h) in
    literal_is a b e.0 e.1

ties : (a b : Literal) → same_literal a b ≡ eq_by_cmp literal_cmp a b
ties a b = grind (arith, nat_tests)

all_before : (a : Literal) (ls : List Literal) → AllByRecursion (λ b. literal_cmp a b ≡ Less) ls → AllByRecursion (IsBefore a) ls
all_before a [] h = tt
all_before a (l ∷ ls) h = (before_from_code a l (grind (arith, nat_tests)), all_before a ls h.1)

pairs : (ls : List Literal) → IsStrictlySortedBy literal_cmp ls → IsClause ls
unfolding IsStrictlySortedBy
pairs [] h = λ i j d p q. absurd (omega arith)
pairs (l ∷ ls) h = AllPairs-cons IsBefore l ls (All-from_recursion (IsBefore l) ls (all_before l ls h.0)) (pairs ls h.1)

-- in order
pub IsClause-dedup : (ls : List Literal) → IsSorted literal_cmp ls → IsClause (dedup same_literal ls)
IsClause-dedup ls h = pairs _ (IsStrictlySortedBy-dedup (on_total code_of nat_cmp_total) ties ls h)

-- and the same literals
pub kept : (xs ys : List Literal) → IsPermutation xs ys → (l : Literal) → (Contains (dedup same_literal ys) l → Contains xs l) × (Contains xs l → Contains (dedup same_literal ys) l)
kept xs ys p l = (
  λ h. Contains-permutation ys xs l (IsPermutation-sym xs ys p) (Contains-from_dedup same_literal ys l h),
  λ h. Contains-dedup (on_equiv code_of nat_eq_equiv) same_code ys l (Contains-permutation xs ys l p h),
)
