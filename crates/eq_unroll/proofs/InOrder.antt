-- What is put in order is a clause, and has the same literals.
use Rattle.std.proofs.Common.{◌≡◌, ◌↔◌, ℕ, zero, suc, ◌+◌, ◌*◌, ◌<◌, ◌==◌, nat_lt, ◌⊎◌, inl, inr, Bool, true, false, cond, List, [], ◌∷◌, length, slice_index_or, Contains, arith, refl, sym, ap, subst, ◌∙◌}
use Rattle.std.specs.List.{AllByRecursion}
use Rattle.std.proofs.lemmas.Bool.{cases_Bool, cases_lt}
use Rattle.std.proofs.lemmas.Bool.Decides.{nat_tests, Decides-eqb}
use Rattle.std.proofs.lemmas.List.Elements.{All-from_recursion}
use Rattle.std.proofs.lemmas.List.Kept.{AllPairs-cons}
use Rattle.eq_proof.specs.Literal.{Literal, code_of}
use Rattle.eq_proof.specs.Clause.{IsBefore, IsClause}
use Rattle.eq_unroll.specs.Unrolling.{insert, ordered}
use Rattle.eq_unroll.proofs.Truth.{same_code}

-- The order

-- each literal's number is below those of all later ones
abbrev pub InOrder : List Literal → Type 0
InOrder [] = Unit {0}
InOrder (l ∷ ls) = AllByRecursion (λ m. code_of l < code_of m) ls × InOrder ls

-- what holds of all literals and of one more holds after that is put in
pub all_insert : (P : Literal → Type 0) (l : Literal) (ls : List Literal) → P l → AllByRecursion P ls →
    AllByRecursion P (insert l ls)
all_insert P l [] p h = (p, tt)
all_insert P l (m ∷ ms) p h = elim (cases_Bool (code_of l == code_of m)) [
  | inl same ↦ rw same h
  | inr differ ↦ elim (cases_Bool (nat_lt (code_of l) (code_of m))) [
    | inl less ↦ rw (differ, less) (p, h)
    | inr more ↦ rw (differ, more) (h.0, all_insert P l ms p h.1)
  ]
]

pub all_ordered : (P : Literal → Type 0) (ls : List Literal) → AllByRecursion P ls → AllByRecursion P (ordered ls)
all_ordered P [] h = tt
all_ordered P (l ∷ ls) h = all_insert P l (ordered ls) h.0 (all_ordered P ls h.1)

all_above : (a b : ℕ) (ls : List Literal) → a < b → AllByRecursion (λ m. b < code_of m) ls →
    AllByRecursion (λ m. a < code_of m) ls
all_above a b [] lt h = tt
all_above a b (l ∷ ls) lt h = ((let above : b < code_of l = h.0 in omega arith), all_above a b ls lt h.1)

less_from : (a b : ℕ) → nat_lt a b ≡ true → a < b
less_from a b h = grind (arith, nat_tests)

more_from : (a b : ℕ) → (a == b) ≡ false → nat_lt a b ≡ false → b < a
more_from a b h e = grind (arith, nat_tests)

insert_in_order : (l : Literal) (ls : List Literal) → InOrder ls → InOrder (insert l ls)
insert_in_order l [] h = (tt, tt)
insert_in_order l (m ∷ ms) h = elim (cases_Bool (code_of l == code_of m)) [
  | inl same ↦ rw same h
  | inr differ ↦ elim (cases_Bool (nat_lt (code_of l) (code_of m))) [
    | inl less ↦ rw (differ, less) (
      (less_from _ _ less, all_above (code_of l) (code_of m) ms (less_from _ _ less) h.0),
      h,
    )
    | inr more ↦ rw (differ, more) (
      all_insert (λ x. code_of m < code_of x) l ms (more_from _ _ differ more) h.0,
      insert_in_order l ms h.1,
    )
  ]
]

in_order : (ls : List Literal) → InOrder (ordered ls)
in_order [] = tt
in_order (l ∷ ls) = insert_in_order l (ordered ls) (in_order ls)

signs_before : (x y : ℕ) (p q : Bool) → 2 * x + cond p 0 1 < 2 * y + cond q 0 1 →
    (x < y) ⊎ ((x ≡ y) × (p ≡ true) × (q ≡ false))
signs_before x y true true h = inl (omega arith)
signs_before x y false true h = inl (omega arith)
signs_before x y false false h = inl (omega arith)
signs_before x y true false h = elim (cases_lt x y) [ inl lt ↦ inl lt | inr le ↦ inr (omega arith, refl, refl) ]

all_before : (l : Literal) (ls : List Literal) → AllByRecursion (λ m. code_of l < code_of m) ls →
    AllByRecursion (IsBefore l) ls
all_before l [] h = tt
all_before l (m ∷ ms) h = (signs_before l.var m.var l.positive m.positive h.0, all_before l ms h.1)

pub clause_from : (ls : List Literal) → InOrder ls → IsClause ls
clause_from [] h = λ i j d p q. absurd (omega arith)
clause_from (l ∷ ls) h = AllPairs-cons IsBefore l ls (All-from_recursion (IsBefore l) ls (all_before l ls h.0))
    (clause_from ls h.1)

pub ordered_clause : (ls : List Literal) → IsClause (ordered ls)
ordered_clause ls = clause_from (ordered ls) (in_order ls)

-- The literals

contains_here : (l : Literal) (ls : List Literal) → Contains (l ∷ ls) l
contains_here l ls = (0, omega arith, refl)

contains_later : (l : Literal) (ls : List Literal) (x : Literal) → Contains ls x → Contains (l ∷ ls) x
contains_later l ls x c = (suc c.0, (let lt : c.0 < length ls = c.1 in omega arith), c.2)

contains_cases : (l : Literal) (ls : List Literal) (x : Literal) → Contains (l ∷ ls) x → (l ≡ x) ⊎ Contains ls x
contains_cases l ls x c = go c.0 c.1 c.2
  where
    go : (k : ℕ) → k < length (l ∷ ls) → slice_index_or (l ∷ ls) k x ≡ x → (l ≡ x) ⊎ Contains ls x
    go zero lt e = inl e
    go (suc k) lt e = inr (k, omega arith, e)

put : (l : Literal) (ls : List Literal) → Contains (insert l ls) l
put l [] = contains_here l []
put l (m ∷ ms) = elim (cases_Bool (code_of l == code_of m)) [
  | inl same ↦ rw same (
      let e = same_code l m ((Decides-eqb (code_of l) (code_of m)).0 same) in
      let P : Literal → Type 0 = λ x. Contains (m ∷ ms) x in subst P (sym e) (contains_here m ms))
  | inr differ ↦ elim (cases_Bool (nat_lt (code_of l) (code_of m))) [
    | inl less ↦ rw (differ, less) (contains_here l (m ∷ ms))
    | inr more ↦ rw (differ, more) (contains_later m (insert l ms) l (put l ms))
  ]
]

kept : (l : Literal) (ls : List Literal) (x : Literal) → Contains ls x → Contains (insert l ls) x
kept l [] x c = absurd (let lt : c.0 < 0 = c.1 in omega arith)
kept l (m ∷ ms) x c = elim (cases_Bool (code_of l == code_of m)) [
  | inl same ↦ rw same c
  | inr differ ↦ elim (cases_Bool (nat_lt (code_of l) (code_of m))) [
    | inl less ↦ rw (differ, less) (contains_later l (m ∷ ms) x c)
    | inr more ↦ rw (differ, more) (elim (contains_cases m ms x c) [
      | inl e ↦ (let P : Literal → Type 0 = λ y. Contains (m ∷ insert l ms) y in
          subst P e (contains_here m (insert l ms)))
      | inr later ↦ contains_later m (insert l ms) x (kept l ms x later)
    ])
  ]
]

-- a literal after one was put in was there, or is that one
from_insert : (l : Literal) (ls : List Literal) (x : Literal) → Contains (insert l ls) x → (l ≡ x) ⊎ Contains ls x
from_insert l [] x c = contains_cases l [] x c
from_insert l (m ∷ ms) x c = elim (cases_Bool (code_of l == code_of m)) [
  | inl same ↦ inr (rw same at c)
  | inr differ ↦ elim (cases_Bool (nat_lt (code_of l) (code_of m))) [
    | inl less ↦ contains_cases l (m ∷ ms) x (rw (differ, less) at c)
    | inr more ↦ elim (contains_cases m (insert l ms) x (rw (differ, more) at c)) [
      | inl e ↦ inr (let P : Literal → Type 0 = λ y. Contains (m ∷ ms) y in subst P e (contains_here m ms))
      | inr later ↦ elim (from_insert l ms x later) [
        | inl e ↦ inl e
        | inr there ↦ inr (contains_later m ms x there)
      ]
    ]
  ]
]

pub ordered_members : (ls : List Literal) (x : Literal) → Contains (ordered ls) x ↔ Contains ls x
ordered_members ls x = (from_ordered ls x, into_ordered ls x)
  where
    from_ordered : (ls : List Literal) (x : Literal) → Contains (ordered ls) x → Contains ls x
    from_ordered [] x c = c
    from_ordered (l ∷ ls) x c = elim (from_insert l (ordered ls) x c) [
      | inl e ↦ (let P : Literal → Type 0 = λ y. Contains (l ∷ ls) y in subst P e (contains_here l ls))
      | inr there ↦ contains_later l ls x (from_ordered ls x there)
    ]

    into_ordered : (ls : List Literal) (x : Literal) → Contains ls x → Contains (ordered ls) x
    into_ordered [] x c = c
    into_ordered (l ∷ ls) x c = elim (contains_cases l ls x c) [
      | inl e ↦ (let P : Literal → Type 0 = λ y. Contains (ordered (l ∷ ls)) y in subst P e (put l (ordered ls)))
      | inr there ↦ kept l (ordered ls) x (into_ordered ls x there)
    ]

-- A clause is put in order already

insert_first : (l : Literal) (ls : List Literal) → AllByRecursion (λ m. code_of l < code_of m) ls → insert l ls ≡ l ∷ ls
insert_first l [] h = refl
insert_first l (m ∷ ms) h =
    let lt : code_of l < code_of m = h.0 in
    let e : (code_of l == code_of m) ≡ false = grind (arith, nat_tests) in
    let f : nat_lt (code_of l) (code_of m) ≡ true = grind (arith, nat_tests) in
    rw (e, f) refl

pub order_kept : (ls : List Literal) → InOrder ls → ordered ls ≡ ls
order_kept [] h = refl
order_kept (l ∷ ls) h = ap (insert l) (order_kept ls h.1) ∙ insert_first l ls h.0
