-- Whether clauses are satisfied, as a truth value that computes.
use Rattle.std.proofs.Common.{◌≡◌, ℕ, zero, suc, ◌+◌, ◌*◌, ◌<◌, ◌==◌, nat_lt, Bool, true, false, cond, not, ◌&&◌, ◌||◌, List, [], ◌∷◌, ◌++◌, map, length, slice_index_or, refl, arith, sym, ap, subst, ◌∙◌, inl, inr}
use Rattle.std.proofs.lemmas.Bool.{cases_Bool, cases_lt, and_parts, or_cases}
use Rattle.std.proofs.lemmas.Bool.Decides.{Decides-eqb}
use Rattle.std.proofs.lemmas.List.Elements.{All-nil, All-cons, All-head, All-tail}
use Rattle.eq_proof.specs.Literal.{Literal, code_of, literal_is, negation}
use Rattle.eq_proof.specs.Satisfying.{MakesTrue, Satisfies, SatisfiesAll}
use Rattle.eq_unroll.specs.Unrolling.{insert, ordered, joined}

-- whether a literal is true
unfoldable pub truth : (ℕ → Bool) → Literal → Bool
truth values l = cond l.positive (values l.var) (not (values l.var))

sign_negated : (x p : Bool) → cond (not p) x (not x) ≡ not (cond p x (not x))
sign_negated true true = refl
sign_negated true false = refl
sign_negated false true = refl
sign_negated false false = refl

-- a literal's negation is true where the literal isn't
pub truth_negation : (values : ℕ → Bool) (l : Literal) → truth values (negation l) ≡ not (truth values l)
unfolding truth
truth_negation values l = sign_negated (values l.var) l.positive

made : (x p : Bool) → cond p x (not x) ≡ true → x ≡ p
made true true h = refl
made true false h = absurd (cc)
made false true h = absurd (cc)
made false false h = refl

unmade : (x p : Bool) → x ≡ p → cond p x (not x) ≡ true
unmade true true h = refl
unmade true false h = absurd (cc)
unmade false true h = absurd (cc)
unmade false false h = refl

makes_true : (values : ℕ → Bool) (l : Literal) → truth values l ≡ true → MakesTrue values l
unfolding truth
makes_true values l h = made (values l.var) l.positive h

made_true : (values : ℕ → Bool) (l : Literal) → MakesTrue values l → truth values l ≡ true
unfolding truth
made_true values l h = unmade (values l.var) l.positive h

-- whether a clause is satisfied
abbrev pub row_true : (ℕ → Bool) → List Literal → Bool
row_true values [] = false
row_true values (l ∷ ls) = truth values l || row_true values ls

-- whether all clauses are
abbrev pub rows_true : (ℕ → Bool) → List (List Literal) → Bool
rows_true values [] = true
rows_true values (r ∷ rs) = row_true values r && rows_true values rs

-- parts of disjunctions and conjunctions

or_left : (x y : Bool) → x ≡ true → (x || y) ≡ true
or_left true y h = refl
or_left false y h = absurd (cc)

or_right : (x y : Bool) → y ≡ true → (x || y) ≡ true
or_right true y h = refl
or_right false y h = h

both : (x y : Bool) → x ≡ true → y ≡ true → (x && y) ≡ true
both true y h e = e
both false y h e = absurd (cc)

or_assoc : (x y z : Bool) → ((x || y) || z) ≡ (x || (y || z))
or_assoc true y z = refl
or_assoc false y z = refl

and_assoc : (x y z : Bool) → ((x && y) && z) ≡ (x && (y && z))
and_assoc true y z = refl
and_assoc false y z = refl

or_same : (x y : Bool) → (x || y) ≡ (x || (x || y))
or_same true y = refl
or_same false y = refl

or_swap : (x y z : Bool) → (x || (y || z)) ≡ (y || (x || z))
or_swap true true z = refl
or_swap true false z = refl
or_swap false true z = refl
or_swap false false z = refl

-- the truth value says what it is to say

pub satisfies : (values : ℕ → Bool) (ls : List Literal) → row_true values ls ≡ true → Satisfies values ls
satisfies values [] h = absurd (cc)
satisfies values (l ∷ ls) h = elim (or_cases (truth values l) (row_true values ls) h) [
  | inl here ↦ (0, l, omega arith, refl, makes_true values l here)
  | inr later ↦ (let s = satisfies values ls later in (
    suc s.0,
    s.1,
    (let lt : s.0 < length ls = s.2 in omega arith),
    s.3,
    s.4,
  ))
]

any_row : (values : ℕ → Bool) (ls : List Literal) (k : ℕ) (l : Literal) → k < length ls → slice_index_or ls k l ≡ l →
    MakesTrue values l → row_true values ls ≡ true
any_row values [] k l lt e m = absurd (omega arith)
any_row values (a ∷ ls) zero l lt e m = or_left _ _ (made_true values a (subst (MakesTrue values) (sym e) m))
any_row values (a ∷ ls) (suc k) l lt e m = or_right _ _ (any_row values ls k l (omega arith) e m)

pub satisfied : (values : ℕ → Bool) (ls : List Literal) → Satisfies values ls → row_true values ls ≡ true
satisfied values ls s = any_row values ls s.0 s.1 s.2 s.3 s.4

pub satisfies_all : (values : ℕ → Bool) (rs : List (List Literal)) → rows_true values rs ≡ true → SatisfiesAll values rs
satisfies_all values [] h = All-nil (Satisfies values)
satisfies_all values (r ∷ rs) h =
    let parts = and_parts (row_true values r) (rows_true values rs) h in
    All-cons (Satisfies values) r rs (satisfies values r parts.0) (satisfies_all values rs parts.1)

pub satisfied_all : (values : ℕ → Bool) (rs : List (List Literal)) → SatisfiesAll values rs → rows_true values rs ≡ true
satisfied_all values [] h = refl
satisfied_all values (r ∷ rs) h =
    both _ _ (satisfied values r (All-head (Satisfies values) r rs h))
    (satisfied_all values rs (All-tail (Satisfies values) r rs h))

-- the order of a clause's literals and their repeats don't matter

signs_same : (x y : ℕ) (p q : Bool) → 2 * x + cond p 0 1 ≡ 2 * y + cond q 0 1 → (x ≡ y) × (p ≡ q)
signs_same x y true true h = (omega arith, refl)
signs_same x y false false h = (omega arith, refl)
signs_same x y false true h = absurd (omega arith)
signs_same x y true false h = absurd (omega arith)

-- literals with one number are the same
pub same_code : (a b : Literal) → code_of a ≡ code_of b → a ≡ b
same_code a b h =
    let e = signs_same a.var b.var a.positive b.positive h in
    literal_is a b e.0 e.1

row_insert : (values : ℕ → Bool) (l : Literal) (ls : List Literal) →
    row_true values (insert l ls) ≡ (truth values l || row_true values ls)
row_insert values l [] = refl
row_insert values l (m ∷ ms) = elim (cases_Bool (code_of l == code_of m)) [
  | inl same ↦ (
      let e = same_code l m ((Decides-eqb (code_of l) (code_of m)).0 same) in
      rw (same, e) (or_same (truth values m) (row_true values ms)))
  | inr differ ↦ elim (cases_Bool (nat_lt (code_of l) (code_of m))) [
    | inl less ↦ rw (differ, less) refl
    | inr more ↦ rw (differ, more) (
        ap (λ x. truth values m || x) (row_insert values l ms)
        ∙ or_swap (truth values m) (truth values l) (row_true values ms))
  ]
]

pub row_ordered : (values : ℕ → Bool) (ls : List Literal) → row_true values (ordered ls) ≡ row_true values ls
row_ordered values [] = refl
row_ordered values (l ∷ ls) = row_insert values l (ordered ls) ∙ ap (λ x. truth values l || x) (row_ordered values ls)

pub rows_ordered : (values : ℕ → Bool) (rs : List (List Literal)) →
    rows_true values (map ordered rs) ≡ rows_true values rs
rows_ordered values [] = refl
rows_ordered values (r ∷ rs) = ap (λ x. x && rows_true values (map ordered rs)) (row_ordered values r)
    ∙ ap (λ x. row_true values r && x) (rows_ordered values rs)

-- lists one after another

pub row_append : (values : ℕ → Bool) (xs ys : List Literal) →
    row_true values (xs ++ ys) ≡ (row_true values xs || row_true values ys)
row_append values [] ys = refl
row_append values (x ∷ xs) ys = ap (λ b. truth values x || b) (row_append values xs ys)
    ∙ sym (or_assoc (truth values x) (row_true values xs) (row_true values ys))

pub rows_append : (values : ℕ → Bool) (xs ys : List (List Literal)) →
    rows_true values (xs ++ ys) ≡ (rows_true values xs && rows_true values ys)
rows_append values [] ys = refl
rows_append values (x ∷ xs) ys = ap (λ b. row_true values x && b) (rows_append values xs ys)
    ∙ sym (and_assoc (row_true values x) (rows_true values xs) (rows_true values ys))

-- of two lists one after another, each is satisfied
pub rows_parts : (values : ℕ → Bool) (xs ys : List (List Literal)) → rows_true values (xs ++ ys) ≡ true →
    (rows_true values xs ≡ true) × (rows_true values ys ≡ true)
rows_parts values xs ys h = and_parts (rows_true values xs) (rows_true values ys) (sym (rows_append values xs ys) ∙ h)

pub rows_both : (values : ℕ → Bool) (xs ys : List (List Literal)) → rows_true values xs ≡ true →
    rows_true values ys ≡ true → rows_true values (xs ++ ys) ≡ true
rows_both values xs ys h e = rows_append values xs ys ∙ both _ _ h e

pub rows_joined : (values : ℕ → Bool) (g : ℕ → List (List Literal)) (n : ℕ) → rows_true values (joined g n) ≡ true →
    (m : ℕ) → m < n → rows_true values (g m) ≡ true
rows_joined values g zero h m lt = absurd (omega arith)
rows_joined values g (suc n) h m lt =
    let parts = rows_parts values (joined g n) (g n) h in
    elim (cases_lt m n) [
      | inl less ↦ rows_joined values g n parts.0 m less
      | inr more ↦ (let e : n ≡ m = omega arith in let P : ℕ → Type 0 = λ k. rows_true values (g k) ≡ true in
          subst P e parts.1)
    ]

pub joined_rows : (values : ℕ → Bool) (g : ℕ → List (List Literal)) (n : ℕ) →
    ((m : ℕ) → m < n → rows_true values (g m) ≡ true) → rows_true values (joined g n) ≡ true
joined_rows values g zero h = refl
joined_rows values g (suc n) h = rows_both values (joined g n) (g n)
    (joined_rows values g n (λ m lt. h m (omega arith))) (h n (omega arith))

-- in a clause of one literal for each number, one of them is true

pub row_joined : (values : ℕ → Bool) (g : ℕ → Literal) (n : ℕ) → row_true values (joined (λ i. g i ∷ []) n) ≡ true →
    (i : ℕ) × (i < n) × (truth values (g i) ≡ true)
row_joined values g zero h = absurd (cc)
row_joined values g (suc n) h = elim (or_cases _ _ (sym (row_append values (joined (λ i. g i ∷ []) n) (g n ∷ []))
    ∙ h)) [
      | inl before ↦ (let r = row_joined values g n before in (r.0, (let lt : r.0 < n = r.1 in omega arith), r.2))
      | inr here ↦ elim (or_cases (truth values (g n)) false here) [
        | inl it ↦ (n, omega arith, it)
        | inr none ↦ absurd (cc)
      ]
    ]

pub joined_row : (values : ℕ → Bool) (g : ℕ → Literal) (n i : ℕ) → i < n → truth values (g i) ≡ true →
    row_true values (joined (λ i. g i ∷ []) n) ≡ true
joined_row values g zero i lt h = absurd (omega arith)
joined_row values g (suc n) i lt h = row_append values (joined (λ i. g i ∷ []) n) (g n ∷ []) ∙ elim (cases_lt i n) [
  | inl less ↦ or_left _ _ (joined_row values g n i less h)
  | inr more ↦ (let e : i ≡ n = omega arith in let P : ℕ → Type 0 = λ k. truth values (g k) ≡ true in
      or_right _ _ (or_left _ _ (subst P e h)))
]
