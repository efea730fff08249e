-- The words of a step of a log.
use Rattle.std.proofs.Common.{◌≡◌, ◌≢◌, ℕ, ◌+◌, ◌^◌, ◌<◌, ◌≤◌, ◌-◌, zero, suc, Bool, true, false, cond, List, [], ◌∷◌, ◌++◌, length, map, get_or, Some, slice_get, Result, Ok, Err, arith, refl, sym, ap, ap₂, ◌∙◌, subst, inl, inr}
use Rattle.std.specs.Prelude.{All, IfOk, codes, drop, ◌==◌}
use Rattle.std.specs.Fmt.{decimal}
use Rattle.std.proofs.lemmas.Bool.{cases_lt}
use Rattle.std.proofs.lemmas.List.{append-nil}
use Rattle.std.proofs.lemmas.List.Elements.{All-head, All-tail}
use Rattle.eq_proof.specs.Clause.{IsBefore, IsClause}
use Rattle.eq_proof.specs.Literal.{Literal}
use Rattle.eq_proof.specs.Text.{IsUpTo, literal_word}
use Rattle.eq_wit.specs.inner.Items.{IsFrom}
use Rattle.eq_wit.proofs.Decoding.{HasNoMinus, literal_from, literal_is, no_minus, num, num_is}

-- ---- one word

no_sign : (n : ℕ) (rest : List ℕ) → n < 2 ^ 64 → decimal n ≡ 45 ∷ rest → ⊥
no_sign n rest small e =
    let first : (45 == 45) ≡ false = (subst HasNoMinus e (no_minus n small)).0 in cc (first)

pub negative_word : (p : Bool) (v : ℕ) (digits : List ℕ) → v < 2 ^ 64 →
    45 ∷ digits ≡ cond p (decimal v) (45 ∷ decimal v) →
    digits ≡ decimal v
negative_word true v digits small e = absurd (no_sign v digits small (sym e))
negative_word false v digits small e = cc

pub positive_word : (p : Bool) (v : ℕ) (word : List ℕ) → ((rest : List ℕ) → word ≢ 45 ∷ rest) →
    word ≡ cond p (decimal v) (45 ∷ decimal v) → word ≡ decimal v
positive_word true v word other e = e
positive_word false v word other e = absurd (other (decimal v) e)

pub one_literal : (l m : Literal) → IsUpTo (2 ^ 31 - 1) l → IsUpTo (2 ^ 31 - 1) m → literal_word l ≡ literal_word m →
    l ≡ m
one_literal l m h k e =
    sym (literal_is l (omega (arith, h.1))) ∙ ap literal_from e ∙ literal_is m (omega (arith, k.1))

pub literal_not_zero : (l : Literal) → IsUpTo (2 ^ 31 - 1) l → literal_word l ≢ codes "0"
literal_not_zero l h e =
    let none : l ≡ literal_from (codes "0") = sym (literal_is l (omega (arith, h.1))) ∙ ap literal_from e in
    let var : l.var ≡ 0 = ap (λ (m : Literal). m.var) none in
    omega (arith, h.0)

pub one_number : (m n : ℕ) → m < 2 ^ 64 → n < 2 ^ 64 → decimal m ≡ decimal n → m ≡ n
one_number m n h k e = sym (num_is m h) ∙ ap num e ∙ num_is n k

pub number_not_zero : (n : ℕ) → 1 ≤ n → n < 2 ^ 64 → decimal n ≢ codes "0"
number_not_zero n h k e =
    let none : n ≡ 0 = sym (num_is n k) ∙ ap num e in omega arith

pub one_from : (limit : ℕ) → limit < 2 ^ 64 → (m n : ℕ) → IsFrom limit m → IsFrom limit n → decimal m ≡ decimal n →
    m ≡ n
one_from limit few m n h k e = one_number m n (omega (arith, few, h.1)) (omega (arith, few, k.1)) e

pub from_not_zero : (limit : ℕ) → limit < 2 ^ 64 → (n : ℕ) → IsFrom limit n → decimal n ≢ codes "0"
from_not_zero limit few n h e = number_not_zero n h.0 (omega (arith, few, h.1)) e

-- ---- the order of a clause

before_trans : (a b c : Literal) → IsBefore a b → IsBefore b c → IsBefore a c
before_trans a b c (inl p) (inl q) = inl (omega arith)
before_trans a b c (inl p) (inr q) = inl (omega (arith, q.0))
before_trans a b c (inr p) (inl q) = inl (omega (arith, p.0))
before_trans a b c (inr p) (inr q) = absurd (cc (p.2, q.1))

-- literals each of which is before the next are a clause
pub in_order : (xs : List Literal) → ((i : ℕ) (d : Literal) → suc i < length xs →
    IsBefore (get_or xs i d) (get_or xs (suc i) d)) →
    IsClause xs
in_order xs h i zero d less within = absurd (omega arith)
in_order xs h i (suc j) d less within = elim (cases_lt i j) [
  | inl earlier ↦ before_trans (get_or xs i d) (get_or xs j d) (get_or xs (suc j) d) (in_order xs h i j d earlier
      (omega arith))
      (h j d within)
  | inr here ↦
      let e : j ≡ i = omega arith in
      subst (λ (k : ℕ). IsBefore (get_or xs k d) (get_or xs (suc j) d)) e (h j d within)
]

-- ---- lists of words that `0` ends

module _ {X : Type 0} (word : X → List ℕ) (Fits : X → Type 0)
    (one : (x y : X) → Fits x → Fits y → word x ≡ word y → x ≡ y)
    (not_zero : (x : X) → Fits x → word x ≢ codes "0") where
  -- what such a list goes on with behind words that it begins with
  pub goes_on_with : (xs ys : List X) (rest more : List (List ℕ)) → All Fits xs → All Fits ys →
      map word xs ++ rest ≡ map word ys ++ codes "0" ∷ more →
      (zs : List X) × (ys ≡ xs ++ zs) × (rest ≡ map word zs ++ codes "0" ∷ more) × All Fits zs
  goes_on_with [] ys rest more h k e = (ys, refl, e, k)
  goes_on_with (x ∷ xs) [] rest more h k e =
      let first : word x ≡ codes "0" = cc (e) in absurd (not_zero x (All-head Fits x xs h) first)
  goes_on_with (x ∷ xs) (y ∷ ys) rest more h k e =
      let first : word x ≡ word y = cc (e) in
      let others : map word xs ++ rest ≡ map word ys ++ codes "0" ∷ more = cc (e) in
      let same : x ≡ y = one x y (All-head Fits x xs h) (All-head Fits y ys k) first in
      let next = goes_on_with xs ys rest more (All-tail Fits x xs h) (All-tail Fits y ys k) others in
      (next.0, ap₂ (λ (z : X) (zs : List X). z ∷ zs) (sym same) next.1, next.2, next.3)

  -- it doesn't end without `0`
  pub goes_further : (xs ys : List X) (rest more : List (List ℕ)) → All Fits xs → All Fits ys → rest ≡ [] →
      map word xs ++ rest ≡ map word ys ++ codes "0" ∷ more → ⊥
  goes_further xs ys rest more h k empty e =
      let next = goes_on_with xs ys rest more h k e in by_rest next.0 (sym empty ∙ next.2) where
        by_rest : (zs : List X) → [] ≡ map word zs ++ codes "0" ∷ more → ⊥
        by_rest [] e = cc (e)
        by_rest (z ∷ zs) e = cc (e)

  -- a word that is no `0` is that of its next
  pub goes_on_by : (xs ys : List X) (w : List ℕ) (rest more : List (List ℕ)) → All Fits xs → All Fits ys →
      w ≢ codes "0" → ((x : X) → Fits x → w ≢ word x) → map word xs ++ w ∷ rest ≡ map word ys ++ codes "0" ∷ more → ⊥
  goes_on_by xs ys w rest more h k other none e =
      let next = goes_on_with xs ys (w ∷ rest) more h k e in by_rest next.0 next.2 next.3 where
        by_rest : (zs : List X) → w ∷ rest ≡ map word zs ++ codes "0" ∷ more → All Fits zs → ⊥
        by_rest [] e all = let first : w ≡ codes "0" = cc (e) in other first
        by_rest (z ∷ zs) e all = let first : w ≡ word z = cc (e) in none z (All-head Fits z zs all) first

  -- where there is `0`, it is these, and the rest is the same
  pub ends_with : (xs ys : List X) (rest more : List (List ℕ)) → All Fits xs → All Fits ys →
      map word xs ++ codes "0" ∷ rest ≡ map word ys ++ codes "0" ∷ more → (ys ≡ xs) × (rest ≡ more)
  ends_with xs ys rest more h k e =
      let next = goes_on_with xs ys (codes "0" ∷ rest) more h k e in
      let last = by_rest next.0 next.2 next.3 in
      (next.1 ∙ ap (λ (zs : List X). xs ++ zs) last.0 ∙ append-nil xs, last.1) where
        by_rest : (zs : List X) → codes "0" ∷ rest ≡ map word zs ++ codes "0" ∷ more → All Fits zs →
            (zs ≡ []) × (rest ≡ more)
        by_rest [] e all = (refl, cc (e))
        by_rest (z ∷ zs) e all =
            let first : word z ≡ codes "0" = cc (e) in absurd (not_zero z (All-head Fits z zs all) first)

-- ---- words from a place on

pub drop_here : (ws : List (List ℕ)) (place : ℕ) (w : List ℕ) → slice_get ws place ≡ Some w →
    drop place ws ≡ w ∷ drop (place + 1) ws
drop_here [] place w e = absurd (cc e)
drop_here (x ∷ ws) zero w e = let is : x ≡ w = cc e in ap (λ (y : List ℕ). y ∷ ws) is
drop_here (x ∷ ws) (suc place) w e =
    let next : suc (place + 1) ≡ suc place + 1 = omega arith in
    drop_here ws place w e ∙ ap (λ (n : ℕ). w ∷ drop n (x ∷ ws)) next

pub drop_past : (ws : List (List ℕ)) (place : ℕ) → length ws ≤ place → drop place ws ≡ []
drop_past [] zero h = refl
drop_past [] (suc place) h = refl
drop_past (x ∷ ws) zero h = absurd (omega arith)
drop_past (x ∷ ws) (suc place) h = drop_past ws place (omega arith)

pub map_push : {X : Type 0} (f : X → List ℕ) (xs : List X) (x : X) (rest : List (List ℕ)) →
    map f xs ++ f x ∷ rest ≡ map f (xs ++ x ∷ []) ++ rest
map_push f [] x rest = refl
map_push f (y ∷ xs) x rest = ap (λ (ws : List (List ℕ)). f y ∷ ws) (map_push f xs x rest)

pub nothing_behind : (ws : List (List ℕ)) (place : ℕ) → drop place ws ≡ [] → length ws ≤ place
nothing_behind [] place e = omega arith
nothing_behind (x ∷ ws) zero e = absurd (cc (e))
nothing_behind (x ∷ ws) (suc place) e =
    let less = nothing_behind ws place e in omega (arith, less)

pub if_ok : {X E : Type 0} (r : Result X E) (P Q : X → Type 0) → ((x : X) → P x → Q x) → IfOk r P → IfOk r Q
if_ok (Ok x) P Q f h = f x h
if_ok (Err e) P Q f h = tt
