-- Words and lists of words: a text begins with one list at most.
use Rattle.std.proofs.Common.{◌≡◌, ◌≢◌, ℕ, ◌-◌, ◌^◌, ◌<◌, ◌≤◌, Bool, true, false, cond, List, [], ◌∷◌, ◌++◌, length, get_or, Some, slice_get, arith, refl, sym, ap, ◌∙◌, subst, inl, inr}
use Rattle.std.specs.Prelude.{All}
use Rattle.std.specs.Fmt.{decimal}
use Rattle.std.specs.List.{AllPairs}
use Rattle.std.proofs.lemmas.Bool.{cases_lt}
use Rattle.std.proofs.lemmas.Fmt.{first_decimal, decimal_nonempty, decimal_digit}
use Rattle.std.proofs.lemmas.List.{append-nil, append_assoc, length_push, length-append, get_or_append_left, get_or_push}
use Rattle.std.proofs.lemmas.List.Elements.{All-head, All-tail}
use Rattle.std.proofs.lemmas.List.Quantifiers.{all_pairs_push}
use Rattle.std.proofs.lemmas.Option.{slice_get_within, get_or_from_slice_get}
use Rattle.eq_proof.specs.Literal.{Literal, literal_is}
use Rattle.eq_proof.specs.Clause.{IsBefore, IsClause}
use Rattle.eq_proof.specs.Text.{words, ended_words, literal_word, IsUpTo, IsNumber}
use Rattle.eq_proof.proofs.Numerals.{one_decimal, no_decimal-first}

-- ---- the order of a clause

IsBefore-trans : (a b c : Literal) → IsBefore a b → IsBefore b c → IsBefore a c
IsBefore-trans a b c (inl p) (inl q) = inl (omega arith)
IsBefore-trans a b c (inl p) (inr q) = inl (omega (arith, q.0))
IsBefore-trans a b c (inr p) (inl q) = inl (omega (arith, p.0))
IsBefore-trans a b c (inr p) (inr q) = absurd (cc (p.2, q.1))

AllPairs-front : {X : Type 0} (R : X → X → Type 0) (xs ys : List X) → AllPairs R (xs ++ ys) → AllPairs R xs
AllPairs-front {X} R xs ys h = λ i j d p q.
    let more : j < length (xs ++ ys) = omega (arith, length-append xs ys) in
    let both : R (get_or (xs ++ ys) i d) (get_or (xs ++ ys) j d) = h i j d p more in
    let P : X → Type 0 = λ x. R x (get_or (xs ++ ys) j d) in
    let Q : X → Type 0 = λ x. R (get_or xs i d) x in
    subst Q (get_or_append_left xs ys d j q) (subst P (get_or_append_left xs ys d i (omega arith)) both)

-- a clause ends anywhere
pub IsClause-front : (xs : List Literal) (x : Literal) (zs : List Literal) → IsClause (xs ++ x ∷ zs) → IsClause (xs ++ x ∷ [])
IsClause-front xs x zs h = AllPairs-front IsBefore (xs ++ x ∷ []) zs (subst IsClause (sym (append_assoc xs (x ∷ []) zs)) h)

-- a clause goes on with what comes after its last literal
pub goes_on_last : (xs : List Literal) (y l : Literal) → IsClause xs → slice_get xs (length xs - 1) ≡ Some y
    → (IsBefore y l → IsClause (xs ++ l ∷ [])) × (IsClause (xs ++ l ∷ []) → IsBefore y l)
goes_on_last xs y l h last =
    let within = slice_get_within xs (length xs - 1) y last in
    let at : (d : Literal) → get_or xs (length xs - 1) d ≡ y = λ d. get_or_from_slice_get xs (length xs - 1) y d last in (
      λ before. all_pairs_push IsBefore xs l h (λ k d lt.
          elim (cases_lt k (length xs - 1)) [
            | inl earlier ↦
                let P : Literal → Type 0 = IsBefore (get_or xs k d) in
                IsBefore-trans (get_or xs k d) y l (subst P (at d) (h k (length xs - 1) d earlier within)) before
            | inr here ↦
                let e : length xs - 1 ≡ k = omega arith in
                let P : ℕ → Type 0 = λ k. IsBefore (get_or xs k d) l in
                let Q : Literal → Type 0 = λ m. IsBefore m l in
                subst P e (subst Q (sym (at d)) before)
          ]),
      λ all.
          let two = all (length xs - 1) (length xs) y (omega arith) (omega (arith, length_push xs l)) in
          let first : get_or (xs ++ l ∷ []) (length xs - 1) y ≡ y = get_or_append_left xs (l ∷ []) y (length xs - 1) within ∙ at y in
          let second : get_or (xs ++ l ∷ []) (length xs) y ≡ l = get_or_push xs l y (length xs) refl in
          rw (first, second) at two,
    )

-- ---- one word

-- a number from 1 begins with no `0`
pub not_zero_first : (n : ℕ) (rest bytes : List ℕ) → 1 ≤ n → n < 2 ^ 64 → decimal n ++ rest ≡ 48 ∷ bytes → ⊥
not_zero_first n rest bytes pos small e =
    let begins = first_decimal n pos small in
    let same : get_or (decimal n) 0 0 ≡ 48 = sym (get_or_append_left (decimal n) rest 0 0 (decimal_nonempty n small)) ∙ ap (λ (t : List ℕ). get_or t 0 0) e in
    omega arith

-- a text begins with one number at most that a blank follows
pub one_number : (m n : ℕ) (r s : List ℕ) → m < 2 ^ 64 → n < 2 ^ 64 → decimal m ++ 32 ∷ r ≡ decimal n ++ 32 ∷ s → (m ≡ n) × (r ≡ s)
one_number m n r s small small' e =
    let both = one_decimal m n (32 ∷ r) (32 ∷ s) small small' refl refl e in
    (both.0, cc (both.1))

abbrev signed : Bool → ℕ → List ℕ
signed positive var = cond positive (decimal var) (45 ∷ decimal var)

no_minus : (n : ℕ) (rest bytes : List ℕ) → n < 2 ^ 64 → decimal n ++ rest ≡ 45 ∷ bytes → ⊥
no_minus n rest bytes small e = no_decimal-first (45 ∷ bytes) 45 bytes rest n refl refl small (sym e)

one_signed : (p q : Bool) (v w : ℕ) (r s : List ℕ) → v < 2 ^ 64 → w < 2 ^ 64 → signed p v ++ 32 ∷ r ≡ signed q w ++ 32 ∷ s → (p ≡ q) × (v ≡ w) × (r ≡ s)
one_signed true true v w r s h h' e = let both = one_number v w r s h h' e in (refl, both.0, both.1)
one_signed false false v w r s h h' e = let both = one_number v w r s h h' (cc (e)) in (refl, both.0, both.1)
one_signed true false v w r s h h' e = absurd (no_minus v (32 ∷ r) (decimal w ++ 32 ∷ s) h e)
one_signed false true v w r s h h' e = absurd (no_minus w (32 ∷ s) (decimal v ++ 32 ∷ r) h' (sym e))

-- a text begins with one literal at most
pub one_literal : (l m : Literal) (r s : List ℕ) → l.var < 2 ^ 64 → m.var < 2 ^ 64 → literal_word l ++ 32 ∷ r ≡ literal_word m ++ 32 ∷ s → (l ≡ m) × (r ≡ s)
one_literal l m r s h h' e =
    let all = one_signed l.positive m.positive l.var m.var r s h h' e in
    (literal_is l m all.1 all.0, all.2)

signed-not_zero : (p : Bool) (v : ℕ) (rest bytes : List ℕ) → 1 ≤ v → v < 2 ^ 64 → signed p v ++ rest ≡ 48 ∷ bytes → ⊥
signed-not_zero true v rest bytes pos small e = not_zero_first v rest bytes pos small e
signed-not_zero false v rest bytes pos small e =
    let first : ◌≡◌ {A = ℕ} 45 48 = ap (λ (t : List ℕ). get_or t 0 0) e in
    absurd (omega arith)

-- what follows a minus sign is a negative literal's variable
pub behind_minus : (p : Bool) (v : ℕ) (digits rest : List ℕ) → v < 2 ^ 64 → 45 ∷ digits ≡ signed p v ++ 32 ∷ rest → digits ≡ decimal v ++ 32 ∷ rest
behind_minus true v digits rest small e = absurd (no_minus v (32 ∷ rest) digits small (sym e))
behind_minus false v digits rest small e = cc

-- ---- lists of words

pub words_cons : {X : Type 0} (word : X → List ℕ) (x : X) (xs : List X) (rest : List ℕ) → words word (x ∷ xs) ++ rest ≡ word x ++ 32 ∷ (words word xs ++ rest)
words_cons word x xs rest = append_assoc (word x ++ 32 ∷ []) (words word xs) rest ∙ append_assoc (word x) (32 ∷ []) (words word xs ++ rest)

pub words_push : {X : Type 0} (word : X → List ℕ) (xs : List X) (x : X) (rest : List ℕ) → words word (xs ++ x ∷ []) ++ rest ≡ words word xs ++ (word x ++ 32 ∷ rest)
words_push word [] x rest = words_cons word x [] rest
words_push word (y ∷ xs) x rest =
    words_cons word y (xs ++ x ∷ []) rest ∙ ap (λ (t : List ℕ). word y ++ 32 ∷ t) (words_push word xs x rest) ∙ sym (words_cons word y xs (word x ++ 32 ∷ rest))

pub ended_cons : {X : Type 0} (word : X → List ℕ) (x : X) (xs : List X) (rest : List ℕ) → ended_words word (x ∷ xs) ++ rest ≡ word x ++ 32 ∷ (ended_words word xs ++ rest)
ended_cons word x xs rest =
    append_assoc (words word (x ∷ xs)) (48 ∷ []) rest ∙ words_cons word x xs (48 ∷ rest) ∙ ap (λ (t : List ℕ). word x ++ 32 ∷ t) (sym (append_assoc (words word xs) (48 ∷ []) rest))

-- words of which a text begins with one at most, and which begin with no `0`
pub record AreWords {X : Type 0} (word : X → List ℕ) (Fits : X → Type 0) : Type 0 where
  pub one : (x y : X) (r s : List ℕ) → Fits x → Fits y → word x ++ 32 ∷ r ≡ word y ++ 32 ∷ s → (x ≡ y) × (r ≡ s)
  pub not_zero : (x : X) (rest bytes : List ℕ) → Fits x → word x ++ rest ≡ 48 ∷ bytes → ⊥

pub literals : (most : ℕ) → most < 2 ^ 31 → AreWords literal_word (IsUpTo most)
literals most h = record {
  one = λ l m r s fits fits' e. one_literal l m r s (omega arith) (omega arith) e;
  not_zero = λ l rest bytes fits e. signed-not_zero l.positive l.var rest bytes fits.0 (omega arith) e;
}

-- what a list goes on with behind words that it begins with
pub goes_on_with : {X : Type 0} (word : X → List ℕ) (Fits : X → Type 0) → AreWords word Fits → (xs ys : List X) (rest more : List ℕ) → All Fits xs → All Fits ys → words word xs ++ rest ≡ ended_words word ys ++ more
    → (zs : List X) × (ys ≡ xs ++ zs) × (rest ≡ ended_words word zs ++ more) × All Fits zs
goes_on_with word Fits w [] ys rest more fits fits' e = (ys, refl, e, fits')
goes_on_with word Fits w (x ∷ xs) [] rest more fits fits' e =
    absurd (w.not_zero x (32 ∷ (words word xs ++ rest)) more (All-head Fits x xs fits) (sym (words_cons word x xs rest) ∙ e))
goes_on_with word Fits w (x ∷ xs) (y ∷ ys) rest more fits fits' e =
    let first = w.one x y (words word xs ++ rest) (ended_words word ys ++ more) (All-head Fits x xs fits) (All-head Fits y ys fits') (sym (words_cons word x xs rest) ∙ e ∙ ended_cons word y ys more) in
    let next = goes_on_with word Fits w xs ys rest more (All-tail Fits x xs fits) (All-tail Fits y ys fits') first.1 in
    (next.0, cc (next.1, first.0), next.2, next.3)

ended_first : {X : Type 0} (word : X → List ℕ) (Fits : X → Type 0) → AreWords word Fits → (zs : List X) (rest more : List ℕ) → All Fits zs → 48 ∷ rest ≡ ended_words word zs ++ more → (zs ≡ []) × (rest ≡ more)
ended_first word Fits w [] rest more fits e = (refl, cc)
ended_first word Fits w (z ∷ zs) rest more fits e =
    absurd (w.not_zero z (32 ∷ (ended_words word zs ++ more)) rest (All-head Fits z zs fits) (sym (ended_cons word z zs more) ∙ sym e))

-- a text begins with one list of words at most
pub one_list : {X : Type 0} (word : X → List ℕ) (Fits : X → Type 0) → AreWords word Fits → (xs ys : List X) (rest more : List ℕ) → All Fits xs → All Fits ys → ended_words word xs ++ rest ≡ ended_words word ys ++ more
    → (xs ≡ ys) × (rest ≡ more)
one_list word Fits w xs ys rest more fits fits' e =
    let next = goes_on_with word Fits w xs ys (48 ∷ rest) more fits fits' (sym (append_assoc (words word xs) (48 ∷ []) rest) ∙ e) in
    let last = ended_first word Fits w next.0 rest more next.3 next.2 in
    (sym (next.1 ∙ ap (λ (zs : List _). xs ++ zs) last.0 ∙ append-nil xs), last.1)

ends_nowhere : {X : Type 0} (word : X → List ℕ) (Fits : X → Type 0) (xs ys zs : List X) (rest more : List ℕ) → All Fits zs → ys ≡ xs ++ zs → rest ≡ ended_words word zs ++ more
    → ((bytes : List ℕ) → rest ≢ 48 ∷ bytes)
    → ((x : X) (zs : List X) (bytes : List ℕ) → Fits x → ys ≡ xs ++ x ∷ zs → rest ≢ word x ++ 32 ∷ bytes)
    → ⊥
ends_nowhere word Fits xs ys [] rest more fits parts e not_ended no_word = not_ended more e
ends_nowhere word Fits xs ys (z ∷ zs) rest more fits parts e not_ended no_word =
    no_word z zs (ended_words word zs ++ more) (All-head Fits z zs fits) parts (e ∙ ended_cons word z zs more)

-- no list goes on where neither a word nor the `0` does
pub no_list : {X : Type 0} (word : X → List ℕ) (Fits : X → Type 0) → AreWords word Fits → (xs ys : List X) (text rest more : List ℕ) → All Fits xs → All Fits ys → text ≡ words word xs ++ rest
    → ((bytes : List ℕ) → rest ≢ 48 ∷ bytes)
    → ((x : X) (zs : List X) (bytes : List ℕ) → Fits x → ys ≡ xs ++ x ∷ zs → rest ≢ word x ++ 32 ∷ bytes)
    → text ≢ ended_words word ys ++ more
no_list word Fits w xs ys text rest more fits fits' read not_ended no_word e =
    let next = goes_on_with word Fits w xs ys rest more fits fits' (sym read ∙ e) in
    ends_nowhere word Fits xs ys next.0 rest more next.3 next.1 next.2 not_ended no_word

-- ---- numbers

pub numbers : AreWords decimal IsNumber
numbers = record {
  one = λ m n r s fits fits' e. one_number m n r s fits.1 fits'.1 e;
  not_zero = λ n rest bytes fits e. not_zero_first n rest bytes fits.0 fits.1 e;
}

-- a number is from 1 where no `0` stands first
pub from_one : (text : List ℕ) (n : ℕ) (rest : List ℕ) → ((bytes : List ℕ) → text ≢ 48 ∷ bytes) → text ≡ decimal n ++ rest → 1 ≤ n
from_one text n rest no_zero e =
    elim (cases_lt 0 n) [
      | inl pos ↦ pos
      | inr none ↦
          let zero : n ≡ 0 = omega arith in
          absurd (no_zero rest (e ∙ ap (λ (k : ℕ). decimal k ++ rest) zero ∙ ap (λ (ds : List ℕ). ds ++ rest) (decimal_digit 0 (omega arith))))
    ]
