-- The lines of a text, and the first bad one.
use Rattle.std.proofs.Common.{◌≡◌, ℕ, ◌+◌, ◌%◌, ◌^◌, ◌<◌, ◌≤◌, zero, suc, Bool, true, false, cond, List, [], ◌∷◌, ◌++◌, length, take, map, None, Some, slice_get, arith, refl, sym, ap, ◌∙◌, subst, inl, inr}
use Rattle.std.specs.Prelude.{All, ◌==◌}
use Rattle.std.specs.Fmt.{decimal}
use Rattle.std.specs.List.{flat_map, AllByRecursion}
use Rattle.std.proofs.lemmas.Bool.{cases_Bool, cases_lt}
use Rattle.std.proofs.lemmas.Bool.Decides.{nat_tests}
use Rattle.std.proofs.lemmas.Fmt.{decimal_by_steps}
use Rattle.std.proofs.lemmas.List.{append_assoc, append-nil, take_more}
use Rattle.std.proofs.lemmas.Grind.{flat_map-append}
use Rattle.std.proofs.lemmas.Option.{slice_get_within, get_or_from_slice_get}
use Rattle.std.proofs.lemmas.List.Elements.{All-head, All-tail}
use Rattle.eq_proof.specs.Literal.{Literal}
use Rattle.eq_proof.specs.Text.{with_byte, lines_of, AgreeOn, words, ended_words, literal_word, IsUpTo, IsFirstBadLine}

-- ---- bytes without a line feed

abbrev pub HasNoFeed : List ℕ → Type 0
HasNoFeed bytes = AllByRecursion (λ byte. (byte == 10) ≡ false) bytes

pub HasNoFeed-append : (a b : List ℕ) → HasNoFeed a → HasNoFeed b → HasNoFeed (a ++ b)
HasNoFeed-append [] b h k = k
HasNoFeed-append (x ∷ a) b h k = (h.0, HasNoFeed-append a b h.1 k)

digit-no_feed : (d : ℕ) → ((48 + d) == 10) ≡ false
digit-no_feed d = grind (arith, nat_tests)

pub HasNoFeed-decimal : (n : ℕ) → n < 2 ^ 64 → HasNoFeed (decimal n)
HasNoFeed-decimal n h =
    let P : ℕ → List ℕ → Type 0 = λ n ds. HasNoFeed ds in
    decimal_by_steps P (λ n small. (digit-no_feed n, tt)) (λ n ds big before. HasNoFeed-append ds ((48 + n % 10) ∷ []) before (digit-no_feed (n % 10), tt)) n h

HasNoFeed-signed : (p : Bool) (n : ℕ) → n < 2 ^ 64 → HasNoFeed (cond p (decimal n) (45 ∷ decimal n))
HasNoFeed-signed true n h = HasNoFeed-decimal n h
HasNoFeed-signed false n h = (refl, HasNoFeed-decimal n h)

pub HasNoFeed-literal : (most : ℕ) → most < 2 ^ 31 → (l : Literal) → IsUpTo most l → HasNoFeed (literal_word l)
HasNoFeed-literal most small l fits = HasNoFeed-signed l.positive l.var (omega (arith, fits.1))

HasNoFeed-words : {X : Type 0} (word : X → List ℕ) (Fits : X → Type 0) → ((x : X) → Fits x → HasNoFeed (word x)) → (xs : List X) → All Fits xs → HasNoFeed (words word xs)
HasNoFeed-words word Fits each [] fits = tt
HasNoFeed-words word Fits each (x ∷ xs) fits =
    HasNoFeed-append (word x ++ 32 ∷ []) (words word xs) (HasNoFeed-append (word x) (32 ∷ []) (each x (All-head Fits x xs fits)) (refl, tt)) (HasNoFeed-words word Fits each xs (All-tail Fits x xs fits))

pub HasNoFeed-ended : {X : Type 0} (word : X → List ℕ) (Fits : X → Type 0) → ((x : X) → Fits x → HasNoFeed (word x)) → (xs : List X) → All Fits xs → HasNoFeed (ended_words word xs)
HasNoFeed-ended word Fits each xs fits = HasNoFeed-append (words word xs) (48 ∷ []) (HasNoFeed-words word Fits each xs fits) (refl, tt)

-- ---- lines

-- a whole line
pub record IsLine (line : List ℕ) : Type 0 where
  pub front : List ℕ
  pub no_feed : HasNoFeed front
  pub parts : line ≡ front ++ 10 ∷ []

lines_behind : (front rest : List ℕ) → HasNoFeed front → lines_of (front ++ 10 ∷ rest) ≡ (front ++ 10 ∷ []) ∷ lines_of rest
lines_behind [] rest h = refl
lines_behind (b ∷ front) rest h =
    let P : Bool → Type 0 = λ t. cond t ((10 ∷ []) ∷ lines_of (front ++ 10 ∷ rest)) (with_byte b (lines_of (front ++ 10 ∷ rest))) ≡ (b ∷ (front ++ 10 ∷ [])) ∷ lines_of rest in
    subst P (sym h.0) (ap (with_byte b) (lines_behind front rest h.1))

pub lines_cons : (line rest : List ℕ) → IsLine line → lines_of (line ++ rest) ≡ line ∷ lines_of rest
lines_cons line rest is =
    ap (λ (l : List ℕ). lines_of (l ++ rest)) is.parts ∙ ap lines_of (append_assoc is.front (10 ∷ []) rest) ∙ lines_behind is.front rest is.no_feed ∙ ap (λ (l : List ℕ). l ∷ lines_of rest) (sym is.parts)

pub lines_flat_map : {X : Type 0} (line : X → List ℕ) (Fits : X → Type 0) → ((x : X) → Fits x → IsLine (line x)) → (xs : List X) (rest : List ℕ) → All Fits xs → lines_of (flat_map line xs ++ rest) ≡ map line xs ++ lines_of rest
lines_flat_map line Fits each [] rest fits = refl
lines_flat_map line Fits each (x ∷ xs) rest fits =
    ap lines_of (append_assoc (line x) (flat_map line xs) rest) ∙ lines_cons (line x) (flat_map line xs ++ rest) (each x (All-head Fits x xs fits)) ∙ ap (λ (ls : List (List ℕ)). line x ∷ ls) (lines_flat_map line Fits each xs rest (All-tail Fits x xs fits))

first_with : (b : ℕ) (bytes line : List ℕ) (lines : List (List ℕ)) → ((l : List ℕ) → slice_get lines 0 ≡ Some l → (more : List ℕ) × (bytes ≡ l ++ more)) → slice_get (with_byte b lines) 0 ≡ Some line → (more : List ℕ) × (b ∷ bytes ≡ line ++ more)
first_with b bytes line [] before e =
    let is : line ≡ b ∷ [] = cc in
    (bytes, ap (λ (l : List ℕ). l ++ bytes) (sym is))
first_with b bytes line (l ∷ lines) before e =
    let is : line ≡ b ∷ l = cc in
    let next = before l refl in
    (next.0, ap (λ (t : List ℕ). b ∷ t) next.1 ∙ ap (λ (t : List ℕ). t ++ next.0) (sym is))

-- a text begins with its first line
pub first_line : (text line : List ℕ) → slice_get (lines_of text) 0 ≡ Some line → (more : List ℕ) × (text ≡ line ++ more)
first_line [] line e = absurd (cc)
first_line (b ∷ bytes) line e =
    let P : Bool → Type 0 = λ t. slice_get (cond t ((10 ∷ []) ∷ lines_of bytes) (with_byte b (lines_of bytes))) 0 ≡ Some line in
    elim (cases_Bool (b == 10)) [
      | inl yes' ↦
          let at : P true = subst P yes' e in
          let is : line ≡ 10 ∷ [] = cc in
          let feed : b ≡ 10 = grind (arith, nat_tests) in
          (bytes, ap (λ (c : ℕ). c ∷ bytes) feed ∙ ap (λ (l : List ℕ). l ++ bytes) (sym is))
      | inr no' ↦
          let at : P false = subst P no' e in
          first_with b bytes line (lines_of bytes) (λ l f. first_line bytes l f) at
    ]

none_with : (b : ℕ) (lines : List (List ℕ)) → slice_get (with_byte b lines) 0 ≡ None → ⊥
none_with b [] e = absurd (cc)
none_with b (l ∷ lines) e = absurd (cc)

-- only the empty text has no first line
pub no_first_line : (text : List ℕ) → slice_get (lines_of text) 0 ≡ None → text ≡ []
no_first_line [] e = refl
no_first_line (b ∷ bytes) e =
    let P : Bool → Type 0 = λ t. slice_get (cond t ((10 ∷ []) ∷ lines_of bytes) (with_byte b (lines_of bytes))) 0 ≡ None in
    elim (cases_Bool (b == 10)) [
      | inl yes' ↦ let at : P true = subst P yes' e in absurd (cc)
      | inr no' ↦ absurd (none_with b (lines_of bytes) (subst P no' e))
    ]

-- ---- places of a list in two parts

pub slice_get-front : {X : Type 0} (a b : List X) (k : ℕ) → k < length a → slice_get (a ++ b) k ≡ slice_get a k
slice_get-front [] b k h = absurd (omega arith)
slice_get-front (x ∷ a) b zero h = refl
slice_get-front (x ∷ a) b (suc k) h = slice_get-front a b k (omega arith)

pub slice_get-seam : {X : Type 0} (a b : List X) → slice_get (a ++ b) (length a) ≡ slice_get b 0
slice_get-seam [] b = refl
slice_get-seam (x ∷ a) b = slice_get-seam a b

-- texts whose first lines are the same agree on these
pub agree_behind : (a b : List ℕ) (front x y : List (List ℕ)) (count : ℕ) → lines_of a ≡ front ++ x → lines_of b ≡ front ++ y → count ≤ length front → AgreeOn count a b
agree_behind a b front x y count p q few = λ k lt.
    ap (λ (ls : List (List ℕ)). slice_get ls k) p ∙ slice_get-front front x k (omega arith) ∙ sym (slice_get-front front y k (omega arith)) ∙ sym (ap (λ (ls : List (List ℕ)). slice_get ls k) q)

-- the line behind the first lines
pub line_behind : (text : List ℕ) (front rest : List (List ℕ)) → lines_of text ≡ front ++ rest → slice_get (lines_of text) (length front) ≡ slice_get rest 0
line_behind text front rest e = ap (λ (ls : List (List ℕ)). slice_get ls (length front)) e ∙ slice_get-seam front rest

-- ---- what a loop writes

pub flat_map_at : {X : Type 0} (f : X → List ℕ) (xs : List X) (place : ℕ) (x : X) → slice_get xs place ≡ Some x → flat_map f (take (place + 1) xs) ≡ flat_map f (take place xs) ++ f x
flat_map_at {X} f xs place x at =
    let within = slice_get_within xs place x at in
    let more : take (place + 1) xs ≡ take place xs ++ x ∷ [] = take_more xs place x within ∙ ap (λ (y : X). take place xs ++ y ∷ []) (get_or_from_slice_get xs place x x at) in
    ap (flat_map f) more ∙ flat_map-append f (take place xs) (x ∷ []) ∙ ap (λ (t : List ℕ). flat_map f (take place xs) ++ t) (append-nil (f x))

-- ---- the first bad line

no_earlier : (IsText : List ℕ → Type 0) (text : List ℕ) (m n : ℕ) → IsFirstBadLine IsText text m → IsFirstBadLine IsText text n → m < n → ⊥
no_earlier IsText text m n p q lt =
    let good = q.begins in
    p.breaks good.0 good.1 (λ k below. good.2 k (omega arith))

pub one_bad_line : (IsText : List ℕ → Type 0) (text : List ℕ) (m n : ℕ) → IsFirstBadLine IsText text m → IsFirstBadLine IsText text n → m ≡ n
one_bad_line IsText text m n p q =
    elim (cases_lt m n) [
      | inl lt ↦ absurd (no_earlier IsText text m n p q lt)
      | inr le ↦ elim (cases_lt n m) [ inl lt ↦ absurd (no_earlier IsText text n m q p lt) | inr ge ↦ omega arith ]
    ]
