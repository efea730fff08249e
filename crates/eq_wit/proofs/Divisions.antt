-- Bytes are divided at the first that passes.
use Rattle.std.proofs.Common.{◌≡◌, ℕ, ◌+◌, ◌<◌, Bool, true, false, List, [], ◌∷◌, ◌++◌, length, take, drop, get_or, Some, slice_get, arith, refl, sym, ap, ◌∙◌, subst}
use Rattle.std.specs.Prelude.{All, ◌==◌, not}
use Rattle.std.specs.List.{position_or_len}
use Rattle.std.specs.Str.{bytes_eq}
use Rattle.std.proofs.lemmas.Bool.Decides.{nat_tests}
use Rattle.std.proofs.lemmas.Slice.Eq.{bytes_eq-Decides}
use Rattle.std.proofs.lemmas.List.{get_or-take, length-take-le}
use Rattle.std.proofs.lemmas.List.Elements.{recursion_from_All}
use Rattle.std.proofs.lemmas.List.Splits.{slice_split_first, slice_split_none}
use Rattle.std.proofs.lemmas.List.Sums.{fails_before_first, passes_at_first, split_at_first}
use Rattle.eq_wit.specs.inner.Judging.{HasNoFeed, words_in}

all_before : (byte : ℕ) (xs : List ℕ) (n : ℕ) → n ≡ position_or_len (λ b. b == byte) xs → n ≡ length xs →
    All (λ b. (b == byte) ≡ false) xs
all_before byte xs n e long k d less = fails_before_first (λ b. b == byte) xs k d (omega (arith, e, long, less))

pub no_feed_before : (xs : List ℕ) (n : ℕ) → n ≡ position_or_len (λ b. b == 10) xs → n ≡ length xs → HasNoFeed xs
no_feed_before xs n e long = recursion_from_All (λ b. (b == 10) ≡ false) xs (all_before 10 xs n e long)

pub feed_at : (xs : List ℕ) (n : ℕ) → n ≡ position_or_len (λ b. b == 10) xs → n < length xs →
    (xs ≡ take n xs ++ 10 ∷ drop (n + 1) xs) × HasNoFeed (take n xs)
feed_at xs n e less =
    let P : ℕ → Type 0 = λ m. m < length xs → (xs ≡ take m xs ++ 10 ∷ drop (m + 1) xs) × HasNoFeed (take m xs) in
    subst P (sym e) (at_first xs) less where
      at_first : (xs : List ℕ) → position_or_len (λ b. b == 10) xs < length xs →
          (xs ≡ take (position_or_len (λ b. b == 10) xs) xs ++ 10 ∷ drop (position_or_len (λ b. b == 10) xs + 1) xs)
          × HasNoFeed (take (position_or_len (λ b. b == 10) xs) xs)
      at_first xs less =
          let p = position_or_len (λ b. b == 10) xs in
          let passes = passes_at_first (λ b. b == 10) xs 0 less in
          let feed : get_or xs p 0 ≡ 10 = grind (arith, nat_tests, passes) in (
            split_at_first (λ b. b == 10) xs 0 less ∙ ap (λ (b : ℕ). take p xs ++ b ∷ drop (p + 1) xs) feed,
            recursion_from_All (λ b. (b == 10) ≡ false) (take p xs) (λ k d small.
                let short = length-take-le p xs (omega (arith, less)) in
                subst (λ (b : ℕ). (b == 10) ≡ false) (sym (get_or-take p xs k d (omega (arith, small, short))))
                (fails_before_first (λ b. b == 10) xs k d (omega (arith, small, short)))),
          )

pub blank_at : (xs : List ℕ) (n : ℕ) → n ≡ position_or_len (λ b. b == 32) xs → n < length xs →
    words_in xs ≡ take n xs ∷ words_in (drop (n + 1) xs)
blank_at xs n e less =
    let P : ℕ → Type 0 = λ m. m < length xs → words_in xs ≡ take m xs ∷ words_in (drop (m + 1) xs) in
    subst P (sym e) (slice_split_first (λ b. b == 32) xs 0) less

pub no_blank_at : (xs : List ℕ) (n : ℕ) → n ≡ position_or_len (λ b. b == 32) xs → n ≡ length xs → words_in xs ≡ xs ∷ []
no_blank_at xs n e long = slice_split_none (λ b. b == 32) xs (all_before 32 xs n e long)

-- lists of one and two
pub one_of : {X : Type 0} (xs : List X) (a : X) → length xs ≡ 1 → slice_get xs 0 ≡ Some a → xs ≡ a ∷ []
one_of [] a e g = absurd (omega arith)
one_of (x ∷ []) a e g = let is : x ≡ a = cc g in ap (λ y. y ∷ []) is
one_of (x ∷ y ∷ xs) a e g = absurd (omega arith)

pub two_of : {X : Type 0} (xs : List X) (a b : X) → length xs ≡ 2 → slice_get xs 0 ≡ Some a → slice_get xs 1 ≡ Some b →
    xs ≡ a ∷ b ∷ []
two_of [] a b e g h = absurd (omega arith)
two_of (x ∷ []) a b e g h = absurd (omega arith)
two_of (x ∷ y ∷ []) a b e g h = let is : x ≡ a = cc g in let too : y ≡ b = cc h in cc
two_of (x ∷ y ∷ z ∷ xs) a b e g h = absurd (omega arith)

pub three_of : {X : Type 0} (xs : List X) (a b d : X) → length xs ≡ 3 → slice_get xs 0 ≡ Some a → slice_get xs 1 ≡ Some b →
    slice_get xs 2 ≡ Some d → xs ≡ a ∷ b ∷ d ∷ []
three_of [] a b d e g h k = absurd (omega arith)
three_of (x ∷ xs) a b d e g h k =
    let is : x ≡ a = cc g in
    ap (λ ys. x ∷ ys) (two_of xs b d (omega arith) h k) ∙ ap (λ y. y ∷ b ∷ d ∷ []) is

pub five_of : {X : Type 0} (xs : List X) (a b d e f : X) → length xs ≡ 5 → slice_get xs 0 ≡ Some a → slice_get xs 1 ≡ Some b →
    slice_get xs 2 ≡ Some d → slice_get xs 3 ≡ Some e → slice_get xs 4 ≡ Some f → xs ≡ a ∷ b ∷ d ∷ e ∷ f ∷ []
five_of [] a b d e f g h k l m n = absurd (omega arith)
five_of (x ∷ []) a b d e f g h k l m n = absurd (omega arith)
five_of (x ∷ y ∷ xs) a b d e f g h k l m n =
    let first : x ≡ a = cc h in
    let second : y ≡ b = cc k in
    ap (λ ys. x ∷ y ∷ ys) (three_of xs d e f (omega arith) l m n)
    ∙ ap (λ v. v ∷ y ∷ d ∷ e ∷ f ∷ []) first ∙ ap (λ v. a ∷ v ∷ d ∷ e ∷ f ∷ []) second

-- bytes that don't differ are the same
pub same_bytes : (a b : List ℕ) → not (bytes_eq a b) ≡ false → a ≡ b
same_bytes a b e = (bytes_eq-Decides a b).0 (back (bytes_eq a b) e) where
  back : (t : Bool) → not t ≡ false → t ≡ true
  back true e = refl
  back false e = absurd (cc e)

pub four_of : {X : Type 0} (xs : List X) (a b d e : X) → length xs ≡ 4 → slice_get xs 0 ≡ Some a → slice_get xs 1 ≡ Some b →
    slice_get xs 2 ≡ Some d → slice_get xs 3 ≡ Some e → xs ≡ a ∷ b ∷ d ∷ e ∷ []
four_of [] a b d e g h k l m = absurd (omega arith)
four_of (x ∷ xs) a b d e g h k l m =
    let is : x ≡ a = cc h in
    ap (λ ys. x ∷ ys) (three_of xs b d e (omega arith) k l m) ∙ ap (λ y. y ∷ b ∷ d ∷ e ∷ []) is
