-- What the marks of words tell: the bits that they copy, and whether they read a marked bit.
use Rattle.std.proofs.Common.{◌≡◌, ℕ, zero, suc, ◌+◌, ◌-◌, ◌<◌, ◌≤◌, ◌==◌, List, [], ◌∷◌, ◌++◌, Bool, true, false, ◌||◌, cond, nat_lt, Option, Some, None, IfSome, slice_get, refl, arith, ap, sym, ◌∙◌, inl, inr}
use Rattle.std.specs.List.{list_any}
use Rattle.std.proofs.lemmas.Bool.{cases_Bool, cases_lt, false≢true, lt-ltb, ltb-true}
use Rattle.std.proofs.lemmas.List.Folds.{list_any-append}
use Rattle.eq_names.specs.declared.BitName.{BitName}
use Rattle.eq_net.specs.declared.types.NetInfo.{NetInfo}
use Rattle.eq_net.specs.declared.types.WordBit.{WordBit}
use Rattle.eq_net.specs.declared.types.WordOp.{WordOp}
use Rattle.eq_net.specs.declared.types.WordOp.TheVariants.{And, Or, Xor, Xnor, Add, Sub, Shl, Shr, Eq, Ne, Lt, Le, Gt, Ge, LogAnd, LogOr}
use Rattle.eq_net.specs.Meaning.{if_there, table, width, copy_in, reads_of}
use Rattle.eq_net.specs.Net.{HasBit, IsWord, word_at}
use Rattle.eq_net.specs.Numbers.{some_one}
use Rattle.eq_net.specs.Operators.{Reads as ReadsBy, all_reads, apply_reads, one_read, reads_from}
use Rattle.eq_net.specs.Tree.{Tree, const, read, pick, negated, opposite, binary, reduced, choice, empty, joined, extended}
use Rattle.eq_marks.specs.declared.marks.Way.TheVariants.{Copies, Reads}
use Rattle.eq_marks.specs.inner.Carrying.{carried}
use Rattle.std.specs.Prelude.{is_some, min}
use Rattle.eq_marks.specs.inner.Marks.{Marks, is_under, mixed, mixed_all, mixed_down, one_mark, operated}
use Rattle.eq_marks.proofs.MarkTables.{if_some}

-- ---- copies

no_mark : (b : Bool) → cond {A = Option ℕ} b None None ≡ None
no_mark true = refl
no_mark false = refl

none_of_all : (n : ℕ) (f : Marks) → mixed_all Copies n f ≡ None
none_of_all zero f = refl
none_of_all (suc n) f = refl

no_copy : (o : WordOp) (m n : ℕ) (a b : Marks) (j : ℕ) → operated Copies o m n a b j ≡ None
no_copy And m n a b j = refl
no_copy Or m n a b j = refl
no_copy Xor m n a b j = refl
no_copy Xnor m n a b j = refl
no_copy Add m n a b j = refl
no_copy Sub m n a b j = refl
no_copy Shl m n a b j = refl
no_copy Shr m n a b j = refl
no_copy Eq m n a b j = no_mark (j == 0)
no_copy Ne m n a b j = no_mark (j == 0)
no_copy Lt m n a b j = no_mark (j == 0)
no_copy Le m n a b j = no_mark (j == 0)
no_copy Gt m n a b j = no_mark (j == 0)
no_copy Ge m n a b j = no_mark (j == 0)
no_copy LogAnd m n a b j = no_mark (j == 0)
no_copy LogOr m n a b j = no_mark (j == 0)

module _ (named : BitName → Option ℕ) (number : BitName → ℕ) (nets : List NetInfo)
    (own : (n : BitName) → HasBit nets n → named n ≡ Some (number n)) where
  named_copy : (o : Option BitName) → IfSome o (HasBit nets) → if_there None named o ≡ if_there None (λ n. Some (number
      n)) o
  named_copy None there = refl
  named_copy (Some n) there = own n there

  module _ (words : List Tree) (k : ℕ) (e d : ℕ → ℕ → Option ℕ) (same : (w j : ℕ) → e w j ≡ d w j) where
    picked_copy : (o : Option WordBit) → if_there None (λ (b : WordBit). e b.word b.bit) o ≡ if_there None (λ (b :
        WordBit). d b.word b.bit) o
    picked_copy None = refl
    picked_copy (Some b) = same b.word b.bit

    word_copy : (t : Tree) → IsWord nets words k t → (j : ℕ) → carried Copies named e t j ≡ copy_in number d t j
    word_copy (const bits) is j = refl
    word_copy (read names) is j = named_copy (slice_get names j) (if_some (HasBit nets) names is j)
    word_copy (pick bits) is j = picked_copy (slice_get bits j)
    word_copy (negated a) is j = refl
    word_copy (opposite a) is j = refl
    word_copy (binary o a b) is j = no_copy o (width a) (width b) (carried Copies named e a) (carried Copies named e b)
        j
    word_copy (reduced o a) is j = ap (λ x. one_mark x j) (none_of_all (width a) (carried Copies named e a)) ∙ no_mark
        (j == 0)
    word_copy (choice c a b) is j = refl
    word_copy empty is j = refl
    word_copy (joined a b) is j =
        ap (λ x. cond {A = Option ℕ} (nat_lt j (width b)) x (carried Copies named e a (j - width b))) (word_copy b is.1
        j)
        ∙ ap (λ x. cond {A = Option ℕ} (nat_lt j (width b)) (copy_in number d b j) x) (word_copy a is.0 (j - width b))
    word_copy (extended a n) is j = ap (λ x. cond {A = Option ℕ} (nat_lt j (width a)) x None) (word_copy a is.0 j)

  module _ (words : List Tree) (are : (k : ℕ) → IsWord nets words k (word_at words k)) where
    pub all_copies : (k w j : ℕ) → table None (carried Copies named) words k w j ≡ table None (copy_in number) words k
        w j
    all_copies zero w j = refl
    all_copies (suc k) w j =
        ap (λ x. cond {A = Option ℕ} (w == k) x (table None (carried Copies named) words k w j))
        (word_copy words k (table None (carried Copies named) words k) (table None (copy_in number) words k)
        (all_copies k) (word_at words k) (are k) j)
        ∙ ap (λ x. cond {A = Option ℕ} (w == k) (copy_in number (table None (copy_in number) words k) (word_at words k)
        j) x) (all_copies k w j)

-- ---- reads

-- what is asked of a mark here: nothing of none, and of two what is asked of one of them
module _ (q : Option ℕ → Bool) (none : q None ≡ false) (either : (x y : Option ℕ) → q (mixed Reads x y) ≡ (q x || q y))
  where
    pub marked_all : (n : ℕ) (f : Marks) → q (mixed_all Reads n f) ≡ some_one n (λ i. q (f i))
    marked_all zero f = none
    marked_all (suc n) f = either (mixed_all Reads n f) (f n) ∙ ap (λ b. b || q (f n)) (marked_all n f)

pub some_same : (n : ℕ) (f g : ℕ → Bool) → ((i : ℕ) → i < n → f i ≡ g i) → some_one n f ≡ some_one n g
some_same zero f g same = refl
some_same (suc n) f g same =
    ap (λ b. b || f n) (some_same n f g (λ i lt. same i (omega arith))) ∙ ap (λ b. some_one n g || b) (same n (omega
    arith))

or_nothing : (b : Bool) → (b || false) ≡ b
or_nothing true = refl
or_nothing false = refl

or_turned : (a b : Bool) → (a || b) ≡ (b || a)
or_turned true true = refl
or_turned true false = refl
or_turned false true = refl
or_turned false false = refl

or_crossed : (a b c d : Bool) → ((a || b) || (c || d)) ≡ ((a || c) || (b || d))
or_crossed true b true d = refl
or_crossed true b false d = refl
or_crossed false true true d = refl
or_crossed false true false d = refl
or_crossed false false true d = refl
or_crossed false false false d = refl

some_of_both : (n : ℕ) (f g : ℕ → Bool) → some_one n (λ i. f i || g i) ≡ (some_one n f || some_one n g)
some_of_both zero f g = refl
some_of_both (suc n) f g = ap (λ b. b || (f n || g n)) (some_of_both n f g) ∙ or_crossed (some_one n f) (some_one n g)
    (f n) (g n)

-- one place is enough, and where there is some there is a place
pub some_at : (n : ℕ) (f : ℕ → Bool) (i : ℕ) → i < n → f i ≡ true → some_one n f ≡ true
some_at zero f i lt here = absurd (omega arith)
some_at (suc n) f i lt here = elim (cases_lt i n) [
  | inl less ↦ ap (λ b. b || f n) (some_at n f i less here)
  | inr more ↦ (
      let same : i ≡ n = omega arith in
      or_turned (some_one n f) (f n) ∙ ap (λ b. b || some_one n f) (ap f (sym same) ∙ here))
]

pub place_of : (n : ℕ) (f : ℕ → Bool) → some_one n f ≡ true → (i : ℕ) × (i < n) × (f i ≡ true)
place_of zero f some = absurd (false≢true some)
place_of (suc n) f some = elim (cases_Bool (f n)) [
  | inl here ↦ (n, omega arith, here)
  | inr other ↦ (
      let before = place_of n f (sym (ap (λ b. some_one n f || b) other ∙ or_nothing (some_one n f)) ∙ some) in
      (before.0, (let lt = before.1 in omega arith), before.2))
]

same_truths : (a b : Bool) → (a ≡ true → b ≡ true) → (b ≡ true → a ≡ true) → a ≡ b
same_truths true b to from = sym (to refl)
same_truths false true to from = from refl
same_truths false false to from = refl

-- the same places from the other end
some_turned : (n : ℕ) (f g : ℕ → Bool) → ((i : ℕ) → i < n → f i ≡ g ((n - 1) - i)) → some_one n f ≡ some_one n g
some_turned n f g same = same_truths (some_one n f) (some_one n g)
    (λ some. let at = place_of n f some in let lt = at.1 in
    some_at n g ((n - 1) - at.0) (omega arith) (sym (same at.0 lt) ∙ at.2))
    (λ some. let at = place_of n g some in let lt = at.1 in
    let back : (n - 1) - ((n - 1) - at.0) ≡ at.0 = omega arith in
    some_at n f ((n - 1) - at.0) (omega arith) (same ((n - 1) - at.0) (omega arith) ∙ ap g back ∙ at.2))

module _ (q : Option ℕ → Bool) (none : q None ≡ false) (either : (x y : Option ℕ) → q (mixed Reads x y) ≡ (q x || q y))
    (p : ℕ → Bool) where
  any_of_all : (n : ℕ) (r : ReadsBy) → list_any p (all_reads n r) ≡ some_one n (λ i. list_any p (r i))
  any_of_all zero r = refl
  any_of_all (suc n) r = list_any-append p (all_reads n r) (r n) ∙ ap (λ b. b || list_any p (r n)) (any_of_all n r)

  module _ (m n : ℕ) (a b : Marks) (r s : ReadsBy) (ones : (i : ℕ) → q (a i) ≡ list_any p (r i)) (others : (i :
      ℕ) → q (b i) ≡ list_any p (s i)) where
    marked_by : (k : ℕ) → q (mixed_all Reads k a) ≡ list_any p (all_reads k r)
    marked_by k = marked_all q none either k a ∙ some_same k (λ i. q (a i)) (λ i. list_any p (r i)) (λ i lt. ones i) ∙ sym
        (any_of_all k r)

    marked_by_second : (k : ℕ) → q (mixed_all Reads k b) ≡ list_any p (all_reads k s)
    marked_by_second k = marked_all q none either k b ∙ some_same k (λ i. q (b i)) (λ i. list_any p (s i)) (λ i lt. others i) ∙
        sym (any_of_all k s)

    both_marks : (x y : Option ℕ) (us vs : List ℕ) → q x ≡ list_any p us → q y ≡ list_any p vs → q (mixed
        Reads x y) ≡ list_any p (us ++ vs)
    both_marks x y us vs e f = either x y ∙ ap (λ c. c || q y) e ∙ ap (λ c. list_any p us || c) f ∙ sym
        (list_any-append p us vs)

    by_place : (j : ℕ) → q (mixed Reads (a j) (b j)) ≡ list_any p (r j ++ s j)
    by_place j = both_marks (a j) (b j) (r j) (s j) (ones j) (others j)

    up_to : (k : ℕ) → q (mixed_all Reads k (λ i. mixed Reads (a i) (b i))) ≡ list_any p (all_reads k r ++
        all_reads k s)
    up_to k =
        marked_all q none either k (λ i. mixed Reads (a i) (b i))
        ∙ some_same k (λ i. q (mixed Reads (a i) (b i))) (λ i. q (a i) || q (b i)) (λ i lt.
        either (a i) (b i))
        ∙ some_of_both k (λ i. q (a i)) (λ i. q (b i))
        ∙ ap (λ c. c || some_one k (λ i. q (b i))) (sym (marked_all q none either k a) ∙ marked_by k)
        ∙ ap (λ c. list_any p (all_reads k r) || c) (sym (marked_all q none either k b) ∙ marked_by_second k)
        ∙ sym (list_any-append p (all_reads k r) (all_reads k s))

    down_to : (j : ℕ) → q (mixed_down Reads m (m - j) a) ≡ list_any p (reads_from j (m - j) r)
    down_to j =
        marked_all q none either (m - j) (λ i. a ((m - 1) - i))
        ∙ some_turned (m - j) (λ i. q (a ((m - 1) - i))) (λ i. list_any p (r (j + i)))
        (λ i lt. ones ((m - 1) - i) ∙ ap (λ k. list_any p (r k)) (let e : (m - 1) - i ≡ j + (((m - j) - 1) - i) = omega
        arith in e))
        ∙ sym (any_of_all (m - j) (λ i. r (j + i)))

    one_bit : (x : Option ℕ) (us : List ℕ) (j : ℕ) → q x ≡ list_any p us → q (one_mark x j) ≡ list_any p
        (one_read us j)
    one_bit x us j e = elim (cases_Bool (j == 0)) [
      | inl first ↦ ap (λ c. q (cond {A = Option ℕ} c x None)) first ∙ e ∙ sym (ap (λ c. list_any p (cond {A =
          List ℕ} c us [])) first)
      | inr later ↦ ap (λ c. q (cond {A = Option ℕ} c x None)) later ∙ none ∙ sym (ap (λ c. list_any p (cond {A = List
          ℕ} c us [])) later)
    ]

    all_of_both : (j : ℕ) → q (one_mark (mixed Reads (mixed_all Reads m a) (mixed_all Reads n b)) j) ≡ list_any p
        (one_read (all_reads m r ++ all_reads n s) j)
    all_of_both j = one_bit (mixed Reads (mixed_all Reads m a) (mixed_all Reads n b)) (all_reads m r ++ all_reads n s) j
        (both_marks (mixed_all Reads m a) (mixed_all Reads n b) (all_reads m r) (all_reads n s) (marked_by m)
        (marked_by_second n))

    operated_reads : (o : WordOp) (j : ℕ) → q (operated Reads o m n a b j) ≡ list_any p (apply_reads o m n r s j)
    operated_reads And j = by_place j
    operated_reads Or j = by_place j
    operated_reads Xor j = by_place j
    operated_reads Xnor j = by_place j
    operated_reads Add j = up_to (suc j)
    operated_reads Sub j = up_to (suc j)
    operated_reads Shl j = both_marks (mixed_all Reads (suc j) a) (mixed_all Reads n b) (all_reads (suc j) r)
        (all_reads n s) (marked_by (suc j)) (marked_by_second n)
    operated_reads Shr j = both_marks (mixed_down Reads m (m - j) a) (mixed_all Reads n b) (reads_from j (m - j) r)
        (all_reads n s) (down_to j) (marked_by_second n)
    operated_reads Eq j = all_of_both j
    operated_reads Ne j = all_of_both j
    operated_reads Lt j = all_of_both j
    operated_reads Le j = all_of_both j
    operated_reads Gt j = all_of_both j
    operated_reads Ge j = all_of_both j
    operated_reads LogAnd j = all_of_both j
    operated_reads LogOr j = all_of_both j

module _ (q : Option ℕ → Bool) (none : q None ≡ false) (either : (x y : Option ℕ) → q (mixed Reads x y) ≡ (q x || q y))
    (p : ℕ → Bool) (named : BitName → Option ℕ) (number : BitName → ℕ) (own : (n : BitName) → q (named n) ≡
    p (number n)) where
  named_read : (o : Option BitName) → q (if_there None named o) ≡ list_any p (if_there [] (λ n. number n ∷ []) o)
  named_read None = none
  named_read (Some n) = own n ∙ sym (or_nothing (p (number n)))

  module _ (e : ℕ → ℕ → Option ℕ) (d : ℕ → ℕ → List ℕ) (same : (w j : ℕ) → q (e w j) ≡ list_any p (d w j)) where
    picked_read : (o : Option WordBit) → q (if_there None (λ (b : WordBit). e b.word b.bit) o) ≡ list_any p
        (if_there [] (λ (b : WordBit). d b.word b.bit) o)
    picked_read None = none
    picked_read (Some b) = same b.word b.bit

    -- by cases on a test
    by_test : (c : Bool) (x y : Option ℕ) (us vs : List ℕ) → q x ≡ list_any p us → q y ≡ list_any p vs →
        q (cond {A = Option ℕ} c x y) ≡ list_any p (cond {A = List ℕ} c us vs)
    by_test true x y us vs f g = f
    by_test false x y us vs f g = g

    word_reads : (t : Tree) (j : ℕ) → q (carried Reads named e t j) ≡ list_any p (reads_of number d t j)
    word_reads (const bits) j = none
    word_reads (read names) j = named_read (slice_get names j)
    word_reads (pick bits) j = picked_read (slice_get bits j)
    word_reads (negated a) j = either (carried Reads named e a j) None
        ∙ ap (λ b. q (carried Reads named e a j) || b) none ∙ or_nothing (q (carried Reads named e a j)) ∙ word_reads a j
    word_reads (opposite a) j = marked_by q none either p 0 0 (carried Reads named e a) (carried Reads named e a) (reads_of number d
        a) (reads_of number d a) (word_reads a) (word_reads a) (suc j)
    word_reads (binary o a b) j =
        operated_reads q none either p (width a) (width b) (carried Reads named e a) (carried Reads named e b) (reads_of number d a)
        (reads_of number d b) (word_reads a) (word_reads b) o j
    word_reads (reduced o a) j =
        let f = carried Reads named e a in
        let r = reads_of number d a in
        one_bit q none either p 0 0 f f r r (word_reads a) (word_reads a) (mixed_all Reads (width a) f) (all_reads (width a) r) j
        (marked_by q none either p 0 0 f f r r (word_reads a) (word_reads a) (width a))
    word_reads (choice c a b) j =
        let f = carried Reads named e a in
        let g = carried Reads named e b in
        let h = carried Reads named e c in
        let ra = reads_of number d a in
        let rb = reads_of number d b in
        let rc = reads_of number d c in
        either (mixed Reads (f j) (g j)) (mixed_all Reads (width c) h)
        ∙ or_turned (q (mixed Reads (f j) (g j))) (q (mixed_all Reads (width c) h))
        ∙ ap (λ x. x || q (mixed Reads (f j) (g j))) (marked_by q none either p 0 0 h h rc rc (word_reads c) (word_reads c)
        (width c))
        ∙ ap (λ x. list_any p (all_reads (width c) rc) || x) (by_place q none either p 0 0 f g ra rb (word_reads a) (word_reads b) j)
        ∙ sym (list_any-append p (all_reads (width c) rc) (ra j ++ rb j))
    word_reads empty j = none
    word_reads (joined a b) j =
        by_test (nat_lt j (width b)) (carried Reads named e b j) (carried Reads named e a (j - width b)) (reads_of
        number d b j) (reads_of number d a (j - width b))
        (word_reads b j) (word_reads a (j - width b))
    word_reads (extended a n) j =
        by_test (nat_lt j (width a)) (carried Reads named e a j) None (reads_of number d a j) [] (word_reads a j) none

  pub all_read : (words : List Tree) (k w j : ℕ) → q (table None (carried Reads named) words k w j) ≡ list_any p
      (table [] (reads_of number) words k w j)
  all_read words zero w j = none
  all_read words (suc k) w j =
      let e = table None (carried Reads named) words k in
      let d = table [] (reads_of number) words k in
      by_test e d (all_read words k) (w == k) (carried Reads named e (word_at words k) j) (e w j) (reads_of number d
      (word_at words k) j) (d w j)
      (word_reads e d (all_read words k) (word_at words k) j) (all_read words k w j)

-- ---- what may be asked

pub some_mark : (x y : Option ℕ) → is_some (mixed Reads x y) ≡ (is_some x || is_some y)
some_mark None y = refl
some_mark (Some a) None = refl
some_mark (Some a) (Some b) = refl

pub lt_true : (a b : ℕ) → a < b → nat_lt a b ≡ true
lt_true a b less = lt-ltb a b less

lt_false : (a b : ℕ) → b ≤ a → nat_lt a b ≡ false
lt_false a b most = elim (cases_Bool (nat_lt a b)) [
  | inl t ↦ (let less = ltb-true a b t in absurd (omega (arith, less, most)))
  | inr f ↦ f
]

under_least : (t a b : ℕ) → nat_lt (min a b) t ≡ (nat_lt a t || nat_lt b t)
under_least t a b = elim (cases_lt a t) [
  | inl less ↦ lt_true (min a b) t (omega (arith, less)) ∙ sym (ap (λ x. x || nat_lt b t) (lt_true a t less))
  | inr more ↦ elim (cases_lt b t) [
    | inl less ↦
        lt_true (min a b) t (omega (arith, less))
        ∙ sym (ap (λ x. x || nat_lt b t) (lt_false a t more) ∙ lt_true b t less)
    | inr most ↦
        lt_false (min a b) t (omega (arith, more, most))
        ∙ sym (ap (λ x. x || nat_lt b t) (lt_false a t more) ∙ lt_false b t most)
  ]
]

pub under_mark : (t : ℕ) (x y : Option ℕ) → is_under t (mixed Reads x y) ≡ (is_under t x || is_under t y)
under_mark t None y = refl
under_mark t (Some a) None = sym (or_nothing (nat_lt a t))
under_mark t (Some a) (Some b) = under_least t a b
