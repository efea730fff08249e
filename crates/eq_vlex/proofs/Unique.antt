-- What stands at the front of a text is one thing only: one piece, or one fault.
use Rattle.std.proofs.Common.{◌≡◌, ℕ, ◌+◌, ◌<◌, ◌≤◌, Bool, true, false, eqb, ltb, ◌&&◌, ◌||◌, List, [], ◌∷◌, get_or, drop, Option, Some, None, refl, sym, ap, subst, ◌∙◌, arith, inl, inr}
use Rattle.std.specs.Prelude.{unwrap_or, option_map}
use Rattle.std.specs.List.{list_all, list_any}
use Rattle.std.specs.Char.{digit_value}
use Rattle.std.proofs.lemmas.Bool.{cases_order, and_parts, or_cases, or_from, cond-false, true≢false, false≢true, false_from_ne_true, eqb-true, le-ltb}
use Rattle.eq_vlex.specs.declared.bytes.Start.{Start}
use Rattle.eq_vlex.specs.declared.bytes.Start.TheVariants as start
use Rattle.eq_vlex.specs.declared.fault.LexKind.{LexKind}
use Rattle.eq_vlex.specs.declared.fault.LexKind.TheVariants.{BadNumber, XValue, TooWide}
use Rattle.eq_vlex.specs.declared.mark.Mark.{Mark}
use Rattle.eq_vlex.specs.declared.token.Constant.{Constant}
use Rattle.eq_vlex.specs.declared.token.TokenKind.{TokenKind}
use Rattle.eq_vlex.specs.declared.token.TokenKind.TheVariants as token
use Rattle.eq_vlex.specs.Separators.{ClosesComment, ClosesAttribute, IsFirst}
use Rattle.eq_vlex.specs.Numbers.{base_of, is_digit_of, is_unknown, unsigned_part, has_unknown, IsSized, IsBadSized, is_quoted, size_part, tail_part, IsNumberOf, IsBadNumberOf}
use Rattle.eq_vlex.specs.Pieces.{IsKind, IsFault}

first_unique : (P : ℕ → Type 0) (j k : ℕ) → IsFirst P j → IsFirst P k → j ≡ k
first_unique P j k a b =
    elim (cases_order j k) [
      | inl same ↦ same
      | inr (inl below) ↦ absurd (b.none_before j below a.here)
      | inr (inr above) ↦ absurd (a.none_before k above b.here)
    ]

-- ---- numbers

sized_unique : (bits : ℕ) (tail : List ℕ) (c d : Constant) → IsSized bits tail c → IsSized bits tail d → c ≡ d
sized_unique bits tail c d a b =
    let sizes : c.size ≡ d.size = a.size ∙ sym b.size in
    let values : c.value ≡ d.value = a.value ∙ sym b.value in
    λ i. record { size = sizes i; value = values i }

number_unique : (quoted : Bool) (front tail : List ℕ) (m n : ℕ) (j k : TokenKind) → IsNumberOf quoted front tail m j → IsNumberOf quoted front tail n k → (m ≡ n) × (j ≡ k)
number_unique true front tail m n (token.Sized c) (token.Sized d) a b = (a.0 ∙ sym b.0, ap (λ (x : Constant). token.Sized x) (sized_unique (_) tail c d a.1 b.1))
number_unique true front tail m n (token.Sized c) _ a b = absurd b
number_unique true front tail m n _ _ a b = absurd a
number_unique false front tail m n (token.Decimal x) (token.Decimal y) a b = (a.0 ∙ sym b.0, ap (λ (v : ℕ). token.Decimal v) (a.1.value ∙ sym b.1.value))
number_unique false front tail m n (token.Decimal x) _ a b = absurd b
number_unique false front tail m n _ _ a b = absurd a

base_small : (b : ℕ) → base_of b ≤ 16
base_small b = grind arith

base_no_sign : (b : ℕ) → 0 < base_of b → (eqb b 115 || eqb b 83) ≡ false
base_no_sign b some = grind arith

no_digit : (base b x : ℕ) → base ≤ 16 → (is_digit_of base b || eqb b 95) ≡ true → b ≡ x → 16 ≤ digit_value x → eqb x 95 ≡ false → ⊥
no_digit base b x small digit same wide other =
    let at_x = subst (λ (y : ℕ). (is_digit_of base y || eqb y 95) ≡ true) same digit in
    let none : is_digit_of base x ≡ false = le-ltb (digit_value x) base (omega arith) in
    false≢true (sym (or_from (is_digit_of base x) (eqb x 95) none other) ∙ at_x)

-- a digit or `_` is no x, z or `?`
digit_known : (base b : ℕ) → base ≤ 16 → (is_digit_of base b || eqb b 95) ≡ true → is_unknown b ≡ false
digit_known base b small digit = false_from_ne_true (is_unknown b) (λ unknown.
    elim (or_cases (eqb b 120 || eqb b 88 || eqb b 122 || eqb b 90) (eqb b 63) unknown) [
      | inl first ↦ elim (or_cases (eqb b 120 || eqb b 88 || eqb b 122) (eqb b 90) first) [
        | inl second ↦ elim (or_cases (eqb b 120 || eqb b 88) (eqb b 122) second) [
          | inl third ↦ elim (or_cases (eqb b 120) (eqb b 88) third) [
            | inl fourth ↦ no_digit base b 120 small digit (eqb-true b 120 fourth) (omega arith) refl
            | inr fourth ↦ no_digit base b 88 small digit (eqb-true b 88 fourth) (omega arith) refl
          ]
          | inr third ↦ no_digit base b 122 small digit (eqb-true b 122 third) (omega arith) refl
        ]
        | inr second ↦ no_digit base b 90 small digit (eqb-true b 90 second) (omega arith) refl
      ]
      | inr first ↦ no_digit base b 63 small digit (eqb-true b 63 first) (omega arith) refl
    ])

digits_known : (base : ℕ) (digits : List ℕ) → base ≤ 16 → list_all (λ b. is_digit_of base b || eqb b 95) digits ≡ true → list_any is_unknown digits ≡ false
digits_known base [] small all = refl
digits_known base (b ∷ digits) small all =
    let parts = and_parts (is_digit_of base b || eqb b 95) (list_all (λ d. is_digit_of base d || eqb d 95) digits) all in
    or_from (is_unknown b) (list_any is_unknown digits) (digit_known base b small parts.0) (digits_known base digits small parts.1)

-- a base stands at the front, so there is no s or S
all_unsigned : (tail : List ℕ) → 0 < base_of (get_or tail 0 0) → unsigned_part tail ≡ tail
all_unsigned [] some = refl
all_unsigned (b ∷ bs) some = cond-false (eqb b 115 || eqb b 83) bs (b ∷ bs) (base_no_sign b some)

sized_known : (bits : ℕ) (tail : List ℕ) (c : Constant) → IsSized bits tail c → has_unknown tail ≡ false
sized_known bits tail c sized =
    let base : ℕ = base_of (get_or tail 0 0) in
    let digits = (and_parts (list_all (λ b. is_digit_of base b || eqb b 95) (drop 1 tail)) (list_any (is_digit_of base) (drop 1 tail)) sized.digits).0 in
    let known = digits_known base (drop 1 tail) (base_small (get_or tail 0 0)) digits in
    let plain : (ltb 0 (base_of (get_or tail 0 0)) && list_any is_unknown (drop 1 tail)) ≡ false = rw known (and_false (ltb 0 (base_of (get_or tail 0 0)))) in
    subst (λ (t : List ℕ). (ltb 0 (base_of (get_or t 0 0)) && list_any is_unknown (drop 1 t)) ≡ false) (sym (all_unsigned tail sized.base)) plain
  where
    and_false : (x : Bool) → (x && false) ≡ false
    and_false true = refl
    and_false false = refl

sized_not_bad : (bits : ℕ) (tail : List ℕ) (c : Constant) (f : LexKind) → IsSized bits tail c → IsBadSized bits tail f → ⊥
sized_not_bad bits tail c XValue a bad = true≢false (sym bad ∙ sized_known bits tail c a)
sized_not_bad bits tail c TooWide a bad = let narrow = a.narrow in absurd (omega (arith, bad, narrow))
sized_not_bad bits tail c BadNumber a bad = bad.2 c a
sized_not_bad bits tail c _ a bad = bad

number_not_bad : (quoted : Bool) (front tail : List ℕ) (m : ℕ) (k : TokenKind) (f : LexKind) → IsNumberOf quoted front tail m k → IsBadNumberOf quoted front tail f → ⊥
number_not_bad true front tail m (token.Sized c) f a bad = sized_not_bad (_) tail c f a.1 bad
number_not_bad true front tail m _ f a bad = a
number_not_bad false front tail m (token.Decimal n) f a bad = bad.1 n a.1
number_not_bad false front tail m _ f a bad = a

bad_sized_unique : (bits : ℕ) (tail : List ℕ) (f g : LexKind) → IsBadSized bits tail f → IsBadSized bits tail g → f ≡ g
bad_sized_unique bits tail XValue XValue a b = refl
bad_sized_unique bits tail XValue TooWide a b = absurd (true≢false (sym a ∙ b.0))
bad_sized_unique bits tail XValue BadNumber a b = absurd (true≢false (sym a ∙ b.0))
bad_sized_unique bits tail XValue _ a b = absurd b
bad_sized_unique bits tail TooWide XValue a b = absurd (true≢false (sym b ∙ a.0))
bad_sized_unique bits tail TooWide TooWide a b = refl
bad_sized_unique bits tail TooWide BadNumber a b = absurd (omega (arith, a, b.1))
bad_sized_unique bits tail TooWide _ a b = absurd b
bad_sized_unique bits tail BadNumber XValue a b = absurd (true≢false (sym b ∙ a.0))
bad_sized_unique bits tail BadNumber TooWide a b = absurd (omega (arith, a.1, b))
bad_sized_unique bits tail BadNumber BadNumber a b = refl
bad_sized_unique bits tail BadNumber _ a b = absurd b
bad_sized_unique bits tail _ _ a b = absurd a

bad_number_unique : (quoted : Bool) (front tail : List ℕ) (f g : LexKind) → IsBadNumberOf quoted front tail f → IsBadNumberOf quoted front tail g → f ≡ g
bad_number_unique true front tail f g a b = bad_sized_unique (_) tail f g a b
bad_number_unique false front tail f g a b = a.0 ∙ sym b.0

-- ---- pieces and faults

pub kind_unique : (s : Start) (text : List ℕ) (m n : ℕ) (j k : Option TokenKind) → IsKind s text m j → IsKind s text n k → (m ≡ n) × (j ≡ k)
kind_unique start.White text m n None None a b = (a ∙ sym b, refl)
kind_unique start.LineComment text m n None None a b = (a ∙ sym b, refl)
kind_unique start.BlockComment text m n None None a b = (a.2 ∙ ap (λ (i : ℕ). i + 4) (first_unique (ClosesComment (drop 2 text)) a.0 b.0 a.1 b.1) ∙ sym b.2, refl)
kind_unique start.Attribute text m n None None a b = (a.2 ∙ ap (λ (i : ℕ). i + 4) (first_unique (ClosesAttribute (drop 2 text)) a.0 b.0 a.1 b.1) ∙ sym b.2, refl)
kind_unique start.SimpleName text m n (Some j) (Some k) a b = (a.0 ∙ sym b.0, ap (λ (x : TokenKind). Some x) (a.1 ∙ sym b.1))
kind_unique start.EscapedName text m n (Some j) (Some k) a b = (a.1 ∙ sym b.1, ap (λ (x : TokenKind). Some x) (a.2 ∙ sym b.2))
kind_unique start.Number text m n (Some j) (Some k) a b =
    let same = number_unique (is_quoted text) (size_part text) (tail_part (is_quoted text) text) m n j k a b in
    (same.0, ap (λ (x : TokenKind). Some x) same.1)
kind_unique start.Other text m n (Some j) (Some k) a b =
    let same : ◌≡◌ {A = Option (Mark × ℕ)} (Some (a.0, m)) (Some (b.0, n)) = sym a.1 ∙ b.1 in
    let marks : a.0 ≡ b.0 = ap (λ (o : Option (Mark × ℕ)). unwrap_or (option_map (λ p. p.0) o) a.0) same in
    (ap (λ (o : Option (Mark × ℕ)). unwrap_or (option_map (λ p. p.1) o) 0) same, ap (λ (x : TokenKind). Some x) (a.2 ∙ ap (λ (x : Mark). token.Mark x) marks ∙ sym b.2))
kind_unique start.White text m n None (Some k) a b = absurd b
kind_unique start.LineComment text m n None (Some k) a b = absurd b
kind_unique start.BlockComment text m n None (Some k) a b = absurd b
kind_unique start.Attribute text m n None (Some k) a b = absurd b
kind_unique start.SimpleName text m n (Some j) None a b = absurd b
kind_unique start.EscapedName text m n (Some j) None a b = absurd b
kind_unique start.Number text m n (Some j) None a b = absurd b
kind_unique start.Other text m n (Some j) None a b = absurd b
kind_unique _ text m n _ _ a b = absurd a

pub fault_unique : (s : Start) (text : List ℕ) (f g : LexKind) → IsFault s text f → IsFault s text g → f ≡ g
fault_unique start.BlockComment text f g a b = a.0 ∙ sym b.0
fault_unique start.Attribute text f g a b = a.0 ∙ sym b.0
fault_unique start.EscapedName text f g a b = a.0 ∙ sym b.0
fault_unique start.Number text f g a b = bad_number_unique (is_quoted text) (size_part text) (tail_part (is_quoted text) text) f g a b
fault_unique start.Other text f g a b = a.0 ∙ sym b.0
fault_unique _ text f g a b = absurd a

pub kind_not_bad : (s : Start) (text : List ℕ) (m : ℕ) (k : Option TokenKind) (f : LexKind) → IsKind s text m k → IsFault s text f → ⊥
kind_not_bad start.White text m None f a bad = bad
kind_not_bad start.LineComment text m None f a bad = bad
kind_not_bad start.BlockComment text m None f a bad = bad.1 a.0 a.1.here
kind_not_bad start.Attribute text m None f a bad = bad.1 a.0 a.1.here
kind_not_bad start.SimpleName text m (Some k) f a bad = bad
kind_not_bad start.EscapedName text m (Some k) f a bad = bad.1 a.0
kind_not_bad start.Number text m (Some k) f a bad = number_not_bad (is_quoted text) (size_part text) (tail_part (is_quoted text) text) m k f a bad
kind_not_bad start.Other text m (Some k) f a bad = let none : ◌≡◌ {A = Option (Mark × ℕ)} (Some (a.0, m)) None = sym a.1 ∙ bad.1 in absurd (cc)
kind_not_bad _ text m _ f a bad = a
