-- A number in decimal, followed by no digit, is read as this number and no other.
use Rattle.std.proofs.Common.{◌≡◌, ℕ, ◌+◌, ◌*◌, ◌-◌, ◌/◌, ◌%◌, ◌^◌, ◌<◌, ◌≤◌, Bool, true, false, cond, List, [], ◌∷◌, ◌++◌, arith, refl, sym, ap, ◌∙◌, subst, append_assoc, inl, inr, length, get_or, None, Some, Option}
use Rattle.std.proofs.lemmas.Bool.{cases_lt, cases_Bool}
use Rattle.std.proofs.lemmas.Bool.Decides.{nat_tests}
use Rattle.std.specs.Prelude.{IfNone, MatchOption}
use Rattle.std.proofs.lemmas.Fmt.{decimal_by_steps, decimal_digit, decimal_step, decimal_nonempty, first_decimal}
use Rattle.std.proofs.lemmas.List.{append_cancel_left, length-append, get_or_append_left}
use Rattle.std.specs.Fmt.{decimal}
use Rattle.eq_wit.specs.inner.Numeral.{is_digit, value_on, EndsNumber}

pub digit_is : (d : ℕ) → d < 10 → is_digit (48 + d) ≡ true
digit_is d h = grind (arith, nat_tests)

value_on-digit : (n d : ℕ) (bytes : List ℕ) → d < 10 → value_on n ((48 + d) ∷ bytes) ≡ value_on (10 * n + d) bytes
value_on-digit n d bytes h =
    let e : (48 + d) - 48 ≡ d = omega arith in
    let P : Bool → Type 0 = λ b. cond b (value_on (10 * n + ((48 + d) - 48)) bytes) n ≡ value_on (10 * n + d) bytes in
    subst P (sym (digit_is d h)) (rw e refl)

pub value_on-step : (n byte d : ℕ) (bytes : List ℕ) → byte ≡ 48 + d → d < 10 → value_on n (byte ∷ bytes) ≡ value_on (10 * n + d) bytes
value_on-step n byte d bytes e h = ap (λ (b : ℕ). value_on n (b ∷ bytes)) e ∙ value_on-digit n d bytes h

-- it is no smaller than the number that it begins with
pub value_on-le : (n : ℕ) (bytes : List ℕ) → n ≤ value_on n bytes
value_on-le n [] = omega arith
value_on-le n (byte ∷ bytes) =
    let P : Bool → Type 0 = λ b. n ≤ cond b (value_on (10 * n + (byte - 48)) bytes) n in
    elim (cases_Bool (is_digit byte)) [
      | inl yes' ↦ subst P (sym yes') (omega (arith, value_on-le (10 * n + (byte - 48)) bytes))
      | inr no' ↦ subst P (sym no') (omega arith)
    ]

value_on-ended : (n : ℕ) (bytes : List ℕ) → EndsNumber bytes → value_on n bytes ≡ n
value_on-ended n [] h = refl
value_on-ended n (byte ∷ bytes) h =
    let P : Bool → Type 0 = λ b. cond b (value_on (10 * n + (byte - 48)) bytes) n ≡ n in
    subst P (sym h) refl

value_on-decimal : (n : ℕ) → n < 2 ^ 64 → (bytes : List ℕ) → value_on 0 (decimal n ++ bytes) ≡ value_on n bytes
value_on-decimal n h =
    let P : ℕ → List ℕ → Type 0 = λ n ds. (bytes : List ℕ) → value_on 0 (ds ++ bytes) ≡ value_on n bytes in
    let one : (n : ℕ) → n < 10 → P n ((48 + n) ∷ []) = λ n small bytes. value_on-digit 0 n bytes small ∙ ap (λ (m : ℕ). value_on m bytes) (omega arith) in
    let more : (n : ℕ) (ds : List ℕ) → 10 ≤ n → P (n / 10) ds → P n (ds ++ ((48 + n % 10) ∷ [])) = λ n ds big before bytes.
    ap (value_on 0) (append_assoc ds ((48 + n % 10) ∷ []) bytes) ∙ before ((48 + n % 10) ∷ bytes) ∙ value_on-digit (n / 10) (n % 10) bytes (omega arith) ∙ ap (λ (m : ℕ). value_on m bytes) (omega arith) in
    decimal_by_steps P one more n h

-- the number that a text begins with
pub value_of_decimal : (n : ℕ) (text rest : List ℕ) → n < 2 ^ 64 → EndsNumber rest → text ≡ decimal n ++ rest → value_on 0 text ≡ n
value_of_decimal n text rest small end e = ap (value_on 0) e ∙ value_on-decimal n small rest ∙ value_on-ended n rest end

-- a text begins with one number at most
pub one_decimal : (m n : ℕ) (r s : List ℕ) → m < 2 ^ 64 → n < 2 ^ 64 → EndsNumber r → EndsNumber s → decimal m ++ r ≡ decimal n ++ s → (m ≡ n) × (r ≡ s)
one_decimal m n r s small small' end end' e =
    let same : m ≡ n = sym (value_of_decimal m (decimal m ++ r) r small end refl) ∙ value_of_decimal n (decimal m ++ r) s small' end' e in
    (same, append_cancel_left (decimal n) r s (ap (λ (k : ℕ). decimal k ++ r) (sym same) ∙ e))

-- a digit more
pub decimal-more : (n d : ℕ) (bytes : List ℕ) → 1 ≤ n → d < 10 → 10 * n + d < 2 ^ 64 → decimal (10 * n + d) ++ bytes ≡ decimal n ++ (48 + d) ∷ bytes
decimal-more n d bytes pos small fits =
    let front : (10 * n + d) / 10 ≡ n = omega arith in
    let last : (10 * n + d) % 10 ≡ d = omega arith in
    let step = decimal_step (10 * n + d) (omega arith) fits in
    let step' : decimal (10 * n + d) ≡ decimal n ++ (48 + d) ∷ [] = step ∙ ap (λ (k : ℕ). decimal k ++ (48 + (10 * n + d) % 10) ∷ []) front ∙ ap (λ (k : ℕ). decimal n ++ (48 + k) ∷ []) last in
    ap (λ (x : List ℕ). x ++ bytes) step' ∙ append_assoc (decimal n) ((48 + d) ∷ []) bytes

-- ---- texts that begin with no number

first_digit : (n : ℕ) → n < 2 ^ 64 → (rest : List ℕ) (byte : ℕ) (bytes : List ℕ) → decimal n ++ rest ≡ byte ∷ bytes → is_digit byte ≡ true
first_digit n h =
    let P : ℕ → List ℕ → Type 0 = λ n ds. (rest : List ℕ) (byte : ℕ) (bytes : List ℕ) → ds ++ rest ≡ byte ∷ bytes → is_digit byte ≡ true in
    let one : (n : ℕ) → n < 10 → P n ((48 + n) ∷ []) = λ n small rest byte bytes e. let b : 48 + n ≡ byte = cc in rw (← b) (digit_is n small) in
    let more : (n : ℕ) (ds : List ℕ) → 10 ≤ n → P (n / 10) ds → P n (ds ++ ((48 + n % 10) ∷ [])) = λ n ds big before rest byte bytes e.
    before ((48 + n % 10) ∷ rest) byte bytes (sym (append_assoc ds ((48 + n % 10) ∷ []) rest) ∙ e) in
    decimal_by_steps P one more n h

pub no_decimal-empty : (text rest : List ℕ) (n : ℕ) → text ≡ [] → n < 2 ^ 64 → text ≡ decimal n ++ rest → ⊥
no_decimal-empty text rest n empty small e =
    let len : length text ≡ length (decimal n ++ rest) = ap length e in
    let none : length text ≡ 0 = ap length empty in
    omega (arith, length-append (decimal n) rest, decimal_nonempty n small)

pub no_decimal-first : (text : List ℕ) (byte : ℕ) (bytes rest : List ℕ) (n : ℕ) → text ≡ byte ∷ bytes → is_digit byte ≡ false → n < 2 ^ 64 → text ≡ decimal n ++ rest → ⊥
no_decimal-first text byte bytes rest n first other small e =
    let yes' : is_digit byte ≡ true = first_digit n small rest byte bytes (sym e ∙ first) in
    absurd (cc)

pub no_decimal-zero : (text : List ℕ) (byte : ℕ) (bytes rest : List ℕ) (n : ℕ) → text ≡ byte ∷ bytes → byte ≡ 48 → ¬ EndsNumber bytes → n < 2 ^ 64 → EndsNumber rest → text ≡ decimal n ++ rest → ⊥
no_decimal-zero text byte bytes rest n first zero' digits small end e =
    elim (cases_lt 0 n) [
      | inl pos ↦
          let begins = first_decimal n pos small in
          let front : get_or text 0 0 ≡ 48 = ap (λ (t : List ℕ). get_or t 0 0) first ∙ zero' in
          let same : get_or text 0 0 ≡ get_or (decimal n) 0 0 = ap (λ (t : List ℕ). get_or t 0 0) e ∙ get_or_append_left (decimal n) rest 0 0 (decimal_nonempty n small) in
          omega arith
      | inr none ↦
          let zero : n ≡ 0 = omega arith in
          let e' : text ≡ 48 ∷ rest = e ∙ ap (λ (k : ℕ). decimal k ++ rest) zero ∙ ap (λ (x : List ℕ). x ++ rest) (decimal_digit 0 (omega arith)) in
          let same : rest ≡ bytes = cc in
          digits (subst EndsNumber same end)
    ]

pub no_decimal-big : (text : List ℕ) (byte d : ℕ) (bytes rest : List ℕ) (n : ℕ) → text ≡ byte ∷ bytes → byte ≡ 48 + d → d < 10 → 2 ^ 64 ≤ value_on d bytes → n < 2 ^ 64 → EndsNumber rest → text ≡ decimal n ++ rest → ⊥
no_decimal-big text byte d bytes rest n first b digit' big small end e =
    let value : value_on 0 text ≡ n = value_of_decimal n text rest small end e in
    let step : value_on 0 text ≡ value_on (10 * 0 + d) bytes = ap (value_on 0) first ∙ value_on-step 0 byte d bytes b digit' in
    let same : value_on (10 * 0 + d) bytes ≡ value_on d bytes = ap (λ (m : ℕ). value_on m bytes) (omega arith) in
    omega arith

pub EndsNumber-below : (end : ℕ) (rest : List ℕ) → end < 48 → EndsNumber (end ∷ rest)
EndsNumber-below end rest h = grind (arith, nat_tests)

pub IfNone_then : {X P Q : Type 0} (r : Option X) → IfNone r P → (P → Q) → IfNone r Q
IfNone_then None p f = f p
IfNone_then (Some x) p f = tt

pub IfNone_match : {X P R : Type 0} (Q : X → Type 0) (r : Option X) → MatchOption r P Q → (P → R) → IfNone r R
IfNone_match Q None p f = f p
IfNone_match Q (Some x) p f = tt
