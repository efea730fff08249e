-- Which number below a bound passes a test, and which pair a bit stands in.
use Rattle.std.proofs.Common.{◌≡◌, ℕ, zero, suc, ◌<◌, ◌≤◌, Bool, true, false, not, cond, ◌==◌, ◌&&◌, refl, arith, sym, ap, subst, ◌∙◌, inl, inr}
use Rattle.std.proofs.lemmas.Bool.{cases_Bool, cond-true, cond-false, or_cases, or_left, or_right, and_parts, and_from, not-true, cases_lt, false_from_ne_true}
use Rattle.std.proofs.lemmas.Bool.Decides.{Decides-eqb}
use Rattle.eq_model.specs.Cut.{any_below, is_cut}

-- a test that some number below n passes

pub any_from : (n : ℕ) (test : ℕ → Bool) (i : ℕ) → i < n → test i ≡ true → any_below n test ≡ true
any_from zero test i lt h = absurd (omega arith)
any_from (suc n) test i lt h =
    elim (cases_lt i n) [
      | inl less ↦ or_right (test n) (any_below n test) (any_from n test i less h)
      | inr more ↦ or_left (test n) (any_below n test) (let e : i ≡ n = omega arith in let P : ℕ → Type 0 = λ x. test x ≡ true in subst P e h)
    ]

pub any_some : (n : ℕ) (test : ℕ → Bool) → any_below n test ≡ true → (i : ℕ) × (i < n) × (test i ≡ true)
any_some zero test h = absurd (cc)
any_some (suc n) test h =
    elim (or_cases (test n) (any_below n test) h) [
      | inl e ↦ (n, omega arith, e)
      | inr e ↦ (let t : (i : ℕ) × (i < n) × (test i ≡ true) = any_some n test e in (t.0, omega arith, t.2))
    ]

pub same_number : (a b : ℕ) → (a == b) ≡ true → a ≡ b
same_number a b h = (Decides-eqb a b).0 h

pub cut_from : (m : ℕ) (side : ℕ → ℕ) (inside : ℕ → Bool) (i b : ℕ) → i < m → side i ≡ b → inside i ≡ false → is_cut m side inside b ≡ true
cut_from m side inside i b lt e out = any_from m (λ j. (side j == b) && not (inside j)) i lt
    (and_from (side i == b) (not (inside i)) ((Decides-eqb (side i) b).1 e) (rw out refl))

pub cut_some : (m : ℕ) (side : ℕ → ℕ) (inside : ℕ → Bool) (b : ℕ) → is_cut m side inside b ≡ true → (i : ℕ) × (i < m) × (side i ≡ b) × (inside i ≡ false)
cut_some m side inside b h =
    let t = any_some m (λ j. (side j == b) && not (inside j)) h in
    let parts = and_parts (side t.0 == b) (not (inside t.0)) t.2 in
    (t.0, t.1, same_number (side t.0) b parts.0, not-true (inside t.0) parts.1)

-- a bit of a pair inside isn't cut
pub kept_inside : (m : ℕ) (side : ℕ → ℕ) → ((i j : ℕ) → i < m → j < m → side i ≡ side j → i ≡ j) → (inside : ℕ → Bool) (i b : ℕ) → i < m → side i ≡ b → inside i ≡ true → is_cut m side inside b ≡ false
kept_inside m side once inside i b lt e in_it = false_from_ne_true (is_cut m side inside b) (λ h.
    let t = cut_some m side inside b h in
    let same : t.0 ≡ i = once t.0 i t.1 lt (t.2 ∙ sym e) in
    let P : ℕ → Type 0 = λ x. inside x ≡ false in
    let out : inside i ≡ false = subst P same t.3 in
    cc)

-- the place below n where side gives b
abbrev pub index_of : ℕ → (ℕ → ℕ) → ℕ → ℕ
index_of zero side b = 0
index_of (suc n) side b = cond (side n == b) n (index_of n side b)

pub index_is : (m : ℕ) (side : ℕ → ℕ) → ((i j : ℕ) → i < m → j < m → side i ≡ side j → i ≡ j) → (i b : ℕ) → i < m → side i ≡ b → (n : ℕ) → n ≤ m → i < n → index_of n side b ≡ i
index_is m side once i b lt e zero le lo = absurd (omega arith)
index_is m side once i b lt e (suc n) le lo =
    elim (cases_Bool (side n == b)) [
      | inl h ↦ cond-true (side n == b) n (index_of n side b) h ∙ once n i (omega arith) lt (same_number (side n) b h ∙ sym e)
      | inr h ↦ cond-false (side n == b) n (index_of n side b) h ∙ index_is m side once i b lt e n (omega arith)
          (elim (cases_lt i n) [
            | inl less ↦ less
            | inr more ↦ absurd (
                let same : n ≡ i = omega arith in
                let f : (side n == b) ≡ true = (Decides-eqb (side n) b).1 (ap side same ∙ e) in
                cc)
          ])
    ]

-- the last number below n that passes
abbrev pub find_below : ℕ → (ℕ → Bool) → ℕ
find_below zero test = 0
find_below (suc n) test = cond (test n) n (find_below n test)

pub found : (n : ℕ) (test : ℕ → Bool) → any_below n test ≡ true → (find_below n test < n) × (test (find_below n test) ≡ true)
found zero test h = absurd (cc)
found (suc n) test h =
    elim (cases_Bool (test n)) [
      | inl e ↦ (
          let is : n ≡ cond (test n) n (find_below n test) = sym (cond-true (test n) n (find_below n test) e) in
          let P : ℕ → Type 0 = λ x. (x < suc n) × (test x ≡ true) in
          subst P is (omega arith, e))
      | inr e ↦ (
          let rest : any_below n test ≡ true = elim (or_cases (test n) (any_below n test) h) [ inl f ↦ absurd (cc) | inr f ↦ f ] in
          let t = found n test rest in
          let is : find_below n test ≡ cond (test n) n (find_below n test) = sym (cond-false (test n) n (find_below n test) e) in
          let P : ℕ → Type 0 = λ x. (x < suc n) × (test x ≡ true) in
          subst P is (omega arith, t.1))
    ]
