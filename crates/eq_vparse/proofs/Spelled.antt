-- What the code spells is what the definitions do.
use Rattle.std.proofs.Common.{◌≡◌, ℕ, zero, suc, ◌/◌, ◌%◌, ◌^◌, ◌<◌, ◌≤◌, Bool, false, cond, List, [], ◌∷◌, ◌++◌, refl, sym, ap, ◌∙◌, arith, inl, inr, eq-eqb, append_assoc}
use Rattle.std.specs.Fmt.{digits, digits_onto, digit_glyph}
use Rattle.std.proofs.lemmas.Bool.{cases_lt, ne_eqb}

-- ---- hexadecimal digits

abbrev spell : ℕ → ℕ → List ℕ → List ℕ
spell k n acc = digits_onto k 16 false n acc

abbrev glyph : ℕ → ℕ
glyph n = digit_glyph false (n % 16)

spell_last : (k n : ℕ) (acc : List ℕ) → n < 16 → spell (suc k) n acc ≡ glyph n ∷ acc
spell_last k n acc h = ap (λ (t : Bool). cond t (glyph n ∷ acc) (spell k (n / 16) (glyph n ∷ acc))) (eq-eqb (n / 16) 0 (omega arith))

spell_next : (k n : ℕ) (acc : List ℕ) → 16 ≤ n → spell (suc k) n acc ≡ spell k (n / 16) (glyph n ∷ acc)
spell_next k n acc h = ap (λ (t : Bool). cond t (glyph n ∷ acc) (spell k (n / 16) (glyph n ∷ acc))) (ne_eqb (n / 16) 0 (λ e. omega arith))

spell-append : (k n : ℕ) (acc : List ℕ) → spell k n acc ≡ spell k n [] ++ acc
spell-append zero n acc = refl
spell-append (suc k) n acc =
    elim (cases_lt n 16) [
      | inl small ↦ spell_last k n acc small ∙ ap (λ (x : List ℕ). x ++ acc) (sym (spell_last k n [] small))
      | inr large ↦
          spell_next k n acc large ∙ spell-append k (n / 16) (glyph n ∷ acc) ∙ sym (append_assoc (spell k (n / 16) []) (glyph n ∷ []) acc)
          ∙ ap (λ (x : List ℕ). x ++ acc) (sym (spell_next k n [] large ∙ spell-append k (n / 16) (glyph n ∷ [])))
    ]

-- how many digits there may be does not matter where there are enough
spell_enough : (j k n : ℕ) (acc : List ℕ) → n < 16 ^ suc j → n < 16 ^ suc k → spell (suc j) n acc ≡ spell (suc k) n acc
spell_enough zero k n acc p q = spell_last zero n acc (omega arith) ∙ sym (spell_last k n acc (omega arith))
spell_enough (suc j) zero n acc p q = spell_last (suc j) n acc (omega arith) ∙ sym (spell_last zero n acc (omega arith))
spell_enough (suc j) (suc k) n acc p q =
    elim (cases_lt n 16) [
      | inl small ↦ spell_last (suc j) n acc small ∙ sym (spell_last (suc k) n acc small)
      | inr large ↦ spell_next (suc j) n acc large ∙ spell_enough j k (n / 16) (glyph n ∷ acc) (omega arith) (omega arith) ∙ sym (spell_next (suc k) n acc large)
    ]

pub hexadecimal_last : (n : ℕ) → n < 16 → digits 16 false n ≡ digit_glyph false (n % 16) ∷ []
unfolding digits
hexadecimal_last n small = spell_last 63 n [] small

pub hexadecimal_step : (n : ℕ) → 16 ≤ n → n < 2 ^ 128 → digits 16 false n ≡ digits 16 false (n / 16) ++ digit_glyph false (n % 16) ∷ []
unfolding digits
hexadecimal_step n large small = spell_next 63 n [] large ∙ spell_enough 62 63 (n / 16) (glyph n ∷ []) (omega arith) (omega arith) ∙ spell-append 64 (n / 16) (glyph n ∷ [])
