-- Lines of truth values.
use Rattle.std.proofs.Common.{◌≡◌, ◌≢◌, ℕ, ◌<◌, zero, suc, Bool, List, [], ◌∷◌, length, map, get_or, Result, Ok, Err, refl, sym, ap, ◌∙◌, subst, arith}
use Rattle.std.specs.Prelude.{MatchResult, codes}
use Rattle.std.proofs.lemmas.List.{length-map}
use Rattle.eq_wit.specs.declared.state.Stop.{Stop}
use Rattle.eq_wit.specs.declared.state.Stop.TheVariants as stop
use Rattle.eq_wit.specs.declared.types.WitKind.TheVariants as kind
use Rattle.eq_wit.specs.Line.{HasForm}
use Rattle.eq_wit.specs.Texts.{digit_of}
use Rattle.eq_wit.specs.inner.Items.{IsBits, IsItem, IsNoItem, ReadsLine, bits_line}
use Rattle.eq_wit.specs.inner.Judging.{StopsBy}
use Rattle.eq_wit.proofs.ItemLemmas.{HasNumerals, no_form}

numerals : (key : List ℕ) (bits : List Bool) → HasNumerals (bits_line key bits)
numerals key [] = tt
numerals key (b ∷ bits) = tt

shape : (key : List ℕ) (bits : List Bool) (ws : List (List ℕ)) → ((a : List ℕ) → ws ≢ key ∷ a ∷ []) →
    HasForm (bits_line key bits) ws → ⊥
shape key [] [] other form = form
shape key [] (a ∷ []) other form = form.1
shape key [] (a ∷ b ∷ []) other form = other b (ap (λ (w : List ℕ). w ∷ b ∷ []) form.0)
shape key [] (a ∷ b ∷ d ∷ ws) other form = form.1.1
shape key (x ∷ bits) [] other form = form
shape key (x ∷ bits) (a ∷ []) other form = form.1
shape key (x ∷ bits) (a ∷ b ∷ []) other form = other b (ap (λ (w : List ℕ). w ∷ b ∷ []) form.0)
shape key (x ∷ bits) (a ∷ b ∷ d ∷ ws) other form = form.1.1

pub no_bits : (key : List ℕ) (n : ℕ) (ws : List (List ℕ)) → ((a : List ℕ) → ws ≢ key ∷ a ∷ []) →
    IsNoItem (bits_line key) (IsBits n) ws kind.Word
no_bits key n ws other = no_form (bits_line key) (IsBits n) ws (λ bits fits. numerals key bits)
    (λ bits fits form. shape key bits ws other form)

-- a word that isn't the text of so many truth values
by_value : (key : List ℕ) (n : ℕ) (word : List ℕ) (bits : List Bool) → IsBits n bits → (n ≡ 0 → word ≢ codes "-") →
    (0 < n → word ≢ map digit_of bits) → HasForm (bits_line key bits) (key ∷ word ∷ []) → ⊥
by_value key n word [] fits none some form = none (sym fits) form.1.0
by_value key n word (b ∷ bits) fits none some form = some (omega (arith, fits)) form.1.0

pub wrong_bits : (key : List ℕ) (n : ℕ) (ws : List (List ℕ)) (word : List ℕ) → ws ≡ key ∷ word ∷ [] →
    (n ≡ 0 → word ≢ codes "-") → ((bits : List Bool) → IsBits n bits → 0 < n → word ≢ map digit_of bits) →
    IsNoItem (bits_line key) (IsBits n) ws kind.Word
wrong_bits key n ws word is none some = no_form (bits_line key) (IsBits n) ws (λ bits fits. numerals key bits)
    (λ bits fits form. by_value key n word bits fits none (some bits fits) (subst (HasForm (bits_line key bits)) is form))

pub right_bits : (key : List ℕ) (n : ℕ) (ws : List (List ℕ)) (word : List ℕ) (bits : List Bool) → ws ≡ key ∷ word ∷ [] →
    0 < n → length word ≡ n → word ≡ map digit_of bits → IsItem (bits_line key) (IsBits n) ws bits
right_bits key n ws word [] is some long e = absurd (omega (arith, ap length e, long, some))
right_bits key n ws word (b ∷ bits) is some long e = record {
  fits = sym (length-map (b ∷ bits) digit_of) ∙ sym (ap length e) ∙ long;
  words = ap (λ (w : List ℕ). key ∷ w ∷ []) (sym e) ∙ sym is;
}

pub no_bits_value : (key : List ℕ) (n : ℕ) (ws : List (List ℕ)) (word : List ℕ) → ws ≡ key ∷ word ∷ [] → 0 < n →
    ((bits : List Bool) → word ≢ map digit_of bits) → IsNoItem (bits_line key) (IsBits n) ws kind.Word
no_bits_value key n ws word is some none =
    wrong_bits key n ws word is (λ e. absurd (omega (arith, e, some))) (λ bits fits less. none bits)

pub wrong_length : (word : List ℕ) (bits : List Bool) (n : ℕ) → IsBits n bits → length word ≢ n → word ≢ map digit_of bits
wrong_length word bits n fits long e = long (ap length e ∙ length-map bits digit_of ∙ fits)

-- what stands at a place of digits is one
pub digit_at : (bits : List Bool) (i d : ℕ) → i < length (map digit_of bits) →
    (b : Bool) × (get_or (map digit_of bits) i d ≡ digit_of b)
digit_at [] i d h = absurd (omega arith)
digit_at (b ∷ bits) zero d h = (b, refl)
digit_at (b ∷ bits) (suc i) d h = digit_at bits i d (omega arith)

pub read_bits : (key : List ℕ) (n : ℕ) (ws : List (List ℕ)) (word : List ℕ) (result : Result (List Bool) Stop) →
    ws ≡ key ∷ word ∷ [] → 0 < n → length word ≡ n →
    MatchResult result (λ bits. word ≡ map digit_of bits)
    (StopsBy (λ kind'. (kind' ≡ kind.Word) × ((bits : List Bool) → word ≢ map digit_of bits))) →
    ReadsLine (bits_line key) (IsBits n) ws result
read_bits key n ws word (Ok bits) is some long h = right_bits key n ws word bits is some long h
read_bits key n ws word (Err stop.Memory) is some long h = tt
read_bits key n ws word (Err (stop.Fault kind')) is some long h =
    subst (IsNoItem (bits_line key) (IsBits n) ws) (sym h.0) (no_bits_value key n ws word is some h.1)
