-- What the words of a line say, and what is wrong with them.
use Rattle.std.proofs.Common.{◌≡◌, ◌≢◌, ℕ, ◌+◌, ◌%◌, ◌^◌, ◌<◌, ◌≤◌, zero, suc, List, [], ◌∷◌, Some, length, length-append, slice_get, arith, refl, sym, ap, ◌∙◌, subst, get_or}
use Rattle.std.specs.Prelude.{codes}
use Rattle.std.specs.Fmt.{decimal}
use Rattle.std.proofs.lemmas.Fmt.{decimal_by_steps}
use Rattle.std.proofs.lemmas.List.Elements.{All-push}
use Rattle.eq_names.specs.Name.{IsName, IsNameByte}
use Rattle.eq_bits.specs.declared.part.Output.{Output}
use Rattle.eq_wit.specs.declared.state.Stop.{Stop}
use Rattle.eq_wit.specs.declared.state.Stop.TheVariants as stop
use Rattle.eq_wit.specs.declared.types.WitKind.{WitKind}
use Rattle.eq_wit.specs.declared.types.WitKind.TheVariants as kind
use Rattle.eq_wit.specs.Line.{HasForm, Line, Number, Word}
use Rattle.eq_wit.specs.Texts.{name_line, output_line}
use Rattle.eq_wit.specs.inner.Items.{IsNoItem, IsOutput, IsWrong, IsWrongFrom}
use Rattle.eq_wit.specs.inner.Judging.{StopsBy, words_of}
use Rattle.eq_wit.specs.inner.Reading.{count_line, part_line}
use Rattle.eq_wit.proofs.Lists.{All-none}

pub decimal_name : (n : ℕ) → n < 2 ^ 64 → IsName (decimal n)
decimal_name n h =
    let P : ℕ → List ℕ → Type 0 = λ n ds. IsName ds in
    decimal_by_steps P (λ n small. record {
      some = λ e. absurd (omega (arith, ap length e));
      bytes = All-push IsNameByte [] (48 + n) (All-none IsNameByte [] refl) (omega arith, omega (arith, small));
    })
    (λ n ds big before. record {
      some = λ e. absurd (omega (arith, ap length e, length-append ds ((48 + n % 10) ∷ [])));
      bytes = All-push IsNameByte ds (48 + n % 10) before.bytes (omega arith, omega arith);
    }) n h

-- ---- words that are names

-- the words of a line that are told, from a place on, are names
abbrev pub HasNamesFrom : ℕ → Line → Type 0
HasNamesFrom n [] = Unit {0}
HasNamesFrom zero (Word text ∷ fields) = IsName text × HasNamesFrom zero fields
HasNamesFrom zero (Number text ∷ fields) = HasNamesFrom zero fields
HasNamesFrom (suc n) (field ∷ fields) = HasNamesFrom n fields

-- words of such a line's form are names from there on
pub form_names : (n : ℕ) (l : Line) (ws : List (List ℕ)) → HasNamesFrom n l → HasForm l ws → (k : ℕ) (x : List ℕ) → n ≤ k →
    slice_get ws k ≡ Some x → IsName x
form_names n [] [] h f k x less e = absurd (cc e)
form_names n [] (w ∷ ws) h f k x less e = absurd f
form_names n (Word text ∷ fields) [] h f k x less e = absurd f
form_names n (Number text ∷ fields) [] h f k x less e = absurd f
form_names zero (Word text ∷ fields) (w ∷ ws) h f zero x less e =
    let is : w ≡ x = cc e in subst IsName (sym f.0 ∙ is) h.0
form_names zero (Word text ∷ fields) (w ∷ ws) h f (suc k) x less e = form_names zero fields ws h.1 f.1 k x (omega arith) e
form_names zero (Number text ∷ fields) (w ∷ ws) h f zero x less e = let is : w ≡ x = cc e in subst IsName is f.0
form_names zero (Number text ∷ fields) (w ∷ ws) h f (suc k) x less e = form_names zero fields ws h f.1 k x (omega arith) e
form_names (suc n) (Word text ∷ fields) (w ∷ ws) h f zero x less e = absurd (omega arith)
form_names (suc n) (Number text ∷ fields) (w ∷ ws) h f zero x less e = absurd (omega arith)
form_names (suc n) (Word text ∷ fields) (w ∷ ws) h f (suc k) x less e = form_names n fields ws h f.1 k x (omega arith) e
form_names (suc n) (Number text ∷ fields) (w ∷ ws) h f (suc k) x less e = form_names n fields ws h f.1 k x (omega arith) e

-- the numbers of a line are names
abbrev pub HasNumerals : Line → Type 0
HasNumerals [] = Unit {0}
HasNumerals (Word text ∷ fields) = HasNumerals fields
HasNumerals (Number text ∷ fields) = IsName text × HasNumerals fields

-- a line's own words have its form
pub own_form : (l : Line) → HasNumerals l → HasForm l (words_of l)
own_form [] h = tt
own_form (Word text ∷ fields) h = (refl, own_form fields h)
own_form (Number text ∷ fields) h = (h.0, own_form fields h.1)

module _ {X : Type 0} (line : X → Line) (Fits : X → Type 0) (ws : List (List ℕ)) where
  -- words that have the form of no such line
  pub no_form : ((x : X) → Fits x → HasNumerals (line x)) → ((x : X) → Fits x → HasForm (line x) ws → ⊥) →
      IsNoItem line Fits ws kind.Word
  no_form numerals other = record {
    refused = λ x fits e. other x fits (subst (HasForm (line x)) e (own_form (line x) (numerals x fits)));
    kind_is = other;
  }

  -- words of a form, of which one isn't the number that it should be
  pub no_number : (n : ℕ) (s : Stop) → ((x : X) → Fits x → HasNumerals (line x)) → ((x : X) → Fits x → HasNamesFrom n (line x)) →
      ((x : X) → Fits x → words_of (line x) ≡ ws → ⊥) →
      (((k : ℕ) (word : List ℕ) → n ≤ k → slice_get ws k ≡ Some word → IsName word) → (x : X) × Fits x × HasForm (line x) ws) →
      IsWrongFrom n ws s → StopsBy (IsNoItem line Fits ws) s
  no_number n stop.Memory numerals names refused sample h = tt
  no_number n (stop.Fault kind.Head) numerals names refused sample h = absurd h
  no_number n (stop.Fault kind.End) numerals names refused sample h = absurd h
  no_number n (stop.Fault kind.Number) numerals names refused sample h =
      record { refused = refused; kind_is = sample h }
  no_number n (stop.Fault kind.Word) numerals names refused sample h =
      let other : (x : X) → Fits x → HasForm (line x) ws → ⊥ = λ x fits form.
      h.4 (form_names n (line x) ws (names x fits) form h.0 h.1 h.2 h.3) in
      record {
        refused = λ x fits e. other x fits (subst (HasForm (line x)) e (own_form (line x) (numerals x fits)));
        kind_is = other;
      }

-- ---- a number behind a key

pub no_count : (key : List ℕ) (most : ℕ) (ws : List (List ℕ)) → most < 2 ^ 64 → ((a : List ℕ) → ws ≢ key ∷ a ∷ []) →
    IsNoItem (count_line key) (λ n. n ≤ most) ws kind.Word
no_count key most ws small other = record {
  refused = λ n fits e. other (decimal n) (sym e);
  kind_is = λ n fits form. form_shape key n ws other form;
} where
  form_shape : (key : List ℕ) (n : ℕ) (ws : List (List ℕ)) → ((a : List ℕ) → ws ≢ key ∷ a ∷ []) → HasForm (count_line key n) ws → ⊥
  form_shape key n [] other form = form
  form_shape key n (a ∷ []) other form = form.1
  form_shape key n (a ∷ b ∷ []) other form = other b (ap (λ (w : List ℕ). w ∷ b ∷ []) form.0)
  form_shape key n (a ∷ b ∷ d ∷ ws) other form = form.1.1

pub wrong_count : (key : List ℕ) (most : ℕ) (ws : List (List ℕ)) (word : List ℕ) (s : Stop) → most < 2 ^ 64 →
    ws ≡ key ∷ word ∷ [] → ((n : ℕ) → n ≤ most → word ≢ decimal n) → IsWrong word s →
    StopsBy (IsNoItem (count_line key) (λ n. n ≤ most) ws) s
wrong_count key most ws word stop.Memory small is none h = tt
wrong_count key most ws word (stop.Fault kind.Head) small is none h = absurd h
wrong_count key most ws word (stop.Fault kind.End) small is none h = absurd h
wrong_count key most ws word (stop.Fault kind.Number) small is none h = record {
  refused = λ n fits e. none n fits (second_word (sym is ∙ sym e));
  kind_is = (0, omega arith, subst (HasForm (count_line key 0)) (sym is) (refl, (h, tt)));
} where
  second_word : {a b x y : List ℕ} → a ∷ x ∷ [] ≡ b ∷ y ∷ [] → x ≡ y
  second_word e = ap (λ (zs : List (List ℕ)). get_or zs 1 []) e
wrong_count key most ws word (stop.Fault kind.Word) small is none h = record {
  refused = λ n fits e. h (subst IsName (sym (second_word (sym is ∙ sym e))) (decimal_name n (omega (arith, fits, small))));
  kind_is = λ n fits form. h (subst (HasForm (count_line key n)) is form).1.0;
} where
  second_word : {a b x y : List ℕ} → a ∷ x ∷ [] ≡ b ∷ y ∷ [] → x ≡ y
  second_word e = ap (λ (zs : List (List ℕ)). get_or zs 1 []) e

-- ---- names

pub no_part : (ws : List (List ℕ)) → ((a : List ℕ) → ws ≢ codes "part" ∷ a ∷ []) → IsNoItem part_line IsName ws kind.Word
no_part ws other = no_form part_line IsName ws (λ x fits. tt) (λ x fits form. shape x ws other form) where
  shape : (x : List ℕ) (ws : List (List ℕ)) → ((a : List ℕ) → ws ≢ codes "part" ∷ a ∷ []) → HasForm (part_line x) ws → ⊥
  shape x [] other form = form
  shape x (a ∷ []) other form = form.1
  shape x (a ∷ b ∷ []) other form = other b (ap (λ (w : List ℕ). w ∷ b ∷ []) form.0)
  shape x (a ∷ b ∷ d ∷ ws) other form = form.1.1

pub no_part_name : (ws : List (List ℕ)) (word : List ℕ) → ws ≡ codes "part" ∷ word ∷ [] → ¬ IsName word →
    IsNoItem part_line IsName ws kind.Word
no_part_name ws word is none = no_form part_line IsName ws (λ x fits. tt) (λ x fits form.
    let same : word ≡ x = (subst (HasForm (part_line x)) is form).1.0 in
    none (subst IsName (sym same) fits))

pub no_input : (ws : List (List ℕ)) → ((a : List ℕ) → ws ≢ a ∷ []) → IsNoItem name_line IsName ws kind.Word
no_input ws other = no_form name_line IsName ws (λ x fits. tt) (λ x fits form. shape x ws other form) where
  shape : (x : List ℕ) (ws : List (List ℕ)) → ((a : List ℕ) → ws ≢ a ∷ []) → HasForm (name_line x) ws → ⊥
  shape x [] other form = form
  shape x (a ∷ []) other form = other a refl
  shape x (a ∷ b ∷ ws) other form = form.1

pub no_input_name : (ws : List (List ℕ)) (word : List ℕ) → ws ≡ word ∷ [] → ¬ IsName word → IsNoItem name_line IsName ws kind.Word
no_input_name ws word is none = no_form name_line IsName ws (λ x fits. tt) (λ x fits form.
    let same : word ≡ x = (subst (HasForm (name_line x)) is form).0 in
    none (subst IsName (sym same) fits))

-- what was stopped by a name is stopped so
pub stopped_name : (P Q : WitKind → Type 0) (s : Stop) → ((kind' : WitKind) → P kind' → Q kind') → StopsBy P s → StopsBy Q s
stopped_name P Q (stop.Fault kind') f h = f kind' h
stopped_name P Q stop.Memory f h = tt

-- ---- outputs

output_numerals : (nodes : ℕ) (o : Output) → nodes ≤ 2 ^ 32 → IsOutput nodes o → HasNumerals (output_line o)
output_numerals nodes o few h =
    (decimal_name o.gold (omega (arith, h.1.0, few)), (decimal_name o.gate (omega (arith, h.1.1, few)), tt))

pub no_output : (nodes : ℕ) (ws : List (List ℕ)) → nodes ≤ 2 ^ 32 → ((a b d : List ℕ) → ws ≢ a ∷ b ∷ d ∷ []) →
    IsNoItem output_line (IsOutput nodes) ws kind.Word
no_output nodes ws few other = no_form output_line (IsOutput nodes) ws (λ o fits. output_numerals nodes o few fits)
    (λ o fits form. shape o ws other form) where
      shape : (o : Output) (ws : List (List ℕ)) → ((a b d : List ℕ) → ws ≢ a ∷ b ∷ d ∷ []) → HasForm (output_line o) ws → ⊥
      shape o [] other form = form
      shape o (a ∷ []) other form = form.1
      shape o (a ∷ b ∷ []) other form = form.1.1
      shape o (a ∷ b ∷ d ∷ []) other form = other a b d refl
      shape o (a ∷ b ∷ d ∷ e ∷ ws) other form = form.1.1.1

pub wrong_output : (nodes : ℕ) (ws : List (List ℕ)) (a b d : List ℕ) (s : Stop) → nodes ≤ 2 ^ 32 → 0 < nodes →
    ws ≡ a ∷ b ∷ d ∷ [] → ((o : Output) → IsOutput nodes o → b ≡ decimal o.gold → d ≡ decimal o.gate → ⊥) →
    IsWrongFrom 0 ws s → StopsBy (IsNoItem output_line (IsOutput nodes) ws) s
wrong_output nodes ws a b d s few some is none h = no_number output_line (IsOutput nodes) ws 0 s
    (λ o fits. output_numerals nodes o few fits) (λ o fits. (fits.0, tt))
    (λ o fits e. none o fits (word_of 1 (sym is ∙ sym e)) (word_of 2 (sym is ∙ sym e)))
    (λ names.
    let first : IsName a = names 0 a (omega arith) (ap (λ (xs : List (List ℕ)). slice_get xs 0) is) in
    let o : Output = record { name = a; gold = 0; gate = 0 } in (
      o,
      (first, (some, some)),
      subst (HasForm (output_line o)) (sym is) (
        refl,
        (
          names 1 b (omega arith) (ap (λ (xs : List (List ℕ)). slice_get xs 1) is),
          (names 2 d (omega arith) (ap (λ (xs : List (List ℕ)). slice_get xs 2) is), tt),
        ),
      ),
    )) h where
      word_of : {xs ys : List (List ℕ)} (k : ℕ) → xs ≡ ys → get_or xs k [] ≡ get_or ys k []
      word_of k e = ap (λ (zs : List (List ℕ)). get_or zs k []) e

pub no_output_name : (nodes : ℕ) (ws : List (List ℕ)) (a b d : List ℕ) → nodes ≤ 2 ^ 32 → ws ≡ a ∷ b ∷ d ∷ [] → ¬ IsName a →
    IsNoItem output_line (IsOutput nodes) ws kind.Word
no_output_name nodes ws a b d few is none = no_form output_line (IsOutput nodes) ws
    (λ o fits. output_numerals nodes o few fits) (λ o fits form.
    let same : a ≡ o.name = (subst (HasForm (output_line o)) is form).0 in
    none (subst IsName (sym same) fits.0))
