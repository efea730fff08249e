-- What is wrong with the line of a query.
use Rattle.std.proofs.Common.{◌≡◌, ◌≢◌, ℕ, ◌^◌, ◌<◌, ◌≤◌, Bool, true, false, cond, List, [], ◌∷◌, Some, length, slice_get, get_or, refl, sym, ap, ◌∙◌, subst, arith}
use Rattle.std.specs.Prelude.{codes, nat_le}
use Rattle.std.specs.Fmt.{decimal}
use Rattle.std.specs.List.{AllByRecursion}
use Rattle.std.proofs.lemmas.Bool.Decides.{nat_tests}
use Rattle.std.proofs.lemmas.List.Elements.{All-from_recursion}
use Rattle.eq_names.specs.Name.{IsName, IsNameByte}
use Rattle.eq_bits.specs.declared.part.Part.{Part}
use Rattle.eq_unroll.specs.declared.query.Query.{Query}
use Rattle.eq_unroll.specs.declared.query.Query.TheVariants.{Base, Step}
use Rattle.eq_unroll.specs.Query.{IsUnrollable}
use Rattle.eq_wit.specs.declared.state.Due.{Due}
use Rattle.eq_wit.specs.declared.state.Due.TheVariants.{Run as a_run, Log as a_log}
use Rattle.eq_wit.specs.declared.state.Question.{Question}
use Rattle.eq_wit.specs.declared.state.Stop.{Stop}
use Rattle.eq_wit.specs.declared.types.WitKind.TheVariants as kind
use Rattle.eq_wit.specs.Line.{HasForm, field_text}
use Rattle.eq_wit.specs.Texts.{query_word}
use Rattle.eq_wit.specs.inner.Items.{IsNoItem, IsWrongFrom, log_word, question_line}
use Rattle.eq_wit.specs.inner.Judging.{StopsBy, words_of}
use Rattle.eq_wit.specs.inner.Reading.{FitsDue, IsQuestion, query_line}
use Rattle.eq_wit.proofs.ItemLemmas.{HasNamesFrom, HasNumerals, decimal_name, no_form, no_number}

-- ---- names that are written out

abbrev are_visible : List ℕ → Bool
are_visible [] = true
are_visible (b ∷ bytes) = cond (nat_le 33 b) (cond (nat_le b 126) (are_visible bytes) false) false

visible : (bytes : List ℕ) → are_visible bytes ≡ true → AllByRecursion IsNameByte bytes
visible [] e = tt
visible (b ∷ bytes) e = by_tests (nat_le 33 b) (nat_le b 126) b bytes refl refl (visible bytes) e where
  by_tests : (s t : Bool) (b : ℕ) (bytes : List ℕ) → nat_le 33 b ≡ s → nat_le b 126 ≡ t →
      (are_visible bytes ≡ true → AllByRecursion IsNameByte bytes) →
      cond s (cond t (are_visible bytes) false) false ≡ true → AllByRecursion IsNameByte (b ∷ bytes)
  by_tests false t b bytes p q rest e = absurd (cc e)
  by_tests true false b bytes p q rest e = absurd (cc e)
  by_tests true true b bytes p q rest e = ((grind (arith, nat_tests, p), grind (arith, nat_tests, q)), rest e)

pub literal_name : (b : ℕ) (bytes : List ℕ) → are_visible (b ∷ bytes) ≡ true → IsName (b ∷ bytes)
literal_name b bytes e = record {
  some = λ g. cc (g);
  bytes = All-from_recursion IsNameByte (b ∷ bytes) (visible (b ∷ bytes) e);
}

-- ---- queries

due_numerals : (q : Query) (k : ℕ) (due : Due) → k < 2 ^ 64 → FitsDue due → HasNumerals (query_line q k due)
due_numerals Base k a_run small h = (decimal_name k small, tt)
due_numerals Step k a_run small h = (decimal_name k small, tt)
due_numerals Base k (a_log false n) small h = (decimal_name k small, (decimal_name n (omega (arith, h)), tt))
due_numerals Base k (a_log true n) small h = (decimal_name k small, (decimal_name n (omega (arith, h)), tt))
due_numerals Step k (a_log false n) small h = (decimal_name k small, (decimal_name n (omega (arith, h)), tt))
due_numerals Step k (a_log true n) small h = (decimal_name k small, (decimal_name n (omega (arith, h)), tt))

numerals : (part : Part) (a : Question) → IsQuestion part a → HasNumerals (question_line a)
numerals part a is =
    let few = is.unrollable.few_cycles in due_numerals a.query a.k a.due (omega (arith, few)) is.fits

due_names : (q : Query) (k : ℕ) (due : Due) → HasNamesFrom 1 (query_line q k due)
due_names q k a_run = (literal_name 115 (97 ∷ 116 ∷ []) refl, tt)
due_names q k (a_log false n) = (literal_name 117 (110 ∷ 115 ∷ 97 ∷ 116 ∷ []) refl, tt)
due_names q k (a_log true n) = (literal_name 115 (112 ∷ 101 ∷ 110 ∷ 116 ∷ []) refl, tt)

-- the parts of a query's form
of_three : (q : Query) (k : ℕ) (due : Due) (a b d : List ℕ) → HasForm (query_line q k due) (a ∷ b ∷ d ∷ []) →
    (a ≡ field_text (query_word q)) × (d ≡ codes "sat")
of_three Base k a_run a b d h = (h.0, h.1.1.0)
of_three Step k a_run a b d h = (h.0, h.1.1.0)
of_three Base k (a_log false n) a b d h = absurd h.1.1.1
of_three Base k (a_log true n) a b d h = absurd h.1.1.1
of_three Step k (a_log false n) a b d h = absurd h.1.1.1
of_three Step k (a_log true n) a b d h = absurd h.1.1.1

of_four : (q : Query) (k : ℕ) (due : Due) (a b d e : List ℕ) → HasForm (query_line q k due) (a ∷ b ∷ d ∷ e ∷ []) →
    (a ≡ field_text (query_word q)) × ((spent : Bool) × (d ≡ log_word spent))
of_four Base k a_run a b d e h = absurd h.1.1.1
of_four Step k a_run a b d e h = absurd h.1.1.1
of_four Base k (a_log false n) a b d e h = (h.0, (false, h.1.1.0))
of_four Base k (a_log true n) a b d e h = (h.0, (true, h.1.1.0))
of_four Step k (a_log false n) a b d e h = (h.0, (false, h.1.1.0))
of_four Step k (a_log true n) a b d e h = (h.0, (true, h.1.1.0))

abbrev IsNone : Part → List (List ℕ) → Type 0
IsNone part ws = IsNoItem question_line (IsQuestion part) ws kind.Word

pub no_three : (part : Part) (ws : List (List ℕ)) (a b d : List ℕ) → ws ≡ a ∷ b ∷ d ∷ [] →
    ((q : Query) → a ≡ field_text (query_word q) → d ≡ codes "sat" → ⊥) → IsNone part ws
no_three part ws a b d is none = no_form question_line (IsQuestion part) ws (numerals part) (λ x fits form.
    let h = of_three x.query x.k x.due a b d (subst (HasForm (question_line x)) is form) in none x.query h.0 h.1)

pub no_four : (part : Part) (ws : List (List ℕ)) (a b d e : List ℕ) → ws ≡ a ∷ b ∷ d ∷ e ∷ [] →
    ((q : Query) (spent : Bool) → a ≡ field_text (query_word q) → d ≡ log_word spent → ⊥) → IsNone part ws
no_four part ws a b d e is none = no_form question_line (IsQuestion part) ws (numerals part) (λ x fits form.
    let h = of_four x.query x.k x.due a b d e (subst (HasForm (question_line x)) is form) in none x.query h.1.0 h.0 h.1.1)

no_shape : (q : Query) (k : ℕ) (due : Due) (ws : List (List ℕ)) → ((a b d : List ℕ) → ws ≢ a ∷ b ∷ d ∷ []) →
    ((a b d e : List ℕ) → ws ≢ a ∷ b ∷ d ∷ e ∷ []) → HasForm (query_line q k due) ws → ⊥
no_shape Base k a_run (a ∷ b ∷ d ∷ []) three four h = three a b d refl
no_shape Step k a_run (a ∷ b ∷ d ∷ []) three four h = three a b d refl
no_shape q k (a_log spent n) (a ∷ b ∷ d ∷ []) three four h = three a b d refl
no_shape q k due (a ∷ b ∷ d ∷ e ∷ []) three four h = four a b d e refl
no_shape Base k a_run [] three four h = h
no_shape Step k a_run [] three four h = h
no_shape Base k (a_log false n) [] three four h = h
no_shape Base k (a_log true n) [] three four h = h
no_shape Step k (a_log false n) [] three four h = h
no_shape Step k (a_log true n) [] three four h = h
no_shape Base k due (a ∷ []) three four h = h.1
no_shape Step k due (a ∷ []) three four h = h.1
no_shape Base k a_run (a ∷ b ∷ []) three four h = h.1.1
no_shape Step k a_run (a ∷ b ∷ []) three four h = h.1.1
no_shape Base k (a_log false n) (a ∷ b ∷ []) three four h = h.1.1
no_shape Base k (a_log true n) (a ∷ b ∷ []) three four h = h.1.1
no_shape Step k (a_log false n) (a ∷ b ∷ []) three four h = h.1.1
no_shape Step k (a_log true n) (a ∷ b ∷ []) three four h = h.1.1
no_shape Base k a_run (a ∷ b ∷ d ∷ e ∷ f ∷ ws) three four h = h.1.1.1
no_shape Step k a_run (a ∷ b ∷ d ∷ e ∷ f ∷ ws) three four h = h.1.1.1
no_shape Base k (a_log false n) (a ∷ b ∷ d ∷ e ∷ f ∷ ws) three four h = h.1.1.1.1
no_shape Base k (a_log true n) (a ∷ b ∷ d ∷ e ∷ f ∷ ws) three four h = h.1.1.1.1
no_shape Step k (a_log false n) (a ∷ b ∷ d ∷ e ∷ f ∷ ws) three four h = h.1.1.1.1
no_shape Step k (a_log true n) (a ∷ b ∷ d ∷ e ∷ f ∷ ws) three four h = h.1.1.1.1

pub no_question : (part : Part) (ws : List (List ℕ)) → ((a b d : List ℕ) → ws ≢ a ∷ b ∷ d ∷ []) →
    ((a b d e : List ℕ) → ws ≢ a ∷ b ∷ d ∷ e ∷ []) → IsNone part ws
no_question part ws three four = no_form question_line (IsQuestion part) ws (numerals part)
    (λ x fits form. no_shape x.query x.k x.due ws three four form)

word_of : {xs ys : List (List ℕ)} (k : ℕ) → xs ≡ ys → get_or xs k [] ≡ get_or ys k []
word_of k e = ap (λ (zs : List (List ℕ)). get_or zs k []) e

-- the number of cycles is wrong
pub wrong_cycles : (part : Part) (ws : List (List ℕ)) (b : List ℕ) (s : Stop) (q : Query) (due : Due) → get_or ws 1 [] ≡ b →
    IsUnrollable part 1 → FitsDue due → ((k : ℕ) → IsUnrollable part k → b ≢ decimal k) →
    (((k : ℕ) (word : List ℕ) → 1 ≤ k → slice_get ws k ≡ Some word → IsName word) → HasForm (query_line q 1 due) ws) →
    IsWrongFrom 1 ws s → StopsBy (IsNoItem question_line (IsQuestion part) ws) s
wrong_cycles part ws b s q due is may fits none sample wrong =
    no_number question_line (IsQuestion part) ws 1 s (numerals part) (λ x h. due_names x.query x.k x.due)
    (λ x h same. none x.k h.unrollable (sym is ∙ sym (word_of 1 same)))
    (λ names. (record { query = q; k = 1; due = due }, record { unrollable = may; fits = fits }, sample names)) wrong

-- the number of steps is wrong
log_words : (q : Query) (k : ℕ) (due : Due) (a b d e : List ℕ) → words_of (query_line q k due) ≡ a ∷ b ∷ d ∷ e ∷ [] →
    FitsDue due → (n : ℕ) × (n < 2 ^ 32) × (decimal n ≡ e)
log_words q k a_run a b d e same h = let long : ◌≡◌ {A = ℕ} 3 4 = ap length same in absurd (omega arith)
log_words q k (a_log false n) a b d e same h = (n, h, word_of 3 same)
log_words q k (a_log true n) a b d e same h = (n, h, word_of 3 same)

pub log_form : (q : Query) (spent : Bool) (ws : List (List ℕ)) (a b d e : List ℕ) → ws ≡ a ∷ b ∷ d ∷ e ∷ [] →
    a ≡ field_text (query_word q) → d ≡ log_word spent →
    ((k : ℕ) (word : List ℕ) → 1 ≤ k → slice_get ws k ≡ Some word → IsName word) →
    HasForm (query_line q 1 (a_log spent 0)) ws
log_form q spent ws a b d e is first third names =
    let at : (k : ℕ) (word : List ℕ) → 1 ≤ k → slice_get (a ∷ b ∷ d ∷ e ∷ []) k ≡ Some word → IsName word =
    λ k word some there. names k word some (ap (λ (xs : List (List ℕ)). slice_get xs k) is ∙ there) in
    subst (HasForm (query_line q 1 (a_log spent 0))) (sym is)
    (by_case q spent a b d e first third (at 1 b (omega arith) refl) (at 3 e (omega arith) refl)) where
      by_case : (q : Query) (spent : Bool) (a b d e : List ℕ) → a ≡ field_text (query_word q) → d ≡ log_word spent → IsName b →
          IsName e → HasForm (query_line q 1 (a_log spent 0)) (a ∷ b ∷ d ∷ e ∷ [])
      by_case Base false a b d e first third h k = (first, (h, (third, (k, tt))))
      by_case Base true a b d e first third h k = (first, (h, (third, (k, tt))))
      by_case Step false a b d e first third h k = (first, (h, (third, (k, tt))))
      by_case Step true a b d e first third h k = (first, (h, (third, (k, tt))))

pub run_form : (q : Query) (ws : List (List ℕ)) (a b d : List ℕ) → ws ≡ a ∷ b ∷ d ∷ [] → a ≡ field_text (query_word q) →
    d ≡ codes "sat" → ((k : ℕ) (word : List ℕ) → 1 ≤ k → slice_get ws k ≡ Some word → IsName word) →
    HasForm (query_line q 1 a_run) ws
run_form q ws a b d is first third names =
    subst (HasForm (query_line q 1 a_run)) (sym is) (by_case q a b d first third
    (names 1 b (omega arith) (ap (λ (xs : List (List ℕ)). slice_get xs 1) is))) where
      by_case : (q : Query) (a b d : List ℕ) → a ≡ field_text (query_word q) → d ≡ codes "sat" → IsName b →
          HasForm (query_line q 1 a_run) (a ∷ b ∷ d ∷ [])
      by_case Base a b d first third h = (first, (h, (third, tt)))
      by_case Step a b d first third h = (first, (h, (third, tt)))

pub wrong_steps : (part : Part) (ws : List (List ℕ)) (a b d e : List ℕ) (s : Stop) (q : Query) (spent : Bool) →
    ws ≡ a ∷ b ∷ d ∷ e ∷ [] → IsUnrollable part 1 → a ≡ field_text (query_word q) → d ≡ log_word spent →
    ((n : ℕ) → n < 2 ^ 32 → e ≢ decimal n) → IsWrongFrom 1 ws s → StopsBy (IsNoItem question_line (IsQuestion part) ws) s
wrong_steps part ws a b d e s q spent is may first third none wrong =
    no_number question_line (IsQuestion part) ws 1 s (numerals part) (λ x h. due_names x.query x.k x.due)
    (λ x h same. let n = log_words x.query x.k x.due a b d e (same ∙ is) h.fits in none n.0 n.1 (sym n.2))
    (λ names. (
      record { query = q; k = 1; due = a_log spent 0 },
      record { unrollable = may; fits = omega arith },
      log_form q spent ws a b d e is first third names,
    )) wrong
