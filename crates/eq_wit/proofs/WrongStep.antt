-- What is wrong with words that are no step.
use Rattle.std.proofs.Common.{◌≡◌, ℕ, ◌-◌, ◌^◌, ◌<◌, zero, suc, Bool, true, false, cond, List, [], ◌∷◌, ◌++◌, length, map, arith, refl, sym, ap, ◌∙◌, subst, inl, inr}
use Rattle.std.specs.Prelude.{All, codes, replicate, slice_index_or}
use Rattle.std.specs.Fmt.{decimal}
use Rattle.std.proofs.lemmas.List.Elements.{All-cons, All-head, All-tail}
use Rattle.eq_names.specs.Name.{IsName, IsNameByte}
use Rattle.eq_proof.specs.Inference.{Inference}
use Rattle.eq_proof.specs.Literal.{Literal}
use Rattle.eq_proof.specs.Text.{IsClauseUpTo, literal_word}
use Rattle.eq_wit.specs.declared.state.Stop.{Stop}
use Rattle.eq_wit.specs.Line.{Field, Number, Word, field_text, number}
use Rattle.eq_wit.specs.Texts.{step_fields}
use Rattle.eq_wit.specs.inner.Items.{IsEarlierStep, IsFrom, IsMisstep, IsNoItem, step_words}
use Rattle.eq_wit.specs.inner.Judging.{StopsBy, words_of}
use Rattle.eq_wit.proofs.ItemLemmas.{HasNamesFrom, HasNumerals, decimal_name, no_form, no_number}
use Rattle.eq_wit.proofs.Lists.{at_index, replicate_at}
use Rattle.eq_wit.proofs.QuestionLemmas.{literal_name}
use Rattle.eq_wit.proofs.StepForms.{clause_of, clause_of-fits, few_literals, form_zeros, sample_form}

-- ---- fields

module _ {X : Type 0} (g : X → List ℕ) where
  list_words : (xs : List X) (fields : List Field) →
      map field_text (map (λ x. Number (g x)) xs ++ fields) ≡ map g xs ++ map field_text fields
  list_words [] fields = refl
  list_words (x ∷ xs) fields = ap (λ (ws : List (List ℕ)). g x ∷ ws) (list_words xs fields)

  list_numerals : (xs : List X) (fields : List Field) → All (λ x. IsName (g x)) xs → HasNumerals fields →
      HasNumerals (map (λ x. Number (g x)) xs ++ fields)
  list_numerals [] fields all h = h
  list_numerals (x ∷ xs) fields all h =
      (All-head (λ y. IsName (g y)) x xs all, list_numerals xs fields (All-tail (λ y. IsName (g y)) x xs all) h)

  list_names : (xs : List X) (fields : List Field) → HasNamesFrom zero fields →
      HasNamesFrom zero (map (λ x. Number (g x)) xs ++ fields)
  list_names [] fields h = h
  list_names (x ∷ xs) fields h = list_names xs fields h

signed_name : (p : Bool) (v : ℕ) → v < 2 ^ 64 → IsName (cond p (decimal v) (45 ∷ decimal v))
signed_name true v h = decimal_name v h
signed_name false v h = record {
  some = λ e. cc (e);
  bytes = All-cons IsNameByte 45 (decimal v) (omega arith, omega arith) (decimal_name v h).bytes;
}

-- ---- a step

pub words_are : (n : ℕ) (step : Inference) → words_of (step_fields n step) ≡ step_words n step.clause step.ants
words_are n step = ap (λ (ws : List (List ℕ)). decimal n ∷ ws)
    (list_words literal_word step.clause (Word (codes "0") ∷ (map number step.ants ++ (Word (codes "0") ∷ [])))
    ∙ ap (λ (ws : List (List ℕ)). map literal_word step.clause ++ codes "0" ∷ ws)
    (list_words decimal step.ants (Word (codes "0") ∷ [])))

numerals : (n : ℕ) (step : Inference) → n < 2 ^ 64 → IsEarlierStep n step → HasNumerals (step_fields n step)
numerals n step small h = (
  decimal_name n small,
  list_numerals literal_word step.clause (Word (codes "0") ∷ (map number step.ants ++ (Word (codes "0") ∷ [])))
      (λ k d less.
      let up = h.0.within k d less in
      let l : Literal = slice_index_or step.clause k d in
      signed_name l.positive l.var (omega (arith, up)))
      (list_numerals decimal step.ants (Word (codes "0") ∷ [])
      (λ k d less. let from = h.1 k d less in decimal_name (slice_index_or step.ants k d) (omega
      (arith, from, small))) tt),
)

zero_name : IsName (codes "0")
zero_name = literal_name 48 [] refl

names : (n : ℕ) (step : Inference) → HasNamesFrom zero (step_fields n step)
names n step = list_names literal_word step.clause (Word (codes "0") ∷ (map number step.ants ++ (Word
    (codes "0") ∷ [])))
    (zero_name, list_names decimal step.ants (Word (codes "0") ∷ []) (zero_name, tt))

ones : (n m : ℕ) → 1 < n → All (IsFrom n) (replicate m 1)
ones n m more k d less =
    let is : slice_index_or (replicate m 1) k d ≡ 1 = replicate_at m 1 k (slice_index_or (replicate m 1) k d)
    (at_index (replicate m 1) k d less) in
    subst (IsFrom n) (sym is) (omega arith, more)

pub wrong_step : (n : ℕ) (ws : List (List ℕ)) (s : Stop) → 1 < n → n < 2 ^ 64 →
    ((clause : List Literal) (ants : List ℕ) → IsClauseUpTo (2 ^ 31 - 1) clause → All (IsFrom n) ants →
    step_words n clause ants ≡ ws → ⊥) → IsMisstep ws s → StopsBy (IsNoItem (step_fields n) (IsEarlierStep n) ws) s
wrong_step n ws s more small none (inl h) =
    let from = h.1.from in
    let few = h.2 in
    no_number (step_fields n) (IsEarlierStep n) ws 0 s (λ x fits. numerals n x small fits) (λ x fits. names n x)
    (λ x fits e. none x.clause x.ants fits.0 fits.1 (sym (words_are n x) ∙ e))
    (λ all. (
      record { clause = clause_of (h.0 - 1); ants = replicate (length ws - h.0 - 2) 1 },
      (clause_of-fits (h.0 - 1) (omega (arith, from, few)), ones n (length ws - h.0 - 2) more),
      sample_form n ws h.0 h.1 (λ k w e. all k w (omega arith) e),
    )) h.3
wrong_step n ws s more small none (inr h) =
    subst (StopsBy (IsNoItem (step_fields n) (IsEarlierStep n) ws)) (sym h.0)
    (no_form (step_fields n) (IsEarlierStep n) ws (λ x fits. numerals n x small fits)
    (λ x fits form. h.1 (suc (length x.clause)) (form_zeros n x ws form) (few_literals x.clause fits.0)))
