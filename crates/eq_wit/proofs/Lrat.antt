-- The lines of a log are its LRAT text.
use Rattle.std.proofs.Common.{◌≡◌, ℕ, suc, List, [], ◌∷◌, ◌++◌, refl, sym, ap, ◌∙◌, append_assoc}
use Rattle.std.specs.Prelude.{map}
use Rattle.std.specs.Fmt.{decimal}
use Rattle.std.proofs.lemmas.Grind.{flat_map-append}
use Rattle.eq_proof.specs.Inference.{Inference}
use Rattle.eq_proof.specs.Text.{literal_word, words, ended_words}
use Rattle.eq_proof.specs.Lrat as lrat
use Rattle.eq_wit.specs.Line.{Field, Number, Word, spaced_fields, field_text, line_text, lines_text, number}
use Rattle.eq_wit.specs.Texts.{literal_field, log_lines, step_fields}
use Rattle.eq_wit.specs.Lrat.{LogsAreLrat}

-- words with a blank before each are the same with one behind each
turned : {X : Type 0} (word : X → List ℕ) (xs : List X) (rest : List ℕ) →
    spaced_fields (map (λ x. Number (word x)) xs) ++ 32 ∷ rest ≡ 32 ∷ (words word xs ++ rest)
turned word [] rest = refl
turned word (x ∷ xs) rest =
    ap (λ (t : List ℕ). 32 ∷ t) (append_assoc (word x) (spaced_fields (map (λ y. Number (word y)) xs)) (32 ∷ rest)
    ∙ ap (λ (t : List ℕ). word x ++ t) (turned word xs rest)
    ∙ sym (append_assoc (word x) (32 ∷ []) (words word xs ++ rest))
    ∙ sym (append_assoc (word x ++ 32 ∷ []) (words word xs) rest))

-- words and the `0` that ends them
ended : {X : Type 0} (word : X → List ℕ) (xs : List X) (rest : List ℕ) →
    spaced_fields (map (λ x. Number (word x)) xs) ++ 32 ∷ 48 ∷ rest ≡ 32 ∷ (ended_words word xs ++ rest)
ended word xs rest = turned word xs (48 ∷ rest) ∙ ap (λ (t : List ℕ). 32 ∷ t) (sym (append_assoc (words word xs) (48 ∷ []) rest))

one_step : (n : ℕ) (step : Inference) → line_text (step_fields n step) ≡ lrat.step_line n step
one_step n step =
    let clause : List Field = map literal_field step.clause in
    let ants : List Field = map number step.ants in
    let last : List Field = Word (48 ∷ []) ∷ [] in
    let piece : Field → List ℕ = λ field. 32 ∷ field_text field in
    let parts : spaced_fields (clause ++ (Word (48 ∷ []) ∷ (ants ++ last))) ++ 10 ∷ []
    ≡ spaced_fields clause ++ 32 ∷ 48 ∷ (spaced_fields ants ++ 32 ∷ 48 ∷ 10 ∷ []) =
    ap (λ (t : List ℕ). t ++ 10 ∷ []) (flat_map-append piece clause (Word (48 ∷ []) ∷ (ants ++ last))
    ∙ ap (λ (t : List ℕ). spaced_fields clause ++ 32 ∷ 48 ∷ t) (flat_map-append piece ants last))
    ∙ append_assoc (spaced_fields clause) (32 ∷ 48 ∷ (spaced_fields ants ++ 32 ∷ 48 ∷ [])) (10 ∷ [])
    ∙ ap (λ (t : List ℕ). spaced_fields clause ++ 32 ∷ 48 ∷ t) (append_assoc (spaced_fields ants) (32 ∷ 48 ∷ []) (10 ∷ [])) in
    ap (λ (t : List ℕ). decimal n ++ t) (parts
    ∙ ap (λ (t : List ℕ). spaced_fields clause ++ 32 ∷ 48 ∷ t) (ended decimal step.ants (10 ∷ []))
    ∙ ended literal_word step.clause (32 ∷ (ended_words decimal step.ants ++ 10 ∷ [])))

pub logs_are_lrat : LogsAreLrat
logs_are_lrat n [] = refl
logs_are_lrat n (step ∷ log) =
    ap (λ (t : List ℕ). t ++ lines_text (log_lines (suc n) log)) (one_step n step)
    ∙ ap (λ (t : List ℕ). lrat.step_line n step ++ t) (logs_are_lrat (suc n) log)
