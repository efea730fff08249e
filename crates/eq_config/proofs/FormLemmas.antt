-- The form of a line, by what its reader found.
use Rattle.std.proofs.Common.{◌≡◌, ℕ, Bool, cond, List, [], ◌∷◌, get_or, Option, Some, None, ap, ◌∙◌}
use Rattle.std.proofs.lemmas.Bool.{eq-eqb, ne_eqb}
use Rattle.eq_config.specs.Lines.{words, heading_text}
use Rattle.eq_config.specs.Forms.{silent, heading, plain, speaking, form_by, form_of}

pub form_none : (line : List ℕ) → words line ≡ [] → form_of line ≡ silent
unfolding form_of
form_none line none = ap (λ (ws : List (List ℕ)). form_by ws (heading_text line)) none

pub form_comment : (line word : List ℕ) (rest : List (List ℕ)) → words line ≡ word ∷ rest → get_or word 0 0 ≡ 35 → form_of line ≡ silent
unfolding form_of
form_comment line word rest is comment =
    ap (λ (ws : List (List ℕ)). form_by ws (heading_text line)) is
    ∙ ap (λ (b : Bool). cond b silent (speaking word rest (heading_text line))) (eq-eqb (get_or word 0 0) 35 comment)

form_speaking : (line word : List ℕ) (rest : List (List ℕ)) (inner : Option (List ℕ)) → words line ≡ word ∷ rest → (get_or word 0 0 ≡ 35 → ⊥) → heading_text line ≡ inner → form_of line ≡ speaking word rest inner
unfolding form_of
form_speaking line word rest inner is speaks found =
    ap (λ (ws : List (List ℕ)). form_by ws (heading_text line)) is
    ∙ ap (λ (b : Bool). cond b silent (speaking word rest (heading_text line))) (ne_eqb (get_or word 0 0) 35 speaks)
    ∙ ap (λ (o : Option (List ℕ)). speaking word rest o) found

pub form_heading : (line word inner : List ℕ) (rest : List (List ℕ)) → words line ≡ word ∷ rest → (get_or word 0 0 ≡ 35 → ⊥) → heading_text line ≡ Some inner → form_of line ≡ heading (words inner)
form_heading line word inner rest is speaks found = form_speaking line word rest (Some inner) is speaks found

pub form_plain : (line word : List ℕ) (rest : List (List ℕ)) → words line ≡ word ∷ rest → (get_or word 0 0 ≡ 35 → ⊥) → heading_text line ≡ None → form_of line ≡ plain word rest
form_plain line word rest is speaks found = form_speaking line word rest None is speaks found
