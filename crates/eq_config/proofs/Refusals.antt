-- What stopped a reading, carried to the words that it is a part of.
use Rattle.std.proofs.Common.{◌≡◌, List, [], ◌∷◌, ◌++◌, ℕ, length, drop, append_assoc, Result, Ok, Err, inl, inr, sym, subst, refl, ap, ◌∙◌}
use Rattle.std.specs.Prelude.{IfErr, IsErrAnd, All}
use Rattle.std.proofs.lemmas.List.{drop_at}
use Rattle.std.proofs.lemmas.List.Elements.{All-head, All-same, All-drop}
use Rattle.eq_config.specs.declared.fault.Stop.{Stop}
use Rattle.eq_config.specs.declared.fault.Stop.TheVariants as stop
use Rattle.eq_names.specs.Patterns.{HasWilds}
use Rattle.eq_names.specs.Templates.{IsTemplate, IsTemplateOrNoMemory}
use Rattle.eq_names.specs.declared.fault.TplErr.{TplErr}
use Rattle.eq_names.specs.declared.fault.TplErr.TheVariants as no_memory
use Rattle.eq_config.specs.Words.{IsFileWord, Fills}
use Rattle.eq_config.specs.Entries.{IsFileLine}
use Rattle.eq_config.specs.inner.Stopping.{Refuses}

-- words are refused for a part of what they have to be
pub refuses_more : (P Q : Type 0) → (Q → P) → (reason : Stop) → Refuses P reason → Refuses Q reason
refuses_more P Q part (stop.Fault kind) h = (h.0, λ q. h.1 (part q))
refuses_more P Q part stop.Memory h = tt

-- the same at the exit of a `?`
pub refuses_at : {T : Type 0} (P Q : Type 0) → (Q → P) → (r : Result T Stop) (reason : Stop) → IsErrAnd r (λ e. e ≡ reason) → Refuses P reason → IfErr r (Refuses Q)
refuses_at P Q part (Ok x) reason is h = tt
refuses_at P Q part (Err e) reason is h = subst (λ (s : Stop). Refuses Q s) (sym is) (refuses_more P Q part reason h)

-- a line of files has no word that isn't one
pub no_file_line : (words files rest : List (List ℕ)) (word : List ℕ) → words ≡ files ++ word ∷ rest → IsFileLine words → IsFileWord word
no_file_line words files rest word is line =
    let P : List (List ℕ) → Type 0 = λ ws. All IsFileWord ws in
    let all : All IsFileWord (files ++ word ∷ rest) = subst P is line.files in
    All-head IsFileWord word rest (All-same IsFileWord (word ∷ rest) (drop (length files) (files ++ word ∷ rest)) (sym (drop_at files (word ∷ rest) (length files) refl)) (All-drop IsFileWord (length files) (files ++ word ∷ rest) all))

-- a file more
pub files_more : (words files rest after : List (List ℕ)) (word : List ℕ) → words ≡ files ++ rest → rest ≡ word ∷ after → words ≡ (files ++ word ∷ []) ++ after
files_more words files rest after word is next = is ∙ ap (λ (ws : List (List ℕ)). files ++ ws) next ∙ sym (append_assoc files (word ∷ []) after)

-- a text that is no template for a pattern's wilds fills it with no number of them
pub no_filling : (pattern text : List ℕ) (wilds : ℕ) → HasWilds pattern wilds → ((m n : ℕ) → HasWilds pattern m → HasWilds pattern n → m ≡ n) → (IsTemplate text wilds → ⊥) → Fills pattern text → ⊥
no_filling pattern text wilds has one none fills = none (subst (λ (n : ℕ). IsTemplate text n) (one fills.0 wilds fills.1 has) fills.2)

-- an error but Memory is no answer to a template
pub not_answered : (e : TplErr) (text : List ℕ) → IsTemplateOrNoMemory (Err e) (Ok text) → (e ≡ no_memory.Memory → ⊥) → ⊥
not_answered e text (inl is) other = absurd (cc)
not_answered e text (inr is) other = other (cc)
