-- Words with a space between two, and words between brackets: a line of them has the same words again.
use Rattle.std.proofs.Common.{◌≡◌, ℕ, suc, zero, ◌+◌, ◌-◌, Bool, true, false, cond, eqb, ltb, ◌&&◌, List, [], ◌∷◌, ◌++◌, length, get_or, take, drop, Some, None, refl, sym, ap, subst, ◌∙◌, arith, inr}
use Rattle.std.specs.Prelude.{filter, All, slice_range}
use Rattle.std.specs.List.{slice_split, onto_first, prefix_len, suffix_len}
use Rattle.std.proofs.lemmas.Bool.{eq-eqb, ne_eqb}
use Rattle.std.proofs.lemmas.List.{length-append, take_all}
use Rattle.std.proofs.lemmas.List.Elements.{All-nil, All-cons, All-append}
use Rattle.std.proofs.lemmas.List.Splits.{slice_split_none, slice_split_at, slice_split-cons_no}
use Rattle.std.proofs.lemmas.List.Sums.{suffix_len_is}
use Rattle.eq_names.specs.Name.{IsNameByte, IsName}
use Rattle.eq_config.specs.Lines.{IsTextByte, IsText, is_blank, is_word, words, behind_blanks, before_blanks, bracketed, heading_text}
use Rattle.eq_config.specs.Forms.{heading as headed, plain, form_of}
use Rattle.eq_config.specs.Printing.{spaced, heading_line}
use Rattle.eq_config.proofs.LineLemmas.{no_words}
use Rattle.eq_config.proofs.FormLemmas.{form_heading, form_plain}

-- names, one after the other
abbrev pub AreNames : List (List ℕ) → Type 0
AreNames [] = Unit {0}
AreNames (word ∷ more) = IsName word × AreNames more

-- ---- their words

not_blank : (b : ℕ) → IsNameByte b → is_blank b ≡ false
not_blank b h = grind arith

no_blanks : (word : List ℕ) → All IsNameByte word → All (λ b. is_blank b ≡ false) word
no_blanks word h = λ k d lt. not_blank (get_or word k d) (h k d lt)

kept : (word : List ℕ) (parts : List (List ℕ)) → (word ≡ [] → ⊥)
    → filter is_word (word ∷ parts) ≡ word ∷ filter is_word parts
kept [] parts some = absurd (some refl)
kept (b ∷ bs) parts some = refl

one_word : (word : List ℕ) → IsName word → words word ≡ word ∷ []
unfolding words
one_word word h = ap (filter is_word) (slice_split_none is_blank word (no_blanks word h.bytes)) ∙ kept word [] h.some

next_word : (word rest : List ℕ) → IsName word → words (word ++ 32 ∷ rest) ≡ word ∷ words rest
unfolding words
next_word word rest h =
    ap (filter is_word) (slice_split_at is_blank word 32 rest (no_blanks word h.bytes) refl)
    ∙ kept word (slice_split is_blank rest) h.some

pub words_spaced : (ws : List (List ℕ)) → AreNames ws → words (spaced ws) ≡ ws
words_spaced [] h = no_words
words_spaced (w ∷ []) h = one_word w h.0
words_spaced (w ∷ v ∷ more) h = next_word w (spaced (v ∷ more)) h.0
    ∙ ap (λ (ws : List (List ℕ)). w ∷ ws) (words_spaced (v ∷ more) h.1)

-- ---- their bytes

visible_text : (word : List ℕ) → All IsNameByte word → IsText word
visible_text word h = λ k d lt. let b = h k d lt in let low = b.0 in inr (omega arith, b.1)

pub text_spaced : (ws : List (List ℕ)) → AreNames ws → IsText (spaced ws)
text_spaced [] h = All-nil IsTextByte
text_spaced (w ∷ []) h = visible_text w h.0.bytes
text_spaced (w ∷ v ∷ more) h =
    All-append IsTextByte w (32 ∷ spaced (v ∷ more)) (visible_text w h.0.bytes)
    (All-cons IsTextByte 32 (spaced (v ∷ more)) (inr (omega arith, omega arith)) (text_spaced (v ∷ more) h.1))

pub text_heading : (ws : List (List ℕ)) → AreNames ws → IsText (heading_line ws)
text_heading ws h =
    All-cons IsTextByte 91 (spaced ws ++ 93 ∷ []) (inr (omega arith, omega arith))
    (All-append IsTextByte (spaced ws) (93 ∷ []) (text_spaced ws h)
    (All-cons IsTextByte 93 [] (inr (omega arith, omega arith)) (All-nil IsTextByte)))

-- ---- headings

-- a line that begins with a byte that is no blank has a word that begins with it
record Begins (b : ℕ) (ws : List (List ℕ)) : Type 0 where
  word : List ℕ
  rest : List (List ℕ)
  is : ws ≡ (b ∷ word) ∷ rest

first_begins : (b : ℕ) (text : List ℕ) → is_blank b ≡ false → Begins b (words (b ∷ text))
unfolding words
first_begins b text no' = subst (λ (parts : List (List ℕ)). Begins b (filter is_word parts))
    (sym (slice_split-cons_no is_blank b text no')) (by (slice_split is_blank text))
  where
    by : (parts : List (List ℕ)) → Begins b (filter is_word (onto_first b parts))
    by [] = record { word = []; rest = []; is = refl }
    by (p ∷ ps) = record { word = p; rest = filter is_word ps; is = refl }

no_front : (b : ℕ) (text : List ℕ) → is_blank b ≡ false → behind_blanks (b ∷ text) ≡ b ∷ text
no_front b text no' =
    let P : Bool → Type 0 = λ c. drop (cond c (1 + prefix_len is_blank text) 0) (b ∷ text) ≡ b ∷ text in
    subst P (sym no') refl

no_back : (text : List ℕ) (b : ℕ) → is_blank b ≡ false → before_blanks (text ++ b ∷ []) ≡ text ++ b ∷ []
no_back text b no' =
    let whole : List ℕ = text ++ b ∷ [] in
    let long : length whole ≡ length text + 1 = omega (arith, length-append text (b ∷ [])) in
    let place : length whole - 1 ≡ length text = omega arith in
    let last : get_or whole (length whole - 1) 0 ≡ b = ap (λ (n : ℕ). get_or whole n 0) place
    ∙ Rattle.std.proofs.Math.Seq.get_or-append_seam text b [] 0 in
    let none : suffix_len is_blank whole ≡ length whole - length whole =
    suffix_len_is is_blank whole (length whole) 0 (omega arith) (λ k from below. absurd (omega arith))
    (λ some. ap is_blank last ∙ no') in
    take_all (length whole - suffix_len is_blank whole) whole (omega arith)

tested : {A : Type 0} (long last : Bool) (x : A) → long ≡ true → last ≡ true
    → cond (long && (true && last)) (Some x) None ≡ Some x
tested true true x a b = refl
tested true false x a b = absurd (cc)
tested false last x a b = absurd (cc)

between_brackets : (inner : List ℕ) → bracketed (91 ∷ (inner ++ 93 ∷ [])) ≡ Some inner
between_brackets inner =
    let rest : List ℕ = inner ++ 93 ∷ [] in
    let whole : List ℕ = 91 ∷ rest in
    let long : length rest ≡ length inner + 1 = omega (arith, length-append inner (93 ∷ [])) in
    let two : ltb 1 (length whole) ≡ true = grind arith in
    let place : length whole - 1 ≡ suc (length inner) = omega arith in
    let last : get_or whole (length whole - 1) 0 ≡ 93 = ap (λ (n : ℕ). get_or whole n 0) place
    ∙ Rattle.std.proofs.Math.Seq.get_or-append_seam inner 93 [] 0 in
    let room : length whole - 1 - 1 ≡ length inner = omega arith in
    let front : take (length whole - 1 - 1) rest ≡ inner = ap (λ (n : ℕ). take n rest) room
    ∙ Rattle.std.proofs.Math.Seq.take-append_seam inner (93 ∷ []) in
    tested (ltb 1 (length whole)) (eqb (get_or whole (length whole - 1) 0) 93)
    (slice_range whole 1 (length whole - 1)) two (eq-eqb (get_or whole (length whole - 1) 0) 93 last)
    ∙ ap (λ (x : List ℕ). Some x) front

heading_inside : (inner : List ℕ) → heading_text (91 ∷ (inner ++ 93 ∷ [])) ≡ Some inner
unfolding heading_text
heading_inside inner =
    ap (λ (t : List ℕ). bracketed (before_blanks t)) (no_front 91 (inner ++ 93 ∷ []) refl)
    ∙ ap bracketed (no_back (91 ∷ inner) 93 refl)
    ∙ between_brackets inner

pub form_of_heading : (ws : List (List ℕ)) → AreNames ws → form_of (heading_line ws) ≡ headed ws
form_of_heading ws h =
    let begins = first_begins 91 (spaced ws ++ 93 ∷ []) refl in
    form_heading (heading_line ws) (91 ∷ begins.word) (spaced ws) begins.rest begins.is (λ e. absurd (omega arith))
    (heading_inside (spaced ws))
    ∙ ap (λ (all : List (List ℕ)). headed all) (words_spaced ws h)

-- ---- other lines

no_bracket : (text : List ℕ) → (get_or text 0 0 ≡ 91 → ⊥) → bracketed text ≡ None
no_bracket text other =
    let P : Bool → Type 0 = λ c. cond (ltb 1 (length text) && (c && eqb (get_or text (length text - 1) 0) 93))
    (Some (slice_range text 1 (length text - 1))) None ≡ None in
    subst P (sym (ne_eqb (get_or text 0 0) 91 other)) (by (ltb 1 (length text)) (slice_range text 1 (length text - 1)))
  where
    by : (c : Bool) (x : List ℕ) → cond (c && (false && eqb (get_or text (length text - 1) 0) 93)) (Some x) None ≡ None
    by true x = refl
    by false x = refl

no_heading : (b : ℕ) (text : List ℕ) → is_blank b ≡ false → (b ≡ 91 → ⊥) → heading_text (b ∷ text) ≡ None
unfolding heading_text
no_heading b text no' other =
    ap (λ (t : List ℕ). bracketed (before_blanks t)) (no_front b text no')
    ∙ no_bracket (before_blanks (b ∷ text)) (first (length (b ∷ text) - suffix_len is_blank (b ∷ text)))
  where
    first : (n : ℕ) → get_or (take n (b ∷ text)) 0 0 ≡ 91 → ⊥
    first zero e = absurd (omega arith)
    first (suc n) e = other e

-- a line begins as its first word does
pub form_of_spaced : (b : ℕ) (bs : List ℕ) (ws : List (List ℕ)) → AreNames ((b ∷ bs) ∷ ws) → (b ≡ 35 → ⊥)
    → (b ≡ 91 → ⊥) → form_of (spaced ((b ∷ bs) ∷ ws)) ≡ plain (b ∷ bs) ws
form_of_spaced b bs ws h comment bracket = form_plain (spaced ((b ∷ bs) ∷ ws)) (b ∷ bs) ws
    (words_spaced ((b ∷ bs) ∷ ws) h) comment (none ws)
  where
    blank : is_blank b ≡ false
    blank = not_blank b (h.0.bytes 0 0 (omega arith))

    none : (ws : List (List ℕ)) → heading_text (spaced ((b ∷ bs) ∷ ws)) ≡ None
    none [] = no_heading b bs blank bracket
    none (w ∷ more) = no_heading b (bs ++ 32 ∷ spaced (w ∷ more)) blank bracket
