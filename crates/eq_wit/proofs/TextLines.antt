-- Lines of a text, and words of a line.
use Rattle.std.proofs.Common.{◌≡◌, ℕ, ◌≤◌, Bool, true, false, cond, List, [], ◌∷◌, ◌++◌, length, map, Some, slice_get, arith, refl, sym, ap, ap₂, ◌∙◌, subst, append_assoc, inl, inr}
use Rattle.std.specs.Prelude.{◌==◌}
use Rattle.std.specs.List.{AllByRecursion, onto_first}
use Rattle.std.proofs.lemmas.Bool.{cases_Bool}
use Rattle.std.proofs.lemmas.Bool.Decides.{nat_tests}
use Rattle.std.proofs.lemmas.List.{append-nil}
use Rattle.eq_proof.specs.Text.{lines_of, with_byte}
use Rattle.eq_wit.specs.Line.{Field, Line, Word, field_text, line_text, lines_text, spaced_fields}
use Rattle.eq_wit.specs.inner.Judging.{HasNoFeed, words_in}
use Rattle.eq_wit.proofs.Words.{AreWords, IsPlainLine, IsWord, Words, divided, divided_line, stays, words_of}

-- ---- lines

HasNoFeed-append : (a b : List ℕ) → HasNoFeed a → HasNoFeed b → HasNoFeed (a ++ b)
HasNoFeed-append [] b h k = k
HasNoFeed-append (x ∷ a) b h k = (h.0, HasNoFeed-append a b h.1 k)

HasNoFeed-word : (word : List ℕ) → IsWord word → HasNoFeed word
HasNoFeed-word [] h = tt
HasNoFeed-word (b ∷ word) h = let stay = h.0 in (grind (arith, nat_tests), HasNoFeed-word word h.1)

HasNoFeed-fields : (fields : List Field) → AreWords fields → HasNoFeed (spaced_fields fields)
HasNoFeed-fields [] h = tt
HasNoFeed-fields (field ∷ fields) h = HasNoFeed-append (32 ∷ field_text field) (spaced_fields fields)
    (refl, HasNoFeed-word (field_text field) h.0) (HasNoFeed-fields fields h.1)

pub line_before : (front rest : List ℕ) → HasNoFeed front → lines_of (front ++ 10 ∷ rest) ≡ (front ++ 10 ∷ []) ∷ lines_of rest
line_before [] rest h = refl
line_before (b ∷ front) rest h =
    let P : Bool → Type 0 = λ t. cond t ((10 ∷ []) ∷ lines_of (front ++ 10 ∷ rest)) (with_byte b (lines_of (front ++ 10 ∷ rest)))
    ≡ (b ∷ (front ++ 10 ∷ [])) ∷ lines_of rest in
    subst P (sym h.0) (ap (with_byte b) (line_before front rest h.1))

-- bytes without a line feed are one line
pub one_line : (b : ℕ) (bytes : List ℕ) → HasNoFeed (b ∷ bytes) → lines_of (b ∷ bytes) ≡ (b ∷ bytes) ∷ []
one_line b [] h = ap (λ (t : Bool). cond t ((10 ∷ []) ∷ []) ((b ∷ []) ∷ [])) h.0
one_line b (c ∷ bytes) h =
    ap (λ (t : Bool). cond t ((10 ∷ []) ∷ lines_of (c ∷ bytes)) (with_byte b (lines_of (c ∷ bytes)))) h.0
    ∙ ap (with_byte b) (one_line c bytes h.1)

pub lines_before : (lines : List Line) (rest : List ℕ) → AllByRecursion IsPlainLine lines →
    lines_of (lines_text lines ++ rest) ≡ map line_text lines ++ lines_of rest
lines_before [] rest h = refl
lines_before ([] ∷ lines) rest h = absurd h.0
lines_before ((field ∷ fields) ∷ lines) rest h =
    let front : List ℕ = field_text field ++ spaced_fields fields in
    let whole : line_text (field ∷ fields) ≡ front ++ 10 ∷ [] =
    sym (append_assoc (field_text field) (spaced_fields fields) (10 ∷ [])) in
    let free : HasNoFeed front = HasNoFeed-append (field_text field) (spaced_fields fields)
    (HasNoFeed-word (field_text field) h.0.0) (HasNoFeed-fields fields h.0.1) in
    ap lines_of (append_assoc (line_text (field ∷ fields)) (lines_text lines) rest
    ∙ ap (λ (t : List ℕ). t ++ (lines_text lines ++ rest)) whole
    ∙ append_assoc front (10 ∷ []) (lines_text lines ++ rest))
    ∙ line_before front (lines_text lines ++ rest) free
    ∙ ap₂ (λ (l : List ℕ) (ls : List (List ℕ)). l ∷ ls) (sym whole) (lines_before lines rest h.1)

with_first : (b : ℕ) (bytes line : List ℕ) (lines : List (List ℕ)) →
    ((l : List ℕ) → slice_get lines 0 ≡ Some l → (more : List ℕ) × (bytes ≡ l ++ more)) →
    slice_get (with_byte b lines) 0 ≡ Some line → (more : List ℕ) × (b ∷ bytes ≡ line ++ more)
with_first b bytes line [] before e =
    let is : line ≡ b ∷ [] = cc in
    (bytes, ap (λ (l : List ℕ). l ++ bytes) (sym is))
with_first b bytes line (l ∷ lines) before e =
    let is : line ≡ b ∷ l = cc in
    let next = before l refl in
    (next.0, ap (λ (t : List ℕ). b ∷ t) next.1 ∙ ap (λ (t : List ℕ). t ++ next.0) (sym is))

-- a text begins with its first line
pub first_line : (text line : List ℕ) → slice_get (lines_of text) 0 ≡ Some line → (more : List ℕ) × (text ≡ line ++ more)
first_line [] line e = absurd (cc)
first_line (b ∷ bytes) line e =
    let P : Bool → Type 0 = λ t. slice_get (cond t ((10 ∷ []) ∷ lines_of bytes) (with_byte b (lines_of bytes))) 0 ≡ Some line in
    elim (cases_Bool (b == 10)) [
      | inl yes' ↦
          let at : P true = subst P yes' e in
          let is : line ≡ 10 ∷ [] = cc in
          let feed : b ≡ 10 = grind (arith, nat_tests) in
          (bytes, ap (λ (c : ℕ). c ∷ bytes) feed ∙ ap (λ (l : List ℕ). l ++ bytes) (sym is))
      | inr no' ↦
          let at : P false = subst P no' e in
          with_first b bytes line (lines_of bytes) (λ l f. first_line bytes l f) at
    ]

-- ---- words

-- plain lines of one text have the same words
pub same_words : (l m : Line) → IsPlainLine l → IsPlainLine m → line_text l ≡ line_text m → words_of l ≡ words_of m
same_words l m h k e =
    let both : words_of l ∷ divided [] ≡ words_of m ∷ divided [] =
    sym (divided_line l [] h) ∙ ap (λ (t : List ℕ). divided (t ++ [])) e ∙ divided_line m [] k in
    cc (both)

-- a line's text is that of its words
by_words : (l : Line) → spaced_fields l ≡ spaced_fields (map Word (words_of l))
by_words [] = refl
by_words (field ∷ fields) = ap (λ (t : List ℕ). (32 ∷ field_text field) ++ t) (by_words fields)

pub text_by_words : (l : Line) → line_text l ≡ line_text (map Word (words_of l))
text_by_words [] = refl
text_by_words (field ∷ fields) = ap (λ (t : List ℕ). field_text field ++ (t ++ 10 ∷ [])) (by_words fields)

-- the words of bytes are the bytes, with a blank between two
abbrev text_of_words : Words → List ℕ
text_of_words ws = line_text (map Word ws)

spaced_words : (w : List ℕ) (ws : Words) → spaced_fields (map Word (w ∷ ws)) ++ 10 ∷ [] ≡ 32 ∷ text_of_words (w ∷ ws)
spaced_words w ws = append_assoc (32 ∷ w) (spaced_fields (map Word ws)) (10 ∷ [])

spaced_some : (ws : Words) → 1 ≤ length ws → spaced_fields (map Word ws) ++ 10 ∷ [] ≡ 32 ∷ text_of_words ws
spaced_some [] h = absurd (omega arith)
spaced_some (w ∷ ws) h = spaced_words w ws

onto_text : (b : ℕ) (ws : Words) → 1 ≤ length ws → text_of_words (onto_first b ws) ≡ b ∷ text_of_words ws
onto_text b [] h = absurd (omega arith)
onto_text b (w ∷ ws) h = refl

onto_some : (b : ℕ) (ws : Words) → 1 ≤ length (onto_first b ws)
onto_some b [] = omega arith
onto_some b (w ∷ ws) = omega arith

some_by : (t : Bool) (b : ℕ) (ws : Words) → 1 ≤ length (cond t ([] ∷ ws) (onto_first b ws))
some_by true b ws = omega arith
some_by false b ws = onto_some b ws

pub some_words : (line : List ℕ) → 1 ≤ length (words_in line)
some_words [] = omega arith
some_words (b ∷ line) = some_by (b == 32) b (words_in line)

pub words_back : (line : List ℕ) → text_of_words (words_in line) ≡ line ++ 10 ∷ []
words_back [] = refl
words_back (b ∷ line) =
    let some = some_words line in
    let P : Bool → Type 0 = λ t. text_of_words (cond t ([] ∷ words_in line) (onto_first b (words_in line))) ≡ b ∷ (line ++ 10 ∷ []) in
    elim (cases_Bool (b == 32)) [
      | inl yes' ↦
          let blank : b ≡ 32 = grind (arith, nat_tests) in
          subst P (sym yes') (spaced_some (words_in line) some ∙ ap (λ (t : List ℕ). 32 ∷ t) (words_back line)
          ∙ ap (λ (c : ℕ). c ∷ (line ++ 10 ∷ [])) (sym blank))
      | inr no' ↦ subst P (sym no') (onto_text b (words_in line) some ∙ ap (λ (t : List ℕ). b ∷ t) (words_back line))
    ]

-- no blank in a word
no_blank : (b : ℕ) → stays b ≡ true → (b == 32) ≡ false
no_blank b h = grind (arith, nat_tests)

split_word : (word rest : List ℕ) → IsWord word → words_in (word ++ 32 ∷ rest) ≡ word ∷ words_in rest
split_word [] rest h = refl
split_word (b ∷ word) rest h =
    ap (λ (t : Bool). cond t ([] ∷ words_in (word ++ 32 ∷ rest)) (onto_first b (words_in (word ++ 32 ∷ rest)))) (no_blank b h.0)
    ∙ ap (onto_first b) (split_word word rest h.1)

split_last : (word : List ℕ) → IsWord word → words_in word ≡ word ∷ []
split_last [] h = refl
split_last (b ∷ word) h =
    ap (λ (t : Bool). cond t ([] ∷ words_in word) (onto_first b (words_in word))) (no_blank b h.0)
    ∙ ap (onto_first b) (split_last word h.1)

split_fields : (word : List ℕ) (fields : List Field) → IsWord word → AreWords fields →
    words_in (word ++ spaced_fields fields) ≡ word ∷ words_of fields
split_fields word [] h k = ap words_in (append-nil word) ∙ split_last word h
split_fields word (field ∷ fields) h k =
    split_word word (field_text field ++ spaced_fields fields) h
    ∙ ap (λ (ws : Words). word ∷ ws) (split_fields (field_text field) fields k.0 k.1)

last_gone : (a b : List ℕ) → a ++ 10 ∷ [] ≡ b ++ 10 ∷ [] → a ≡ b
last_gone [] [] e = refl
last_gone [] (y ∷ b) e = absurd (no_more y b e) where
  no_more : (y : ℕ) (b : List ℕ) → 10 ∷ [] ≡ y ∷ (b ++ 10 ∷ []) → ⊥
  no_more y [] e = absurd (omega (arith, ap length e))
  no_more y (z ∷ b) e = absurd (omega (arith, ap length e))
last_gone (x ∷ a) [] e = absurd (no_more x a (sym e)) where
  no_more : (y : ℕ) (b : List ℕ) → 10 ∷ [] ≡ y ∷ (b ++ 10 ∷ []) → ⊥
  no_more y [] e = absurd (omega (arith, ap length e))
  no_more y (z ∷ b) e = absurd (omega (arith, ap length e))
last_gone (x ∷ a) (y ∷ b) e = ap₂ (λ (c : ℕ) (d : List ℕ). c ∷ d) (cc (e)) (last_gone a b (cc (e)))

-- the bytes of a plain line have its words
pub words_there : (l : Line) (line : List ℕ) → IsPlainLine l → line_text l ≡ line ++ 10 ∷ [] → words_of l ≡ words_in line
words_there [] line h e = absurd h
words_there (field ∷ fields) line h e =
    let front : List ℕ = field_text field ++ spaced_fields fields in
    let same : front ≡ line = last_gone front line (append_assoc (field_text field) (spaced_fields fields) (10 ∷ []) ∙ e) in
    sym (split_fields (field_text field) fields h.0 h.1) ∙ ap words_in same

-- and a line of the words has the bytes
pub text_there : (l : Line) (line : List ℕ) → words_of l ≡ words_in line → line_text l ≡ line ++ 10 ∷ []
text_there l line e = text_by_words l ∙ ap text_of_words e ∙ words_back line
