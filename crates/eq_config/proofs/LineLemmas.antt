-- The first line of a text, and the first word of a line, by how many bytes stand before the first line feed or blank.
use Rattle.std.proofs.Common.{◌≡◌, ℕ, suc, ◌+◌, ◌-◌, ◌<◌, ◌≤◌, Bool, true, false, cond, eqb, not, List, [], ◌∷◌, length, get_or, take, drop, refl, sym, ap, subst, ◌∙◌, arith, inl, inr}
use Rattle.std.specs.Prelude.{filter}
use Rattle.std.specs.List.{slice_split, position_or_len, prefix_len, before_first, after_first, All}
use Rattle.std.specs.Str.Lines.{lines, lines_of_parts, strip_carriage_return}
use Rattle.std.proofs.lemmas.Bool.{cases_Bool, cases_lt, ne_eqb}
use Rattle.std.proofs.lemmas.List.{take_rest, take_all, drop_all, drop_more, length-take, length-drop, get_or-take}
use Rattle.std.proofs.lemmas.List.Elements.{All-from_get_or, All-drop}
use Rattle.std.proofs.lemmas.List.Splits.{slice_split_first, slice_split_none, slice_split-cons_yes}
use Rattle.std.proofs.lemmas.List.Sums.{fails_before_first, passes_at_first, prefix_len-le-length, prefix_len_stops}
use Rattle.eq_names.specs.Name.{IsNameByte, IsName}
use Rattle.eq_config.specs.Lines.{IsTextByte, IsText, is_blank, is_word, words, behind_blanks}

-- ---- lines

-- no element before the first that passes does, and so none of a list in which none is found
none_pass : {X : Type 0} (p : X → Bool) (xs : List X) → length xs ≤ position_or_len p xs → All (λ x. p x ≡ false) xs
none_pass p xs all = λ k d lt. fails_before_first p xs k d (omega arith)

-- a text without a line feed is one line
pub last_line : (text : List ℕ) (n : ℕ) → 0 < length text → n ≡ position_or_len (λ b. eqb b 10) text → n ≡ length text
    → lines text ≡ text ∷ lines (take (length text - n) (drop n text))
last_line text n some at all =
    let whole = slice_split_none (λ b. eqb b 10) text (none_pass (λ b. eqb b 10) text (omega arith)) in
    let empty : drop n text ≡ [] = drop_all n text (omega arith) in
    ap lines_of_parts whole ∙ one text some ∙ ap (λ (t : List ℕ). text ∷ lines t) (sym (take_rest text n ∙ empty))
  where
    one : (text : List ℕ) → 0 < length text → lines_of_parts (text ∷ []) ≡ text ∷ []
    one [] some = absurd (omega arith)
    one (b ∷ bs) some =
        let P : Bool → Type 0 = λ c. cond c [] ((b ∷ bs) ∷ []) ≡ (b ∷ bs) ∷ [] in
        let long : eqb (length (b ∷ bs)) 0 ≡ false = ne_eqb (length (b ∷ bs)) 0 (λ e. absurd (omega arith)) in
        subst P (sym long) refl

-- a text is split into one part at least, so that a part before it is a line
pub more_parts : (line : List ℕ) (text : List ℕ) → lines_of_parts (line ∷ slice_split (λ b. eqb b 10) text) ≡ strip_carriage_return line ∷ lines_of_parts (slice_split (λ b. eqb b 10) text)
more_parts line text = split line (slice_split (λ b. eqb b 10) text) (some text)
  where
    some : (text : List ℕ) → 0 < length (slice_split (λ b. eqb b 10) text)
    some [] = omega arith
    some (b ∷ bs) = elim (cases_Bool (eqb b 10)) [
      | inl yes' ↦ rw yes' (omega arith)
      | inr no' ↦ rw no' (onto (slice_split (λ b. eqb b 10) bs))
    ]
      where
        onto : (parts : List (List ℕ)) → 0 < length (Rattle.std.specs.List.onto_first b parts)
        onto [] = omega arith
        onto (part ∷ parts) = omega arith

    split : (line : List ℕ) (parts : List (List ℕ)) → 0 < length parts → lines_of_parts (line ∷ parts) ≡ strip_carriage_return line ∷ lines_of_parts parts
    split line [] h = absurd (omega arith)
    split line (part ∷ parts) h = refl

-- the first line ends at the first line feed
pub first_line : (text : List ℕ) (n : ℕ) → n ≡ position_or_len (λ b. eqb b 10) text → n < length text → lines text ≡ strip_carriage_return (take n text) ∷ lines (take (length text - (n + 1)) (drop (n + 1) text))
first_line text n at within =
    let P : ℕ → Type 0 = λ k. lines text ≡ strip_carriage_return (take k text) ∷ lines (take (length text - (k + 1)) (drop (k + 1) text)) in
    let within' : position_or_len (λ b. eqb b 10) text < length text = omega arith in
    let parts = slice_split_first (λ b. eqb b 10) text 0 within' in
    subst P (sym at)
    (ap lines_of_parts parts
    ∙ more_parts (before_first (λ b. eqb b 10) text) (after_first (λ b. eqb b 10) text)
    ∙ ap (λ (t : List ℕ). strip_carriage_return (before_first (λ b. eqb b 10) text) ∷ lines t) (sym (take_rest text (position_or_len (λ b. eqb b 10) text + 1))))

-- ---- words

blank_first : (b : ℕ) (text : List ℕ) → is_blank b ≡ true → words (b ∷ text) ≡ words text
unfolding words
blank_first b text yes' = ap (filter is_word) (slice_split-cons_yes is_blank b text yes')

-- blanks at the front are in no word
pub words_behind : (text : List ℕ) → words text ≡ words (behind_blanks text)
words_behind [] = refl
words_behind (b ∷ text) = elim (cases_Bool (is_blank b)) [
  | inl yes' ↦
      let P : Bool → Type 0 = λ c. words (b ∷ text) ≡ words (drop (cond c (1 + prefix_len is_blank text) 0) (b ∷ text)) in
      let one : suc (prefix_len is_blank text) ≡ 1 + prefix_len is_blank text = omega arith in
      subst P (sym yes') (blank_first b text yes' ∙ words_behind text ∙ ap (λ (n : ℕ). words (drop n (b ∷ text))) one)
  | inr no' ↦
      let P : Bool → Type 0 = λ c. words (b ∷ text) ≡ words (drop (cond c (1 + prefix_len is_blank text) 0) (b ∷ text)) in
      subst P (sym no') refl
]

pub no_words : words [] ≡ []
unfolding words
no_words = refl

-- a text that begins with no blank begins with a word
first_word_at : (text : List ℕ) → 0 < position_or_len is_blank text → words text ≡ take (position_or_len is_blank text) text ∷ words (drop (position_or_len is_blank text) text)
unfolding words
first_word_at text some =
    let n : ℕ = position_or_len is_blank text in
    let kept : (word : List ℕ) (parts : List (List ℕ)) → 0 < length word → filter is_word (word ∷ parts) ≡ word ∷ filter is_word parts = keep in
    let least = prefix_len-le-length (λ b. not (is_blank b)) text in
    elim (cases_lt n (length text)) [
      | inl within ↦
          let parts = slice_split_first is_blank text 0 within in
          let long : 0 < length (take n text) = omega (arith, length-take n text) in
          let rest : drop n text ≡ get_or text n 0 ∷ drop (n + 1) text = drop_more text n 0 within in
          let same : words (drop n text) ≡ words (drop (n + 1) text) = ap words rest ∙ blank_first (get_or text n 0) (drop (n + 1) text) (passes_at_first is_blank text 0 within) in
          ap (filter is_word) parts ∙ kept (take n text) (slice_split is_blank (drop (n + 1) text)) long ∙ ap (λ (ws : List (List ℕ)). take n text ∷ ws) (sym same)
      | inr all ↦
          let whole = slice_split_none is_blank text (none_pass is_blank text all) in
          let front : take n text ≡ text = take_all n text all in
          let empty : drop n text ≡ [] = drop_all n text all in
          let long : 0 < length text = omega arith in
          ap (filter is_word) whole ∙ kept text [] long ∙ ap (λ (w : List ℕ). w ∷ []) (sym front) ∙ ap (λ (t : List ℕ). take n text ∷ words t) (sym empty)
    ]
  where
    keep : (word : List ℕ) (parts : List (List ℕ)) → 0 < length word → filter is_word (word ∷ parts) ≡ word ∷ filter is_word parts
    keep [] parts some = absurd (omega arith)
    keep (b ∷ bs) parts some = refl

-- what stands there begins with no blank
behind_begins : (line : List ℕ) → 0 < length (behind_blanks line) → 0 < position_or_len is_blank (behind_blanks line)
behind_begins line some =
    let n : ℕ = prefix_len is_blank line in
    let within : n < length line = omega (arith, some, length-drop n line) in
    let stops : is_blank (get_or line n 0) ≡ false = prefix_len_stops is_blank line 0 within in
    let rest : drop n line ≡ get_or line n 0 ∷ drop (n + 1) line = drop_more line n 0 within in
    let one : position_or_len is_blank (get_or line n 0 ∷ drop (n + 1) line) ≡ 1 + position_or_len is_blank (drop (n + 1) line) =
    ap (λ c. cond (not c) (1 + position_or_len is_blank (drop (n + 1) line)) 0) stops in
    omega (arith, ap (position_or_len is_blank) rest, one)

-- where no word begins behind the blanks of a line, it has none
pub none_left : (line text : List ℕ) (n : ℕ) → text ≡ behind_blanks line → n ≡ position_or_len is_blank text → n ≡ 0 → words line ≡ []
none_left line text n is at none = words_behind line ∙ ap words (nothing (behind_blanks line) (λ some. behind_begins line some) (sym (ap (position_or_len is_blank) is) ∙ sym at ∙ none)) ∙ no_words
  where
    nothing : (rest : List ℕ) → (0 < length rest → 0 < position_or_len is_blank rest) → position_or_len is_blank rest ≡ 0 → rest ≡ []
    nothing [] begins zero' = refl
    nothing (b ∷ bs) begins zero' = let some = begins (omega arith) in absurd (omega arith)

-- the first word of a line, and what stands behind it
pub word_and_rest : (line text : List ℕ) (n : ℕ) → text ≡ behind_blanks line → n ≡ position_or_len is_blank text → 0 < n
    → words line ≡ take n text ∷ words (take (length text - n) (drop n text))
word_and_rest line text n is at some =
    let P : ℕ → List ℕ → Type 0 = λ k t. words line ≡ take k t ∷ words (take (length t - k) (drop k t)) in
    let begins : 0 < position_or_len is_blank (behind_blanks line) = omega (arith, ap (position_or_len is_blank) is) in
    let m : ℕ = position_or_len is_blank (behind_blanks line) in
    let there : P m (behind_blanks line) =
    words_behind line ∙ first_word_at (behind_blanks line) begins ∙ ap (λ (t : List ℕ). take m (behind_blanks line) ∷ words t) (sym (take_rest (behind_blanks line) m)) in
    let at' : n ≡ m = at ∙ ap (position_or_len is_blank) is in
    subst (λ (k : ℕ). P k text) (sym at') (subst (λ (t : List ℕ). P m t) (sym is) there)

-- a byte of a line that is no blank may stand in a name
visible : (b : ℕ) → IsTextByte b → is_blank b ≡ false → IsNameByte b
visible b text none = grind arith

-- so a word is a name
pub word_is_name : (line text : List ℕ) (n : ℕ) → text ≡ behind_blanks line → IsText line → n ≡ position_or_len is_blank text → 0 < n → IsName (take n text)
word_is_name line text n is ok at some =
    let least = prefix_len-le-length (λ b. not (is_blank b)) text in
    let text-ok : IsText text = subst (λ (t : List ℕ). IsText t) (sym is) (All-drop IsTextByte (prefix_len is_blank line) line ok) in
    let each : (i : ℕ) → i < length (take n text) → IsNameByte (get_or (take n text) i 0) = λ i lt.
    let within : i < n = omega (arith, lt, length-take n text) in
    let within' : i < length text = omega (arith, at, least) in
    let before : i < position_or_len is_blank text = omega arith in
    rw (get_or-take n text i 0 within) (visible (get_or text i 0) (text-ok i 0 within') (fails_before_first is_blank text i 0 before)) in
    record {
      some = λ nil. let none = ap (λ (xs : List ℕ). length xs) nil in absurd (omega (arith, none, length-take n text, least, some, at));
      bytes = All-from_get_or IsNameByte (take n text) 0 each;
    }
