-- The lines of a text are std's: what stands before a line feed, without one carriage return before it, and what
-- stands behind the last line feed, where it has a byte. Here are the words of a line, and what stands in a heading.
use Rattle.std.specs.Prelude.{◌≡◌, ℕ, ◌-◌, ◌≤◌, Bool, true, false, ◌&&◌, ◌||◌, ◌==◌, nat_lt, if◌then◌else◌, ◌⊎◌, List, [], ◌∷◌, length, take, drop, filter, slice_index, slice_range, Option, Some, None, All}
use Rattle.std.specs.List.{slice_split, prefix_len, suffix_len}

-- a byte that may stand in a line: a tab, a space, or printed ASCII
abbrev pub IsTextByte : ℕ → Type 0
IsTextByte b = (b ≡ 9) ⊎ ((0x20 ≤ b) × (b ≤ 0x7E))

abbrev pub IsText : List ℕ → Type 0
IsText line = All IsTextByte line

-- a blank is a space or a tab
abbrev pub is_blank : ℕ → Bool
is_blank b = (b == 32) || (b == 9)

-- bytes between blanks are a word where there is one at least
abbrev pub is_word : List ℕ → Bool
is_word [] = false
is_word (b ∷ bs) = true

-- the words of a line: the runs of bytes between blanks
unfoldable pub words : List ℕ → List (List ℕ)
words line = filter is_word (slice_split is_blank line)

-- a line without words, or whose first word begins with `#`, says nothing
abbrev pub is_silent : List (List ℕ) → Bool
is_silent [] = true
is_silent (word ∷ words) = slice_index word 0 == 35

-- a text without the blanks at its front, and without those at its end
abbrev pub behind_blanks : List ℕ → List ℕ
behind_blanks text = drop (prefix_len is_blank text) text

abbrev pub before_blanks : List ℕ → List ℕ
before_blanks text = take (length text - suffix_len is_blank text) text

-- what stands between `[` and `]`, where a text begins with the one and ends with the other
abbrev pub bracketed : List ℕ → Option (List ℕ)
bracketed text =
    if nat_lt 1 (length text) && ((slice_index text 0 == 91) && (slice_index text (length text - 1) == 93))
    then Some (slice_range text 1 (length text - 1))
    else None

-- A line is a heading where, without the blanks at its ends, it begins with `[` and ends with `]`; this is what stands
-- between the two.
unfoldable pub heading_text : List ℕ → Option (List ℕ)
heading_text line = bracketed (before_blanks (behind_blanks line))
