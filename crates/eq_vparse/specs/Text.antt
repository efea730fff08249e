-- A text as it is written token by token.
use Rattle.std.specs.Prelude.{ℕ, Bool, true, false, ◌&&◌, List, [], ◌∷◌, ◌++◌}
use Rattle.eq_vlex.specs.declared.token.TokenKind.{TokenKind}
use Rattle.eq_vparse.specs.declared.text.Text.{Text}
use Rattle.eq_vparse.specs.Layout.{Written, token, space, line, spelled, is_word, is_open}

-- a space comes before a word behind a word
abbrev pub gap : Bool → List ℕ
gap true = 32 ∷ []
gap false = []

-- one token more
unfoldable pub put : Text → TokenKind → Text
put text t = record { bytes = text.bytes ++ gap (text.after_word && is_word t) ++ spelled t; after_word = is_open t }

-- the end of a line
unfoldable pub put_line : Text → Text
put_line text = record { bytes = text.bytes ++ 10 ∷ []; after_word = false }

abbrev pub put_all : Text → List TokenKind → Text
put_all text [] = text
put_all text (t ∷ ts) = put_all (put text t) ts

abbrev pub put_written : Text → List Written → Text
put_written text [] = text
put_written text (token t ∷ ws) = put_written (put text t) ws
put_written text (space ∷ ws) = put_written text ws
put_written text (line ∷ ws) = put_written (put_line text) ws
