-- A text whose pieces have given kinds, piece by piece from its end to its front.
use Rattle.std.proofs.Common.{◌≡◌, ℕ, suc, ◌+◌, ◌<◌, Bool, true, false, List, [], ◌∷◌, ◌++◌, length, get_or, map, Option, Some, None, refl, sym, ap, subst, ◌∙◌, arith, inl, inr, cond}
use Rattle.std.specs.List.{prefix_len, take_while, list_all}
use Rattle.std.proofs.lemmas.Bool.{cases_Bool, and_parts}
use Rattle.std.proofs.lemmas.List.{drop_at}
use Rattle.std.proofs.lemmas.List.Sums.{take_while-cons}
use Rattle.eq_vlex.specs.declared.bytes.Class.TheVariants as class
use Rattle.eq_vlex.specs.declared.bytes.Start.{Start}
use Rattle.eq_vlex.specs.declared.bytes.Start.TheVariants as start
use Rattle.eq_vlex.specs.declared.piece.Piece.{Piece}
use Rattle.eq_vlex.specs.declared.token.Token.{Token}
use Rattle.eq_vlex.specs.declared.token.TokenKind.{TokenKind}
use Rattle.eq_vlex.specs.Bytes.{is_in, start_of, begins}
use Rattle.eq_vlex.specs.Pieces.{IsKind, IsLexeme, IsPiece, IsFront}
use Rattle.eq_vlex.specs.Tokens.{token_of, tokens_from, HasTokens}

-- ---- kinds of pieces

pub kind_list : Option TokenKind → List TokenKind
kind_list None = []
kind_list (Some kind) = kind ∷ []

pub kinds_of : List Piece → List TokenKind
unfolding kind_list
kinds_of [] = []
kinds_of (piece ∷ pieces) = kind_list piece.kind ++ kinds_of pieces

pub record Reads (text : List ℕ) (kinds : List TokenKind) : Type 0 where
  pub pieces : List Piece
  pub whole : IsFront pieces text []
  pub kinds_are : kinds_of pieces ≡ kinds

token_kinds : (at len : ℕ) (kind : Option TokenKind) (ts : List Token) (ks : List TokenKind) → map (λ (t : Token). t.kind) ts ≡ ks → map (λ (t : Token). t.kind) (token_of kind at len ++ ts) ≡ kind_list kind ++ ks
unfolding kind_list
token_kinds at len None ts ks e = e
token_kinds at len (Some kind) ts ks e = ap (λ (us : List TokenKind). kind ∷ us) e

kinds_from : (at : ℕ) (ps : List Piece) → map (λ (t : Token). t.kind) (tokens_from at ps) ≡ kinds_of ps
unfolding kinds_of
kinds_from at [] = refl
kinds_from at (p ∷ ps) = token_kinds at p.len p.kind (tokens_from (at + p.len) ps) (kinds_of ps) (kinds_from (at + p.len) ps)

pub tokens_read : (text : List ℕ) (kinds : List TokenKind) → Reads text kinds → (ts : List Token) × HasTokens text ts × (map (λ (t : Token). t.kind) ts ≡ kinds)
tokens_read text kinds h =
    (tokens_from 0 h.pieces, record { pieces = h.pieces; whole = h.whole; tokens_are = refl }, kinds_from 0 h.pieces ∙ h.kinds_are)

pub nothing_read : Reads [] []
unfolding kinds_of
nothing_read = record { pieces = []; whole = refl; kinds_are = refl }

-- ---- a token in front

pub put_token : (bytes rest : List ℕ) (kind : TokenKind) (kinds : List TokenKind) → IsLexeme (begins (bytes ++ rest)) (bytes ++ rest) (length bytes) kind → Reads rest kinds → Reads (bytes ++ rest) (kind ∷ kinds)
unfolding kinds_of kind_list
put_token bytes rest kind kinds lexeme h =
    record {
      pieces = record { len = length bytes; kind = Some kind } ∷ h.pieces;
      whole = (lexeme, subst (λ (t : List ℕ). IsFront h.pieces t []) (sym (drop_at bytes rest (length bytes) refl)) h.whole);
      kinds_are = ap (λ (ks : List TokenKind). kind ∷ ks) h.kinds_are;
    }

-- ---- white space in front

white_begins : (a b : ℕ) → is_in class.White a ≡ true → start_of a b ≡ start.White
white_begins a b e = rw e refl

begins_white : (b : ℕ) (text : List ℕ) → is_in class.White b ≡ true → begins (b ∷ text) ≡ start.White
unfolding begins
begins_white b text e = white_begins b (get_or text 0 0) e

white_run : (b : ℕ) (text : List ℕ) → is_in class.White b ≡ true → prefix_len (is_in class.White) (b ∷ text) ≡ 1 + prefix_len (is_in class.White) text
white_run b text e = rw e refl

no_run : (text : List ℕ) → is_in class.White (get_or text 0 0) ≡ false → prefix_len (is_in class.White) text ≡ 0
no_run [] e = refl
no_run (b ∷ text) e = rw e refl

white_piece : (b : ℕ) (text : List ℕ) (len : ℕ) → is_in class.White b ≡ true → len ≡ prefix_len (is_in class.White) text → IsKind (begins (b ∷ text)) (b ∷ text) (suc len) None
white_piece b text len e len-is =
    let here : suc len ≡ prefix_len (is_in class.White) (b ∷ text) = omega (arith, white_run b text e, len-is) in
    subst (λ (s : Start). IsKind s (b ∷ text) (suc len) None) (sym (begins_white b text e)) here

-- white space that begins a text is a piece of its own
first_white : (text : List ℕ) (p : Piece) → is_in class.White (get_or text 0 0) ≡ true → IsPiece text p → (p.len ≡ prefix_len (is_in class.White) text) × (kind_list p.kind ≡ [])
unfolding begins kind_list
first_white text p e h = from p.kind (subst (λ (s : Start). IsKind s text p.len p.kind) (white_begins (get_or text 0 0) (get_or text 1 0) e) h)
  where
    from : (kind : Option TokenKind) → IsKind start.White text p.len kind → (p.len ≡ prefix_len (is_in class.White) text) × (kind_list kind ≡ [])
    from None is = (is, refl)
    from (Some kind) is = absurd is

longer_white : (b : ℕ) (text : List ℕ) (p : Piece) (ps : List Piece) → is_in class.White b ≡ true → is_in class.White (get_or text 0 0) ≡ true → IsFront (p ∷ ps) text [] → Reads (b ∷ text) (kinds_of (p ∷ ps))
unfolding kinds_of kind_list
longer_white b text p ps e next whole =
    let first = first_white text p next whole.0 in
    record {
      pieces = record { len = suc p.len; kind = None } ∷ ps;
      whole = (white_piece b text p.len e first.0, whole.1);
      kinds_are = ap (λ (ks : List TokenKind). ks ++ kinds_of ps) (sym first.1);
    }

shortest_white : (b : ℕ) (text : List ℕ) (ps : List Piece) → is_in class.White b ≡ true → prefix_len (is_in class.White) text ≡ 0 → IsFront ps text [] → Reads (b ∷ text) (kinds_of ps)
unfolding kinds_of kind_list
shortest_white b text ps e none whole =
    record {
      pieces = record { len = 1; kind = None } ∷ ps;
      whole = (white_piece b text 0 e (sym none), whole);
      kinds_are = refl;
    }

put_white_before : (b : ℕ) (text : List ℕ) (ps : List Piece) → is_in class.White b ≡ true → IsFront ps text [] → Reads (b ∷ text) (kinds_of ps)
put_white_before b text [] e whole = shortest_white b text [] e (ap (λ (t : List ℕ). prefix_len (is_in class.White) t) whole) whole
put_white_before b text (p ∷ ps) e whole =
    elim (cases_Bool (is_in class.White (get_or text 0 0))) [
      | inl next ↦ longer_white b text p ps e next whole
      | inr other ↦ shortest_white b text (p ∷ ps) e (no_run text other) whole
    ]

pub put_white : (b : ℕ) (text : List ℕ) (kinds : List TokenKind) → is_in class.White b ≡ true → Reads text kinds → Reads (b ∷ text) kinds
put_white b text kinds e h = subst (λ (ks : List TokenKind). Reads (b ∷ text) ks) h.kinds_are (put_white_before b text h.pieces e h.whole)

-- ---- runs

-- a run ends where the next byte is of another class
pub run_is : (p : ℕ → Bool) (xs rest : List ℕ) → list_all p xs ≡ true → p (get_or rest 0 0) ≡ false → take_while p (xs ++ rest) ≡ xs
run_is p [] [] all stops = refl
run_is p [] (b ∷ rest) all stops = rw stops refl
run_is p (x ∷ xs) rest all stops =
    let parts = and_parts (p x) (list_all p xs) all in
    let more : cond (p x) (x ∷ take_while p (xs ++ rest)) [] ≡ x ∷ xs = rw parts.0 (ap (λ (ys : List ℕ). x ∷ ys) (run_is p xs rest parts.1 stops)) in
    take_while-cons p x (xs ++ rest) ∙ more

-- the first byte of a list that has one
pub first_stays : (xs rest : List ℕ) → 0 < length xs → get_or (xs ++ rest) 0 0 ≡ get_or xs 0 0
first_stays [] rest some = absurd (omega arith)
first_stays (x ∷ xs) rest some = refl
