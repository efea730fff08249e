-- Reading one piece after the other.
use Rattle.std.proofs.Common.{◌≡◌, ℕ, ◌+◌, ◌-◌, ◌<◌, ◌≤◌, List, [], ◌∷◌, ◌++◌, length, take, drop, sym, ap, subst, ◌∙◌, append_assoc, arith}
use Rattle.std.proofs.lemmas.List.{append-nil, drop-drop, length-drop, take_rest}
use Rattle.eq_vlex.specs.declared.piece.Piece.{Piece}
use Rattle.eq_vlex.specs.declared.token.Token.{Token}
use Rattle.eq_vlex.specs.Pieces.{IsPiece, IsFront}
use Rattle.eq_vlex.proofs.Moves.{piece_within}
use Rattle.eq_vlex.specs.Tokens.{token_of, tokens_from, bytes_in}

-- ---- one more piece at the end

front_push : (ps : List Piece) (text mid : List ℕ) (p : Piece) → IsFront ps text mid → IsPiece mid p → IsFront (ps ++ p ∷ []) text (drop p.len mid)
front_push [] text mid p front h = (subst (λ (t : List ℕ). IsPiece t p) (sym front) h, ap (λ (t : List ℕ). drop p.len t) front)
front_push (q ∷ ps) text mid p front h = (front.0, front_push ps (drop q.len text) mid p front.1 h)

bytes_push : (ps : List Piece) (p : Piece) → bytes_in (ps ++ p ∷ []) ≡ bytes_in ps + p.len
bytes_push [] p = omega arith
bytes_push (q ∷ ps) p = let rest = bytes_push ps p in omega arith

tokens_push : (at : ℕ) (ps : List Piece) (p : Piece) → tokens_from at (ps ++ p ∷ []) ≡ tokens_from at ps ++ token_of p.kind (at + bytes_in ps) p.len
tokens_push at [] p =
    let here : at + 0 ≡ at = omega arith in
    append-nil (token_of p.kind at p.len) ∙ ap (λ (k : ℕ). token_of p.kind k p.len) (sym here)
tokens_push at (q ∷ ps) p =
    let there : (at + q.len) + bytes_in ps ≡ at + (q.len + bytes_in ps) = omega arith in
    ap (λ (ts : List Token). token_of q.kind at q.len ++ ts) (tokens_push (at + q.len) ps p ∙ ap (λ (k : ℕ). tokens_from (at + q.len) ps ++ token_of p.kind k p.len) there)
    ∙ sym (append_assoc (token_of q.kind at q.len) (tokens_from (at + q.len) ps) (token_of p.kind (at + (q.len + bytes_in ps)) p.len))

-- ---- the loop over a text

-- the text up to a place is pieces, and these are their tokens
pub record IsReached (text : List ℕ) (at : ℕ) (tokens : List Token) : Type 0 where
  pub pieces : List Piece
  pub front : IsFront pieces text (drop at text)
  pub at_is : at ≡ bytes_in pieces
  pub tokens_are : tokens ≡ tokens_from 0 pieces

pub reached_more : (text : List ℕ) (at : ℕ) (tokens more : List Token) (p : Piece) → IsReached text at tokens → IsPiece (drop at text) p
    → more ≡ tokens ++ token_of p.kind at p.len → IsReached text (at + p.len) more
reached_more text at tokens more p reached h more-is =
    let ps = reached.pieces in
    let rest : drop p.len (drop at text) ≡ drop (at + p.len) text = drop-drop p.len at text in
    record {
      pieces = ps ++ p ∷ [];
      front = subst (λ (t : List ℕ). IsFront (ps ++ p ∷ []) text t) rest (front_push ps text (drop at text) p reached.front h);
      at_is = ap (λ (k : ℕ). k + p.len) reached.at_is ∙ sym (bytes_push ps p);
      tokens_are = more-is ∙ ap (λ (k : ℕ). tokens ++ token_of p.kind k p.len) reached.at_is ∙ ap (λ (ts : List Token). ts ++ token_of p.kind (bytes_in ps) p.len) reached.tokens_are ∙ ap (λ (k : ℕ). tokens_from 0 ps ++ token_of p.kind k p.len) none ∙ sym (tokens_push 0 ps p);
    }
  where
    none : bytes_in reached.pieces ≡ 0 + bytes_in reached.pieces
    none = omega arith

-- the piece at a place, as the code reads it
pub piece_at : (text : List ℕ) (at : ℕ) (p : Piece) → IsPiece (take (length text - at) (drop at text)) p → IsPiece (drop at text) p
piece_at text at p h = subst (λ (t : List ℕ). IsPiece t p) (take_rest text at) h

pub next_within : (text : List ℕ) (at : ℕ) (p : Piece) → at < length text → IsPiece (take (length text - at) (drop at text)) p → (0 < p.len) × (at + p.len ≤ length text)
next_within text at p lt h =
    let inside = piece_within (drop at text) p (piece_at text at p h) in
    (inside.0, omega (arith, inside, length-drop at text))
