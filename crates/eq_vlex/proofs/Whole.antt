-- A text has one list of tokens or one first fault, and not both; spans are in order.
use Rattle.std.proofs.Common.{◌≡◌, ℕ, ◌+◌, ◌-◌, ◌<◌, ◌≤◌, List, [], ◌∷◌, ◌++◌, length, drop, Option, Some, None, Result, Ok, Err, refl, sym, ap, subst, ◌∙◌, arith, inl, inr}
use Rattle.std.specs.Prelude.{IfOk, IfErr}
use Rattle.std.specs.List.{AllByRecursion}
use Rattle.std.proofs.lemmas.List.{length-drop, drop-drop}
use Rattle.eq_vlex.specs.declared.fault.LexKind.{LexKind}
use Rattle.eq_vlex.specs.declared.fault.LexErr.{LexErr}
use Rattle.eq_vlex.specs.declared.fault.LexErr.TheVariants as error
use Rattle.eq_vlex.specs.declared.piece.Piece.{Piece}
use Rattle.eq_vlex.specs.declared.token.Token.{Token}
use Rattle.eq_vlex.specs.declared.token.TokenKind.{TokenKind}
use Rattle.eq_vlex.specs.Bytes.{begins}
use Rattle.eq_vlex.specs.Pieces.{IsKind, IsLexeme, IsPiece, IsFront, BeginsFault}
use Rattle.eq_vlex.specs.Tokens.{token_of, tokens_from, bytes_in, HasTokens, HasFault, Explains, AreInOrder, IsOrNoMemory}
use Rattle.eq_vlex.proofs.Moves.{piece_within}
use Rattle.eq_vlex.proofs.Unique.{kind_unique, fault_unique, kind_not_bad}

-- ---- one piece at a time

no_piece : (text : List ℕ) (p : Piece) → text ≡ [] → IsPiece text p → ⊥
no_piece text p nil h =
    let inside = piece_within text p h in
    let none = ap (λ (t : List ℕ). length t) nil in
    absurd (omega (arith, inside, none))

no_fault : (text : List ℕ) (p : Piece) (f : LexKind) → IsPiece text p → BeginsFault text f → ⊥
no_fault text p f h bad = kind_not_bad (begins text) text p.len p.kind f h bad.1

same_piece : (text : List ℕ) (p q : Piece) → IsPiece text p → IsPiece text q → p ≡ q
same_piece text p q a b =
    let same = kind_unique (begins text) text p.len q.len p.kind q.kind a b in
    λ i. record { len = same.0 i; kind = same.1 i }

-- ---- all pieces

same_pieces : (ps qs : List Piece) (text : List ℕ) → IsFront ps text [] → IsFront qs text [] → ps ≡ qs
same_pieces [] [] text a b = refl
same_pieces [] (q ∷ qs) text a b = absurd (no_piece text q a b.0)
same_pieces (p ∷ ps) [] text a b = absurd (no_piece text p b a.0)
same_pieces (p ∷ ps) (q ∷ qs) text a b =
    let head = same_piece text p q a.0 b.0 in
    let tail = same_pieces ps qs (drop p.len text) a.1 (subst (λ (r : Piece). IsFront qs (drop r.len text) []) (sym head) b.1) in
    λ i. head i ∷ tail i

same_fault : (ps qs : List Piece) (text rest others : List ℕ) (f g : LexKind) → IsFront ps text rest → BeginsFault rest f → IsFront qs text others → BeginsFault others g → (bytes_in ps ≡ bytes_in qs) × (f ≡ g)
same_fault [] [] text rest others f g a bad b worse =
    let here = subst (λ (t : List ℕ). BeginsFault t f) (sym a) bad in
    let there = subst (λ (t : List ℕ). BeginsFault t g) (sym b) worse in
    (refl, fault_unique (begins text) text f g here.1 there.1)
same_fault [] (q ∷ qs) text rest others f g a bad b worse = absurd (no_fault text q f b.0 (subst (λ (t : List ℕ). BeginsFault t f) (sym a) bad))
same_fault (p ∷ ps) [] text rest others f g a bad b worse = absurd (no_fault text p g a.0 (subst (λ (t : List ℕ). BeginsFault t g) (sym b) worse))
same_fault (p ∷ ps) (q ∷ qs) text rest others f g a bad b worse =
    let head = same_piece text p q a.0 b.0 in
    let tail = same_fault ps qs (drop p.len text) rest others f g a.1 bad (subst (λ (r : Piece). IsFront qs (drop r.len text) others) (sym head) b.1) worse in
    ((λ i. (head i).len + tail.0 i), tail.1)

pieces_or_fault : (ps qs : List Piece) (text rest : List ℕ) (f : LexKind) → IsFront ps text [] → IsFront qs text rest → BeginsFault rest f → ⊥
pieces_or_fault [] [] text rest f a b bad = let none = ap (λ (t : List ℕ). length t) (sym b ∙ a) in absurd (omega (arith, none, bad.0))
pieces_or_fault [] (q ∷ qs) text rest f a b bad = no_piece text q a b.0
pieces_or_fault (p ∷ ps) [] text rest f a b bad = no_fault text p f a.0 (subst (λ (t : List ℕ). BeginsFault t f) (sym b) bad)
pieces_or_fault (p ∷ ps) (q ∷ qs) text rest f a b bad =
    let head = same_piece text p q a.0 b.0 in
    pieces_or_fault ps qs (drop p.len text) rest f a.1 (subst (λ (r : Piece). IsFront qs (drop r.len text) rest) (sym head) b.1) bad

-- ---- whole texts

pub one_list : (text : List ℕ) (ts us : List Token) → HasTokens text ts → HasTokens text us → ts ≡ us
one_list text ts us a b = a.tokens_are ∙ ap (tokens_from 0) (same_pieces a.pieces b.pieces text a.whole b.whole) ∙ sym b.tokens_are

pub one_fault : (text : List ℕ) (i j : ℕ) (f g : LexKind) → HasFault text i f → HasFault text j g → (i ≡ j) × (f ≡ g)
one_fault text i j f g a b =
    let same = same_fault a.pieces b.pieces text a.rest b.rest f g a.front a.fault_is b.front b.fault_is in
    (a.at_is ∙ same.0 ∙ sym b.at_is, same.1)

pub not_both : (text : List ℕ) (ts : List Token) (i : ℕ) (f : LexKind) → HasTokens text ts → HasFault text i f → ⊥
not_both text ts i f a b = pieces_or_fault a.pieces b.pieces text b.rest f a.whole b.front b.fault_is

-- ---- spans

in_order_from : (low from to : ℕ) (ts : List Token) → low ≤ from → AreInOrder from to ts → AreInOrder low to ts
in_order_from low from to [] le h = omega arith
in_order_from low from to (t ∷ ts) le h = let first = h.0 in (omega arith, h.1, h.2)

put_in_order : (kind : Option TokenKind) (at len to : ℕ) (ts : List Token) → 0 < len → AreInOrder (at + len) to ts → AreInOrder at to (token_of kind at len ++ ts)
put_in_order None at len to ts some h = in_order_from at (at + len) to ts (omega arith) h
put_in_order (Some kind) at len to ts some h = (omega arith, omega arith, h)

pieces_in_order : (at : ℕ) (ps : List Piece) (text : List ℕ) → IsFront ps text [] → AreInOrder at (at + length text) (tokens_from at ps)
pieces_in_order at [] text front = omega arith
pieces_in_order at (p ∷ ps) text front =
    let inside = piece_within text p front.0 in
    let end : (at + p.len) + length (drop p.len text) ≡ at + length text = omega (arith, length-drop p.len text, inside.1) in
    put_in_order p.kind at p.len (at + length text) (tokens_from (at + p.len) ps) inside.0 (subst (λ (to : ℕ). AreInOrder (at + p.len) to (tokens_from (at + p.len) ps)) end (pieces_in_order (at + p.len) ps (drop p.len text) front.1))

pub in_order : (text : List ℕ) (ts : List Token) → HasTokens text ts → AreInOrder 0 (length text) ts
in_order text ts h =
    let whole = pieces_in_order 0 h.pieces text h.whole in
    let end : 0 + length text ≡ length text = omega arith in
    subst (λ (us : List Token). AreInOrder 0 (length text) us) (sym h.tokens_are) (subst (λ (to : ℕ). AreInOrder 0 to (tokens_from 0 h.pieces)) end whole)

-- ---- what a result that is right says the other way round

pub spans_of : (text : List ℕ) (r : Result (List Token) LexErr) → IfOk r (HasTokens text) → IfOk r (AreInOrder 0 (length text))
spans_of text (Ok ts) ok = in_order text ts ok
spans_of text (Err e) ok = tt

pub only_list : (text : List ℕ) (r : Result (List Token) LexErr) → IfOk r (HasTokens text) → IfErr r (Explains text) → (ts : List Token) → HasTokens text ts → IsOrNoMemory r (Ok ts)
only_list text (Ok us) ok err ts h = inl (ap (λ (xs : List Token). Ok xs) (one_list text us ts ok h))
only_list text (Err (error.At at f)) ok err ts h = absurd (not_both text ts at f h err)
only_list text (Err error.Memory) ok err ts h = inr refl

pub only_fault : (text : List ℕ) (r : Result (List Token) LexErr) → IfOk r (HasTokens text) → IfErr r (Explains text) → (at : ℕ) (f : LexKind) → HasFault text at f → IsOrNoMemory r (Err (error.At at f))
only_fault text (Ok us) ok err at f h = absurd (not_both text us at f ok h)
only_fault text (Err (error.At i g)) ok err at f h =
    let same = one_fault text i at g f err h in
    inl (λ k. Err (error.At (same.0 k) (same.1 k)))
only_fault text (Err error.Memory) ok err at f h = inr refl

-- ---- each token at its span

abbrev Stands : List ℕ → Token → Type 0
Stands text t = IsLexeme (begins (drop t.start text)) (drop t.start text) (t.end - t.start) t.kind

put_token_there : (text : List ℕ) (p : Piece) (at : ℕ) (ts : List Token) → IsPiece (drop at text) p → AllByRecursion (Stands text) ts → AllByRecursion (Stands text) (token_of p.kind at p.len ++ ts)
put_token_there text p at ts h all = there text p.len at p.kind ts h all
  where
    there : (text : List ℕ) (len at : ℕ) (kind : Option TokenKind) (ts : List Token) → IsKind (begins (drop at text)) (drop at text) len kind → AllByRecursion (Stands text) ts → AllByRecursion (Stands text) (token_of kind at len ++ ts)
    there text len at None ts h all = all
    there text len at (Some kind) ts h all =
        let same : len ≡ (at + len) - at = omega arith in
        (subst (λ (n : ℕ). IsLexeme (begins (drop at text)) (drop at text) n kind) same h, all)

pieces_stand : (text : List ℕ) (at : ℕ) (ps : List Piece) → IsFront ps (drop at text) [] → AllByRecursion (Stands text) (tokens_from at ps)
pieces_stand text at [] front = tt
pieces_stand text at (p ∷ ps) front =
    let rest = subst (λ (t : List ℕ). IsFront ps t []) (drop-drop p.len at text) front.1 in
    put_token_there text p at (tokens_from (at + p.len) ps) front.0 (pieces_stand text (at + p.len) ps rest)

pub tokens_stand : (text : List ℕ) (ts : List Token) → HasTokens text ts → AllByRecursion (Stands text) ts
tokens_stand text ts h = subst (λ (us : List Token). AllByRecursion (Stands text) us) (sym h.tokens_are) (pieces_stand text 0 h.pieces h.whole)
