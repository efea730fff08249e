-- A token that is read is the token that stands there, and a token that stands there is read.
use Rattle.std.proofs.Common.{◌≡◌, ℕ, suc, ◌+◌, ◌<◌, ◌≤◌, ◌⊎◌, Bool, true, false, cond, ◌&&◌, leb, List, [], ◌∷◌, ◌++◌, length, take, drop, Option, Some, None, refl, sym, ap, subst, ◌∙◌, inl, inr, append_assoc, arith, length-append, length-drop}
use Rattle.std.specs.Prelude.{All, ◌==◌}
use Rattle.std.specs.List.{list_all, prefix_len}
use Rattle.std.specs.Bool.{Decides}
use Rattle.std.proofs.lemmas.Bool.{and_parts, leb-true, le-leb, eqb-true, eq-eqb, ne_eqb, cases_Bool}
use Rattle.std.proofs.lemmas.Bool.Decides.{Decides-by_and, Decides-and, Decides-or, Decides-eqb}
use Rattle.std.proofs.lemmas.List.{take-append-drop, take_at, drop_at, append-nil}
use Rattle.std.proofs.lemmas.List.Elements.{All-nil, All-append}
use Rattle.std.proofs.lemmas.Option.{some_pair_parts, same_Some, none-some}
use Rattle.eq_first.specs.declared.token.Mark.{Mark}
use Rattle.eq_first.specs.declared.token.Mark.TheVariants.{Open, Close, Comma, Semicolon, Equals, Not, And, Xor, Or}
use Rattle.eq_first.specs.Tokens.{Token, word, mark, IsSpace, BeginsWord, IsWordByte, byte_of, spelled, IsToken, EndsBefore, Begins, HasTokens}
use Rattle.eq_first.specs.Lines.{◌>>=◌}
use Rattle.eq_first.specs.Lexing.{is_space, begins_word, is_word_byte, mark_at, skip, is_split, word_at, token_at}
use Rattle.eq_first.proofs.Texts.{bind_some}

-- ---- the front that passes a test

-- the first element doesn't pass
abbrev pub Stops : (ℕ → Bool) → List ℕ → Type 0
Stops p [] = Unit {0}
Stops p (x ∷ xs) = p x ≡ false

run_is : (p : ℕ → Bool) (xs ys : List ℕ) → list_all p xs ≡ true → Stops p ys → prefix_len p (xs ++ ys) ≡ length xs
run_is p [] [] h s = refl
run_is p [] (y ∷ ys) h s = rw s refl
run_is p (x ∷ xs) ys h s = let q = and_parts (p x) (list_all p xs) h in rw (q.0, run_is p xs ys q.1 s) (omega arith)

front_passes : (p : ℕ → Bool) (xs : List ℕ) → list_all p (take (prefix_len p xs) xs) ≡ true
front_passes p [] = refl
front_passes p (x ∷ xs) =
    elim (cases_Bool (p x)) [
      | inl e ↦ let n : 1 + prefix_len p xs ≡ suc (prefix_len p xs) = omega arith in rw (e, n, e, front_passes p xs) refl
      | inr e ↦ rw e refl
    ]

rest_stops : (p : ℕ → Bool) (xs : List ℕ) → Stops p (drop (prefix_len p xs) xs)
rest_stops p [] = tt
rest_stops p (x ∷ xs) =
    elim (cases_Bool (p x)) [
      | inl e ↦ let n : 1 + prefix_len p xs ≡ suc (prefix_len p xs) = omega arith in rw (e, n) (rest_stops p xs)
      | inr e ↦ rw e e
    ]

-- ---- bytes

leb-Decides : (a b : ℕ) → Decides (leb a b) (a ≤ b)
leb-Decides a b = (leb-true a b, le-leb a b)

range-Decides : (a b x : ℕ) → Decides (leb a x && leb x b) ((a ≤ x) × (x ≤ b))
range-Decides a b x = Decides-and (leb a x) (leb x b) (leb-Decides a x) (leb-Decides x b)

space-Decides : (b : ℕ) → Decides (is_space b) (IsSpace b)
space-Decides b = Decides-or (b == 32) _ (Decides-eqb b 32) (Decides-or (b == 9) _ (Decides-eqb b 9) (Decides-or (b == 10) _ (Decides-eqb b 10) (Decides-or (b == 12) (b == 13) (Decides-eqb b 12) (Decides-eqb b 13))))

begins-Decides : (b : ℕ) → Decides (begins_word b) (BeginsWord b)
begins-Decides b = Decides-or (leb 65 b && leb b 90) _ (range-Decides 65 90 b) (Decides-or (leb 97 b && leb b 122) (b == 95) (range-Decides 97 122 b) (Decides-eqb b 95))

word_byte-Decides : (b : ℕ) → Decides (is_word_byte b) (IsWordByte b)
word_byte-Decides b = Decides-or (begins_word b) _ (begins-Decides b) (Decides-or (leb 48 b && leb b 57) (b == 36) (range-Decides 48 57 b) (Decides-eqb b 36))

spaces-Decides : (bs : List ℕ) → Decides (list_all is_space bs) (All IsSpace bs)
spaces-Decides = Decides-by_and is_space IsSpace (list_all is_space) space-Decides refl (λ _ _. refl)

word_bytes-Decides : (bs : List ℕ) → Decides (list_all is_word_byte bs) (All IsWordByte bs)
word_bytes-Decides = Decides-by_and is_word_byte IsWordByte (list_all is_word_byte) word_byte-Decides refl (λ _ _. refl)

pub false_from_not : (b : Bool) → (b ≡ true → ⊥) → b ≡ false
false_from_not true h = absurd (h refl)
false_from_not false h = refl

pub not_from_false : (b : Bool) → b ≡ false → b ≡ true → ⊥
not_from_false b e f = absurd cc

begin_no_space : (b : ℕ) → BeginsWord b → is_space b ≡ false
begin_no_space b h = false_from_not (is_space b) (λ e. apart b h ((space-Decides b).0 e)) where
  apart : (b : ℕ) → BeginsWord b → IsSpace b → ⊥
  apart b h k = grind arith

-- ---- the token at the front

one_mark : (b k : ℕ) (x m : Mark) (o : Option Mark) → byte_of x ≡ k → (o ≡ Some m → b ≡ byte_of m) → cond (b == k) (Some x) o ≡ Some m → b ≡ byte_of m
one_mark b k x m o is others e =
    elim (cases_Bool (b == k)) [
      | inl same ↦ let f : Some x ≡ Some m = (rw same at e) in eqb-true b k same ∙ sym is ∙ ap byte_of (same_Some x m f)
      | inr other ↦ others (rw other at e)
    ]

mark_is : (b : ℕ) (m : Mark) → mark_at b ≡ Some m → b ≡ byte_of m
unfolding mark_at
mark_is b m = one_mark b 40 Open m _ refl (one_mark b 41 Close m _ refl (one_mark b 44 Comma m _ refl (one_mark b 59 Semicolon m _ refl (one_mark b 61 Equals m _ refl (one_mark b 126 Not m _ refl (one_mark b 38 And m _ refl (one_mark b 94 Xor m _ refl (one_mark b 124 Or m _ refl (λ e. absurd (none-some m e))))))))))

split_ends : (m : Mark) (bs : List ℕ) → is_split m bs ≡ false → EndsBefore (mark m) bs
split_ends m [] e = tt
split_ends Xor (b ∷ bs) e = λ same. not_from_false (b == 126) e (eq-eqb b 126 same)
split_ends m (b ∷ bs) e = tt

ends_split : (m : Mark) (bs : List ℕ) → EndsBefore (mark m) bs → is_split m bs ≡ false
ends_split Xor [] h = refl
ends_split Xor (b ∷ bs) h = ne_eqb b 126 h
ends_split m bs h = refl

pub chosen : {A : Type 0} (b : Bool) (x y z : A) → cond b x y ≡ z → ((b ≡ true) × (x ≡ z)) ⊎ ((b ≡ false) × (y ≡ z))
chosen true x y z e = inl (refl, e)
chosen false x y z e = inr (refl, e)

-- what a token that is read tells
pub record Fronts (text : List ℕ) (t : Token) (rest : List ℕ) : Type 0 where
  pub token : IsToken t
  pub ends : EndsBefore t rest
  pub parts : text ≡ spelled t ++ rest

stops_word : (rest w : List ℕ) → Stops is_word_byte rest → EndsBefore (word w) rest
stops_word [] w h = tt
stops_word (b ∷ rest) w h = λ k. not_from_false (is_word_byte b) h ((word_byte-Decides b).1 k)

word_stops : (rest w : List ℕ) → EndsBefore (word w) rest → Stops is_word_byte rest
word_stops [] w h = tt
word_stops (b ∷ rest) w h = false_from_not (is_word_byte b) (λ e. h ((word_byte-Decides b).0 e))

word_takes : (b : ℕ) (bs : List ℕ) → begins_word b ≡ true → Fronts (b ∷ bs) (word_at (b ∷ bs)).0 (word_at (b ∷ bs)).1
unfolding word_at
word_takes b bs e =
    let n : 1 + prefix_len is_word_byte bs ≡ suc (prefix_len is_word_byte bs) = omega arith in
    rw (e, n) (record {
      token = ((begins-Decides b).0 e, (word_bytes-Decides _).0 (front_passes is_word_byte bs));
      ends = stops_word (drop (prefix_len is_word_byte bs) bs) (b ∷ take (prefix_len is_word_byte bs) bs) (rest_stops is_word_byte bs);
      parts = ap (λ (t : List ℕ). b ∷ t) (sym (take-append-drop (prefix_len is_word_byte bs) bs));
    })

pub token_takes : (text : List ℕ) (t : Token) (rest : List ℕ) → token_at text ≡ Some (t, rest) → Fronts text t rest
unfolding token_at
token_takes [] t rest e = absurd cc
token_takes (b ∷ bs) t rest e =
    elim (chosen (begins_word b) (Some (word_at (b ∷ bs))) (mark_at b >>= λ m. cond (is_split m bs) None (Some (mark m, bs))) (Some (t, rest)) e) [
      | inl p ↦ let P : Token × List ℕ → Type 0 = λ r. Fronts (b ∷ bs) r.0 r.1 in subst P (same_Some (word_at (b ∷ bs)) (t, rest) p.1) (word_takes b bs p.0)
      | inr p ↦
          let a = bind_some (mark_at b) (λ m. cond (is_split m bs) None (Some (mark m, bs))) (t, rest) p.1 in
          elim (chosen (is_split a.0 bs) None (Some (mark a.0, bs)) (Some (t, rest)) a.2) [
            | inl q ↦ absurd (none-some (t, rest) q.1)
            | inr q ↦
                let P : Token × List ℕ → Type 0 = λ r. Fronts (b ∷ bs) r.0 r.1 in
                subst P (same_Some (mark a.0, bs) (t, rest) q.1) (record { token = tt; ends = split_ends a.0 bs q.0; parts = ap (λ (x : ℕ). x ∷ bs) (mark_is b a.0 a.1) })
          ]
    ]

mark_again : (m : Mark) (rest : List ℕ) → is_split m rest ≡ false → token_at (byte_of m ∷ rest) ≡ Some (mark m, rest)
unfolding token_at mark_at
mark_again Open rest h = refl
mark_again Close rest h = refl
mark_again Comma rest h = refl
mark_again Semicolon rest h = refl
mark_again Equals rest h = refl
mark_again Not rest h = refl
mark_again And rest h = refl
mark_again Xor rest h = rw h refl
mark_again Or rest h = refl

token_word : (b : ℕ) (bs : List ℕ) → begins_word b ≡ true → token_at (b ∷ bs) ≡ Some (word_at (b ∷ bs))
unfolding token_at
token_word b bs e = rw e refl

cut_at : (n : ℕ) (xs ys : List ℕ) → n ≡ length xs → ◌≡◌ {A = Token × List ℕ} (word (take n (xs ++ ys)), drop n (xs ++ ys)) (word xs, ys)
cut_at n xs ys e = let front = take_at xs ys n (sym e) in let back = drop_at xs ys n (sym e) in cc

word_again : (w rest : List ℕ) → list_all is_word_byte w ≡ true → EndsBefore (word w) rest → word_at (w ++ rest) ≡ (word w, rest)
unfolding word_at
word_again w rest all ends = cut_at (prefix_len is_word_byte (w ++ rest)) w rest (run_is is_word_byte w rest all (word_stops rest w ends))

pub token_again : (t : Token) (rest : List ℕ) → IsToken t → EndsBefore t rest → token_at (spelled t ++ rest) ≡ Some (t, rest)
token_again (word []) rest h ends = absurd h
token_again (word (b ∷ bs)) rest h ends =
    let first = (begins-Decides b).1 h.0 in
    let all : list_all is_word_byte (b ∷ bs) ≡ true = rw (first, (word_bytes-Decides bs).1 h.1) refl in
    token_word b (bs ++ rest) first ∙ ap Some (word_again (b ∷ bs) rest all ends)
token_again (mark m) rest h ends = mark_again m rest (ends_split m rest ends)

-- ---- white space

skip_stops : (text : List ℕ) → Stops is_space (skip text)
unfolding skip
skip_stops text = rest_stops is_space text

skip_parts : (text : List ℕ) → (gap : List ℕ) × All IsSpace gap × (text ≡ gap ++ skip text)
unfolding skip
skip_parts text = (take (prefix_len is_space text) text, (spaces-Decides _).0 (front_passes is_space text), sym (take-append-drop (prefix_len is_space text) text))

skip_gap : (gap rest : List ℕ) → All IsSpace gap → Stops is_space rest → skip (gap ++ rest) ≡ rest
unfolding skip
skip_gap gap rest h s = drop_at gap rest (prefix_len is_space (gap ++ rest)) (sym (run_is is_space gap rest ((spaces-Decides gap).1 h) s))

mark_no_space : (m : Mark) → is_space (byte_of m) ≡ false
mark_no_space Open = refl
mark_no_space Close = refl
mark_no_space Comma = refl
mark_no_space Semicolon = refl
mark_no_space Equals = refl
mark_no_space Not = refl
mark_no_space And = refl
mark_no_space Xor = refl
mark_no_space Or = refl

token_no_space : (t : Token) (rest : List ℕ) → IsToken t → Stops is_space (spelled t ++ rest)
token_no_space (word []) rest h = absurd h
token_no_space (word (b ∷ bs)) rest h = begin_no_space b h.0
token_no_space (mark m) rest h = mark_no_space m

skip_all : (text : List ℕ) → All IsSpace text → skip text ≡ []
skip_all text h = ap skip (sym (append-nil text)) ∙ skip_gap text [] h tt

-- a token that stands at the front of a text is read
pub begun : (text : List ℕ) (t : Token) (rest : List ℕ) → Begins text t rest → (skip text ≡ spelled t ++ rest) × (token_at (skip text) ≡ Some (t, rest))
begun text t rest h =
    let front : skip text ≡ spelled t ++ rest = ap skip h.parts ∙ skip_gap h.gap (spelled t ++ rest) h.space (token_no_space t rest h.token) in
    (front, ap token_at front ∙ token_again t rest h.token h.ends)

pub begins_here : (text : List ℕ) (t : Token) (rest : List ℕ) → token_at (skip text) ≡ Some (t, rest) → Begins text t rest
begins_here text t rest e =
    let s = skip_parts text in
    let f = token_takes (skip text) t rest e in
    record { gap = s.0; space = s.1; token = f.token; ends = f.ends; parts = s.2 ∙ ap (λ (x : List ℕ). s.0 ++ x) f.parts }

skip_twice : (text : List ℕ) → skip (skip text) ≡ skip text
skip_twice text = skip_gap [] (skip text) (All-nil IsSpace) (skip_stops text)

-- ---- all tokens

pub has_skip : (text : List ℕ) (ts : List Token) → HasTokens text ts → HasTokens (skip text) ts
has_skip text [] h = let P : List ℕ → Type 0 = λ x. All IsSpace x in subst P (sym (skip_all text h)) (All-nil IsSpace)
has_skip text (t ∷ ts) h =
    let read : token_at (skip (skip text)) ≡ Some (t, h.0) = ap token_at (skip_twice text) ∙ (begun text t h.0 h.1).1 in
    (h.0, begins_here (skip text) t h.0 read, h.2)

pub skip_has : (text : List ℕ) (ts : List Token) → HasTokens (skip text) ts → HasTokens text ts
skip_has text [] h =
    let s = skip_parts text in
    let P : List ℕ → Type 0 = λ x. All IsSpace x in
    subst P (sym s.2) (All-append IsSpace s.0 (skip text) s.1 h)
skip_has text (t ∷ ts) h =
    let read : token_at (skip text) ≡ Some (t, h.0) = sym (ap token_at (skip_twice text)) ∙ (begun (skip text) t h.0 h.1).1 in
    (h.0, begins_here text t h.0 read, h.2)

nothing : (text : List ℕ) → All IsSpace text → token_at (skip text) ≡ None
unfolding token_at
nothing text h = rw (skip_all text h) refl

-- two readings of one text
pub same_tokens : (text : List ℕ) (ts us : List Token) → HasTokens text ts → HasTokens text us → ts ≡ us
same_tokens text [] [] h k = refl
same_tokens text [] (u ∷ us) h k = absurd (none-some (u, k.0) (sym (nothing text h) ∙ (begun text u k.0 k.1).1))
same_tokens text (t ∷ ts) [] h k = absurd (none-some (t, h.0) (sym (nothing text k) ∙ (begun text t h.0 h.1).1))
same_tokens text (t ∷ ts) (u ∷ us) h k =
    let same = some_pair_parts t u h.0 k.0 (sym (begun text t h.0 h.1).1 ∙ (begun text u k.0 k.1).1) in
    let P : List ℕ → Type 0 = λ x. HasTokens x ts in
    let more = same_tokens k.0 ts us (subst P same.1 h.2) k.2 in
    cc

-- the tokens found so far, and the text behind them
pub record Cut (text rest : List ℕ) (found : List Token) : Type 0 where
  pub back : (ts : List Token) → HasTokens rest ts → HasTokens text (found ++ ts)
  pub on : (ts : List Token) → HasTokens text ts → (more : List Token) × (ts ≡ found ++ more) × HasTokens rest more
  pub trimmed : skip rest ≡ rest

started : (text : List ℕ) → Cut text (skip text) []
started text = record { back = λ ts h. skip_has text ts h; on = λ ts h. (ts, refl, has_skip text ts h); trimmed = skip_twice text }

pub cut_start : (text rest : List ℕ) (found : List Token) → rest ≡ skip text → found ≡ [] → Cut text rest found
cut_start text rest found e f = rw (e, f) (started text)

more_cut : (text rest after : List ℕ) (found : List Token) (t : Token) → Cut text rest found → token_at rest ≡ Some (t, after) → Cut text (skip after) (found ++ t ∷ [])
more_cut text rest after found t c e =
    let read : token_at (skip rest) ≡ Some (t, after) = ap token_at c.trimmed ∙ e in
    record {
      back = λ ts h.
          let P : List Token → Type 0 = λ us. HasTokens text us in
          subst P (sym (append_assoc found (t ∷ []) ts)) (c.back (t ∷ ts) (after, begins_here rest t after read, skip_has after ts h));
      on = λ ts h. let o = c.on ts h in more_on ts o.0 o.1 o.2 read;
      trimmed = skip_twice after;
    }
  where
    more_on : (ts us : List Token) → ts ≡ found ++ us → HasTokens rest us → token_at (skip rest) ≡ Some (t, after) → (more : List Token) × (ts ≡ (found ++ t ∷ []) ++ more) × HasTokens (skip after) more
    more_on ts [] is h read = absurd (none-some (t, after) (sym (nothing rest h) ∙ read))
    more_on ts (u ∷ us) is h read =
        let same = some_pair_parts u t h.0 after (sym (begun rest u h.0 h.1).1 ∙ read) in
        let P : List ℕ → Type 0 = λ x. HasTokens x us in
        (us, is ∙ ap (λ (x : Token). found ++ x ∷ us) same.0 ∙ sym (append_assoc found (t ∷ []) us), has_skip after us (subst P same.1 h.2))

pub cut_more : (text rest after next : List ℕ) (found all : List Token) (t : Token) → Cut text rest found → token_at rest ≡ Some (t, after) → next ≡ skip after → all ≡ found ++ t ∷ [] → Cut text next all
cut_more text rest after next found all t c e is all_is = rw (is, all_is) (more_cut text rest after found t c e)

pub cut_end : (text rest : List ℕ) (found : List Token) → Cut text rest found → length rest ≡ 0 → HasTokens text found
cut_end text [] found c e = let P : List Token → Type 0 = λ us. HasTokens text us in subst P (append-nil found) (c.back [] (All-nil IsSpace))
cut_end text (b ∷ rest) found c e = absurd (omega arith)

pub cut_none : (text rest : List ℕ) (found : List Token) → Cut text rest found → 0 < length rest → token_at rest ≡ None → (ts : List Token) → HasTokens text ts → ⊥
cut_none text rest found c some e ts h = let o = c.on ts h in no_more o.0 o.2 where
  no_more : (us : List Token) → HasTokens rest us → ⊥
  no_more [] k = let gone : length rest ≡ 0 = ap length (sym c.trimmed ∙ skip_all rest k) in omega arith
  no_more (u ∷ us) k = none-some (u, k.0) (sym e ∙ ap token_at (sym c.trimmed) ∙ (begun rest u k.0 k.1).1)

pub token_shortens : (rest after : List ℕ) (t : Token) → token_at rest ≡ Some (t, after) → length after < length rest
token_shortens rest after t e = let f = token_takes rest t after e in let some = some_spelled t f.token in omega (arith, length-append (spelled t) after, ap length f.parts) where
  some_spelled : (t : Token) → IsToken t → 0 < length (spelled t)
  some_spelled (word []) h = absurd h
  some_spelled (word (b ∷ bs)) h = omega arith
  some_spelled (mark m) h = omega arith

pub skip_le : (text : List ℕ) → length (skip text) ≤ length text
unfolding skip
skip_le text = omega (arith, length-drop (prefix_len is_space text) text)
