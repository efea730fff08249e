-- A line that is read is the line that stands there, and a line that stands there is read.
use Rattle.std.proofs.Common.{◌≡◌, ℕ, ◌+◌, ◌<◌, Bool, true, cond, not, eqb, List, [], ◌∷◌, ◌++◌, length, get_or, take, drop, Option, Some, None, refl, sym, ap, ◌∙◌, append_assoc, add-one, drop-cons, arith, length-append}
use Rattle.std.specs.Prelude.{option_map, position, bytes_eq, ◌==◌}
use Rattle.std.specs.List.{list_all, position_or_len}
use Rattle.std.proofs.lemmas.Bool.{and_parts, lt-ltb, eqb-true}
use Rattle.std.proofs.lemmas.List.{take-append-drop, take_at, drop_at, append-nil, nil_from_length}
use Rattle.std.proofs.lemmas.List.Quantifiers.{position-Some}
use Rattle.std.proofs.lemmas.Option.{cond_some, some_pair_parts}
use Rattle.std.proofs.lemmas.Slice.Eq.{bytes_eq-Decides}
use Rattle.eq_first.specs.Lines.{◌>>=◌, line_at, after, behind_at, fixed_at}

-- the value of a step that went on
pub bind_some : {A B : Type 0} (o : Option A) (f : A → Option B) (y : B) → (o >>= f) ≡ Some y → (x : A) × (o ≡ Some x) × (f x ≡ Some y)
bind_some (Some x) f y e = (x, refl, e)
bind_some None f y e = absurd cc

abbrev pub no_feed : List ℕ → Bool
no_feed line = list_all (λ b. not (b == 10)) line

mapped_some : {A B : Type 0} (f : A → B) (o : Option A) (y : B) → option_map f o ≡ Some y → (x : A) × (o ≡ Some x) × (f x ≡ y)
mapped_some f (Some x) y e = (x, refl, cc)
mapped_some f None y e = absurd cc

pub line_takes : (text line rest : List ℕ) → line_at text ≡ Some (line, rest) → text ≡ line ++ 10 ∷ rest
unfolding line_at
line_takes text line rest e =
    let m = mapped_some (λ i. (take i text, drop (i + 1) text)) (position (λ b. b == 10) text) (line, rest) e in
    let i = m.0 in
    let at = position-Some (λ b. b == 10) text i 0 m.1 in
    let feed : get_or text i 0 ≡ 10 = eqb-true _ _ at.1 in
    let inside : i < length text = at.0 in
    let front : take i text ≡ line = ap (λ (p : List ℕ × List ℕ). p.0) m.2 in
    let back : drop (i + 1) text ≡ rest = ap (λ (p : List ℕ × List ℕ). p.1) m.2 in
    let split : drop i text ≡ 10 ∷ rest = drop-cons text i 0 inside ∙ rw (feed, ← add-one i, back) refl in
    sym (take-append-drop i text) ∙ rw (front, split) refl

first_feed : (line rest : List ℕ) → no_feed line ≡ true → position_or_len (λ b. b == 10) (line ++ 10 ∷ rest) ≡ length line
first_feed [] rest h = refl
first_feed (b ∷ line) rest h =
    let p = and_parts (not (b == 10)) (no_feed line) h in
    rw (p.0, first_feed line rest p.1) (omega arith)

pub line_again : (line rest : List ℕ) → no_feed line ≡ true → line_at (line ++ 10 ∷ rest) ≡ Some (line, rest)
unfolding line_at
line_again line rest h =
    let n = first_feed line rest h in
    let inside : length line < length (line ++ 10 ∷ rest) = omega (arith, length-append line (10 ∷ rest)) in
    let back : drop (length line + 1) (line ++ 10 ∷ rest) ≡ rest = ap (drop (length line + 1)) (sym (append_assoc line (10 ∷ []) rest)) ∙ drop_at (line ++ 10 ∷ []) rest (length line + 1) (length-append line (10 ∷ [])) in
    rw (n, lt-ltb _ _ inside) (rw (take_at line (10 ∷ rest) (length line) refl, back) refl)

pub after_takes : (words text rest : List ℕ) → after words text ≡ Some rest → text ≡ words ++ rest
unfolding after
after_takes words text rest e =
    let g = cond_some (bytes_eq (take (length words) text) words) (drop (length words) text) rest e in
    let front : take (length words) text ≡ words = (bytes_eq-Decides (take (length words) text) words).0 g.0 in
    sym (take-append-drop (length words) text) ∙ rw (front, g.1) refl

pub after_again : (words rest : List ℕ) → after words (words ++ rest) ≡ Some rest
unfolding after
after_again words rest =
    rw (take_at words rest (length words) refl, (bytes_eq-Decides words words).1 refl, drop_at words rest (length words) refl) refl

pub behind_takes : (words text tail rest : List ℕ) → behind_at words text ≡ Some (tail, rest) → text ≡ (words ++ tail) ++ 10 ∷ rest
unfolding behind_at
behind_takes words text tail rest e =
    let a = bind_some (line_at text) (λ line. after words line.0 >>= λ t. Some (t, line.1)) (tail, rest) e in
    let b = bind_some (after words a.0.0) (λ t. Some (t, a.0.1)) (tail, rest) a.2 in
    let same = some_pair_parts b.0 tail a.0.1 rest b.2 in
    let line = line_takes text a.0.0 a.0.1 a.1 in
    let words_first : a.0.0 ≡ words ++ tail = after_takes words a.0.0 b.0 b.1 ∙ ap (λ (t : List ℕ). words ++ t) same.0 in
    line ∙ rw (words_first, same.1) refl

pub behind_again : (words tail rest : List ℕ) → no_feed (words ++ tail) ≡ true → behind_at words ((words ++ tail) ++ 10 ∷ rest) ≡ Some (tail, rest)
unfolding behind_at
behind_again words tail rest h = rw (line_again (words ++ tail) rest h) (rw (after_again words tail) refl)

pub fixed_takes : (words text rest : List ℕ) → fixed_at words text ≡ Some rest → text ≡ words ++ 10 ∷ rest
unfolding fixed_at
fixed_takes words text rest e =
    let a = bind_some (behind_at words text) (λ tail. cond (eqb (length tail.0) 0) (Some tail.1) None) rest e in
    let g = cond_some (eqb (length a.0.0) 0) a.0.1 rest a.2 in
    let none : a.0.0 ≡ [] = nil_from_length a.0.0 (eqb-true _ _ g.0) in
    behind_takes words text a.0.0 a.0.1 a.1 ∙ rw (none, append-nil words, g.1) refl

pub fixed_again : (words rest : List ℕ) → no_feed words ≡ true → fixed_at words (words ++ 10 ∷ rest) ≡ Some rest
unfolding fixed_at
fixed_again words rest h =
    let whole : no_feed (words ++ []) ≡ true = rw (append-nil words) h in
    let shown : behind_at words (words ++ 10 ∷ rest) ≡ Some ([], rest) = ap (λ (t : List ℕ). behind_at words (t ++ 10 ∷ rest)) (sym (append-nil words)) ∙ behind_again words [] rest whole in
    rw shown refl
