-- Names and keywords as they are read again.
use Rattle.std.proofs.Common.{◌≡◌, ℕ, suc, ◌+◌, ◌<◌, true, false, eqb, ◌||◌, List, [], ◌∷◌, ◌++◌, length, get_or, Option, Some, refl, sym, ap, subst, ◌∙◌, arith, append_assoc}
use Rattle.std.specs.Prelude.{◌≢◌}
use Rattle.std.specs.Char.{is_ascii_alphabetic}
use Rattle.std.specs.List.{list_all, All}
use Rattle.std.proofs.lemmas.Bool.{eqb-true, false_from_ne_true, true≢false}
use Rattle.std.proofs.lemmas.List.{get_or_at}
use Rattle.eq_names.specs.Name.{IsNameByte, IsName}
use Rattle.eq_vlex.specs.declared.bytes.Class.TheVariants as class
use Rattle.eq_vlex.specs.declared.bytes.Start.{Start}
use Rattle.eq_vlex.specs.declared.bytes.Start.TheVariants as start
use Rattle.eq_vlex.specs.declared.key.Key.{Key}
use Rattle.eq_vlex.specs.declared.key.Key.TheVariants as key
use Rattle.eq_vlex.specs.declared.token.TokenKind.{TokenKind}
use Rattle.eq_vlex.specs.declared.token.TokenKind.TheVariants as kind
use Rattle.eq_vlex.specs.Bytes.{is_in, start_of, begins}
use Rattle.eq_vlex.specs.Words.{key_of, word_or_key, simple_name, escaped_name, IsEscapedName}
use Rattle.eq_vlex.specs.Pieces.{IsLexeme}
use Rattle.eq_vparse.specs.Layout.{key_bytes}
use Rattle.eq_vparse.proofs.TextPieces.{Reads, put_token, put_white, run_is, first_stays}

-- ---- simple names and keywords

no_letter : (a c : ℕ) → (is_ascii_alphabetic a || eqb a 95) ≡ true → (is_ascii_alphabetic c || eqb c 95) ≡ false → eqb a c ≡ false
no_letter a c first other = false_from_ne_true (eqb a c) (λ same. true≢false (sym (subst (λ (x : ℕ). (is_ascii_alphabetic x || eqb x 95) ≡ true) (eqb-true a c same) first) ∙ other))

simple_begins : (a b : ℕ) → (is_ascii_alphabetic a || eqb a 95) ≡ true → start_of a b ≡ start.SimpleName
simple_begins a b first =
    let white : is_in class.White a ≡ false = rw (no_letter a 32 first refl, no_letter a 9 first refl, no_letter a 13 first refl, no_letter a 10 first refl, no_letter a 12 first refl) refl in
    rw (white, no_letter a 47 first refl, no_letter a 40 first refl, first) refl

pub some_bytes : (bytes : List ℕ) → (is_ascii_alphabetic (get_or bytes 0 0) || eqb (get_or bytes 0 0) 95) ≡ true → 0 < length bytes
some_bytes [] first = absurd cc
some_bytes (b ∷ bytes) first = omega arith

simple_front : (bytes rest : List ℕ) → (is_ascii_alphabetic (get_or bytes 0 0) || eqb (get_or bytes 0 0) 95) ≡ true → begins (bytes ++ rest) ≡ start.SimpleName
unfolding begins
simple_front bytes rest first =
    let same = first_stays bytes rest (some_bytes bytes first) in
    simple_begins (get_or (bytes ++ rest) 0 0) (get_or (bytes ++ rest) 1 0) (rw same first)

-- bytes of a simple name are read as a word or a key
pub put_simple : (bytes rest : List ℕ) (t : TokenKind) (kinds : List TokenKind) → (is_ascii_alphabetic (get_or bytes 0 0) || eqb (get_or bytes 0 0) 95) ≡ true
    → list_all (is_in class.Simple) bytes ≡ true → t ≡ word_or_key (key_of bytes) bytes → is_in class.Simple (get_or rest 0 0) ≡ false
    → Reads rest kinds → Reads (bytes ++ rest) (t ∷ kinds)
put_simple bytes rest t kinds first all is stops h =
    let text : List ℕ = bytes ++ rest in
    let same : simple_name text ≡ bytes = run_is (is_in class.Simple) bytes rest all stops in
    let lexeme : IsLexeme start.SimpleName text (length bytes) t = (ap length (sym same), is ∙ ap (λ (w : List ℕ). word_or_key (key_of w) w) (sym same)) in
    put_token bytes rest t kinds (subst (λ (s : Start). IsLexeme s text (length bytes) t) (sym (simple_front bytes rest first)) lexeme) h

-- ---- keywords

pub key_first : (k : Key) → k ≢ key.Reserved → (is_ascii_alphabetic (get_or (key_bytes k) 0 0) || eqb (get_or (key_bytes k) 0 0) 95) ≡ true
key_first key.Reserved some = absurd (some refl)
key_first _ some = refl

key_all : (k : Key) → list_all (is_in class.Simple) (key_bytes k) ≡ true
key_all key.Reserved = refl
key_all _ = refl

key_found : (k : Key) → k ≢ key.Reserved → key_of (key_bytes k) ≡ Some k
unfolding key_of
key_found key.Reserved some = absurd (some refl)
key_found _ some = refl

pub put_key : (k : Key) (rest : List ℕ) (kinds : List TokenKind) → k ≢ key.Reserved → is_in class.Simple (get_or rest 0 0) ≡ false → Reads rest kinds → Reads (key_bytes k ++ rest) (kind.Key k ∷ kinds)
put_key k rest kinds some stops h =
    let is : kind.Key k ≡ word_or_key (key_of (key_bytes k)) (key_bytes k) = ap (λ (o : Option Key). word_or_key o (key_bytes k)) (sym (key_found k some)) in
    put_simple (key_bytes k) rest (kind.Key k) kinds (key_first k some) (key_all k) is stops h

-- ---- escaped names

visible_byte : (b : ℕ) → IsNameByte b → is_in class.Visible b ≡ true
visible_byte b h = grind arith

all_visible : (name : List ℕ) → All IsNameByte name → list_all (is_in class.Visible) name ≡ true
all_visible [] all = refl
all_visible (b ∷ name) all = rw (visible_byte b (all 0 0 (omega arith)), all_visible name (λ k d lt. all (suc k) d (omega arith))) refl

some_name : (name : List ℕ) → IsName name → 0 < length name
some_name [] h = absurd (h.some refl)
some_name (b ∷ name) h = omega arith

escaped_front : (text : List ℕ) → begins (92 ∷ text) ≡ start.EscapedName
unfolding begins
escaped_front text = refl

escaped_bytes : (name rest : List ℕ) → IsName name → escaped_name (92 ∷ name ++ 32 ∷ rest) ≡ name
escaped_bytes name rest h = run_is (is_in class.Visible) name (32 ∷ rest) (all_visible name h.bytes) refl

escaped_is : (name rest : List ℕ) → IsName name → IsEscapedName (92 ∷ name ++ 32 ∷ rest)
escaped_is name rest h =
    let text : List ℕ = 92 ∷ name ++ 32 ∷ rest in
    let same = escaped_bytes name rest h in
    let behind : get_or text (length name + 1) 0 ≡ 32 = get_or_at (92 ∷ name) 32 rest 0 (length name + 1) (omega arith) in
    let white : is_in class.White (get_or text (length name + 1) 0) ≡ true = ap (is_in class.White) behind in
    record {
      some = subst (λ (n : List ℕ). 0 < length n) (sym same) (some_name name h);
      ends = λ more. subst (λ (n : List ℕ). is_in class.White (get_or text (length n + 1) 0) ≡ true) (sym same) white;
    }

pub put_escaped : (name rest : List ℕ) (kinds : List TokenKind) → IsName name → Reads rest kinds → Reads ((92 ∷ name ++ 32 ∷ []) ++ rest) (kind.Word name ∷ kinds)
put_escaped name rest kinds h more =
    let text : List ℕ = 92 ∷ name ++ 32 ∷ rest in
    let same = escaped_bytes name rest h in
    let len : length (92 ∷ name) ≡ length (escaped_name text) + 1 = rw same (omega arith) in
    let lexeme : IsLexeme start.EscapedName text (length (92 ∷ name)) (kind.Word name) = (escaped_is name rest h, len, ap (λ (n : List ℕ). kind.Word n) (sym same)) in
    let front : IsLexeme (begins text) text (length (92 ∷ name)) (kind.Word name) = subst (λ (s : Start). IsLexeme s text (length (92 ∷ name)) (kind.Word name)) (sym (escaped_front (name ++ 32 ∷ rest))) lexeme in
    subst (λ (t : List ℕ). Reads t (kind.Word name ∷ kinds)) (sym (append_assoc (92 ∷ name) (32 ∷ []) rest)) (put_token (92 ∷ name) (32 ∷ rest) (kind.Word name) kinds front (put_white 32 rest kinds refl more))
