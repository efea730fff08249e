-- Tokens of the code and their meaning, one for one.
use Rattle.std.proofs.Common.{◌≡◌, ℕ, zero, suc, ◌+◌, ◌-◌, ◌≤◌, Bool, cond, not, List, [], ◌∷◌, length, take, drop, Option, Some, None, refl, sym, ap, subst, ◌∙◌, arith, length-drop}
use Rattle.std.specs.Prelude.{option_map, position, count_by, OnSome}
use Rattle.eq_first.specs.declared.header.Header.{Header}
use Rattle.eq_first.specs.Headers.{head_of}
use Rattle.std.specs.List.{prefix_len}
use Rattle.std.proofs.Math.Seq.{take-length}
use Rattle.std.proofs.lemmas.List.Sums.{sum_by-cons}
use Rattle.eq_first.specs.declared.token.Lexeme.{Lexeme}
use Rattle.eq_first.specs.declared.token.Mark.{Mark}
use Rattle.eq_first.specs.declared.token.Mark.TheVariants.{Close, Comma}
use Rattle.std.proofs.lemmas.Option.{some_pair_parts}
use Rattle.eq_first.specs.Lines.{◌>>=◌}
use Rattle.eq_first.specs.Tokens.{Token, word, mark}
use Rattle.eq_first.specs.Header.{Head, add_at}
use Rattle.eq_first.specs.Phrases.{is_counted}
use Rattle.eq_first.specs.Lexing.{token_of, tokens_in}
use Rattle.eq_first.specs.Sentence.{is_semicolon, body_at, marks_of, entry_at, port_at, ports_at}

prefix_len-map : (p : Token → Bool) (ls : List Lexeme) → prefix_len p (tokens_in ls) ≡ prefix_len (λ l. p (token_of l)) ls
prefix_len-map p [] = refl
prefix_len-map p (l ∷ ls) = ap (λ (n : ℕ). cond (p (token_of l)) (1 + n) 0) (prefix_len-map p ls)

take-map : (n : ℕ) (ls : List Lexeme) → take n (tokens_in ls) ≡ tokens_in (take n ls)
take-map zero ls = refl
take-map (suc n) [] = refl
take-map (suc n) (l ∷ ls) = ap (λ (ts : List Token). token_of l ∷ ts) (take-map n ls)

drop-map : (n : ℕ) (ls : List Lexeme) → drop n (tokens_in ls) ≡ tokens_in (drop n ls)
drop-map zero ls = refl
drop-map (suc n) [] = refl
drop-map (suc n) (l ∷ ls) = drop-map n ls

len-map : (ls : List Lexeme) → length (tokens_in ls) ≡ length ls
len-map [] = refl
len-map (l ∷ ls) = ap suc (len-map ls)

position-map : (p : Token → Bool) (ls : List Lexeme) → position p (tokens_in ls) ≡ position (λ l. p (token_of l)) ls
position-map p ls = rw (prefix_len-map (λ t. not (p t)) ls, len-map ls) refl

rest-all : (n : ℕ) (ls : List Lexeme) → take (length ls - n) (drop n ls) ≡ drop n ls
rest-all n ls = ap (λ (k : ℕ). take k (drop n ls)) (sym (length-drop n ls)) ∙ take-length (drop n ls)

pub body_found : (ls : List Lexeme) (i : ℕ) → Some i ≡ position (λ l. is_semicolon (token_of l)) ls
    → ◌≡◌ {A = Option (List Token × List Token)} (Some (tokens_in (take i ls), tokens_in (take (length ls - (i + 1)) (drop (i + 1) ls)))) (body_at (tokens_in ls))
unfolding body_at
body_found ls i e =
    rw (position-map is_semicolon ls, ← e) (rw (take-map i ls, drop-map (i + 1) ls, rest-all (i + 1) ls) refl)

pub body_none : (ls : List Lexeme) → None ≡ position (λ l. is_semicolon (token_of l)) ls → body_at (tokens_in ls) ≡ None
unfolding body_at
body_none ls e = rw (position-map is_semicolon ls, ← e) refl

counts : (p : Token → Bool) (ls : List Lexeme) → count_by p (tokens_in ls) ≡ count_by (λ l. p (token_of l)) ls
counts p [] = refl
counts p (l ∷ ls) = sum_by-cons (λ t. cond (p t) 1 0) (token_of l) (tokens_in ls) ∙ ap (λ (n : ℕ). cond (p (token_of l)) 1 0 + n) (counts p ls) ∙ sym (sum_by-cons (λ m. cond (p (token_of m)) 1 0) l ls)

pub marks_counted : (ls : List Lexeme) → marks_of (tokens_in ls) ≡ count_by (λ l. is_counted (token_of l)) ls
unfolding marks_of
marks_counted ls = counts is_counted ls

-- ---- ports

abbrev behind_by : Option Head → Mark → Option (Head × Mark)
behind_by o m = o >>= λ more. Some (more, m)

add_off : {B : Type 0} (o : Option Head) (f : Head → Option B) (m : Mark) → behind_by o m ≡ None → (o >>= f) ≡ None
add_off None f m e = refl
add_off (Some g) f m e = absurd cc

add_on : {B : Type 0} (o : Option Head) (f : Head → Option B) (m n : Mark) (g : Head) → behind_by o m ≡ Some (g, n) → ((o >>= f) ≡ f g) × (m ≡ n)
add_on None f m n g e = absurd cc
add_on (Some x) f m n g e = let same = some_pair_parts x g m n e in (ap f same.0, same.1)

pub ports_off : (h : Head) (ts : List Token) → port_at h ts ≡ None → ports_at h ts ≡ None
unfolding port_at entry_at ports_at
ports_off h (word k ∷ word n ∷ mark Comma ∷ ts) e = add_off (add_at h k n) (λ more. ports_at more ts) Comma e
ports_off h (word k ∷ word n ∷ mark Close ∷ ts) e = add_off (add_at h k n) (λ more. Some (more, ts)) Close e
ports_off h _ e = refl

abbrev no_answer : {B : Type 0} → Option B
no_answer = None

nothing : {A B : Type 0} (o : Option A) → None ≡ (o >>= λ (x : A). no_answer {B = B})
nothing None = refl
nothing (Some x) = refl

-- the mark behind a port decides how the header goes on
abbrev pub goes_on : Head → Mark → List Token → Option (Head × List Token)
goes_on g Comma ts = ports_at g ts
goes_on g Close ts = Some (g, ts)
goes_on g _ ts = None

by_mark : (h : Head) (k n : List ℕ) (m : Mark) (ts : List Token) → ports_at h (word k ∷ word n ∷ mark m ∷ ts) ≡ (add_at h k n >>= λ more. goes_on more m ts)
unfolding ports_at
by_mark h k n Comma ts = refl
by_mark h k n Close ts = refl
by_mark h k n m ts = nothing (add_at h k n)

pub ports_on : (h g : Head) (m : Mark) (ts : List Token) → port_at h ts ≡ Some (g, m) → ports_at h ts ≡ goes_on g m (drop 3 ts)
unfolding port_at entry_at
ports_on h g m (word k ∷ word n ∷ mark x ∷ ts) e =
    let a = add_on (add_at h k n) (λ more. goes_on more x ts) x m g e in
    by_mark h k n x ts ∙ a.0 ∙ ap (λ (y : Mark). goes_on g y ts) a.1
ports_on h g m _ e = absurd cc

-- the tokens behind the first three
drop_twice : {A : Type 0} (n at : ℕ) (ls : List A) → drop n (drop at ls) ≡ drop (at + n) ls
drop_twice n zero ls = ap (λ (k : ℕ). drop k ls) (omega arith)
drop_twice zero (suc at) [] = let e : suc at + 0 ≡ suc at = omega arith in rw e refl
drop_twice (suc n) (suc at) [] = let e : suc at + suc n ≡ suc (at + suc n) = omega arith in rw e refl
drop_twice n (suc at) (l ∷ ls) = let e : suc at + n ≡ suc (at + n) = omega arith in rw e (drop_twice n at ls)

drop_three : (at : ℕ) (ls : List Lexeme) → drop 3 (tokens_in (drop at ls)) ≡ tokens_in (drop (at + 3) ls)
drop_three at ls = drop-map 3 (drop at ls) ∙ ap tokens_in (drop_twice 3 at ls)

ports_more : (h g : Head) (at : ℕ) (ls : List Lexeme) (m : Mark) (total : Option (Head × List Token)) → port_at h (tokens_in (drop at ls)) ≡ Some (g, m)
    → ports_at h (tokens_in (drop at ls)) ≡ total → goes_on g m (tokens_in (drop (at + 3) ls)) ≡ total
ports_more h g at ls m total e so_far = ap (goes_on g m) (sym (drop_three at ls)) ∙ sym (ports_on h g m (tokens_in (drop at ls)) e) ∙ so_far

-- what a port that was read tells of the header
abbrev pub seen : Option (Header × Mark) → Option (Head × Mark)
seen o = option_map (λ r. (head_of r.0, r.1)) o

read_here : (h : Head) (at : ℕ) (ls : List Lexeme) (o : Option (Header × Mark)) → seen o ≡ port_at h (tokens_in (take (length ls - at) (drop at ls))) → seen o ≡ port_at h (tokens_in (drop at ls))
read_here h at ls o e = e ∙ ap (λ (l : List Lexeme). port_at h (tokens_in l)) (rest-all at ls)

pub stops : (h : Head) (at : ℕ) (ls : List Lexeme) (o : Option (Header × Mark)) (total : Option (Head × List Token)) → seen o ≡ port_at h (tokens_in (take (length ls - at) (drop at ls)))
    → o ≡ None → ports_at h (tokens_in (drop at ls)) ≡ total → None ≡ total
stops h at ls o total e is so_far = sym (ports_off h (tokens_in (drop at ls)) (sym (read_here h at ls o e) ∙ ap seen is)) ∙ so_far

pub continues : (h : Head) (at : ℕ) (ls : List Lexeme) (o : Option (Header × Mark)) (x : Header) (m : Mark) (total : Option (Head × List Token)) → seen o ≡ port_at h (tokens_in (take (length ls - at) (drop at ls)))
    → o ≡ Some (x, m) → ports_at h (tokens_in (drop at ls)) ≡ total → goes_on (head_of x) m (tokens_in (drop (at + 3) ls)) ≡ total
continues h at ls o x m total e is so_far = ports_more h (head_of x) at ls m total (sym (read_here h at ls o e) ∙ ap seen is) so_far

pub long_is : (at : ℕ) (ls : List Lexeme) (o : Option (Header × Mark)) (x : Header × Mark) → OnSome o (3 ≤ length (take (length ls - at) (drop at ls))) → o ≡ Some x → at ≤ length ls → at + 3 ≤ length ls
long_is at ls o x h is within =
    let P : Option (Header × Mark) → Type 0 = λ r. OnSome r (3 ≤ length (take (length ls - at) (drop at ls))) in
    let long : 3 ≤ length (take (length ls - at) (drop at ls)) = subst P is h in
    omega (arith, ap length (rest-all at ls), length-drop at ls)

pub wrong_mark : (g : Head) (m : Mark) (ts : List Token) → (m ≡ Comma → ⊥) → (m ≡ Close → ⊥) → goes_on g m ts ≡ None
wrong_mark g Comma ts a b = absurd (a refl)
wrong_mark g Close ts a b = absurd (b refl)
wrong_mark g m ts a b = refl

pub rest_is : (n : ℕ) (ls : List Lexeme) → tokens_in (take (length ls - n) (drop n ls)) ≡ tokens_in (drop n ls)
rest_is n ls = ap tokens_in (rest-all n ls)
