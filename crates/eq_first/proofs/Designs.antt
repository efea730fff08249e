-- The tokens of a module are read as this module, and what is read is a module of these tokens.
use Rattle.std.proofs.Common.{◌≡◌, ◌≢◌, ℕ, zero, suc, ◌+◌, ◌^◌, ◌<◌, ◌≤◌, Bool, true, false, cond, not, ltb, leb, List, [], ◌∷◌, ◌++◌, length, get_or, take, drop, Option, Some, None, refl, sym, ap, subst, ◌∙◌, inl, inr, append_assoc, add-one, drop-cons, arith, length-append}
use Rattle.std.specs.Prelude.{All, is_none, slice_get, bytes_eq, codes, option_map, position, count_by, ◌==◌}
use Rattle.std.specs.List.{list_all, position_or_len}
use Rattle.std.proofs.lemmas.Bool.{and_parts, lt-ltb, le-ltb, leb-true, le-leb, eqb-true, eq-eqb, cases_Bool, cases_lt, cases_eq}
use Rattle.std.proofs.lemmas.List.{take-append-drop, take_at, drop_at}
use Rattle.std.proofs.lemmas.List.Elements.{All-nil, All-push}
use Rattle.std.proofs.lemmas.List.Folds.{list_all-append}
use Rattle.std.proofs.lemmas.List.Quantifiers.{all_pairs_push, position-Some}
use Rattle.std.proofs.lemmas.Option.{cond_some, some_pair_parts, same_Some, none-some, get_or_from_slice_get, slice_get_within}
use Rattle.std.proofs.lemmas.Slice.Eq.{bytes_eq-Decides}
use Rattle.eq_first.specs.declared.module.Direction.{Direction}
use Rattle.eq_first.specs.declared.module.Direction.TheVariants.{Input, Output}
use Rattle.eq_first.specs.declared.module.Port.{Port}
use Rattle.eq_first.specs.declared.module.Expr.{Expr}
use Rattle.eq_first.specs.declared.token.Operator.{Operator}
use Rattle.eq_first.specs.declared.token.Operator.TheVariants as operators
use Rattle.eq_first.specs.declared.token.Mark.TheVariants.{Open, Close, Comma, Semicolon, Equals, Not, And, Xor, Or}
use Rattle.eq_first.specs.Well.{Goes}
use Rattle.eq_first.specs.Tokens.{Token, word, mark}
use Rattle.eq_first.specs.Phrases.{Phrase, named, grouped, negated, joined, mark_of, tokens_of, is_counted}
use Rattle.eq_first.specs.Design.{IsPlain, keyword_of, header_tokens}
use Rattle.eq_first.specs.Lines.{◌>>=◌}
use Rattle.eq_first.specs.Header.{place_from, place_of, Head, direction_of, is_plain, output_with, next_at, add_at}
use Rattle.eq_first.specs.Machine.{run, wanted}
use Rattle.eq_first.specs.Sentence.{opening_at, start, ports_at, target_at, output_of, is_semicolon, body_at, is_ending, marks_of, expr_at}
use Rattle.eq_first.proofs.Texts.{bind_some}
use Rattle.eq_first.proofs.Jobs.{guarded}
use Rattle.eq_first.proofs.Headed.{plain_is, is_plain_from, IsNew, new_again, next_is}
use Rattle.eq_first.proofs.Parsed.{Distinct, some_at}

same_bytes : (a b : List ℕ) → bytes_eq a b ≡ true → a ≡ b
same_bytes a b e = (bytes_eq-Decides a b).0 e

equal_bytes : (a : List ℕ) → bytes_eq a a ≡ true
equal_bytes a = (bytes_eq-Decides a a).1 refl

-- ---- the opening

pub opening_takes : (top : List ℕ) (ts rest : List Token) → opening_at top ts ≡ Some rest → (ts ≡ word (codes "module") ∷ word top ∷ mark Open ∷ rest) × IsPlain top
unfolding opening_at
opening_takes top (word k ∷ word n ∷ mark Open ∷ ts) rest e =
    let a = guarded (bytes_eq k (codes "module")) (cond (bytes_eq n top) (cond (is_plain top) (Some ts) None) None) rest e in
    let b = guarded (bytes_eq n top) (cond (is_plain top) (Some ts) None) rest a.1 in
    let c = cond_some (is_plain top) ts rest b.1 in
    let first : k ≡ codes "module" = same_bytes k (codes "module") a.0 in
    let second : n ≡ top = same_bytes n top b.0 in
    let third : ts ≡ rest = c.1 in
    (rw (first, second, third) refl, plain_is top c.0)
opening_takes top _ rest e = absurd cc

pub opening_again : (top : List ℕ) (rest : List Token) → IsPlain top → opening_at top (word (codes "module") ∷ word top ∷ mark Open ∷ rest) ≡ Some rest
unfolding opening_at
opening_again top rest h = rw (equal_bytes top, is_plain_from top h) refl

-- ---- the target

pub target_takes : (ts : List Token) (name : List ℕ) (rest : List Token) → target_at ts ≡ Some (name, rest) → ts ≡ mark Semicolon ∷ word (codes "assign") ∷ word name ∷ mark Equals ∷ rest
unfolding target_at
target_takes (mark Semicolon ∷ word k ∷ word n ∷ mark Equals ∷ ts) name rest e =
    let a = cond_some (bytes_eq k (codes "assign")) (n, ts) (name, rest) e in
    let first : k ≡ codes "assign" = same_bytes k (codes "assign") a.0 in
    let P : List ℕ × List Token → Type 0 = λ r. mark Semicolon ∷ word k ∷ word n ∷ mark Equals ∷ ts ≡ mark Semicolon ∷ word (codes "assign") ∷ word r.0 ∷ mark Equals ∷ r.1 in
    subst P a.1 (rw first refl)
target_takes _ name rest e = absurd cc

pub target_again : (name : List ℕ) (rest : List Token) → target_at (mark Semicolon ∷ word (codes "assign") ∷ word name ∷ mark Equals ∷ rest) ≡ Some (name, rest)
unfolding target_at
target_again name rest = refl

-- ---- the body

semicolon_is : (t : Token) → is_semicolon t ≡ true → t ≡ mark Semicolon
semicolon_is (mark Semicolon) e = refl
semicolon_is (word w) e = absurd cc
semicolon_is (mark Open) e = absurd cc
semicolon_is (mark Close) e = absurd cc
semicolon_is (mark Comma) e = absurd cc
semicolon_is (mark Equals) e = absurd cc
semicolon_is (mark Not) e = absurd cc
semicolon_is (mark And) e = absurd cc
semicolon_is (mark Xor) e = absurd cc
semicolon_is (mark Or) e = absurd cc

mapped : {A B : Type 0} (f : A → B) (o : Option A) (y : B) → option_map f o ≡ Some y → (x : A) × (o ≡ Some x) × (f x ≡ y)
mapped f (Some x) y e = (x, refl, same_Some (f x) y e)
mapped f None y e = absurd cc

pub body_takes : (ts body rest : List Token) → body_at ts ≡ Some (body, rest) → ts ≡ body ++ mark Semicolon ∷ rest
unfolding body_at
body_takes ts body rest e =
    let m = mapped (λ i. (take i ts, drop (i + 1) ts)) (position is_semicolon ts) (body, rest) e in
    let i = m.0 in
    let at = position-Some is_semicolon ts i (mark Semicolon) m.1 in
    let here : get_or ts i (mark Semicolon) ≡ mark Semicolon = semicolon_is _ at.1 in
    let front : take i ts ≡ body = ap (λ (p : List Token × List Token). p.0) m.2 in
    let back : drop (i + 1) ts ≡ rest = ap (λ (p : List Token × List Token). p.1) m.2 in
    let split : drop i ts ≡ mark Semicolon ∷ rest = drop-cons ts i (mark Semicolon) at.0 ∙ rw (here, ← add-one i, back) refl in
    sym (take-append-drop i ts) ∙ rw (front, split) refl

abbrev pub plain_body : List Token → Bool
plain_body ts = list_all (λ t. not (is_semicolon t)) ts

first_semicolon : (body rest : List Token) → plain_body body ≡ true → position_or_len is_semicolon (body ++ mark Semicolon ∷ rest) ≡ length body
first_semicolon [] rest h = refl
first_semicolon (t ∷ body) rest h =
    let p = and_parts (not (is_semicolon t)) (plain_body body) h in
    rw (p.0, first_semicolon body rest p.1) (omega arith)

pub body_again : (body rest : List Token) → plain_body body ≡ true → body_at (body ++ mark Semicolon ∷ rest) ≡ Some (body, rest)
unfolding body_at
body_again body rest h =
    let n = first_semicolon body rest h in
    let inside : length body < length (body ++ mark Semicolon ∷ rest) = omega (arith, length-append body (mark Semicolon ∷ rest)) in
    let back : drop (length body + 1) (body ++ mark Semicolon ∷ rest) ≡ rest = ap (drop (length body + 1)) (sym (append_assoc body (mark Semicolon ∷ []) rest)) ∙ drop_at (body ++ mark Semicolon ∷ []) rest (length body + 1) (length-append body (mark Semicolon ∷ [])) in
    rw (n, lt-ltb _ _ inside) (rw (take_at body (mark Semicolon ∷ rest) (length body) refl, back) refl)

operator_plain : (o : Operator) (ts : List Token) → plain_body ts ≡ true → plain_body (mark (mark_of o) ∷ ts) ≡ true
operator_plain operators.And ts h = h
operator_plain operators.Xor ts h = h
operator_plain operators.Or ts h = h

plain-append : (xs ys : List Token) → plain_body xs ≡ true → plain_body ys ≡ true → plain_body (xs ++ ys) ≡ true
plain-append xs ys h k = list_all-append (λ t. not (is_semicolon t)) xs ys ∙ rw (h, k) refl

pub phrase_plain : (p : Phrase) → plain_body (tokens_of p) ≡ true
phrase_plain (named w) = refl
phrase_plain (grouped p) = plain-append (tokens_of p) (mark Close ∷ []) (phrase_plain p) refl
phrase_plain (negated p) = phrase_plain p
phrase_plain (joined o p q) = plain-append (tokens_of p) (mark (mark_of o) ∷ tokens_of q) (phrase_plain p) (operator_plain o (tokens_of q) (phrase_plain q))

pub ending_is : (ts : List Token) → is_ending ts ≡ true → ts ≡ word (codes "endmodule") ∷ []
unfolding is_ending
ending_is (word k ∷ []) e = let first : k ≡ codes "endmodule" = same_bytes k (codes "endmodule") e in rw first refl
ending_is _ e = absurd cc

pub ending_again : is_ending (word (codes "endmodule") ∷ []) ≡ true
unfolding is_ending
ending_again = equal_bytes (codes "endmodule")

-- ---- the ports

-- what a header that was read tells
abbrev pub OutputIs : List Port → Option ℕ → Type 0
OutputIs ports None = (n : ℕ) → n < length ports → Goes ports Input n
OutputIs ports (Some k) = Goes ports Output k × ((n : ℕ) → n < length ports → n ≢ k → Goes ports Input n)

pub record IsHead (h : Head) : Type 0 where
  pub names : All (λ p. IsPlain p.name) h.ports
  pub apart : Distinct h.ports
  pub few : length h.ports < 2 ^ 32
  pub output_is : OutputIs h.ports h.output

pub is_start : IsHead start
is_start = record { names = All-nil (λ p. IsPlain p.name); apart = λ i j d lt le. absurd (omega arith); few = omega arith; output_is = λ n lt. absurd (omega arith) }

goes_before : (ports : List Port) (p : Port) (d : Direction) (n : ℕ) → Goes ports d n → Goes (ports ++ p ∷ []) d n
goes_before [] p d n h = absurd h
goes_before (q ∷ ports) p d zero h = h
goes_before (q ∷ ports) p d (suc n) h = goes_before ports p d n h

goes_last : (ports : List Port) (p : Port) → Goes (ports ++ p ∷ []) p.direction (length ports)
goes_last [] p = refl
goes_last (q ∷ ports) p = goes_last ports p

goes_push : (ports : List Port) (p : Port) (d : Direction) (n : ℕ) → n < length (ports ++ p ∷ []) → p.direction ≡ d → (n < length ports → Goes ports d n) → Goes (ports ++ p ∷ []) d n
goes_push ports p d n lt e h =
    elim (cases_lt n (length ports)) [
      | inl in' ↦ goes_before ports p d n (h in')
      | inr past ↦
          let last : length ports ≡ n = omega (arith, length-append ports (p ∷ [])) in
          let P : ℕ → Type 0 = λ k. Goes (ports ++ p ∷ []) d k in
          let D : Direction → Type 0 = λ x. Goes (ports ++ p ∷ []) x (length ports) in
          subst P last (subst D e (goes_last ports p))
    ]

output_push : (h : Head) (p : Port) (output : Option ℕ) → OutputIs h.ports h.output → output_with h p.direction ≡ Some output → OutputIs (h.ports ++ p ∷ []) output
output_push h p output is e = by_way p.direction refl e where
  kept : (o : Option ℕ) → p.direction ≡ Input → OutputIs h.ports o → OutputIs (h.ports ++ p ∷ []) o
  kept None way was = λ n lt. goes_push h.ports p Input n lt way (λ lt'. was n lt')
  kept (Some k) way was = (goes_before h.ports p Output k was.0, λ n lt other. goes_push h.ports p Input n lt way (λ lt'. was.1 n lt' other))

  first : (o : Option ℕ) → p.direction ≡ Output → OutputIs h.ports o → cond (is_none o) (Some (Some (length h.ports))) None ≡ Some output → OutputIs (h.ports ++ p ∷ []) output
  first (Some k) way was f = absurd (none-some output f)
  first None way was f =
      let P : Option ℕ → Type 0 = λ o. OutputIs (h.ports ++ p ∷ []) o in
      let D : Direction → Type 0 = λ x. Goes (h.ports ++ p ∷ []) x (length h.ports) in
      subst P (same_Some (Some (length h.ports)) output f)
      (subst D way (goes_last h.ports p), λ n lt other. goes_before h.ports p Input n (was n (omega (arith, length-append h.ports (p ∷ [])))))

  by_way : (d : Direction) → p.direction ≡ d → output_with h d ≡ Some output → OutputIs (h.ports ++ p ∷ []) output
  by_way Input way f = let P : Option ℕ → Type 0 = λ o. OutputIs (h.ports ++ p ∷ []) o in subst P (same_Some h.output output f) (kept h.output way is)
  by_way Output way f = first h.output way is f

fresh_apart : (k : ℕ) (ports : List Port) (name : List ℕ) → place_from k ports name ≡ None → (i : ℕ) (d : Port) → i < length ports → (get_or ports i d).name ≢ name
fresh_apart k [] name e i d lt = absurd (omega arith)
fresh_apart k (q ∷ ports) name e zero d lt = λ same. absurd (none-some k (sym (sym (rw ((bytes_eq-Decides name q.name).1 (sym same)) refl) ∙ e)))
fresh_apart k (q ∷ ports) name e (suc i) d lt =
    elim (cases_Bool (bytes_eq name q.name)) [
      | inl b ↦ let f : Some k ≡ None = (rw b at e) in absurd (none-some k (sym f))
      | inr b ↦ fresh_apart (suc k) ports name (rw b at e) i d (omega arith)
    ]

fresh_names : (ports : List Port) (name : List ℕ) → place_of ports name ≡ None → (i : ℕ) (d : Port) → i < length ports → (get_or ports i d).name ≢ name
unfolding place_of
fresh_names ports name e = fresh_apart 0 ports name e

keyword_is : (w : List ℕ) (d : Direction) → direction_of w ≡ Some d → w ≡ keyword_of d
unfolding direction_of
keyword_is w d e =
    elim (cases_Bool (bytes_eq w (codes "input"))) [
      | inl i ↦ let f : Some Input ≡ Some d = (rw i at e) in same_bytes w (codes "input") i ∙ ap keyword_of (same_Some Input d f)
      | inr i ↦
          let f : cond (bytes_eq w (codes "output")) (Some Output) None ≡ Some d = (rw i at e) in
          let g = cond_some (bytes_eq w (codes "output")) Output d f in
          same_bytes w (codes "output") g.0 ∙ ap keyword_of g.1
    ]

-- a port that was added
pub record Added (h g : Head) (k n : List ℕ) (p : Port) : Type 0 where
  pub head : IsHead g
  pub ports : g.ports ≡ h.ports ++ p ∷ []
  pub keyword : k ≡ keyword_of p.direction
  pub name : n ≡ p.name

add_takes : (h g : Head) (k n : List ℕ) → IsHead h → add_at h k n ≡ Some g → (p : Port) × Added h g k n p
unfolding add_at
add_takes h g k n is e =
    let a = bind_some (next_at h k n) (λ next. Some (record { ports = h.ports ++ record { direction = next.0; name = n } ∷ []; output = next.1 })) g e in
    let next = next_is h k n a.0.0 a.0.1 a.1 in
    let p : Port = record { direction = a.0.0; name = n } in
    let made : Head = record { ports = h.ports ++ p ∷ []; output = a.0.1 } in
    let room = next.new.room in
    let P : Head → Type 0 = λ x. Added h x k n p in (
      p,
      subst P (same_Some made g a.2) (record {
        head = record {
          names = All-push (λ q. IsPlain q.name) h.ports p is.names (plain_is n next.new.plain);
          apart = all_pairs_push (λ x y. x.name ≢ y.name) h.ports p is.apart (fresh_names h.ports n next.new.fresh);
          few = omega (arith, length-append h.ports (p ∷ []));
          output_is = output_push h p a.0.1 is.output_is next.after;
        };
        ports = refl;
        keyword = keyword_is k a.0.0 next.way;
        name = refl;
      }),
    )

-- the ports that were read
pub record Ported (h g : Head) (ts rest : List Token) (p : Port) (ps : List Port) : Type 0 where
  pub head : IsHead g
  pub ports : g.ports ≡ h.ports ++ p ∷ ps
  pub parts : ts ≡ header_tokens (p ∷ ps) ++ mark Close ∷ rest

pub ports_takes : (h g : Head) (ts rest : List Token) → IsHead h → ports_at h ts ≡ Some (g, rest) → (p : Port) × (ps : List Port) × Ported h g ts rest p ps
unfolding ports_at
ports_takes h g (word k ∷ word n ∷ mark Comma ∷ ts) rest is e =
    let a = bind_some (add_at h k n) (λ more. ports_at more ts) (g, rest) e in
    let added = add_takes h a.0 k n is a.1 in
    let p = added.0 in
    let more = ports_takes a.0 g ts rest added.1.head a.2 in
    let m = more.2 in (
      p,
      more.0 ∷ more.1,
      record {
        head = m.head;
        ports = m.ports ∙ ap (λ (x : List Port). x ++ more.0 ∷ more.1) added.1.ports ∙ append_assoc h.ports (p ∷ []) (more.0 ∷ more.1);
        parts = ap (λ (x : List Token). word k ∷ word n ∷ mark Comma ∷ x) m.parts ∙ named_so k n p (mark Comma ∷ (header_tokens (more.0 ∷ more.1) ++ mark Close ∷ rest)) added.1.keyword added.1.name;
      },
    )
  where
    named_so : (k n : List ℕ) (p : Port) (us : List Token) → k ≡ keyword_of p.direction → n ≡ p.name → word k ∷ word n ∷ us ≡ word (keyword_of p.direction) ∷ word p.name ∷ us
    named_so k n p us a b = ap (λ (w : List ℕ). word w ∷ word n ∷ us) a ∙ ap (λ (w : List ℕ). word (keyword_of p.direction) ∷ word w ∷ us) b
ports_takes h g (word k ∷ word n ∷ mark Close ∷ ts) rest is e =
    let a = bind_some (add_at h k n) (λ more. Some (more, ts)) (g, rest) e in
    let added = add_takes h a.0 k n is a.1 in
    let p = added.0 in
    let same = some_pair_parts a.0 g ts rest a.2 in
    let H : Head → Type 0 = λ x. IsHead x in (
      p,
      [],
      record {
        head = subst H same.0 added.1.head;
        ports = ap (λ (x : Head). x.ports) (sym same.0) ∙ added.1.ports;
        parts = ap (λ (w : List ℕ). word w ∷ word n ∷ mark Close ∷ ts) added.1.keyword ∙ ap (λ (w : List ℕ). word (keyword_of p.direction) ∷ word w ∷ mark Close ∷ ts) added.1.name ∙ ap (λ (x : List Token). word (keyword_of p.direction) ∷ word p.name ∷ mark Close ∷ x) same.1;
      },
    )
ports_takes h g _ rest is e = absurd cc

-- ---- the header of a module is read

-- what holds of the ports of a module
pub record IsPorts (all : List Port) (k : ℕ) : Type 0 where
  pub names : All (λ p. IsPlain p.name) all
  pub apart : Distinct all
  pub few : length all < 2 ^ 32
  pub goes : Goes all Output k
  pub others : (n : ℕ) → n < length all → n ≢ k → Goes all Input n

-- the output, once the first n ports are read
abbrev pub seen_by : ℕ → ℕ → Option ℕ
seen_by k n = cond (ltb k n) (Some k) None

abbrev pub after : List Port → ℕ → Head
after front k = record { ports = front; output = seen_by k (length front) }

direction_again : (d : Direction) → direction_of (keyword_of d) ≡ Some d
unfolding direction_of
direction_again Input = refl
direction_again Output = refl

at_seam : (front : List Port) (p : Port) (ps : List Port) → slice_get (front ++ p ∷ ps) (length front) ≡ Some p
at_seam [] p ps = refl
at_seam (q ∷ front) p ps = at_seam front p ps

before_seam : (front : List Port) (ps : List Port) (i : ℕ) (q : Port) → slice_get front i ≡ Some q → slice_get (front ++ ps) i ≡ Some q
before_seam [] ps i q e = absurd cc
before_seam (x ∷ front) ps zero q e = e
before_seam (x ∷ front) ps (suc i) q e = before_seam front ps i q e

none_named : (k : ℕ) (front : List Port) (name : List ℕ) → ((i : ℕ) (q : Port) → slice_get front i ≡ Some q → q.name ≢ name) → place_from k front name ≡ None
none_named k [] name h = refl
none_named k (q ∷ front) name h =
    rw (other (bytes_eq name q.name) (λ e. h 0 q refl (sym (same_bytes name q.name e)))) (none_named (suc k) front name (λ i x e. h (suc i) x e))
  where
    other : (b : Bool) → (b ≡ true → ⊥) → b ≡ false
    other true f = absurd (f refl)
    other false f = refl

fresh_at : (front : List Port) (p : Port) (ps : List Port) → Distinct (front ++ p ∷ ps) → place_of front p.name ≡ None
unfolding place_of
fresh_at front p ps apart = none_named 0 front p.name (λ i q e.
    let before : i < length front = slice_get_within front i q e in
    let n = length front in
    let one = apart i n p before (omega (arith, length-append front (p ∷ ps))) in
    let left : get_or (front ++ p ∷ ps) i p ≡ q = get_or_from_slice_get (front ++ p ∷ ps) i q p (before_seam front (p ∷ ps) i q e) in
    let right : get_or (front ++ p ∷ ps) n p ≡ p = get_or_from_slice_get (front ++ p ∷ ps) n p p (at_seam front p ps) in
    let L : Port → Type 0 = λ x. x.name ≢ (get_or (front ++ p ∷ ps) n p).name in
    let two = subst L left one in
    let K : Port → Type 0 = λ y. q.name ≢ y.name in
    subst K right two)

goes_is : (all : List Port) (d : Direction) (n : ℕ) (p : Port) → Goes all d n → slice_get all n ≡ Some p → p.direction ≡ d
goes_is all d n p h e =
    let s = some_at (λ q. q.direction ≡ d) (slice_get all n) h in
    ap (λ (q : Port). q.direction) (same_Some p s.0 (sym e ∙ s.1)) ∙ s.2

abbrev way_clash : Input ≡ Output → ⊥
way_clash e = cc

output_again : (front : List Port) (p : Port) (ps : List Port) (k : ℕ) → IsPorts (front ++ p ∷ ps) k → output_with (after front k) p.direction ≡ Some (seen_by k (suc (length front)))
output_again front p ps k is = by_way p.direction refl where
  here : slice_get (front ++ p ∷ ps) (length front) ≡ Some p
  here = at_seam front p ps

  inside : length front < length (front ++ p ∷ ps)
  inside = omega (arith, length-append front (p ∷ ps))

  by_way : (d : Direction) → p.direction ≡ d → output_with (after front k) d ≡ Some (seen_by k (suc (length front)))
  by_way Input way =
      elim (cases_lt k (length front)) [
        | inl lt ↦ rw (lt-ltb k (length front) lt, lt-ltb k (suc (length front)) (omega arith)) refl
        | inr le ↦ elim (cases_eq k (length front)) [
          | inl same ↦
              let G : ℕ → Type 0 = λ n. Goes (front ++ p ∷ ps) Output n in
              absurd (way_clash (sym way ∙ goes_is (front ++ p ∷ ps) Output (length front) p (subst G same is.goes) here))
          | inr other ↦ let more : suc (length front) ≤ k = omega arith in rw (le-ltb k (length front) le, le-ltb k (suc (length front)) more) refl
        ]
      ]
  by_way Output way =
      elim (cases_eq k (length front)) [
        | inl same ↦ rw (le-ltb k (length front) (omega arith), lt-ltb k (suc (length front)) (omega arith)) (ap (λ (n : ℕ). Some (Some n)) (sym same))
        | inr other ↦
            let goes = is.others (length front) inside (λ e. other (sym e)) in
            absurd (way_clash (sym (goes_is (front ++ p ∷ ps) Input (length front) p goes here) ∙ way))
      ]

plain_at : (front : List Port) (p : Port) (ps : List Port) → All (λ q. IsPlain q.name) (front ++ p ∷ ps) → IsPlain p.name
plain_at front p ps h =
    let P : Port → Type 0 = λ q. IsPlain q.name in
    subst P (get_or_from_slice_get (front ++ p ∷ ps) (length front) p p (at_seam front p ps)) (h (length front) p (omega (arith, length-append front (p ∷ ps))))

pushed : (front : List Port) (p : Port) (k : ℕ) → ◌≡◌ {A = Head} (record { ports = front ++ p ∷ []; output = seen_by k (suc (length front)) }) (after (front ++ p ∷ []) k)
pushed front p k = let e : suc (length front) ≡ length (front ++ p ∷ []) = omega (arith, length-append front (p ∷ [])) in ap (λ (n : ℕ). record { ports = front ++ p ∷ []; output = seen_by k n }) e

add_again : (front : List Port) (p : Port) (ps : List Port) (k : ℕ) → IsPorts (front ++ p ∷ ps) k → add_at (after front k) (keyword_of p.direction) p.name ≡ Some (after (front ++ p ∷ []) k)
unfolding add_at next_at
add_again front p ps k is =
    let few = is.few in
    let new : IsNew front p.name = record { plain = is_plain_from p.name (plain_at front p ps is.names); room = omega (arith, length-append front (p ∷ ps)); fresh = fresh_at front p ps is.apart } in
    rw (direction_again p.direction, output_again front p ps k is, new_again front p.name new) (ap Some (pushed front p k))

pub ports_again : (front : List Port) (p : Port) (ps : List Port) (k : ℕ) (rest : List Token) → IsPorts (front ++ p ∷ ps) k
    → ports_at (after front k) (header_tokens (p ∷ ps) ++ mark Close ∷ rest) ≡ Some (after (front ++ p ∷ ps) k, rest)
unfolding ports_at
ports_again front p [] k rest is = rw (add_again front p [] k is) refl
ports_again front p (q ∷ ps) k rest is =
    let regroup : (front ++ p ∷ []) ++ q ∷ ps ≡ front ++ p ∷ q ∷ ps = append_assoc front (p ∷ []) (q ∷ ps) in
    let I : List Port → Type 0 = λ all. IsPorts all k in
    rw (add_again front p (q ∷ ps) k is) (ports_again (front ++ p ∷ []) q ps k rest (subst I (sym regroup) is)
    ∙ ap (λ (all : List Port). Some (after all k, rest)) regroup)

-- ---- the output

pub output_takes : (h : Head) (target : List ℕ) (n : ℕ) → output_of h target ≡ Some n → (h.output ≡ Some n) × (place_of h.ports target ≡ Some n)
unfolding output_of
output_takes h target n e =
    let a = bind_some h.output (λ output. place_of h.ports target >>= λ m. cond (m == output) (Some m) None) n e in
    let b = bind_some (place_of h.ports target) (λ m. cond (m == a.0) (Some m) None) n a.2 in
    let g = cond_some (b.0 == a.0) b.0 n b.2 in
    let same : b.0 ≡ a.0 = eqb-true b.0 a.0 g.0 in
    (a.1 ∙ ap Some (sym same ∙ g.1), b.1 ∙ ap Some g.1)

pub output_of_again : (h : Head) (target : List ℕ) (n : ℕ) → h.output ≡ Some n → place_of h.ports target ≡ Some n → output_of h target ≡ Some n
unfolding output_of
output_of_again h target n a b = rw (a, b, eq-eqb n n refl) refl

-- ---- the expression

pub expr_takes : (ports : List Port) (ts : List Token) (e : Expr) → expr_at ports ts ≡ Some e → (count_by is_counted ts ≤ 1000) × (run ports (wanted []) ts ≡ Some e)
unfolding expr_at marks_of
expr_takes ports ts e is =
    let g = guarded (leb (count_by is_counted ts) 1000) (run ports (wanted []) ts) e is in
    (leb-true _ _ g.0, g.1)

pub expr_again : (ports : List Port) (ts : List Token) (e : Expr) → count_by is_counted ts ≤ 1000 → run ports (wanted []) ts ≡ Some e → expr_at ports ts ≡ Some e
unfolding expr_at marks_of
expr_again ports ts e few is = rw (le-leb (count_by is_counted ts) 1000 few) is
