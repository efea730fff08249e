-- What was printed and one line or section more, and the text of a whole configuration.
use Rattle.std.proofs.Common.{◌≡◌, ℕ, ◌+◌, ◌<◌, List, [], ◌∷◌, ◌++◌, length, get_or, take, sym, ap, ◌∙◌, append_assoc, Result, Ok, Err}
use Rattle.std.specs.Prelude.{map, OnOk}
use Rattle.std.specs.List.{flat_map}
use Rattle.std.proofs.lemmas.List.{append-nil, take_more, map-append}
use Rattle.std.proofs.lemmas.Grind.{flat_map-append}
use Rattle.eq_config.specs.Printing.{ended, text_of}

pub text_append : (xs ys : List (List ℕ)) → text_of (xs ++ ys) ≡ text_of xs ++ text_of ys
text_append xs ys = flat_map-append ended xs ys

-- a line more
pub text_push : (lines : List (List ℕ)) (line : List ℕ) → text_of (lines ++ line ∷ []) ≡ text_of lines ++ ended line
text_push lines line = text_append lines (line ∷ []) ∙ ap (λ (x : List ℕ). text_of lines ++ x) (append-nil (ended line))

module _ {A : Type 0} where
  pub line_more : (f : A → List ℕ) (xs : List A) (i : ℕ) (d x : A) (start out new : List ℕ) → i < length xs
      → get_or xs i d ≡ x
      → out ≡ start ++ text_of (map f (take i xs)) → new ≡ out ++ ended (f x)
      → new ≡ start ++ text_of (map f (take (i + 1) xs))
  line_more f xs i d x start out new within is so_far more =
      let front : take (i + 1) xs ≡ take i xs ++ x ∷ [] = take_more xs i d within
      ∙ ap (λ (y : A). take i xs ++ y ∷ []) is in
      more
      ∙ ap (λ (o : List ℕ). o ++ ended (f x)) so_far
      ∙ append_assoc start (text_of (map f (take i xs))) (ended (f x))
      ∙ ap (λ (o : List ℕ). start ++ o) (sym (text_push (map f (take i xs)) (f x))
      ∙ ap text_of (sym (map-append f (take i xs) (x ∷ [])) ∙ ap (map f) (sym front)))

  -- a section more
  pub section_more : (f : A → List (List ℕ)) (xs : List A) (i : ℕ) (d x : A) (start out new : List ℕ) → i < length xs
      → get_or xs i d ≡ x
      → out ≡ start ++ text_of (flat_map f (take i xs)) → new ≡ out ++ text_of (f x)
      → new ≡ start ++ text_of (flat_map f (take (i + 1) xs))
  section_more f xs i d x start out new within is so_far more =
      let front : take (i + 1) xs ≡ take i xs ++ x ∷ [] = take_more xs i d within
      ∙ ap (λ (y : A). take i xs ++ y ∷ []) is in
      let one : flat_map f (x ∷ []) ≡ f x = append-nil (f x) in
      more
      ∙ ap (λ (o : List ℕ). o ++ text_of (f x)) so_far
      ∙ append_assoc start (text_of (flat_map f (take i xs))) (text_of (f x))
      ∙ ap (λ (o : List ℕ). start ++ o)
      (sym (text_append (flat_map f (take i xs)) (f x))
      ∙ ap (λ (ls : List (List ℕ)). text_of (flat_map f (take i xs) ++ ls)) (sym one)
      ∙ ap text_of (sym (flat_map-append f (take i xs) (x ∷ [])) ∙ ap (flat_map f) (sym front)))

-- ---- a few lines or sections after one another

pub on_ok : {T E : Type 0} (r : Result T E) (P Q : Type 0) → (P → Q) → OnOk r P → OnOk r Q
on_ok (Ok x) P Q f h = f h
on_ok (Err e) P Q f h = h

-- what was written behind what was written before
behind : (start out new a b : List ℕ) → out ≡ start ++ a → new ≡ out ++ b → new ≡ start ++ (a ++ b)
behind start out new a b first second = second ∙ ap (λ (o : List ℕ). o ++ b) first ∙ append_assoc start a b

pub three_lines : (start one two new a b c : List ℕ) → one ≡ start ++ ended a → two ≡ one ++ ended b
    → new ≡ two ++ ended c → new ≡ start ++ text_of (a ∷ b ∷ c ∷ [])
three_lines start one two new a b c h1 h2 h3 =
    behind start one new (ended a) (ended b ++ ended c) h1 (behind one two new (ended b) (ended c) h2 h3)
    ∙ ap (λ (x : List ℕ). start ++ (ended a ++ (ended b ++ x))) (sym (append-nil (ended c)))

pub section_text : (start one two new head : List ℕ) (xs ys : List (List ℕ)) → one ≡ start ++ ended head
    → two ≡ one ++ text_of xs → new ≡ two ++ text_of ys
    → new ≡ start ++ text_of (head ∷ (xs ++ ys))
section_text start one two new head xs ys h1 h2 h3 =
    behind start one new (ended head) (text_of xs ++ text_of ys) h1 (behind one two new (text_of xs) (text_of ys) h2 h3)
    ∙ ap (λ (x : List ℕ). start ++ (ended head ++ x)) (sym (text_append xs ys))

pub section_and_line : (start one two new head last : List ℕ) (xs : List (List ℕ)) → one ≡ start ++ ended head
    → two ≡ one ++ text_of xs → new ≡ two ++ ended last
    → new ≡ start ++ text_of (head ∷ (xs ++ last ∷ []))
section_and_line start one two new head last xs h1 h2 h3 =
    section_text start one two new head xs (last ∷ []) h1 h2
    (h3 ∙ ap (λ (x : List ℕ). two ++ x) (sym (append-nil (ended last))))

pub four_parts : (start one two three new : List ℕ) (ws xs ys zs : List (List ℕ)) → one ≡ start ++ text_of ws
    → two ≡ one ++ text_of xs → three ≡ two ++ text_of ys → new ≡ three ++ text_of zs
    → new ≡ start ++ text_of (ws ++ (xs ++ (ys ++ zs)))
four_parts start one two three new ws xs ys zs h1 h2 h3 h4 =
    behind start one new (text_of ws) (text_of xs ++ (text_of ys ++ text_of zs)) h1
    (behind one two new (text_of xs) (text_of ys ++ text_of zs) h2
    (behind two three new (text_of ys) (text_of zs) h3 h4))
    ∙ ap (λ (x : List ℕ). start ++ x)
    (ap (λ (x : List ℕ). text_of ws ++ x) (ap (λ (x : List ℕ). text_of xs ++ x) (sym (text_append ys zs))
    ∙ sym (text_append xs (ys ++ zs)))
    ∙ sym (text_append ws (xs ++ (ys ++ zs))))
