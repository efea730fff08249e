-- What stands beside a name in a row of names.
use Rattle.std.proofs.Common.{◌≡◌, ℕ, suc, ◌+◌, ◌-◌, ◌≤◌, List, [], ◌∷◌, ◌++◌, Bool, true, false, cond, ◌||◌, Option, Some, None, length, refl, sym, ap, subst, ◌∙◌, arith}
use Rattle.std.specs.Prelude.{is_some, slice_get}
use Rattle.std.specs.Option.{option_or}
use Rattle.std.specs.List.{position_from}
use Rattle.std.specs.Str.{bytes_eq}
use Rattle.std.proofs.lemmas.Slice.Eq.{bytes_eq-Decides}
use Rattle.std.proofs.lemmas.Iterator.Adapters.{position_from-zero}
use Rattle.eq_names.specs.Tables.{number_of, with_name}
use Rattle.eq_verilog.specs.Trees.{Name}
use Rattle.eq_verilog.specs.Declarations.{has}
use Rattle.eq_analysis.specs.Declaring.{beside}
use Rattle.eq_analysis.proofs.AgainLemmas.{with_known, with_new}

-- equal bytes are one name
pub one_name : (n m : Name) → bytes_eq n m ≡ true → n ≡ m
one_name n m h = (bytes_eq-Decides n m).0 h

module _ {A : Type 0} where
  cond_or : (b : Bool) (x : A) (o p : Option A) → cond b (Some x) (option_or o p) ≡ option_or (cond b (Some x) o) p
  cond_or true x o p = refl
  cond_or false x o p = refl

  -- a name more, behind the others
  pub beside_more : (ms : List Name) (xs : List A) (m : Name) (x : A) → length ms ≡ length xs → (n : Name) →
      beside (ms ++ m ∷ []) (xs ++ x ∷ []) n ≡ option_or (beside ms xs n) (cond (bytes_eq n m) (Some x) None)
  beside_more [] [] m x same n = refl
  beside_more [] (y ∷ xs) m x same n = absurd (omega arith)
  beside_more (k ∷ ms) [] m x same n = absurd (omega arith)
  beside_more (k ∷ ms) (y ∷ xs) m x same n =
      ap (λ (o : Option A). cond (bytes_eq n k) (Some y) o) (beside_more ms xs m x (omega arith) n)
      ∙ cond_or (bytes_eq n k) y (beside ms xs n) (cond (bytes_eq n m) (Some x) None)

  some_cond : (b c : Bool) (x : A) (o : Option A) → is_some o ≡ c → is_some (cond b (Some x) o) ≡ (b || c)
  some_cond true c x o e = refl
  some_cond false c x o e = e

  -- something stands beside each of the names
  pub beside_has : (ms : List Name) (xs : List A) → length ms ≡ length xs → (n : Name) →
      is_some (beside ms xs n) ≡ has ms n
  beside_has [] xs same n = refl
  beside_has (k ∷ ms) [] same n = absurd (omega arith)
  beside_has (k ∷ ms) (y ∷ xs) same n =
      some_cond (bytes_eq n k) (has ms n) y (beside ms xs n) (beside_has ms xs (omega arith) n)

  taken : (b : Bool) (x : A) (o : Option A) → (b ≡ true → is_some o ≡ true) → o ≡ option_or o (cond b (Some x) None)
  taken true x (Some y) h = refl
  taken true x None h = absurd (let e = h refl in cc)
  taken false x (Some y) h = refl
  taken false x None h = refl

  -- a name that is there already
  pub beside_known : (ms : List Name) (xs : List A) (m : Name) (x : A) → length ms ≡ length xs → has ms m ≡ true →
      (n : Name) → beside ms xs n ≡ option_or (beside ms xs n) (cond (bytes_eq n m) (Some x) None)
  beside_known ms xs m x same known n =
      taken (bytes_eq n m) x (beside ms xs n)
      (λ h. beside_has ms xs same n ∙ ap (λ (k : Name). has ms k) (one_name n m h) ∙ known)

  -- what was found is at this place, counted from i
  abbrev IsBesideAt : List A → ℕ → Option A → Option ℕ → Type 0
  IsBesideAt xs i found None = found ≡ None
  IsBesideAt xs i found (Some k) = (i ≤ k) × (found ≡ slice_get xs (k - i))

  behind : (x : A) (xs : List A) (i : ℕ) (found : Option A) (o : Option ℕ) →
      IsBesideAt xs (i + 1) found o → IsBesideAt (x ∷ xs) i found o
  behind x xs i found None h = h
  behind x xs i found (Some k) h =
      let low = h.0 in
      let next : k - i ≡ suc (k - (i + 1)) = omega (arith, low) in
      (omega (arith, low), h.1 ∙ ap (λ (j : ℕ). slice_get (x ∷ xs) j) (sym next))

  here_or_behind : (x : A) (xs : List A) (i : ℕ) (found : Option A) (o : Option ℕ) (b : Bool) →
      IsBesideAt xs (i + 1) found o → IsBesideAt (x ∷ xs) i (cond b (Some x) found) (cond b (Some i) o)
  here_or_behind x xs i found o true h =
      let none : i - i ≡ 0 = omega arith in
      (omega arith, ap (λ (j : ℕ). slice_get (x ∷ xs) j) (sym none))
  here_or_behind x xs i found o false h = behind x xs i found o h

  beside_from : (ms : List Name) (xs : List A) (n : Name) (i : ℕ) → length ms ≡ length xs →
      IsBesideAt xs i (beside ms xs n) (position_from (bytes_eq n) i ms)
  beside_from [] xs n i same = refl
  beside_from (m ∷ ms) [] n i same = absurd (omega arith)
  beside_from (m ∷ ms) (x ∷ xs) n i same =
      here_or_behind x xs i (beside ms xs n) (position_from (bytes_eq n) (i + 1) ms) (bytes_eq n m)
      (beside_from ms xs n (i + 1) (omega arith))

  beside_is : (ms : List Name) (xs : List A) (n : Name) → length ms ≡ length xs →
      IsBesideAt xs 0 (beside ms xs n) (number_of ms n)
  beside_is ms xs n same = subst (λ (o : Option ℕ). IsBesideAt xs 0 (beside ms xs n) o)
      (sym (position_from-zero (bytes_eq n) ms)) (beside_from ms xs n 0 same)

  -- at the place of the name
  pub beside_there : (ms : List Name) (xs : List A) (n : Name) (k : ℕ) → length ms ≡ length xs →
      number_of ms n ≡ Some k → beside ms xs n ≡ slice_get xs k
  beside_there ms xs n k same is =
      let h = subst (λ (o : Option ℕ). IsBesideAt xs 0 (beside ms xs n) o) is (beside_is ms xs n same) in
      let all : k - 0 ≡ k = omega arith in
      h.1 ∙ ap (λ (j : ℕ). slice_get xs j) all

  pub beside_nowhere : (ms : List Name) (xs : List A) (n : Name) → length ms ≡ length xs →
      number_of ms n ≡ None → beside ms xs n ≡ None
  beside_nowhere ms xs n same is =
      subst (λ (o : Option ℕ). IsBesideAt xs 0 (beside ms xs n) o) is (beside_is ms xs n same)

  -- a name that was there
  pub add_known : (ms new : List Name) (xs : List A) (m : Name) (x : A) → length ms ≡ length xs → has ms m ≡ true →
      new ≡ with_name ms m → (n : Name) →
      beside new xs n ≡ option_or (beside ms xs n) (cond (bytes_eq n m) (Some x) None)
  add_known ms new xs m x same known more n =
      ap (λ (ns : List Name). beside ns xs n) (more ∙ with_known ms m known) ∙ beside_known ms xs m x same known n

  -- a name that is new
  pub add_new : (ms new : List Name) (xs more : List A) (m : Name) (x : A) → length ms ≡ length xs →
      has ms m ≡ false → new ≡ with_name ms m → more ≡ xs ++ x ∷ [] → (n : Name) →
      beside new more n ≡ option_or (beside ms xs n) (cond (bytes_eq n m) (Some x) None)
  add_new ms new xs more m x same unknown grown pushed n =
      ap (λ (ns : List Name). beside ns more n) (grown ∙ with_new ms m unknown)
      ∙ ap (λ (ys : List A). beside (ms ++ m ∷ []) ys n) pushed
      ∙ beside_more ms xs m x same n
