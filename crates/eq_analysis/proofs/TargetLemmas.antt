-- Leaves of a target one after the other.
use Rattle.std.proofs.Common.{◌≡◌, ℕ, zero, suc, ◌+◌, ◌<◌, ◌≤◌, List, [], ◌∷◌, ◌++◌, Bool, true, cond, ◌&&◌, not, nat_lt, Option, Some, None, length, get_or, take, drop, map, append_assoc, refl, sym, ap, ap₂, subst, ◌∙◌, arith}
use Rattle.std.specs.List.{list_any}
use Rattle.std.specs.Option.{option_or}
use Rattle.std.proofs.lemmas.Bool.Decides.{nat_tests}
use Rattle.std.proofs.lemmas.List.{append-nil, take_more, take-append-drop, map-append}
use Rattle.eq_model.specs.Nets.{range_width}
use Rattle.eq_net.specs.Meaning.{if_there}
use Rattle.eq_verilog.specs.Trees.{Name, ExprTree, ModuleTree, net, bit, part, join_all}
use Rattle.eq_verilog.specs.Scopes.{Scope, position, span}
use Rattle.eq_verilog.specs.Expressions.{selected}
use Rattle.eq_verilog.specs.Declarations.{names_in, range_of}
use Rattle.eq_verilog.specs.Firsts.{first_found, unless}
use Rattle.eq_verilog.specs.Nets.{alone, module_scope, nets_at, offset}
use Rattle.eq_verilog.specs.Costs.{bits_below, bits_in, has_bit}
use Rattle.eq_verilog.specs.TargetRefusals.{leaves, overlaps, bad_leaf}
use Rattle.eq_analysis.specs.declared.targets.Right.{Right}
use Rattle.eq_analysis.specs.Marking.{Marks, AreMarked, run}
use Rattle.eq_analysis.specs.inner.Targeting.{is_right, seen_after, AreThrough}
use Rattle.eq_analysis.proofs.FirstLemmas.{or_none, or_assoc}

-- ---- bits of a leaf

sum_moved : (f p k : ℕ) → f + (p + k) ≡ (f + p) + k
sum_moved f p k = omega arith

is_below : (k n : ℕ) → suc k ≤ n → nat_lt k n ≡ true
is_below k n h = grind (arith, nat_tests)

run_bits : (s : Scope) (name : Name) (p n k : ℕ) → k ≤ n →
    bits_below k (selected s name p n) ≡ run (s.first name + p) k
run_bits s name p n zero h = refl
run_bits s name p n (suc k) h =
    ap (λ (t : Bool). if_there (bits_below k (selected s name p n)) (λ b. b ∷ bits_below k (selected s name p n))
    (cond t (Some (s.first name + (p + k))) None)) (is_below k n h)
    ∙ ap₂ (λ (x : ℕ) (xs : List ℕ). x ∷ xs) (sum_moved (s.first name) p k) (run_bits s name p n k (omega arith))

module _ (m : ModuleTree) (n : Name) where
  pub net_run : bits_in (module_scope m) (net n) ≡ run (offset (nets_at (alone m)) n + 0) (range_width (range_of m n))
  net_run = run_bits (module_scope m) n 0 (range_width (range_of m n)) (range_width (range_of m n)) (omega arith)

  pub bit_run : (i : ℕ) → bits_in (module_scope m) (bit n i)
      ≡ run (offset (nets_at (alone m)) n + position (range_of m n) i) 1
  bit_run i = run_bits (module_scope m) n (position (range_of m n) i) 1 1 (omega arith)

  pub part_run : (l r : ℕ) → bits_in (module_scope m) (part n l r)
      ≡ run (offset (nets_at (alone m)) n + position (range_of m n) r) (span l r)
  part_run l r = run_bits (module_scope m) n (position (range_of m n) r) (span l r) (span l r) (omega arith)

-- ---- leaves

module _ (m : ModuleTree) (right : Right) where
  pub through_leaf : (e : ExprTree) (n : Name) (low at count : ℕ) (old new : Marks) (found : Option Name) →
      names_in e ≡ n ∷ [] → bits_in (module_scope m) e ≡ run at count → low ≡ at →
      ((seen : List ℕ) → AreMarked old seen →
      found ≡ unless (is_right right m n && not (list_any (has_bit seen) (run low count))) n) →
      ((seen : List ℕ) → AreMarked old seen → AreMarked new (run low count ++ seen)) →
      AreThrough m right (e ∷ []) old new found
  through_leaf e n low at count old new found names bits low_is f g =
      let same : run low count ≡ bits_in (module_scope m) e = ap (λ (k : ℕ). run k count) low_is ∙ sym bits in
      record {
        first = λ seen h.
            f seen h
            ∙ ap (λ (bs : List ℕ). unless (is_right right m n && not (list_any (has_bit seen) bs)) n) same
            ∙ sym (or_none (unless (is_right right m n && not (overlaps m seen e)) n))
            ∙ ap (λ (ns : List Name). first_found (λ k. unless (is_right right m k && not (overlaps m seen e)) k) ns)
            (sym names)
            ∙ sym (or_none (first_found (λ k. unless (is_right right m k && not (overlaps m seen e)) k) (names_in e)));
        marked = λ none seen h. subst (λ (bs : List ℕ). AreMarked new (bs ++ seen)) same (g seen h);
      }

  bad_joined : (seen : List ℕ) (xs ys : List ExprTree) → bad_leaf m (is_right right m) seen (xs ++ ys)
      ≡ option_or (bad_leaf m (is_right right m) seen xs) (bad_leaf m (is_right right m) (seen_after m seen xs) ys)
  bad_joined seen [] ys = refl
  bad_joined seen (x ∷ xs) ys =
      let here = first_found (λ k. unless (is_right right m k && not (overlaps m seen x)) k) (names_in x) in
      let next = bits_in (module_scope m) x ++ seen in
      ap (λ (o : Option Name). option_or here o) (bad_joined next xs ys)
      ∙ or_assoc here (bad_leaf m (is_right right m) next xs)
      (bad_leaf m (is_right right m) (seen_after m next xs) ys)

  seen_joined : (seen : List ℕ) (xs ys : List ExprTree) →
      seen_after m seen (xs ++ ys) ≡ seen_after m (seen_after m seen xs) ys
  seen_joined seen [] ys = refl
  seen_joined seen (x ∷ xs) ys = seen_joined (bits_in (module_scope m) x ++ seen) xs ys

  pub through_none : (marks : Marks) → AreThrough m right [] marks marks None
  through_none marks = record { first = λ seen h. refl; marked = λ none seen h. h }

  -- one after the other
  pub through_more : (xs ys : List ExprTree) (old mid new : Marks) (found : Option Name) →
      AreThrough m right xs old mid None → AreThrough m right ys mid new found →
      AreThrough m right (xs ++ ys) old new found
  through_more xs ys old mid new found a b = record {
    first = λ seen h.
        b.first (seen_after m seen xs) (a.marked refl seen h)
        ∙ ap (λ (o : Option Name). option_or o (bad_leaf m (is_right right m) (seen_after m seen xs) ys))
        (a.first seen h)
        ∙ sym (bad_joined seen xs ys);
    marked = λ none seen h.
        subst (λ (ns : List ℕ). AreMarked new ns) (sym (seen_joined seen xs ys))
        (b.marked none (seen_after m seen xs) (a.marked refl seen h));
  }

  some_none : (n : Name) → ◌≡◌ {A = Option Name} (Some n) None → ⊥
  some_none n h = absurd (cc)

  -- what is found at once
  pub through_stop : (xs ys : List ExprTree) (old new : Marks) (n : Name) → AreThrough m right xs old new (Some n) →
      AreThrough m right (xs ++ ys) old new (Some n)
  through_stop xs ys old new n a = record {
    first = λ seen h.
        ap (λ (o : Option Name). option_or o (bad_leaf m (is_right right m) (seen_after m seen xs) ys)) (a.first seen h)
        ∙ sym (bad_joined seen xs ys);
    marked = λ none seen h. absurd (some_none n none);
  }

-- ---- concatenations

leaves_joined : (xs ys : List ExprTree) →
    leaves (join_all (xs ++ ys)) ≡ leaves (join_all xs) ++ leaves (join_all ys)
leaves_joined [] ys = refl
leaves_joined (x ∷ xs) ys =
    ap (λ (es : List ExprTree). leaves x ++ es) (leaves_joined xs ys)
    ∙ sym (append_assoc (leaves x) (leaves (join_all xs)) (leaves (join_all ys)))

module _ {A : Type 0} (f : A → ExprTree) (ps : List A) (k : ℕ) (d x : A) (lt : k < length ps) (at : get_or ps k d ≡ x)
  where
    -- one part more
    pub leaves_more : leaves (join_all (map f (take (k + 1) ps)))
        ≡ leaves (join_all (map f (take k ps))) ++ leaves (f x)
    leaves_more =
        ap (λ (qs : List A). leaves (join_all (map f qs))) (take_more ps k d lt)
        ∙ ap (λ (es : List ExprTree). leaves (join_all es)) (map-append f (take k ps) (get_or ps k d ∷ []))
        ∙ leaves_joined (map f (take k ps)) (f (get_or ps k d) ∷ [])
        ∙ ap (λ (es : List ExprTree). leaves (join_all (map f (take k ps))) ++ es)
        (append-nil (leaves (f (get_or ps k d))) ∙ ap (λ (a : A). leaves (f a)) at)

-- the parts up to a place, and those behind it
pub leaves_split : {A : Type 0} (f : A → ExprTree) (ps : List A) (k : ℕ) → leaves (join_all (map f ps))
    ≡ leaves (join_all (map f (take k ps))) ++ leaves (join_all (map f (drop k ps)))
leaves_split f ps k =
    ap (λ qs. leaves (join_all (map f qs))) (sym (take-append-drop k ps))
    ∙ ap (λ (es : List ExprTree). leaves (join_all es)) (map-append f (take k ps) (drop k ps))
    ∙ leaves_joined (map f (take k ps)) (map f (drop k ps))

pub leaves_whole : {A : Type 0} (f : A → ExprTree) (ps : List A) →
    leaves (join_all (map f (take (length ps) ps))) ≡ leaves (join_all (map f ps))
leaves_whole f [] = refl
leaves_whole f (p ∷ ps) = ap (λ (es : List ExprTree). leaves (f p) ++ es) (leaves_whole f ps)

module _ (m : ModuleTree) (right : Right) {A : Type 0} (f : A → ExprTree) (ps : List A) where
  -- one part more
  pub parts_next : (k : ℕ) (d x : A) (old mid new : Marks) (found : Option Name) → k < length ps → get_or ps k d ≡ x →
      AreThrough m right (leaves (join_all (map f (take k ps)))) old mid None →
      AreThrough m right (leaves (f x)) mid new found →
      AreThrough m right (leaves (join_all (map f (take (k + 1) ps)))) old new found
  parts_next k d x old mid new found lt at a b =
      subst (λ (es : List ExprTree). AreThrough m right es old new found) (sym (leaves_more f ps k d x lt at))
      (through_more m right (leaves (join_all (map f (take k ps)))) (leaves (f x)) old mid new found a b)

  -- found in a part
  pub parts_stop : (k : ℕ) (old new : Marks) (n : Name) →
      AreThrough m right (leaves (join_all (map f (take k ps)))) old new (Some n) →
      AreThrough m right (leaves (join_all (map f ps))) old new (Some n)
  parts_stop k old new n a =
      subst (λ (es : List ExprTree). AreThrough m right es old new (Some n)) (sym (leaves_split f ps k))
      (through_stop m right (leaves (join_all (map f (take k ps)))) (leaves (join_all (map f (drop k ps)))) old new n a)

  -- in none of the parts
  pub parts_all : (k : ℕ) (old new : Marks) → k ≡ length ps →
      AreThrough m right (leaves (join_all (map f (take k ps)))) old new None →
      AreThrough m right (leaves (join_all (map f ps))) old new None
  parts_all k old new end a =
      subst (λ (es : List ExprTree). AreThrough m right es old new None)
      (ap (λ (j : ℕ). leaves (join_all (map f (take j ps)))) end ∙ leaves_whole f ps) a
