-- Sizes up to the most, and what isn't in range in an expression, from its parts.
use Rattle.std.proofs.Common.{◌≡◌, ℕ, zero, suc, ◌+◌, ◌*◌, ◌<◌, ◌≤◌, max, List, [], ◌∷◌, Bool, true, false, not, nat_lt, Option, None, length, get_or, drop, map, refl, sym, ap, ap₂, subst, ◌∙◌, arith, Bor, ◌⊎◌, inl, inr}
use Rattle.std.specs.Prelude.{option_copied}
use Rattle.std.specs.Option.{option_or}
use Rattle.std.proofs.Math.Nat.{suc-mul, zero-mul}
use Rattle.std.proofs.lemmas.Bool.{cases_lt}
use Rattle.std.proofs.lemmas.Bool.Decides.{nat_tests}
use Rattle.std.proofs.lemmas.List.{drop_more}
use Rattle.eq_vlex.specs.declared.token.Constant.{Constant}
use Rattle.eq_vparse.specs.declared.tree.Expr.{Expr}
use Rattle.eq_vparse.specs.declared.tree.UnOp.{UnOp}
use Rattle.eq_vparse.specs.declared.tree.BinOp.{BinOp}
use Rattle.eq_names.specs.declared.name.Name.{Name as TheName}
use Rattle.eq_verilog.specs.Trees.{Name, ExprTree, ModuleTree, const, joined, repeated, unary, binary, choice, expr_tree, join_all}
use Rattle.eq_verilog.specs.Sizes.{UnaryForm, complement, opposite, reduction, unary_form, unary_own, Sizing, in_context, shifting, comparing, judging, sizing, binary_own, own}
use Rattle.eq_verilog.specs.Firsts.{first_found, unless}
use Rattle.eq_verilog.specs.Nets.{module_scope}
use Rattle.eq_verilog.specs.ModuleRefusals.{most_size, bad_size, bad_range_in}
use Rattle.eq_analysis.specs.declared.ranges.Measure.{Measure}
use Rattle.eq_analysis.specs.inner.Ranging.{capped, IsMeasured}
use Rattle.eq_analysis.proofs.FirstLemmas.{or_none, or_assoc}

-- ---- sizes up to the most

cap_low : (n : ℕ) → n ≤ most_size → capped n ≡ n
cap_low n h = omega arith

cap_high : (n : ℕ) → most_size < n → capped n ≡ most_size + 1
cap_high n h = omega arith

pub over_cap : (n : ℕ) → nat_lt most_size (capped n) ≡ nat_lt most_size n
over_cap n = by_order (cases_lt most_size n)
  where
    by_order : (most_size < n) ⊎ (n ≤ most_size) → nat_lt most_size (capped n) ≡ nat_lt most_size n
    by_order (inl h) = let e = cap_high n h in grind (arith, nat_tests)
    by_order (inr h) = ap (nat_lt most_size) (cap_low n h)

pub cap_unary : (f : UnaryForm) (n : ℕ) → unary_own f (capped n) ≡ capped (unary_own f n)
cap_unary complement n = refl
cap_unary opposite n = refl
cap_unary (reduction r) n = refl

pub cap_max : (n m : ℕ) → max (capped n) (capped m) ≡ capped (max n m)
cap_max n m = omega arith

pub cap_binary : (z : Sizing) (n m : ℕ) → binary_own z (capped n) (capped m) ≡ capped (binary_own z n m)
cap_binary in_context n m = cap_max n m
cap_binary shifting n m = refl
cap_binary comparing n m = refl
cap_binary judging n m = refl

pub cap_sum : (s x y : ℕ) → capped (capped (s + capped x) + y) ≡ capped (s + (x + y))
cap_sum s x y = omega arith

more_times : (n a b : ℕ) → most_size + 1 ≤ a → most_size + 1 ≤ b → capped (suc n * a) ≡ capped (suc n * b)
more_times n a b h k =
    let e = suc-mul n a in
    let f = suc-mul n b in
    omega arith

pub cap_times : (n k : ℕ) → capped (n * capped k) ≡ capped (n * k)
cap_times zero k =
    let e = zero-mul (capped k) in
    let f = zero-mul k in
    omega arith
cap_times (suc n) k = by_order (cases_lt most_size k)
  where
    by_order : (most_size < k) ⊎ (k ≤ most_size) → capped (suc n * capped k) ≡ capped (suc n * k)
    by_order (inl h) = more_times n (capped k) k (let e = cap_high k h in omega arith) (omega arith)
    by_order (inr h) = ap (λ (j : ℕ). capped (suc n * j)) (cap_low k h)

-- ---- expressions

module _ (m : ModuleTree) (e : ExprTree) (s : ℕ) (inside : Option Name) (r : Measure) where
  -- an expression of this size, with this in its parts
  pub is_measured : r.size ≡ s → s ≡ capped (own (module_scope m) e) →
      option_copied r.fault ≡ option_or (unless (not (nat_lt most_size s)) m.name) inside →
      bad_range_in m false e ≡ option_or (bad_size m false e) inside → IsMeasured m e r
  is_measured a b f g = record {
    size = a ∙ b;
    fault =
        f
        ∙ ap (λ (k : ℕ). option_or (unless (not (nat_lt most_size k)) m.name) inside) b
        ∙ ap (λ (t : Bool). option_or (unless (not t) m.name) inside) (over_cap (own (module_scope m) e))
        ∙ sym g;
  }

module _ (m : ModuleTree) (r : Measure) where
  pub is_const : (c : Constant) → r.size ≡ capped c.size → r.fault ≡ None → IsMeasured m (const c) r
  is_const c a f = record { size = a; fault = ap (λ (o : Option (Bor TheName)). option_copied o) f }

  pub is_repeat : (n s : ℕ) (a : ExprTree) (p : Measure) → r.size ≡ s → s ≡ capped (n * p.size) →
      option_copied r.fault ≡ option_or (unless (not (nat_lt most_size s)) m.name)
      (option_or (unless (nat_lt 0 n) m.name) (option_copied p.fault)) →
      IsMeasured m a p → IsMeasured m (repeated n a) r
  is_repeat n s a p e f g h =
      is_measured m (repeated n a) s (option_or (unless (nat_lt 0 n) m.name) (option_copied p.fault)) r e
      (f ∙ ap (λ (k : ℕ). capped (n * k)) h.size ∙ cap_times n (own (module_scope m) a)) g
      (ap (λ (o : Option Name). option_or (bad_size m false (repeated n a)) (option_or (unless (nat_lt 0 n) m.name) o))
      (or_none (bad_range_in m false a) ∙ sym h.fault))

  pub is_unary : (op : UnOp) (s : ℕ) (a : ExprTree) (p : Measure) → r.size ≡ s → s ≡ unary_own (unary_form op) p.size →
      option_copied r.fault ≡ option_or (unless (not (nat_lt most_size s)) m.name) (option_copied p.fault) →
      IsMeasured m a p → IsMeasured m (unary op a) r
  is_unary op s a p e f g h =
      is_measured m (unary op a) s (option_copied p.fault) r e
      (f ∙ ap (unary_own (unary_form op)) h.size ∙ cap_unary (unary_form op) (own (module_scope m) a)) g
      (ap (λ (o : Option Name). option_or (bad_size m false (unary op a)) o)
      (or_none (bad_range_in m false a) ∙ sym h.fault))

  pub is_binary : (op : BinOp) (s : ℕ) (a b : ExprTree) (p q : Measure) → r.size ≡ s →
      s ≡ binary_own (sizing op) p.size q.size →
      option_copied r.fault ≡ option_or (unless (not (nat_lt most_size s)) m.name)
      (option_or (option_copied p.fault) (option_copied q.fault)) →
      IsMeasured m a p → IsMeasured m b q → IsMeasured m (binary op a b) r
  is_binary op s a b p q e f g h k =
      is_measured m (binary op a b) s (option_or (option_copied p.fault) (option_copied q.fault)) r e
      (f ∙ ap₂ (binary_own (sizing op)) h.size k.size
      ∙ cap_binary (sizing op) (own (module_scope m) a) (own (module_scope m) b)) g
      (ap₂ (λ (x y : Option Name). option_or (bad_size m false (binary op a b)) (option_or x y))
      (sym h.fault) (or_none (bad_range_in m false b) ∙ sym k.fault))

  pub is_choice : (s : ℕ) (c a b : ExprTree) (z p q : Measure) → r.size ≡ s → s ≡ max p.size q.size →
      option_copied r.fault ≡ option_or (unless (not (nat_lt most_size s)) m.name)
      (option_or (option_copied z.fault) (option_or (option_copied p.fault) (option_copied q.fault))) →
      IsMeasured m c z → IsMeasured m a p → IsMeasured m b q → IsMeasured m (choice c a b) r
  is_choice s c a b z p q e f g l h k =
      is_measured m (choice c a b) s
      (option_or (option_copied z.fault) (option_or (option_copied p.fault) (option_copied q.fault))) r e
      (f ∙ ap₂ (λ (x y : ℕ). max x y) h.size k.size
      ∙ cap_max (own (module_scope m) a) (own (module_scope m) b)) g
      (ap (λ (x : Option Name). option_or (bad_size m false (choice c a b)) (option_or x
      (option_or (bad_range_in m false a) (option_or (bad_range_in m false b) None)))) (sym l.fault)
      ∙ ap₂ (λ (x y : Option Name). option_or (bad_size m false (choice c a b))
      (option_or (option_copied z.fault) (option_or x y)))
      (sym h.fault) (or_none (bad_range_in m false b) ∙ sym k.fault))

-- ---- concatenations

false_true : (b : Bool) → b ≡ true → b ≡ false → ⊥
false_true true h k = absurd (cc)
false_true false h k = absurd (cc)

behind_size : (p q : Bool) (n : Name) (x f : Option Name) → (q ≡ true → p ≡ true) →
    option_or (unless (not p) n) (option_or x (option_or (option_or (unless (not q) n) f) None))
    ≡ option_or (unless (not p) n) (option_or x f)
behind_size true q n x f h = refl
behind_size false true n x f h = absurd (false_true false (h refl) refl)
behind_size false false n x f h = ap (λ (o : Option Name). option_or x o) (or_none f)

larger : (a b : ℕ) → nat_lt most_size b ≡ true → nat_lt most_size (a + b) ≡ true
larger a b h = grind (arith, nat_tests)

-- in a concatenation its size comes first, and then its parts: no rest of it is larger
pub joined_range : (m : ModuleTree) (es : List ExprTree) → bad_range_in m false (join_all es)
    ≡ option_or (bad_size m false (join_all es)) (first_found (bad_range_in m false) es)
joined_range m [] = refl
joined_range m (e ∷ es) =
    ap (λ (o : Option Name). option_or (bad_size m false (joined e (join_all es)))
    (option_or (bad_range_in m false e) (option_or o None))) (joined_range m es)
    ∙ behind_size (nat_lt most_size (own (module_scope m) e + own (module_scope m) (join_all es)))
    (nat_lt most_size (own (module_scope m) (join_all es))) m.name (bad_range_in m false e)
    (first_found (bad_range_in m false) es) (larger (own (module_scope m) e) (own (module_scope m) (join_all es)))

-- up to a part: the size so far, and what isn't in range so far
pub record IsSummed (m : ModuleTree) (es rest : List ExprTree) (size : ℕ) (inside : Option (Bor TheName)) : Type 0 where
  pub bound : size ≤ most_size + 1
  pub sizes : capped (size + own (module_scope m) (join_all rest)) ≡ capped (own (module_scope m) (join_all es))
  pub faults : option_or (option_copied inside) (first_found (bad_range_in m false) rest)
      ≡ first_found (bad_range_in m false) es

pub summed_none : (m : ModuleTree) (es : List ExprTree) → IsSummed m es es 0 None
summed_none m es = record { bound = omega arith; sizes = same (own (module_scope m) (join_all es)); faults = refl }
  where
    same : (n : ℕ) → capped (0 + n) ≡ capped n
    same n = omega arith

parts_left : (es : List Expr) (k : ℕ) (d x : Expr) → k < length es → get_or es k d ≡ x →
    map expr_tree (drop k es) ≡ expr_tree x ∷ map expr_tree (drop (k + 1) es)
parts_left es k d x lt e =
    ap (λ (js : List Expr). map expr_tree js) (drop_more es k d lt)
    ∙ ap (λ (i : Expr). expr_tree i ∷ map expr_tree (drop (k + 1) es)) e

summed_next : (m : ModuleTree) (es rest : List ExprTree) (e : ExprTree) (s t : ℕ) (i j : Option (Bor TheName))
    (p : Measure) → IsSummed m es (e ∷ rest) s i → IsMeasured m e p → t ≡ capped (s + p.size) →
    option_copied j ≡ option_or (option_copied i) (option_copied p.fault) → IsSummed m es rest t j
summed_next m es rest e s t i j p before h a b = record {
  bound = capped_bound (s + p.size) t a;
  sizes =
      ap (λ (n : ℕ). capped (n + own (module_scope m) (join_all rest))) (a ∙ ap (λ (n : ℕ). capped (s + n)) h.size)
      ∙ cap_sum s (own (module_scope m) e) (own (module_scope m) (join_all rest))
      ∙ before.sizes;
  faults =
      ap (λ (o : Option Name). option_or o (first_found (bad_range_in m false) rest))
      (b ∙ ap (λ (o : Option Name). option_or (option_copied i) o) h.fault)
      ∙ sym (or_assoc (option_copied i) (bad_range_in m false e) (first_found (bad_range_in m false) rest))
      ∙ before.faults;
}
  where
    capped_bound : (n k : ℕ) → k ≡ capped n → k ≤ most_size + 1
    capped_bound n k e = omega arith

-- one part more
pub summed_more : (m : ModuleTree) (es : List Expr) (k : ℕ) (d x : Expr) (s t : ℕ) (i j : Option (Bor TheName))
    (p : Measure) → k < length es → get_or es k d ≡ x →
    IsSummed m (map expr_tree es) (map expr_tree (drop k es)) s i → IsMeasured m (expr_tree x) p →
    t ≡ capped (s + p.size) → option_copied j ≡ option_or (option_copied i) (option_copied p.fault) →
    IsSummed m (map expr_tree es) (map expr_tree (drop (k + 1) es)) t j
summed_more m es k d x s t i j p lt at before h a b =
    summed_next m (map expr_tree es) (map expr_tree (drop (k + 1) es)) (expr_tree x) s t i j p
    (subst (λ (ts : List ExprTree). IsSummed m (map expr_tree es) ts s i) (parts_left es k d x lt at) before) h a b

none_left : (es : List Expr) → map expr_tree (drop (length es) es) ≡ []
none_left [] = refl
none_left (e ∷ es) = none_left es

-- all parts
pub summed_all : (m : ModuleTree) (es : List Expr) (k s : ℕ) (i : Option (Bor TheName)) (r : Measure) →
    k ≡ length es → IsSummed m (map expr_tree es) (map expr_tree (drop k es)) s i → r.size ≡ s →
    option_copied r.fault ≡ option_or (unless (not (nat_lt most_size s)) m.name) (option_copied i) →
    IsMeasured m (join_all (map expr_tree es)) r
summed_all m es k s i r end before a f =
    let done : IsSummed m (map expr_tree es) [] s i =
    subst (λ (ts : List ExprTree). IsSummed m (map expr_tree es) ts s i)
    (ap (λ (n : ℕ). map expr_tree (drop n es)) end ∙ none_left es) before in
    is_measured m (join_all (map expr_tree es)) s (option_copied i) r a
    (whole s (own (module_scope m) (join_all (map expr_tree es))) done.bound done.sizes) f
    (joined_range m (map expr_tree es)
    ∙ ap (λ (o : Option Name). option_or (bad_size m false (join_all (map expr_tree es))) o)
    (sym done.faults ∙ or_none (option_copied i)))
  where
    whole : (n w : ℕ) → n ≤ most_size + 1 → capped (n + 0) ≡ capped w → n ≡ capped w
    whole n w h e = omega arith
