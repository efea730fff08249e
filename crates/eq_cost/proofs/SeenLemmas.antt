-- Bits that are seen one by one, from the last to the first.
use Rattle.std.proofs.Common.{◌≡◌, ℕ, zero, suc, ◌+◌, ◌-◌, ◌<◌, ◌≤◌, List, [], ◌∷◌, ◌++◌, Bool, true, false, cond, ◌||◌, nat_eq, nat_lt, Option, Some, None, length, drop, map, slice_index_or, append_assoc, refl, sym, ap, ap₂, subst, ◌∙◌, arith, inl, inr}
use Rattle.std.specs.Prelude.{is_some}
use Rattle.std.proofs.lemmas.Bool.{cases_Bool, lt-ltb}
use Rattle.std.proofs.lemmas.Bool.Decides.{Decides-eqb, nat_tests}
use Rattle.std.proofs.lemmas.List.{append-nil, drop_more}
use Rattle.eq_model.specs.Nets.{range_width}
use Rattle.eq_net.specs.Meaning.{if_there}
use Rattle.eq_verilog.specs.Trees.{Name, ExprTree, StmtTree, ModuleTree, net, bit, part, joined, join_all}
use Rattle.eq_verilog.specs.Scopes.{Scope, position, span}
use Rattle.eq_verilog.specs.Sizes.{own}
use Rattle.eq_verilog.specs.Expressions.{selected, wire}
use Rattle.eq_verilog.specs.Declarations.{range_of}
use Rattle.eq_verilog.specs.Nets.{alone, module_scope, nets_at, offset}
use Rattle.eq_verilog.specs.Costs.{bits_below, bits_in, bits_set, different, has_bit}
use Rattle.eq_analysis.specs.Marking.{Marks, mark_of, is_marked, AreMarked, run}
use Rattle.eq_cost.specs.Counts.{told}
use Rattle.eq_cost.specs.declared.seen.Seen.{Seen}
use Rattle.eq_cost.specs.inner.Seeing.{IsCounted}

-- ---- one bit

some_or : (t : Bool) (o : Option Bool) → is_some (cond t (Some true) o) ≡ (t || is_some o)
some_or true o = refl
some_or false o = refl

marked_new : (old new : Marks) (x : ℕ) (bits : List ℕ) →
    ((b : ℕ) → mark_of new b ≡ cond (nat_eq x b) (Some true) (mark_of old b)) → AreMarked old bits →
    AreMarked new (x ∷ bits)
marked_new old new x bits step are = λ b.
    ap (λ (o : Option Bool). is_some o) (step b)
    ∙ some_or (nat_eq x b) (mark_of old b)
    ∙ ap (λ (y : Bool). nat_eq x b || y) (are b)

there_again : (bits : List ℕ) (x b : ℕ) → has_bit bits x ≡ true → has_bit bits b ≡ (nat_eq x b || has_bit bits b)
there_again bits x b h = elim (cases_Bool (nat_eq x b)) [
  | inl same ↦
      (let k : x ≡ b = (Decides-eqb x b).0 same in
      subst (λ n. has_bit bits n ≡ true) k h ∙ ap (λ (t : Bool). t || has_bit bits b) (sym same))
  | inr other ↦ ap (λ (t : Bool). t || has_bit bits b) (sym other)
]

-- a bit that was seen before
pub seen_again : (seen : Seen) (x : ℕ) (bits : List ℕ) → is_marked seen.marks x ≡ true → IsCounted seen bits →
    IsCounted seen (x ∷ bits)
seen_again seen x bits h c =
    let there : has_bit bits x ≡ true = sym (c.marks x) ∙ h in
    record {
      marks = λ b. c.marks b ∙ there_again bits x b there;
      count = c.count ∙ ap (λ (t : Bool). told (cond t (different bits) (suc (different bits)))) (sym there);
    }

counted : (old new d : ℕ) → new ≡ told (old + 1) → told old ≡ told d → told new ≡ told (suc d)
counted old new d e h = omega arith

-- a bit that is new
pub seen_new : (old new : Seen) (x : ℕ) (bits : List ℕ) → is_marked old.marks x ≡ false →
    ((b : ℕ) → mark_of new.marks b ≡ cond (nat_eq x b) (Some true) (mark_of old.marks b)) →
    new.count ≡ told (old.count + 1) → IsCounted old bits → IsCounted new (x ∷ bits)
seen_new old new x bits h step more c =
    let out : has_bit bits x ≡ false = sym (c.marks x) ∙ h in
    record {
      marks = marked_new old.marks new.marks x bits step c.marks;
      count =
          counted old.count new.count (different bits) more c.count
          ∙ ap (λ (t : Bool). told (cond t (different bits) (suc (different bits)))) (sym out);
    }

run_more : (low j : ℕ) → run low (j + 1) ≡ (low + j) ∷ run low j
run_more low j = let e : j + 1 ≡ suc j = omega arith in ap (run low) e

pub seen_run : (low j : ℕ) (new : Seen) (bits : List ℕ) → IsCounted new ((low + j) ∷ (run low j ++ bits)) →
    IsCounted new (run low (j + 1) ++ bits)
seen_run low j new bits h = subst (λ (ns : List ℕ). IsCounted new (ns ++ bits)) (sym (run_more low j)) h

-- ---- bits of a leaf

sum_moved : (f p k : ℕ) → f + (p + k) ≡ (f + p) + k
sum_moved f p k = omega arith

is_below : (k n : ℕ) → suc k ≤ n → nat_lt k n ≡ true
is_below k n h = grind (arith, nat_tests)

run_bits : (s : Scope) (name : Name) (p n k : ℕ) → k ≤ n →
    bits_below k (selected s name p n) ≡ run (s.first name + p) k
run_bits s name p n zero h = refl
run_bits s name p n (suc k) h =
    ap (λ (t : Bool). if_there (bits_below k (selected s name p n)) (λ b. b ∷ bits_below k (selected s name p n))
    (cond t (Some (s.first name + (p + k))) None)) (is_below k n h)
    ∙ ap₂ (λ (x : ℕ) (xs : List ℕ). x ∷ xs) (sum_moved (s.first name) p k) (run_bits s name p n k (omega arith))

module _ (m : ModuleTree) (n : Name) where
  pub net_bits : bits_in (module_scope m) (net n) ≡ run (offset (nets_at (alone m)) n + 0) (range_width (range_of m n))
  net_bits = run_bits (module_scope m) n 0 (range_width (range_of m n)) (range_width (range_of m n)) (omega arith)

  pub one_bit : (i : ℕ) → bits_in (module_scope m) (bit n i)
      ≡ run (offset (nets_at (alone m)) n + position (range_of m n) i) 1
  one_bit i = run_bits (module_scope m) n (position (range_of m n) i) 1 1 (omega arith)

  pub part_bits : (l r : ℕ) → bits_in (module_scope m) (part n l r)
      ≡ run (offset (nets_at (alone m)) n + position (range_of m n) r) (span l r)
  part_bits l r = run_bits (module_scope m) n (position (range_of m n) r) (span l r) (span l r) (omega arith)

-- ---- concatenations

below_same : (f g : ℕ → Option ℕ) (k : ℕ) → ((j : ℕ) → j < k → f j ≡ g j) → bits_below k f ≡ bits_below k g
below_same f g zero h = refl
below_same f g (suc k) h =
    ap₂ (λ (o : Option ℕ) (bs : List ℕ). if_there bs (λ b. b ∷ bs) o) (h k (omega arith))
    (below_same f g k (λ j lt. h j (omega arith)))

one_front : (o : Option ℕ) (xs ys : List ℕ) →
    if_there (xs ++ ys) (λ b. b ∷ (xs ++ ys)) o ≡ (if_there xs (λ b. b ∷ xs) o) ++ ys
one_front None xs ys = refl
one_front (Some b) xs ys = refl

module _ (f g : ℕ → Option ℕ) (m : ℕ) where
  abbrev both : ℕ → Option ℕ
  both j = cond (nat_lt j m) (g j) (f (j - m))

  low : (j : ℕ) → j < m → both j ≡ g j
  low j lt = ap (λ (t : Bool). cond t (g j) (f (j - m))) (lt-ltb j m lt)

  not_below : (n : ℕ) → nat_lt (n + m) m ≡ false
  not_below n = grind (arith, nat_tests)

  high : (n : ℕ) → both (n + m) ≡ f n
  high n =
      let e : (n + m) - m ≡ n = omega arith in
      ap (λ (t : Bool). cond t (g (n + m)) (f ((n + m) - m))) (not_below n) ∙ ap f e

  bits_of_two : (n : ℕ) → bits_below (n + m) both ≡ bits_below n f ++ bits_below m g
  bits_of_two zero =
      let e : 0 + m ≡ m = omega arith in
      ap (λ k. bits_below k both) e ∙ below_same both g m low
  bits_of_two (suc n) =
      let e : suc n + m ≡ suc (n + m) = omega arith in
      ap (λ k. bits_below k both) e
      ∙ ap₂ (λ (o : Option ℕ) (bs : List ℕ). if_there bs (λ b. b ∷ bs) o) (high n) (bits_of_two n)
      ∙ one_front (f n) (bits_below n f) (bits_below m g)

pub joined_bits : (s : Scope) (a b : ExprTree) → bits_in s (joined a b) ≡ bits_in s a ++ bits_in s b
joined_bits s a b =
    below_same (wire s (joined a b)) (both (wire s a) (wire s b) (own s b)) (own s a + own s b) (λ j lt. refl)
    ∙ bits_of_two (wire s a) (wire s b) (own s b) (own s a)

-- ---- from the last to the first

pub rest_at : {A B : Type 0} (f : A → B) (xs : List A) (k m : ℕ) (x : A) → m ≡ suc k → k < length xs →
    x ≡ slice_index_or xs k x → map f (drop k xs) ≡ f x ∷ map f (drop m xs)
rest_at f xs k m x e lt is =
    let next : k + 1 ≡ m = omega arith in
    ap (λ ys. map f ys) (drop_more xs k x lt)
    ∙ ap₂ (λ y j. f y ∷ map f (drop j xs)) (sym is) next

module _ (s : Scope) (seen : Seen) (bits : List ℕ) where
  -- one part in front
  pub part_in_front : (e : ExprTree) (es : List ExprTree) →
      IsCounted seen (bits_in s e ++ (bits_in s (join_all es) ++ bits)) →
      IsCounted seen (bits_in s (join_all (e ∷ es)) ++ bits)
  part_in_front e es h =
      subst (λ (ns : List ℕ). IsCounted seen ns)
      (sym (append_assoc (bits_in s e) (bits_in s (join_all es)) bits)
      ∙ ap (λ (ns : List ℕ). ns ++ bits) (sym (joined_bits s e (join_all es)))) h

  -- one statement in front
  pub set_in_front : (x : StmtTree) (y : StmtTree) → IsCounted seen (bits_set s x ++ (bits_set s y ++ bits)) →
      IsCounted seen ((bits_set s x ++ bits_set s y) ++ bits)
  set_in_front x y h =
      subst (λ (ns : List ℕ). IsCounted seen ns) (sym (append_assoc (bits_set s x) (bits_set s y) bits)) h

-- what was counted
pub counted_all : (seen : Seen) (bits : List ℕ) → IsCounted seen (bits ++ []) → told seen.count ≡ told (different bits)
counted_all seen bits h = (subst (λ (ns : List ℕ). IsCounted seen ns) (append-nil bits) h).count
