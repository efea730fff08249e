-- Scopes in which names have the same ranges, and first bits that are a fixed number apart: expressions have the same
-- sizes and costs, and targets as many different bits.
use Rattle.std.proofs.Common.{◌≡◌, ℕ, zero, suc, ◌+◌, ◌-◌, ◌*◌, ◌%◌, max, Bool, true, false, nat_eq, nat_lt, ◌||◌, cond, List, [], ◌∷◌, ◌++◌, map, Option, Some, None, refl, arith, sym, ap, ap₂, ◌∙◌, inl, inr}
use Rattle.std.proofs.lemmas.Bool.{cases_Bool}
use Rattle.std.proofs.lemmas.Bool.Decides.{Decides-eqb}
use Rattle.std.proofs.lemmas.List.{map-append}
use Rattle.eq_model.specs.Nets.{range_width}
use Rattle.eq_net.specs.Meaning.{if_there}
use Rattle.eq_net.specs.Operators as on
use Rattle.eq_vparse.specs.declared.tree.UnOp.{UnOp}
use Rattle.eq_vparse.specs.declared.tree.BinOp.{BinOp}
use Rattle.eq_verilog.specs.Trees.{Name, ExprTree, const, net, bit, part, empty, joined, repeated, unary, binary, choice, StmtTree, idle, set, sequence, branch}
use Rattle.eq_verilog.specs.Scopes.{Scope, position, span}
use Rattle.eq_verilog.specs.Sizes.{unary_form, unary_own, operand_size, sizing, binary_own, left_sized, right_sized, own, inner_size, left_size, right_size}
use Rattle.eq_verilog.specs.Expressions.{wire, word_op}
use Rattle.eq_verilog.specs.Costs.{bits_below, bits_in, bits_set, cost, different, has_bit, side_cost, stmt_cost, unary_cost}
use Rattle.eq_budget.proofs.Named.{InExpr, InStmt}

-- ---- numbers

abbrev pub moved : ℕ → Option ℕ → Option ℕ
moved start None = None
moved start (Some b) = Some (start + b)

same_apart : (k c b : ℕ) → nat_eq (k + c) (k + b) ≡ nat_eq c b
same_apart k c b = elim (cases_Bool (nat_eq c b)) [
  | inl t ↦
      let here : c ≡ b = (Decides-eqb c b).0 t in
      (Decides-eqb (k + c) (k + b)).1 (ap (λ x. k + x) here) ∙ sym t
  | inr f ↦ elim (cases_Bool (nat_eq (k + c) (k + b))) [
    | inl t ↦
        let there : k + c ≡ k + b = (Decides-eqb (k + c) (k + b)).0 t in
        let here : c ≡ b = omega (arith, there) in
        t ∙ sym ((Decides-eqb c b).1 here)
    | inr g ↦ g ∙ sym f
  ]
]

module _ (start : ℕ) where
  abbrev Moved : List ℕ → List ℕ
  Moved bs = map (λ b. start + b) bs

  has_moved : (bs : List ℕ) (b : ℕ) → has_bit (Moved bs) (start + b) ≡ has_bit bs b
  has_moved [] b = refl
  has_moved (c ∷ bs) b = ap₂ (λ x y. x || y) (same_apart start c b) (has_moved bs b)

  -- as many different numbers
  pub different_moved : (bs : List ℕ) → different (Moved bs) ≡ different bs
  different_moved [] = refl
  different_moved (b ∷ bs) =
      ap (λ t. cond t (different (Moved bs)) (suc (different (Moved bs)))) (has_moved bs b)
      ∙ ap (λ n. cond (has_bit bs b) n (suc n)) (different_moved bs)

  one_below : (o : Option ℕ) (xs ys : List ℕ) → xs ≡ Moved ys →
      if_there xs (λ b. b ∷ xs) (moved start o) ≡ Moved (if_there ys (λ b. b ∷ ys) o)
  one_below None xs ys e = e
  one_below (Some b) xs ys e = ap (λ zs. (start + b) ∷ zs) e

  bits_moved : (n : ℕ) (f g : ℕ → Option ℕ) → ((j : ℕ) → f j ≡ moved start (g j)) →
      bits_below n f ≡ Moved (bits_below n g)
  bits_moved zero f g h = refl
  bits_moved (suc n) f g h =
      ap (λ o. if_there (bits_below n f) (λ b. b ∷ bits_below n f) o) (h n)
      ∙ one_below (g n) (bits_below n f) (bits_below n g) (bits_moved n f g h)

  one_moved : (f r k : ℕ) (t : Bool) → f ≡ start + r →
      cond t (Some (f + k)) None ≡ moved start (cond t (Some (r + k)) None)
  one_moved f r k true e = (let s : f + k ≡ start + (r + k) = omega (arith, e) in ap (λ x. Some x) s)
  one_moved f r k false e = refl

  either_moved : (t : Bool) (x y : Option ℕ) → cond t (moved start x) (moved start y) ≡ moved start (cond t x y)
  either_moved true x y = refl
  either_moved false x y = refl

-- ---- scopes

-- the name has the same range in both, and its first bit in r is `start` further on in s
abbrev pub IsShifted : Scope → Scope → ℕ → Name → Type 0
IsShifted s r start n = (s.range n ≡ r.range n) × (s.first n ≡ start + r.first n)

module _ (s r : Scope) (start : ℕ) where
  abbrev In : ExprTree → Type 0
  In e = InExpr (IsShifted s r start) e

  pub own_alike : (e : ExprTree) → In e → own s e ≡ own r e
  own_alike (const c) h = refl
  own_alike (net n) h = ap range_width h.0
  own_alike (bit n i) h = refl
  own_alike (part n a b) h = refl
  own_alike empty h = refl
  own_alike (joined a b) h = ap₂ (λ m n. m + n) (own_alike a h.0) (own_alike b h.1)
  own_alike (repeated n a) h = ap (λ m. n * m) (own_alike a h)
  own_alike (unary op a) h = ap (unary_own (unary_form op)) (own_alike a h)
  own_alike (binary op a b) h = ap₂ (binary_own (sizing op)) (own_alike a h.0) (own_alike b h.1)
  own_alike (choice c a b) h = ap₂ (λ m n. max m n) (own_alike a h.1) (own_alike b h.2)

  inner_alike : (op : UnOp) (a : ExprTree) (w : ℕ) → In a → inner_size s op a w ≡ inner_size r op a w
  inner_alike op a w h = ap (operand_size (unary_form op) w) (own_alike a h)

  left_alike : (op : BinOp) (a b : ExprTree) (w : ℕ) → In a → In b → left_size s op a b w ≡ left_size r op a b w
  left_alike op a b w h g = ap₂ (left_sized (sizing op) w) (own_alike a h) (own_alike b g)

  right_alike : (op : BinOp) (a b : ExprTree) (w : ℕ) → In a → In b → right_size s op a b w ≡ right_size r op a b w
  right_alike op a b w h g = ap₂ (right_sized (sizing op) w) (own_alike a h) (own_alike b g)

  pub cost_alike : (e : ExprTree) (w : ℕ) → In e → cost s e w ≡ cost r e w
  cost_alike (const c) w h = refl
  cost_alike (net n) w h = refl
  cost_alike (bit n i) w h = refl
  cost_alike (part n a b) w h = refl
  cost_alike empty w h = refl
  cost_alike (joined a b) w h =
      ap₂ (λ m n. cost s a m + cost s b n) (own_alike a h.0) (own_alike b h.1)
      ∙ ap₂ (λ m n. m + n) (cost_alike a (own r a) h.0) (cost_alike b (own r b) h.1)
  cost_alike (repeated n a) w h = ap (cost s a) (own_alike a h) ∙ cost_alike a (own r a) h
  cost_alike (unary op a) w h =
      ap (λ m. unary_cost (unary_form op) m + cost s a m) (inner_alike op a w h)
      ∙ ap (λ n. unary_cost (unary_form op) (inner_size r op a w) + n) (cost_alike a (inner_size r op a w) h)
  cost_alike (binary op a b) w h =
      ap₂ (λ m n. on.apply_cost (word_op op) m n + (cost s a m + cost s b n)) (left_alike op a b w h.0 h.1)
      (right_alike op a b w h.0 h.1)
      ∙ ap₂ (λ m n. on.apply_cost (word_op op) (left_size r op a b w) (right_size r op a b w) + (m + n))
      (cost_alike a (left_size r op a b w) h.0) (cost_alike b (right_size r op a b w) h.1)
  cost_alike (choice c a b) w h =
      ap (λ m. on.choose_cost m w + (cost s c m + (cost s a w + cost s b w))) (own_alike c h.0)
      ∙ ap (λ n. on.choose_cost (own r c) w + (n + (cost s a w + cost s b w))) (cost_alike c (own r c) h.0)
      ∙ ap₂ (λ m n. on.choose_cost (own r c) w + (cost r c (own r c) + (m + n))) (cost_alike a w h.1)
      (cost_alike b w h.2)

  -- as the right side for as many bits
  pub side_alike : (e : ExprTree) (n m : ℕ) → n ≡ m → In e → side_cost s e n ≡ side_cost r e m
  side_alike e n m same h =
      ap₂ (λ i j. cost s e (max i j)) same (own_alike e h) ∙ cost_alike e (max m (own r e)) h

  -- ---- the bits of targets

  wire_moved : (e : ExprTree) → In e → (j : ℕ) → wire s e j ≡ moved start (wire r e j)
  wire_moved (const c) h j = refl
  wire_moved (net n) h j =
      ap (λ o. cond (nat_lt j (range_width o)) (Some (s.first n + (0 + j))) None) h.0
      ∙ one_moved start (s.first n) (r.first n) (0 + j) (nat_lt j (range_width (r.range n))) h.1
  wire_moved (bit n i) h j =
      ap (λ o. cond (nat_lt j 1) (Some (s.first n + (position o i + j))) None) h.0
      ∙ one_moved start (s.first n) (r.first n) (position (r.range n) i + j) (nat_lt j 1) h.1
  wire_moved (part n a b) h j =
      ap (λ o. cond (nat_lt j (span a b)) (Some (s.first n + (position o b + j))) None) h.0
      ∙ one_moved start (s.first n) (r.first n) (position (r.range n) b + j) (nat_lt j (span a b)) h.1
  wire_moved empty h j = refl
  wire_moved (joined a b) h j =
      ap (λ n. cond (nat_lt j n) (wire s b j) (wire s a (j - n))) (own_alike b h.1)
      ∙ ap₂ (λ x y. cond (nat_lt j (own r b)) x y) (wire_moved b h.1 j) (wire_moved a h.0 (j - own r b))
      ∙ either_moved start (nat_lt j (own r b)) (wire r b j) (wire r a (j - own r b))
  wire_moved (repeated n a) h j =
      ap (λ m. cond (nat_lt j (n * m)) (wire s a (j % m)) None) (own_alike a h)
      ∙ ap (λ x. cond (nat_lt j (n * own r a)) x None) (wire_moved a h (j % own r a))
      ∙ either_moved start (nat_lt j (n * own r a)) (wire r a (j % own r a)) None
  wire_moved (unary op a) h j = refl
  wire_moved (binary op a b) h j = refl
  wire_moved (choice c a b) h j = refl

  bits_alike : (t : ExprTree) → In t → bits_in s t ≡ map (λ b. start + b) (bits_in r t)
  bits_alike t h =
      ap (λ n. bits_below n (wire s t)) (own_alike t h)
      ∙ bits_moved start (own r t) (wire s t) (wire r t) (wire_moved t h)

  -- ---- statements

  abbrev InBody : StmtTree → Type 0
  InBody b = InStmt (IsShifted s r start) b

  two_alike : (xs us ys vs : List ℕ) → xs ≡ map (λ b. start + b) us → ys ≡ map (λ b. start + b) vs →
      xs ++ ys ≡ map (λ b. start + b) (us ++ vs)
  two_alike xs us ys vs p q = ap₂ (λ cs ds. cs ++ ds) p q ∙ sym (map-append (λ b. start + b) us vs)

  set_alike : (b : StmtTree) → InBody b → bits_set s b ≡ map (λ b. start + b) (bits_set r b)
  set_alike idle h = refl
  set_alike (set t e) h = bits_alike t h.0
  set_alike (sequence a b) h =
      two_alike (bits_set s a) (bits_set r a) (bits_set s b) (bits_set r b) (set_alike a h.0) (set_alike b h.1)
  set_alike (branch c a b) h =
      two_alike (bits_set s a) (bits_set r a) (bits_set s b) (bits_set r b) (set_alike a h.1) (set_alike b h.2)

  -- a statement sets as many different bits
  pub different_alike : (b : StmtTree) → InBody b → different (bits_set s b) ≡ different (bits_set r b)
  different_alike b h = ap different (set_alike b h) ∙ different_moved start (bits_set r b)

  pub stmt_alike : (n : ℕ) (b : StmtTree) → InBody b → stmt_cost s n b ≡ stmt_cost r n b
  stmt_alike n idle h = refl
  stmt_alike n (set t e) h = side_alike e (own s t) (own r t) (own_alike t h.0) h.1
  stmt_alike n (sequence a b) h = ap₂ (λ x y. x + y) (stmt_alike n a h.0) (stmt_alike n b h.1)
  stmt_alike n (branch c a b) h =
      ap (λ m. (cost s c m + (4 * m + n)) + (stmt_cost s n a + stmt_cost s n b)) (own_alike c h.0)
      ∙ ap (λ k. (k + (4 * own r c + n)) + (stmt_cost s n a + stmt_cost s n b)) (cost_alike c (own r c) h.0)
      ∙ ap₂ (λ x y. (cost r c (own r c) + (4 * own r c + n)) + (x + y)) (stmt_alike n a h.1) (stmt_alike n b h.2)
