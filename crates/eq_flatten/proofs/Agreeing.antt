-- An expression means the same in scopes that say the same of its names.
use Rattle.std.proofs.Common.{◌≡◌, ℕ, ◌+◌, ◌-◌, ◌*◌, ◌%◌, max, false, nat_lt, ◌&&◌, cond, List, [], ◌∷◌, Some, None, refl, arith, ap, ap₂, ◌∙◌}
use Rattle.std.proofs.Math.Path.{fun_ext}
use Rattle.eq_model.specs.Nets.{range_width}
use Rattle.eq_model.specs.System.{Values}
use Rattle.eq_vparse.specs.declared.tree.UnOp.{UnOp}
use Rattle.eq_vparse.specs.declared.tree.BinOp.{BinOp}
use Rattle.eq_net.specs.declared.types.NetInfo.{NetInfo}
use Rattle.eq_net.specs.Meaning.{if_there}
use Rattle.eq_net.specs.Numbers.{Digits}
use Rattle.eq_net.specs.Operators as on
use Rattle.eq_net.specs.Tree.{Tree}
use Rattle.eq_verilog.specs.Trees.{ExprTree, const, net, bit, part, empty, joined, repeated, unary, binary, choice}
use Rattle.eq_verilog.specs.Scopes.{Scope, position, span}
use Rattle.eq_verilog.specs.Sizes.{unary_form, unary_own, operand_size, sizing, binary_own, left_sized, right_sized, own, inner_size, left_size, right_size}
use Rattle.eq_verilog.specs.Expressions.{value, reads, wire, unary_bit, unary_reads, word_op}
use Rattle.eq_verilog.specs.Costs.{cost, unary_cost}
use Rattle.eq_flatten.specs.Rendering.{Makes, SameNames}

module _ (s r : Scope) where
  pub own_same : (e : ExprTree) → SameNames s r e → own s e ≡ own r e
  own_same (const c) h = refl
  own_same (net n) h = ap range_width h.0
  own_same (bit n i) h = refl
  own_same (part n a b) h = refl
  own_same empty h = refl
  own_same (joined a b) h = ap₂ (λ m n. m + n) (own_same a h.0) (own_same b h.1)
  own_same (repeated n a) h = ap (λ m. n * m) (own_same a h)
  own_same (unary op a) h = ap (unary_own (unary_form op)) (own_same a h)
  own_same (binary op a b) h = ap₂ (binary_own (sizing op)) (own_same a h.0) (own_same b h.1)
  own_same (choice c a b) h = ap₂ (λ m n. max m n) (own_same a h.1) (own_same b h.2)

  inner_same : (op : UnOp) (a : ExprTree) (w : ℕ) → SameNames s r a → inner_size s op a w ≡ inner_size r op a w
  inner_same op a w h = ap (operand_size (unary_form op) w) (own_same a h)

  left_same : (op : BinOp) (a b : ExprTree) (w : ℕ) → SameNames s r (binary op a b) →
      left_size s op a b w ≡ left_size r op a b w
  left_same op a b w h = ap₂ (left_sized (sizing op) w) (own_same a h.0) (own_same b h.1)

  right_same : (op : BinOp) (a b : ExprTree) (w : ℕ) → SameNames s r (binary op a b) →
      right_size s op a b w ≡ right_size r op a b w
  right_same op a b w h = ap₂ (right_sized (sizing op) w) (own_same a h.0) (own_same b h.1)

  pub wire_same : (e : ExprTree) → SameNames s r e → (j : ℕ) → wire s e j ≡ wire r e j
  wire_same (const c) h j = refl
  wire_same (net n) h j = ap₂ (λ o f. cond (nat_lt j (range_width o)) (Some (f + (0 + j))) None) h.0 h.1
  wire_same (bit n i) h j = ap₂ (λ o f. cond (nat_lt j 1) (Some (f + (position o i + j))) None) h.0 h.1
  wire_same (part n a b) h j = ap₂ (λ o f. cond (nat_lt j (span a b)) (Some (f + (position o b + j))) None) h.0 h.1
  wire_same empty h j = refl
  wire_same (joined a b) h j =
      ap (λ n. cond (nat_lt j n) (wire s b j) (wire s a (j - n))) (own_same b h.1)
      ∙ ap₂ (λ x y. cond (nat_lt j (own r b)) x y) (wire_same b h.1 j) (wire_same a h.0 (j - own r b))
  wire_same (repeated n a) h j =
      ap (λ m. cond (nat_lt j (n * m)) (wire s a (j % m)) None) (own_same a h)
      ∙ ap (λ x. cond (nat_lt j (n * own r a)) x None) (wire_same a h (j % own r a))
  wire_same (unary op a) h j = refl
  wire_same (binary op a b) h j = refl
  wire_same (choice c a b) h j = refl

  pub value_same : (v : Values) (e : ExprTree) (w : ℕ) → SameNames s r e → value s v e w ≡ value r v e w
  value_same v (const c) w h = fun_ext (λ j. refl)
  value_same v (net n) w h = fun_ext (λ j. ap (if_there false v) (wire_same (net n) h j))
  value_same v (bit n i) w h = fun_ext (λ j. ap (if_there false v) (wire_same (bit n i) h j))
  value_same v (part n a b) w h = fun_ext (λ j. ap (if_there false v) (wire_same (part n a b) h j))
  value_same v empty w h = fun_ext (λ j. refl)
  value_same v (joined a b) w h = fun_ext (λ j.
      ap₂ (λ m n. cond (nat_lt j n) (value s v b n j) (on.extended m (value s v a m) (j - n))) (own_same a h.0)
      (own_same b h.1)
      ∙ ap₂ (λ (f g : Digits). cond (nat_lt j (own r b)) (f j) (on.extended (own r a) g (j - own r b)))
      (value_same v b (own r b) h.1) (value_same v a (own r a) h.0))
  value_same v (repeated n a) w h = fun_ext (λ j.
      ap (λ m. nat_lt j (n * m) && value s v a m (j % m)) (own_same a h)
      ∙ ap (λ (f : Digits). nat_lt j (n * own r a) && f (j % own r a)) (value_same v a (own r a) h))
  value_same v (unary op a) w h = fun_ext (λ j.
      ap (λ m. unary_bit (unary_form op) m (value s v a m) j) (inner_same op a w h)
      ∙ ap (λ (f : Digits). unary_bit (unary_form op) (inner_size r op a w) f j) (value_same v a (inner_size r op a w)
      h))
  value_same v (binary op a b) w h = fun_ext (λ j.
      ap₂ (λ m n. on.apply (word_op op) m n (value s v a m) (value s v b n) j) (left_same op a b w h) (right_same op a
      b w h)
      ∙ ap₂ (λ (f g : Digits). on.apply (word_op op) (left_size r op a b w) (right_size r op a b w) f g j)
      (value_same v a (left_size r op a b w) h.0) (value_same v b (right_size r op a b w) h.1))
  value_same v (choice c a b) w h = fun_ext (λ j.
      ap (λ m. on.choose m (value s v c m) (value s v a w) (value s v b w) j) (own_same c h.0)
      ∙ ap (λ (f : Digits). on.choose (own r c) f (value s v a w) (value s v b w) j) (value_same v c (own r c) h.0)
      ∙ ap₂ (λ (f g : Digits). on.choose (own r c) (value r v c (own r c)) f g j) (value_same v a w h.1) (value_same v
      b w h.2))

  pub reads_same : (e : ExprTree) (w : ℕ) → SameNames s r e → reads s e w ≡ reads r e w
  reads_same (const c) w h = fun_ext (λ j. refl)
  reads_same (net n) w h = fun_ext (λ j. ap (if_there [] (λ b. b ∷ [])) (wire_same (net n) h j))
  reads_same (bit n i) w h = fun_ext (λ j. ap (if_there [] (λ b. b ∷ [])) (wire_same (bit n i) h j))
  reads_same (part n a b) w h = fun_ext (λ j. ap (if_there [] (λ b. b ∷ [])) (wire_same (part n a b) h j))
  reads_same empty w h = fun_ext (λ j. refl)
  reads_same (joined a b) w h = fun_ext (λ j.
      ap₂ (λ m n. cond (nat_lt j n) (reads s b n j) (on.extended_reads m (reads s a m) (j - n))) (own_same a h.0)
      (own_same b h.1)
      ∙ ap₂ (λ (f g : on.Reads). cond (nat_lt j (own r b)) (f j) (on.extended_reads (own r a) g (j - own r b)))
      (reads_same b (own r b) h.1) (reads_same a (own r a) h.0))
  reads_same (repeated n a) w h = fun_ext (λ j.
      ap (λ m. cond (nat_lt j (n * m)) (reads s a m (j % m)) []) (own_same a h)
      ∙ ap (λ (f : on.Reads). cond (nat_lt j (n * own r a)) (f (j % own r a)) []) (reads_same a (own r a) h))
  reads_same (unary op a) w h = fun_ext (λ j.
      ap (λ m. unary_reads (unary_form op) m (reads s a m) j) (inner_same op a w h)
      ∙ ap (λ (f : on.Reads). unary_reads (unary_form op) (inner_size r op a w) f j) (reads_same a (inner_size r op a
      w) h))
  reads_same (binary op a b) w h = fun_ext (λ j.
      ap₂ (λ m n. on.apply_reads (word_op op) m n (reads s a m) (reads s b n) j) (left_same op a b w h) (right_same op
      a b w h)
      ∙ ap₂ (λ (f g : on.Reads). on.apply_reads (word_op op) (left_size r op a b w) (right_size r op a b w) f g j)
      (reads_same a (left_size r op a b w) h.0) (reads_same b (right_size r op a b w) h.1))
  reads_same (choice c a b) w h = fun_ext (λ j.
      ap (λ m. on.choose_reads m (reads s c m) (reads s a w) (reads s b w) j) (own_same c h.0)
      ∙ ap (λ (f : on.Reads). on.choose_reads (own r c) f (reads s a w) (reads s b w) j) (reads_same c (own r c) h.0)
      ∙ ap₂ (λ (f g : on.Reads). on.choose_reads (own r c) (reads r c (own r c)) f g j) (reads_same a w h.1)
      (reads_same b w h.2))

  cost_same : (e : ExprTree) (w : ℕ) → SameNames s r e → cost s e w ≡ cost r e w
  cost_same (const c) w h = refl
  cost_same (net n) w h = refl
  cost_same (bit n i) w h = refl
  cost_same (part n a b) w h = refl
  cost_same empty w h = refl
  cost_same (joined a b) w h =
      ap₂ (λ m n. cost s a m + cost s b n) (own_same a h.0) (own_same b h.1)
      ∙ ap₂ (λ m n. m + n) (cost_same a (own r a) h.0) (cost_same b (own r b) h.1)
  cost_same (repeated n a) w h = ap (cost s a) (own_same a h) ∙ cost_same a (own r a) h
  cost_same (unary op a) w h =
      ap (λ m. unary_cost (unary_form op) m + cost s a m) (inner_same op a w h)
      ∙ ap (λ n. unary_cost (unary_form op) (inner_size r op a w) + n) (cost_same a (inner_size r op a w) h)
  cost_same (binary op a b) w h =
      ap₂ (λ m n. on.apply_cost (word_op op) m n + (cost s a m + cost s b n)) (left_same op a b w h) (right_same op a
      b w h)
      ∙ ap₂ (λ m n. on.apply_cost (word_op op) (left_size r op a b w) (right_size r op a b w) + (m + n))
      (cost_same a (left_size r op a b w) h.0) (cost_same b (right_size r op a b w) h.1)
  cost_same (choice c a b) w h =
      ap (λ m. on.choose_cost m w + (cost s c m + (cost s a w + cost s b w))) (own_same c h.0)
      ∙ ap (λ n. on.choose_cost (own r c) w + (n + (cost s a w + cost s b w))) (cost_same c (own r c) h.0)
      ∙ ap₂ (λ m n. on.choose_cost (own r c) w + (cost r c (own r c) + (m + n))) (cost_same a w h.1) (cost_same b w h.2)

  -- what is made of an expression in one scope is made of it in the other
  pub makes_alike : (nets : List NetInfo) (e : ExprTree) (w : ℕ) (old new : List Tree) (t : Tree) → SameNames s r e →
      Makes nets s e w old new t → Makes nets r e w old new t
  makes_alike nets e w old new t h m = record {
    extends = m.extends;
    words = m.words;
    renders = record {
      is_word = m.renders.is_word;
      size = m.renders.size;
      values = λ v earlier q. m.renders.values v earlier q ∙ value_same v e w h;
      reads_same = λ earlier q. m.renders.reads_same earlier q ∙ reads_same e w h;
      copies = λ earlier q. m.renders.copies earlier q ∙ fun_ext (wire_same e h);
    };
    costs = (let c = m.costs in let d = cost_same e w h in omega arith);
  }
