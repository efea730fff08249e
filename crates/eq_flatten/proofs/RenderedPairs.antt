-- The words of operators of two operands and of choices.
use Rattle.std.proofs.Common.{◌≡◌, ℕ, ◌≤◌, Bool, nat_lt, List, length, Option, None, refl, sym, ap, ◌∙◌}
use Rattle.std.proofs.Math.Path.{fun_ext}
use Rattle.eq_model.specs.System.{Values}
use Rattle.eq_names.specs.declared.BitName.{BitName}
use Rattle.eq_vparse.specs.declared.tree.BinOp.{BinOp}
use Rattle.eq_vparse.specs.declared.tree.BinOp.TheVariants as bin
use Rattle.eq_net.specs.declared.types.NetInfo.{NetInfo}
use Rattle.eq_net.specs.declared.types.WordOp.{WordOp}
use Rattle.eq_net.specs.declared.types.WordOp.TheVariants as op
use Rattle.eq_net.specs.Numbers.{Digits}
use Rattle.eq_net.specs.Operators as on
use Rattle.eq_net.specs.Tree as word
use Rattle.eq_net.specs.Tree.{Tree}
use Rattle.eq_net.specs.Meaning.{width, bit_of, reads_of, copy_in, cost_of}
use Rattle.eq_net.specs.Net.{IsWord, number_of}
use Rattle.eq_verilog.specs.Trees.{ExprTree, binary, choice}
use Rattle.eq_verilog.specs.Scopes.{Scope}
use Rattle.eq_verilog.specs.Sizes.{own, sizing, left_sized, right_sized, binary_own, left_size, right_size}
use Rattle.eq_verilog.specs.Expressions.{value, reads, word_op}
use Rattle.eq_flatten.specs.Forms.{operated}
use Rattle.eq_flatten.specs.Rendering.{Renders}
use Rattle.eq_flatten.proofs.Rendered.{none_left, one_bit_is, one_read_is}

operated_bits : (number : BitName → ℕ) (v : Values) (earlier : ℕ → ℕ → Bool) (o : WordOp) (x y : Tree) (w j : ℕ) →
    bit_of v number earlier (operated o x y w) j ≡ on.apply o (width x) (width y) (bit_of v number earlier x) (bit_of
    v number earlier y) j
operated_bits number v earlier op.Eq x y w j = one_bit_is _ j
operated_bits number v earlier op.Ne x y w j = one_bit_is _ j
operated_bits number v earlier op.Lt x y w j = one_bit_is _ j
operated_bits number v earlier op.Le x y w j = one_bit_is _ j
operated_bits number v earlier op.Gt x y w j = one_bit_is _ j
operated_bits number v earlier op.Ge x y w j = one_bit_is _ j
operated_bits number v earlier op.LogAnd x y w j = one_bit_is _ j
operated_bits number v earlier op.LogOr x y w j = one_bit_is _ j
operated_bits number v earlier op.And x y w j = refl
operated_bits number v earlier op.Or x y w j = refl
operated_bits number v earlier op.Xor x y w j = refl
operated_bits number v earlier op.Xnor x y w j = refl
operated_bits number v earlier op.Add x y w j = refl
operated_bits number v earlier op.Sub x y w j = refl
operated_bits number v earlier op.Shl x y w j = refl
operated_bits number v earlier op.Shr x y w j = refl

operated_reads : (number : BitName → ℕ) (earlier : ℕ → ℕ → List ℕ) (o : WordOp) (x y : Tree) (w j : ℕ) →
    reads_of number earlier (operated o x y w) j ≡ on.apply_reads o (width x) (width y) (reads_of number earlier x)
    (reads_of number earlier y) j
operated_reads number earlier op.Eq x y w j = one_read_is _ j
operated_reads number earlier op.Ne x y w j = one_read_is _ j
operated_reads number earlier op.Lt x y w j = one_read_is _ j
operated_reads number earlier op.Le x y w j = one_read_is _ j
operated_reads number earlier op.Gt x y w j = one_read_is _ j
operated_reads number earlier op.Ge x y w j = one_read_is _ j
operated_reads number earlier op.LogAnd x y w j = one_read_is _ j
operated_reads number earlier op.LogOr x y w j = one_read_is _ j
operated_reads number earlier op.And x y w j = refl
operated_reads number earlier op.Or x y w j = refl
operated_reads number earlier op.Xor x y w j = refl
operated_reads number earlier op.Xnor x y w j = refl
operated_reads number earlier op.Add x y w j = refl
operated_reads number earlier op.Sub x y w j = refl
operated_reads number earlier op.Shl x y w j = refl
operated_reads number earlier op.Shr x y w j = refl

operated_copies : (number : BitName → ℕ) (earlier : ℕ → ℕ → Option ℕ) (o : WordOp) (x y : Tree) (w j : ℕ) →
    copy_in number earlier (operated o x y w) j ≡ None
operated_copies number earlier op.Eq x y w j = none_left (nat_lt j 1) None
operated_copies number earlier op.Ne x y w j = none_left (nat_lt j 1) None
operated_copies number earlier op.Lt x y w j = none_left (nat_lt j 1) None
operated_copies number earlier op.Le x y w j = none_left (nat_lt j 1) None
operated_copies number earlier op.Gt x y w j = none_left (nat_lt j 1) None
operated_copies number earlier op.Ge x y w j = none_left (nat_lt j 1) None
operated_copies number earlier op.LogAnd x y w j = none_left (nat_lt j 1) None
operated_copies number earlier op.LogOr x y w j = none_left (nat_lt j 1) None
operated_copies number earlier op.And x y w j = refl
operated_copies number earlier op.Or x y w j = refl
operated_copies number earlier op.Xor x y w j = refl
operated_copies number earlier op.Xnor x y w j = refl
operated_copies number earlier op.Add x y w j = refl
operated_copies number earlier op.Sub x y w j = refl
operated_copies number earlier op.Shl x y w j = refl
operated_copies number earlier op.Shr x y w j = refl

pub operated_cost : (o : WordOp) (x y : Tree) (w : ℕ) → cost_of (operated o x y w) ≡ cost_of (word.binary o x y)
operated_cost op.Eq x y w = refl
operated_cost op.Ne x y w = refl
operated_cost op.Lt x y w = refl
operated_cost op.Le x y w = refl
operated_cost op.Gt x y w = refl
operated_cost op.Ge x y w = refl
operated_cost op.LogAnd x y w = refl
operated_cost op.LogOr x y w = refl
operated_cost op.And x y w = refl
operated_cost op.Or x y w = refl
operated_cost op.Xor x y w = refl
operated_cost op.Xnor x y w = refl
operated_cost op.Add x y w = refl
operated_cost op.Sub x y w = refl
operated_cost op.Shl x y w = refl
operated_cost op.Shr x y w = refl

-- it has w bits and is a word, where its operands have the sizes that the operator wants
operated_word : (nets : List NetInfo) (words : List Tree) (k : ℕ) (o : BinOp) (x y : Tree) (w n m : ℕ) →
    IsWord nets words k x → IsWord nets words k y → width x ≡ left_sized (sizing o) w n m →
    width y ≡ right_sized (sizing o) w n m →
    binary_own (sizing o) n m ≤ w → IsWord nets words k (operated (word_op o) x y w) × (width (operated (word_op o) x
    y w) ≡ w)
operated_word nets words k bin.Lt x y w n m ix iy ex ey le = (((ix, iy, λ f. ex ∙ sym ey), le), refl)
operated_word nets words k bin.Le x y w n m ix iy ex ey le = (((ix, iy, λ f. ex ∙ sym ey), le), refl)
operated_word nets words k bin.Gt x y w n m ix iy ex ey le = (((ix, iy, λ f. ex ∙ sym ey), le), refl)
operated_word nets words k bin.Ge x y w n m ix iy ex ey le = (((ix, iy, λ f. ex ∙ sym ey), le), refl)
operated_word nets words k bin.Eq x y w n m ix iy ex ey le = (((ix, iy, λ f. ex ∙ sym ey), le), refl)
operated_word nets words k bin.Ne x y w n m ix iy ex ey le = (((ix, iy, λ f. ex ∙ sym ey), le), refl)
operated_word nets words k bin.LogAnd x y w n m ix iy ex ey le = (((ix, iy, λ f. absurd (cc)), le), refl)
operated_word nets words k bin.LogOr x y w n m ix iy ex ey le = (((ix, iy, λ f. absurd (cc)), le), refl)
operated_word nets words k bin.Shl x y w n m ix iy ex ey le = ((ix, iy, λ f. absurd (cc)), ex)
operated_word nets words k bin.Shr x y w n m ix iy ex ey le = ((ix, iy, λ f. absurd (cc)), ex)
operated_word nets words k bin.Add x y w n m ix iy ex ey le = ((ix, iy, λ f. ex ∙ sym ey), ex)
operated_word nets words k bin.Sub x y w n m ix iy ex ey le = ((ix, iy, λ f. ex ∙ sym ey), ex)
operated_word nets words k bin.And x y w n m ix iy ex ey le = ((ix, iy, λ f. ex ∙ sym ey), ex)
operated_word nets words k bin.Xor x y w n m ix iy ex ey le = ((ix, iy, λ f. ex ∙ sym ey), ex)
operated_word nets words k bin.Xnor x y w n m ix iy ex ey le = ((ix, iy, λ f. ex ∙ sym ey), ex)
operated_word nets words k bin.Or x y w n m ix iy ex ey le = ((ix, iy, λ f. ex ∙ sym ey), ex)

module _ (nets : List NetInfo) (words : List Tree) (s : Scope) where
  pub renders_binary : (o : BinOp) (a b : ExprTree) (w : ℕ) (x y : Tree) → own s (binary o a b) ≤ w →
      Renders nets words s a (left_size s o a b w) x → Renders nets words s b (right_size s o a b w) y →
      Renders nets words s (binary o a b) w (operated (word_op o) x y w)
  renders_binary o a b w x y fits hx hy =
      let both = operated_word nets words (length words) o x y w (own s a) (own s b) hx.is_word hy.is_word hx.size
      hy.size fits in
      let l = left_size s o a b w in
      let r = right_size s o a b w in
      record {
        is_word = both.0;
        size = both.1;
        values = λ v earlier q. fun_ext (λ j.
            operated_bits (number_of nets) v earlier (word_op o) x y w j
            ∙ ap (λ m. on.apply (word_op o) m (width y) (bit_of v (number_of nets) earlier x) (bit_of v (number_of
            nets) earlier y) j) hx.size
            ∙ ap (λ n. on.apply (word_op o) l n (bit_of v (number_of nets) earlier x) (bit_of v (number_of nets)
            earlier y) j) hy.size
            ∙ ap (λ (f : Digits). on.apply (word_op o) l r f (bit_of v (number_of nets) earlier y) j) (hx.values v
            earlier q)
            ∙ ap (λ (g : Digits). on.apply (word_op o) l r (value s v a l) g j) (hy.values v earlier q));
        reads_same = λ earlier q. fun_ext (λ j.
            operated_reads (number_of nets) earlier (word_op o) x y w j
            ∙ ap (λ m. on.apply_reads (word_op o) m (width y) (reads_of (number_of nets) earlier x) (reads_of
            (number_of nets) earlier y) j) hx.size
            ∙ ap (λ n. on.apply_reads (word_op o) l n (reads_of (number_of nets) earlier x) (reads_of (number_of nets)
            earlier y) j) hy.size
            ∙ ap (λ (f : on.Reads). on.apply_reads (word_op o) l r f (reads_of (number_of nets) earlier y) j)
            (hx.reads_same earlier q)
            ∙ ap (λ (g : on.Reads). on.apply_reads (word_op o) l r (reads s a l) g j) (hy.reads_same earlier q));
        copies = λ earlier q. fun_ext (λ j. operated_copies (number_of nets) earlier (word_op o) x y w j);
      }

  pub renders_choice : (c a b : ExprTree) (w : ℕ) (z x y : Tree) → Renders nets words s c (own s c) z →
      Renders nets words s a w x → Renders nets words s b w y → Renders nets words s (choice c a b) w (word.choice z x
      y)
  renders_choice c a b w z x y hz hx hy = record {
    is_word = (hz.is_word, hx.is_word, hy.is_word, hx.size ∙ sym hy.size);
    size = hx.size;
    values = λ v earlier q. fun_ext (λ j.
        ap (λ n. on.choose n (bit_of v (number_of nets) earlier z) (bit_of v (number_of nets) earlier x) (bit_of v
        (number_of nets) earlier y) j) hz.size
        ∙ ap (λ (f : Digits). on.choose (own s c) f (bit_of v (number_of nets) earlier x) (bit_of v (number_of nets)
        earlier y) j) (hz.values v earlier q)
        ∙ ap (λ (f : Digits). on.choose (own s c) (value s v c (own s c)) f (bit_of v (number_of nets) earlier y) j)
        (hx.values v earlier q)
        ∙ ap (λ (f : Digits). on.choose (own s c) (value s v c (own s c)) (value s v a w) f j) (hy.values v earlier q));
    reads_same = λ earlier q. fun_ext (λ j.
        ap (λ n. on.choose_reads n (reads_of (number_of nets) earlier z) (reads_of (number_of nets) earlier x)
        (reads_of (number_of nets) earlier y) j) hz.size
        ∙ ap (λ (f : on.Reads). on.choose_reads (own s c) f (reads_of (number_of nets) earlier x) (reads_of (number_of
        nets) earlier y) j) (hz.reads_same earlier q)
        ∙ ap (λ (f : on.Reads). on.choose_reads (own s c) (reads s c (own s c)) f (reads_of (number_of nets) earlier
        y) j) (hx.reads_same earlier q)
        ∙ ap (λ (f : on.Reads). on.choose_reads (own s c) (reads s c (own s c)) (reads s a w) f j) (hy.reads_same
        earlier q));
    copies = λ earlier q. fun_ext (λ j. refl);
  }
