-- The words of each form of an expression, made from the words of its operands, with their costs.
use Rattle.std.proofs.Common.{◌≡◌, ℕ, zero, suc, ◌+◌, ◌*◌, ◌<◌, ◌≤◌, List, [], ◌∷◌, ◌++◌, length, map, take, slice_index_or, refl, arith, sym, ap, subst, ◌∙◌}
use Rattle.eq_vparse.specs.declared.tree.Expr.{Expr}
use Rattle.eq_vparse.specs.declared.tree.UnOp.{UnOp}
use Rattle.eq_vparse.specs.declared.tree.BinOp.{BinOp}
use Rattle.eq_net.specs.declared.types.NetInfo.{NetInfo}
use Rattle.eq_net.specs.declared.types.Word.{Word}
use Rattle.eq_net.specs.declared.types.Word.TheVariants.{rolls-Concat}
use Rattle.eq_net.specs.declared.types.Word.TheViews.{Concat}
use Rattle.eq_net.specs.declared.types.Word.TheOpen.{Concat as concat_layer}
use Rattle.eq_net.specs.declared.types.Word.TheFolds.{fold-roll-Word}
use Rattle.eq_net.specs.Operators as on
use Rattle.eq_net.specs.Tree as word
use Rattle.eq_net.specs.Tree.{Tree, layer, tree_of, trees_of}
use Rattle.eq_net.specs.Meaning.{width, cost_of}
use Rattle.eq_verilog.specs.Trees.{ExprTree, repeated, unary, binary, choice, join_all, expr_tree}
use Rattle.eq_verilog.specs.Scopes.{Scope}
use Rattle.eq_verilog.specs.Sizes.{UnaryForm, complement, opposite, reduction, Sizing, in_context, shifting, comparing, judging, unary_form, binary_own, right_sized, own, inner_size, left_size, right_size}
use Rattle.eq_verilog.specs.Expressions.{word_op}
use Rattle.eq_verilog.specs.Costs.{unary_cost}
use Rattle.eq_analysis.specs.Measuring.{IsFit}
use Rattle.eq_flatten.specs.Forms.{formed, operated, word_bits}
use Rattle.eq_flatten.specs.Rendering.{Makes, MakesAll}
use Rattle.eq_flatten.proofs.Making.{extends_twice, join_costs, makes_one, makes_parts, makes_two, makes_word, renders_later}
use Rattle.eq_flatten.proofs.Rendered.{renders_formed}
use Rattle.eq_flatten.proofs.RenderedPairs.{operated_cost, renders_binary, renders_choice}
use Rattle.eq_flatten.proofs.RenderedParts.{renders_once, renders_parts, renders_repeat}

-- ---- lists of words and of parts

pub tree_of_concat : (ws : List Word) → tree_of (Concat ws) ≡ word.join_all (trees_of ws)
tree_of_concat ws = ap tree_of (sym (rolls-Concat ws)) ∙ fold-roll-Word Tree layer (concat_layer ws)

pub trees_more : (ws : List Word) (w : Word) → trees_of (ws ++ w ∷ []) ≡ trees_of ws ++ tree_of w ∷ []
trees_more [] w = refl
trees_more (x ∷ ws) w = ap (λ ts. tree_of x ∷ ts) (trees_more ws w)

pub trees_length : (ws : List Word) → length (trees_of ws) ≡ length ws
trees_length [] = refl
trees_length (w ∷ ws) = (let e = trees_length ws in omega arith)

taken_suc : (es : List Expr) (k : ℕ) (e : Expr) → k < length es → e ≡ slice_index_or es k e →
    map expr_tree (take (suc k) es) ≡ map expr_tree (take k es) ++ expr_tree e ∷ []
taken_suc [] k e lt is = absurd (omega arith)
taken_suc (x ∷ xs) zero e lt is = ap (λ y. expr_tree y ∷ []) (sym is)
taken_suc (x ∷ xs) (suc k) e lt is = ap (λ ts. expr_tree x ∷ ts) (taken_suc xs k e (omega arith) is)

-- one part more
pub taken_next : (es : List Expr) (k : ℕ) (e : Expr) → k < length es → e ≡ slice_index_or es k e →
    map expr_tree (take (k + 1) es) ≡ map expr_tree (take k es) ++ expr_tree e ∷ []
taken_next es k e lt is =
    let next : suc k ≡ k + 1 = omega arith in
    subst (λ m. map expr_tree (take m es) ≡ map expr_tree (take k es) ++ expr_tree e ∷ []) next (taken_suc es k e lt is)

-- each part of a concatenation has its names and selects
pub fit_part : (nets : List NetInfo) (names : List (List ℕ)) (from : ℕ) (es : List Expr) (k : ℕ) (e : Expr) →
    k < length es →
    e ≡ slice_index_or es k e → IsFit nets names from (join_all (map expr_tree es)) →
    IsFit nets names from (expr_tree e)
fit_part nets names from [] k e lt is h = absurd (omega arith)
fit_part nets names from (x ∷ xs) zero e lt is h = subst (λ y. IsFit nets names from (expr_tree y)) (sym is) h.0
fit_part nets names from (x ∷ xs) (suc k) e lt is h = fit_part nets names from xs k e (omega arith) is h.1

-- ---- sizes

pub right_fits : (r : Sizing) (w n m : ℕ) → binary_own r n m ≤ w → m ≤ right_sized r w n m
right_fits in_context w n m le = omega arith
right_fits shifting w n m le = omega arith
right_fits comparing w n m le = omega arith
right_fits judging w n m le = omega arith

-- ---- forms

formed_cost : (form : UnaryForm) (t : Tree) (w : ℕ) → cost_of (formed form t w) ≡ cost_of t + unary_cost form (width t)
formed_cost complement t w = refl
formed_cost opposite t w = refl
formed_cost (reduction r) t w = refl

module _ (nets : List NetInfo) (s : Scope) where
  unary_made : (op : UnOp) (a : ExprTree) (w : ℕ) (old new : List Tree) (x : Tree) → own s (unary op a) ≤ w →
      Makes nets s a (inner_size s op a w) old new x → Makes nets s (unary op a) w old new (formed (unary_form op) x w)
  unary_made op a w old new x fits h =
      let m = inner_size s op a w in
      let c : cost_of (formed (unary_form op) x w) ≡ cost_of x + unary_cost (unary_form op) m =
      formed_cost (unary_form op) x w ∙ ap (λ n. cost_of x + unary_cost (unary_form op) n) h.renders.size in
      makes_one nets s a (unary op a) m w (unary_cost (unary_form op) m) old new x (formed (unary_form op) x w) h
      (renders_formed nets new s a (unary op a) (unary_form op) w m (own s a) x refl fits h.renders (λ v j. refl) (λ
      j. refl) (λ j. refl))
      (omega arith) (omega arith)

  pub makes_unary : (op : UnOp) (a : ExprTree) (w m : ℕ) (old new : List Tree) (x : Tree) → m ≡ inner_size s op a w →
      own s (unary op a) ≤ w → Makes nets s a m old new x → Makes nets s (unary op a) w old new (formed (unary_form
      op) x w)
  makes_unary op a w m old new x is fits h = unary_made op a w old new x fits (subst (λ n. Makes nets s a n old new x)
      is h)

  binary_made : (op : BinOp) (a b : ExprTree) (w : ℕ) (old mid new : List Tree) (x y : Tree) →
      own s (binary op a b) ≤ w →
      Makes nets s a (left_size s op a b w) old mid x → Makes nets s b (right_size s op a b w) mid new y →
      Makes nets s (binary op a b) w old new (operated (word_op op) x y w)
  binary_made op a b w old mid new x y fits h k =
      let l = left_size s op a b w in
      let r = right_size s op a b w in
      let c : cost_of (operated (word_op op) x y w) ≡ (cost_of x + cost_of y) + on.apply_cost (word_op op) l r =
      operated_cost (word_op op) x y w
      ∙ ap (λ n. (cost_of x + cost_of y) + on.apply_cost (word_op op) n (width y)) h.renders.size
      ∙ ap (λ n. (cost_of x + cost_of y) + on.apply_cost (word_op op) l n) k.renders.size in
      makes_two nets s a b (binary op a b) l r w (on.apply_cost (word_op op) l r) old mid new x y (operated (word_op
      op) x y w) h k
      (renders_binary nets new s op a b w x y fits (renders_later nets mid new s a l x k.extends h.renders) k.renders)
      (omega arith) (omega arith)

  pub makes_binary : (op : BinOp) (a b : ExprTree) (w l r : ℕ) (old mid new : List Tree) (x y : Tree) →
      l ≡ left_size s op a b w →
      r ≡ right_size s op a b w → own s (binary op a b) ≤ w → Makes nets s a l old mid x → Makes nets s b r mid new y →
      Makes nets s (binary op a b) w old new (operated (word_op op) x y w)
  makes_binary op a b w l r old mid new x y el er fits h k =
      binary_made op a b w old mid new x y fits (subst (λ n. Makes nets s a n old mid x) el h) (subst (λ n. Makes nets
      s b n mid new y) er k)

  choice_made : (c a b : ExprTree) (w : ℕ) (old one two new : List Tree) (z x y : Tree) →
      Makes nets s c (own s c) old one z →
      Makes nets s a w one two x → Makes nets s b w two new y → Makes nets s (choice c a b) w old new (word.choice z x
      y)
  choice_made c a b w old one two new z x y h k q =
      let later = extends_twice one two new k.extends q.extends in
      let d : cost_of (word.choice z x y) ≡ (cost_of z + (cost_of x + cost_of y)) + on.choose_cost (own s c) w =
      ap (λ n. (cost_of z + (cost_of x + cost_of y)) + on.choose_cost n (width x)) h.renders.size
      ∙ ap (λ n. (cost_of z + (cost_of x + cost_of y)) + on.choose_cost (own s c) n) k.renders.size in
      record {
        extends = extends_twice old one new h.extends later;
        words = λ are. q.words (k.words (h.words are));
        renders = renders_choice nets new s c a b w z x y (renders_later nets one new s c (own s c) z later h.renders)
            (renders_later nets two new s a w x q.extends k.renders) q.renders;
        costs = (let e = h.costs in let f = k.costs in let g = q.costs in omega arith);
      }

  pub makes_choice : (c a b : ExprTree) (w m : ℕ) (old one two new : List Tree) (z x y : Tree) → m ≡ own s c →
      Makes nets s c m old one z →
      Makes nets s a w one two x → Makes nets s b w two new y → Makes nets s (choice c a b) w old new (word.choice z x
      y)
  makes_choice c a b w m old one two new z x y is h k q =
      choice_made c a b w old one two new z x y (subst (λ n. Makes nets s c n old one z) is h) k q

  pub makes_concat : (es : List ExprTree) (w : ℕ) (old new ts : List Tree) → own s (join_all es) ≤ w →
      MakesAll nets s es old new ts →
      Makes nets s (join_all es) w old new (word.extended (word.join_all ts) w)
  makes_concat es w old new ts fits h =
      makes_parts nets s es w old new ts (word.extended (word.join_all ts) w) h refl (renders_parts nets new s es ts w
      fits h.renders)

  repeat_made : (n : ℕ) (a : ExprTree) (w : ℕ) (old mid new : List Tree) (x : Tree) → new ≡ mid ++ x ∷ [] →
      n * own s a ≤ w →
      Makes nets s a (own s a) old mid x →
      Makes nets s (repeated n a) w old new (word.extended (word.pick (word_bits (length mid) (own s a) (n * own s
      a))) w)
  repeat_made n a w old mid new x is fits h =
      makes_word nets s a (repeated n a) (own s a) w old mid new x
      (word.extended (word.pick (word_bits (length mid) (own s a) (n * own s a))) w) h is
      (λ r at lt. renders_repeat nets new s n a w (length mid) x fits lt at r) (omega arith) (omega arith)

  pub makes_repeat : (n : ℕ) (a : ExprTree) (w k m : ℕ) (old mid new : List Tree) (x : Tree) → k ≡ length mid →
      m ≡ own s a →
      new ≡ mid ++ x ∷ [] → n * own s a ≤ w → Makes nets s a m old mid x →
      Makes nets s (repeated n a) w old new (word.extended (word.pick (word_bits k m (n * m))) w)
  makes_repeat n a w k m old mid new x ek em is fits h =
      subst (λ i. Makes nets s (repeated n a) w old new (word.extended (word.pick (word_bits i m (n * m))) w)) (sym ek)
      (subst (λ i. Makes nets s (repeated n a) w old new (word.extended (word.pick (word_bits (length mid) i (n * i)))
      w)) (sym em)
      (repeat_made n a w old mid new x is fits (subst (λ i. Makes nets s a i old mid x) em h)))

  -- a repeat of one is what it repeats
  pub makes_once : (es : List ExprTree) (n w : ℕ) (old new : List Tree) (t : Tree) → n ≡ 1 →
      Makes nets s (join_all es) w old new t →
      Makes nets s (repeated n (join_all es)) w old new t
  makes_once es n w old new t is h =
      subst (λ k. Makes nets s (repeated k (join_all es)) w old new t) (sym is) (record {
        extends = h.extends;
        words = h.words;
        renders = renders_once nets new s es w t h.renders;
        costs = (let c = h.costs in let a = join_costs nets s es w in let b = join_costs nets s es (own s (join_all
            es)) in omega arith);
      })
