use Rattle.std.proofs.Common.{rules, ◌≡◌, ◌≤◌, ◌++◌, ◌∷◌, [], ℕ, List, map, take, arith, ap, ap₂, subst, sym, ◌∙◌}
use Rattle.eq_vparse.specs.declared.tree.Expr.TheViews.{the_lemmas}
use Rattle.eq_net.specs.Tree.{Tree, extended, tree_of, trees_of}
use Rattle.eq_verilog.specs.Trees as tree
use Rattle.eq_verilog.specs.Trees.{ExprTree, expr_tree, join_all}
use Rattle.eq_verilog.specs.Sizes.{left_size, own, right_size}
use Rattle.eq_analysis.specs.Finding.{scope_of}
use Rattle.eq_flatten.specs.Forms.{operated}
use Rattle.eq_flatten.specs.Rendering.{Makes, MakesAll}
use Rattle.eq_flatten.proofs.Composing.{fit_part, makes_binary, makes_choice, makes_concat, makes_once, makes_repeat, makes_unary, taken_next, tree_of_concat, trees_length, trees_more}
use Rattle.eq_flatten.proofs.Making.{all_more}
use Rattle.eq_flatten.proofs.PartsSmall.{all_small, small_at}
use Rattle.eq_flatten.proofs.Selecting.{if_ok, makes_constant}
use Rattle.eq_flatten.proofs.words.+words.Goals as goal

pub concat_word-returns : goal.concat_word-returns
concat_word-returns t c =
    let nets = c.args.nets.now in
    let s = scope_of nets c.args.names.now c.args.from in
    let es = map expr_tree c.args.parts.now in
    let w = c.args.size in
    let ws = c.in_ok-made.made in
    if_ok c.extended.result (λ made e. subst
    (λ (k : Tree). Makes nets s (join_all es) w (trees_of c.args.words.now) (trees_of c.part_words.new.words) k)
    (sym (e ∙ ap (λ k. extended k w) (tree_of_concat ws)))
    (makes_concat nets s es w (trees_of c.args.words.now) (trees_of c.part_words.new.words) (trees_of ws)
    c.requires.context c.in_ok-made.ensures))
    c.extended.ensures

pub concat_word-part_words-requires : goal.concat_word-part_words-requires
concat_word-part_words-requires t c = (
  search (rules, the_lemmas),
  (
    c.requires.room,
    (
      c.requires.fit,
      all_small (scope_of c.args.nets.now c.args.names.now c.args.from) (map expr_tree c.args.parts.now)
          c.requires.small,
    ),
  ),
)

pub part_words-own-size-requires-clause-small : goal.part_words-own-size-requires-clause-small
part_words-own-size-requires-clause-small t c =
    small_at (scope_of c.args.nets.now c.args.names.now c.args.from) c.args.parts.now c.loop-part.part-index
    c.part-item.result
    c.loop-part-test.true c.part-item.is c.requires.small

pub part_words-word-requires : goal.part_words-word-requires
part_words-word-requires t c =
    let nets = c.args.nets.now in
    let s = scope_of nets c.args.names.now c.args.from in
    let i = c.loop-part.part-index in
    let e = c.part-item.result in
    let size = c.own-size.ensures in (
      search (rules, the_lemmas),
      (
        c.requires.room,
        (
          fit_part nets c.args.names.now c.args.from c.args.parts.now i e c.loop-part-test.true c.part-item.is
              c.requires.fit,
          (small_at s c.args.parts.now i e c.loop-part-test.true c.part-item.is c.requires.small, omega arith),
        ),
      ),
    )

pub part_words-loop-part-preserved : goal.part_words-loop-part-preserved
part_words-loop-part-preserved t c =
    let nets = c.args.nets.now in
    let s = scope_of nets c.args.names.now c.args.from in
    let i = c.loop-part.part-index in
    let e = c.part-item.result in
    let es = map expr_tree (take i c.args.parts.now) in
    let old = trees_of c.args.words.now in
    let mid = trees_of c.loop-part.words in
    let new = trees_of c.word.new.words in
    let ts = trees_of c.loop-part.made in
    let x = tree_of c.in_ok-next.next in
    let parts = taken_next c.args.parts.now i e c.loop-part-test.true c.part-item.is in
    let made = ap trees_of c.in_ok-push.ensures.ok ∙ trees_more c.loop-part.made c.in_ok-next.next in
    let P : List ExprTree → Type 0 = λ k. MakesAll nets s k old new (trees_of c.push.new.self) in
    let Q : List Tree → Type 0 = λ k. MakesAll nets s (es ++ expr_tree e ∷ []) old new k in
    let R : ℕ → Type 0 = λ n. Makes nets s (expr_tree e) n mid new x in
    subst P (sym parts) (subst Q (sym made)
    (all_more nets s es (expr_tree e) old mid new ts x c.loop-part.invariant (subst R c.own-size.ensures
    c.in_ok-next.ensures)))

pub repeat_word-returns : goal.repeat_word-returns
repeat_word-returns t c =
    let nets = c.args.nets.now in
    let s = scope_of nets c.args.names.now c.args.from in
    let a = join_all (map expr_tree c.args.parts.now) in
    let w = c.args.size in
    let old = trees_of c.args.words.now in
    let mid = trees_of c.concat_word-2.new.words in
    let new = trees_of c.add_word.new.words in
    let x = tree_of c.in_ok-once.once in
    let number = c.in_ok-number.ensures.number ∙ sym (trees_length c.concat_word-2.new.words) in
    let added = ap trees_of c.in_ok-number.ensures.added ∙ trees_more c.concat_word-2.new.words c.in_ok-once.once in
    if_ok c.pick.result (λ made e. subst (λ (k : Tree). Makes nets s (tree.repeated c.args.times a) w old new k) (sym e)
    (makes_repeat nets s c.args.times a w c.in_ok-number.number c.own_of_all-width.result old mid new x number
    c.own_of_all-width.ensures added
    c.requires.context c.in_ok-once.ensures)) c.pick.ensures

pub unary_word-returns : goal.unary_word-returns
unary_word-returns t c =
    let nets = c.args.nets.now in
    let s = scope_of nets c.args.names.now c.args.from in
    let a = expr_tree c.args.a.now in
    let w = c.args.size in
    if_ok c.unary.result (λ made e. subst
    (λ (k : Tree). Makes nets s (tree.unary c.args.op a) w (trees_of c.args.words.now) (trees_of c.word.new.words) k)
    (sym e)
    (makes_unary nets s c.args.op a w c.inner_size-inner.result (trees_of c.args.words.now) (trees_of c.word.new.words)
    (tree_of c.in_ok-operand.operand) c.inner_size-inner.ensures c.requires.context c.in_ok-operand.ensures))
    c.unary.ensures

pub word-returns-in-Const : goal.word-returns-in-Const
word-returns-in-Const t c =
    let nets = c.args.nets.now in
    let s = scope_of nets c.args.names.now c.args.from in
    let w = c.args.size in
    let words = trees_of c.args.words.now in
    let is : expr_tree c.args.expr.now ≡ tree.const c.in-Const.value = ap expr_tree c.in-Const.is
    ∙ c.expression_trees.ensures.constant c.in-Const.value in
    let fits = subst (λ k. own s k ≤ w) is c.requires.context in
    if_ok c.constant.result (λ made e. subst (λ k. Makes nets s k w words words (tree_of made)) (sym is)
    (subst (λ (k : Tree). Makes nets s (tree.const c.in-Const.value) w words words k) (sym e)
    (makes_constant nets words s c.in-Const.value w fits))) c.constant.ensures

pub word-returns-in_ok-other-in-Binary : goal.word-returns-in_ok-other-in-Binary
word-returns-in_ok-other-in-Binary t c =
    let nets = c.args.nets.now in
    let s = scope_of nets c.args.names.now c.args.from in
    let w = c.args.size in
    let o = c.in-Binary.op in
    let a = expr_tree c.in-Binary.a in
    let b = expr_tree c.in-Binary.b in
    let l = c.operand_sizes-left.result.0 in
    let r = c.operand_sizes-left.result.1 in
    let old = trees_of c.args.words.now in
    let mid = trees_of c.word.new.words in
    let new = trees_of c.word-in-Binary.new.words in
    let x = tree_of c.in_ok-one-in-Binary.one in
    let y = tree_of c.in_ok-other-in-Binary.other in
    let is : expr_tree c.args.expr.now ≡ tree.binary o a b = ap expr_tree c.in-Binary.is
    ∙ c.expression_trees.ensures.binary o c.in-Binary.a c.in-Binary.b in
    let fits = subst (λ k. own s k ≤ w) is c.requires.context in
    let left = c.operand_sizes-left.ensures.left
    ∙ ap₂ (λ p q. left_size s o (expr_tree p) (expr_tree q) w) c.get-in-Binary.ensures c.get-in-Binary-2.ensures in
    let right = c.operand_sizes-left.ensures.right
    ∙ ap₂ (λ p q. right_size s o (expr_tree p) (expr_tree q) w) c.get-in-Binary.ensures c.get-in-Binary-2.ensures in
    let one = subst (λ p. Makes nets s (expr_tree p) l old mid x) c.get-in-Binary-3.ensures
    c.in_ok-one-in-Binary.ensures in
    let other = subst (λ p. Makes nets s (expr_tree p) r mid new y) c.get-in-Binary-4.ensures
    c.in_ok-other-in-Binary.ensures in
    if_ok c.binary.result (λ made e. subst (λ k. Makes nets s k w old new (tree_of made)) (sym is)
    (subst (λ (k : Tree). Makes nets s (tree.binary o a b) w old new k) (sym (e
    ∙ ap (λ p. operated p x y w) c.word_op.ensures))
    (makes_binary nets s o a b w l r old mid new x y left right fits one other))) c.binary.ensures

pub word-returns-in_ok-other-in-Cond : goal.word-returns-in_ok-other-in-Cond
word-returns-in_ok-other-in-Cond t c =
    let nets = c.args.nets.now in
    let s = scope_of nets c.args.names.now c.args.from in
    let w = c.args.size in
    let d = expr_tree c.in-Cond.c in
    let a = expr_tree c.in-Cond.a in
    let b = expr_tree c.in-Cond.b in
    let m = c.own-width.result in
    let old = trees_of c.args.words.now in
    let first = trees_of c.word-in-Cond.new.words in
    let second = trees_of c.word-in-Cond-2.new.words in
    let new = trees_of c.word-in-Cond-3.new.words in
    let z = tree_of c.in_ok-condition-in-Cond.condition in
    let x = tree_of c.in_ok-one-in-Cond.one in
    let y = tree_of c.in_ok-other-in-Cond.other in
    let is : expr_tree c.args.expr.now ≡ tree.choice d a b =
    ap expr_tree c.in-Cond.is ∙ c.expression_trees.ensures.choice c.in-Cond.c c.in-Cond.a c.in-Cond.b in
    let size = c.own-width.ensures ∙ ap (λ p. own s (expr_tree p)) c.get-in-Cond.ensures in
    let condition = subst (λ p. Makes nets s (expr_tree p) m old first z) c.get-in-Cond-2.ensures
    c.in_ok-condition-in-Cond.ensures in
    let one = subst (λ p. Makes nets s (expr_tree p) w first second x) c.get-in-Cond-3.ensures
    c.in_ok-one-in-Cond.ensures in
    let other = subst (λ p. Makes nets s (expr_tree p) w second new y) c.get-in-Cond-4.ensures
    c.in_ok-other-in-Cond.ensures in
    if_ok c.choice.result (λ made e. subst (λ k. Makes nets s k w old new (tree_of made)) (sym is)
    (subst (λ (k : Tree). Makes nets s (tree.choice d a b) w old new k) (sym e)
    (makes_choice nets s d a b w m old first second new z x y size condition one other))) c.choice.ensures

pub repeat_word-returns-then-times-eq1 : goal.repeat_word-returns-then-times-eq1
repeat_word-returns-then-times-eq1 t c =
    let nets = c.args.nets.now in
    let s = scope_of nets c.args.names.now c.args.from in
    if_ok c.concat_word.result (λ made h. makes_once nets s (map expr_tree c.args.parts.now) c.args.times c.args.size
    (trees_of c.args.words.now) (trees_of c.concat_word.new.words) (tree_of made) c.if-times-eq1.true h)
    c.concat_word.ensures
