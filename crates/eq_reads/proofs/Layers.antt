-- The trees of words, form by form, and of lists of words.
use Rattle.std.proofs.Common.{◌≡◌, ℕ, zero, suc, ◌<◌, ◌+◌, List, [], ◌∷◌, Bool, drop, length, slice_index_or, refl, arith, ap, sym, ◌∙◌}
use Rattle.eq_names.specs.declared.BitName.{BitName}
use Rattle.eq_net.specs.declared.types.NetInfo.{NetInfo}
use Rattle.eq_net.specs.declared.types.WordBit.{WordBit}
use Rattle.eq_net.specs.declared.types.WordOp.{WordOp}
use Rattle.eq_net.specs.declared.types.RedOp.{RedOp}
use Rattle.eq_net.specs.declared.types.Word.{Word}
use Rattle.eq_net.specs.declared.types.Word.TheVariants.{Const, Read, Pick, rolls-Const, rolls-Read, rolls-Pick, rolls-Not, rolls-Neg, rolls-Binary, rolls-Reduce, rolls-Mux, rolls-Extend}
use Rattle.eq_net.specs.declared.types.Word.TheViews.{Not, Neg, Binary, Reduce, Mux, Extend}
use Rattle.eq_net.specs.declared.types.Word.TheOpen.{Const as Layer_const, Read as Layer_read, Pick as Layer_pick, Not as Layer_not, Neg as Layer_neg, Binary as Layer_binary, Reduce as Layer_reduce, Mux as Layer_mux, Extend as Layer_extend}
use Rattle.eq_net.specs.declared.types.Word.TheFolds.{fold-roll-Word}
use Rattle.eq_net.specs.Meaning.{width}
use Rattle.eq_net.specs.Net.{IsWord, word_at}
use Rattle.eq_net.specs.Tree.{Tree, const, read, pick, negated, opposite, binary, reduced, choice, extended, join_all, layer, tree_of, trees_of}

pub tree_of-Const : (bits : List Bool) → tree_of (Const bits) ≡ const bits
tree_of-Const bits = ap tree_of (sym (rolls-Const bits)) ∙ fold-roll-Word Tree layer (Layer_const bits)

pub tree_of-Read : (names : List BitName) → tree_of (Read names) ≡ read names
tree_of-Read names = ap tree_of (sym (rolls-Read names)) ∙ fold-roll-Word Tree layer (Layer_read names)

pub tree_of-Pick : (bits : List WordBit) → tree_of (Pick bits) ≡ pick bits
tree_of-Pick bits = ap tree_of (sym (rolls-Pick bits)) ∙ fold-roll-Word Tree layer (Layer_pick bits)

pub tree_of-Not : (a : Word) → tree_of (Not a) ≡ negated (tree_of a)
tree_of-Not a = ap tree_of (sym (rolls-Not a)) ∙ fold-roll-Word Tree layer (Layer_not a)

pub tree_of-Neg : (a : Word) → tree_of (Neg a) ≡ opposite (tree_of a)
tree_of-Neg a = ap tree_of (sym (rolls-Neg a)) ∙ fold-roll-Word Tree layer (Layer_neg a)

pub tree_of-Binary : (o : WordOp) (a b : Word) → tree_of (Binary o a b) ≡ binary o (tree_of a) (tree_of b)
tree_of-Binary o a b = ap tree_of (sym (rolls-Binary o a b)) ∙ fold-roll-Word Tree layer (Layer_binary o a b)

pub tree_of-Reduce : (o : RedOp) (a : Word) → tree_of (Reduce o a) ≡ reduced o (tree_of a)
tree_of-Reduce o a = ap tree_of (sym (rolls-Reduce o a)) ∙ fold-roll-Word Tree layer (Layer_reduce o a)

pub tree_of-Mux : (c a b : Word) → tree_of (Mux c a b) ≡ choice (tree_of c) (tree_of a) (tree_of b)
tree_of-Mux c a b = ap tree_of (sym (rolls-Mux c a b)) ∙ fold-roll-Word Tree layer (Layer_mux c a b)

pub tree_of-Extend : (a : Word) (n : ℕ) → tree_of (Extend a n) ≡ extended (tree_of a) n
tree_of-Extend a n = ap tree_of (sym (rolls-Extend a n)) ∙ fold-roll-Word Tree layer (Layer_extend a n)

-- the tree of the word at a place
pub tree_at : (ws : List Word) (k : ℕ) (w : Word) → k < length ws → w ≡ slice_index_or ws k w → word_at (trees_of ws)
    k ≡ tree_of w
tree_at [] k w lt e = absurd (omega arith)
tree_at (x ∷ xs) zero w lt e = ap tree_of (sym e)
tree_at (x ∷ xs) (suc k) w lt e = tree_at xs k w (omega arith) e

pub length-trees_of : (ws : List Word) → length (trees_of ws) ≡ length ws
length-trees_of [] = refl
length-trees_of (w ∷ ws) = (let e = length-trees_of ws in omega arith)

-- the words from a place on are the word there and those behind it
pub rest_from : (ts : List Tree) (k : ℕ) → k < length ts → drop k ts ≡ word_at ts k ∷ drop (suc k) ts
rest_from [] k lt = absurd (omega arith)
rest_from (t ∷ ts) zero lt = refl
rest_from (t ∷ ts) (suc k) lt = rest_from ts k (omega arith)

-- each part of a concatenation has what is asked of the whole
pub part_word : (nets : List NetInfo) (words : List Tree) (n : ℕ) (ts : List Tree) (k : ℕ) → k < length ts →
    IsWord nets words n (join_all ts) → IsWord nets words n (word_at ts k)
part_word nets words n [] k lt is = absurd (omega arith)
part_word nets words n (t ∷ ts) zero lt is = is.0
part_word nets words n (t ∷ ts) (suc k) lt is = part_word nets words n ts k (omega arith) is.1

-- the bits of the parts from a place on
pub rest_width : (ts : List Tree) (k : ℕ) → k < length ts → width (join_all (drop k ts)) ≡ width (word_at ts k) +
    width (join_all (drop (suc k) ts))
rest_width ts k lt = ap (λ us. width (join_all us)) (rest_from ts k lt)
