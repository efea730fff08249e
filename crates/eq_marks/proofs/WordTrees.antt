-- The trees of words, form by form, and of lists of words.
use Rattle.std.proofs.Common.{◌≡◌, ℕ, zero, suc, ◌<◌, List, [], ◌∷◌, drop, length, slice_index_or, refl, arith, ap, sym, ◌∙◌}
use Rattle.eq_names.specs.declared.BitName.{BitName}
use Rattle.eq_net.specs.declared.types.WordBit.{WordBit}
use Rattle.eq_net.specs.declared.types.WordOp.{WordOp}
use Rattle.eq_net.specs.declared.types.RedOp.{RedOp}
use Rattle.eq_net.specs.declared.types.Word.{Word}
use Rattle.eq_net.specs.declared.types.Word.TheVariants.{Read, Pick, rolls-Read, rolls-Pick, rolls-Neg, rolls-Binary, rolls-Reduce, rolls-Mux}
use Rattle.eq_net.specs.declared.types.Word.TheViews.{Neg, Binary, Reduce, Mux}
use Rattle.eq_net.specs.declared.types.Word.TheOpen.{Read as Layer_read, Pick as Layer_pick, Neg as Layer_neg, Binary as Layer_binary, Reduce as Layer_reduce, Mux as Layer_mux}
use Rattle.eq_net.specs.declared.types.Word.TheFolds.{fold-roll-Word}
use Rattle.eq_net.specs.Tree.{Tree, read, pick, opposite, binary, reduced, choice, layer, tree_of, trees_of}
use Rattle.eq_net.specs.Net.{word_at}

pub tree_of-Read : (names : List BitName) → tree_of (Read names) ≡ read names
tree_of-Read names = ap tree_of (sym (rolls-Read names)) ∙ fold-roll-Word Tree layer (Layer_read names)

pub tree_of-Pick : (bits : List WordBit) → tree_of (Pick bits) ≡ pick bits
tree_of-Pick bits = ap tree_of (sym (rolls-Pick bits)) ∙ fold-roll-Word Tree layer (Layer_pick bits)

pub tree_of-Neg : (a : Word) → tree_of (Neg a) ≡ opposite (tree_of a)
tree_of-Neg a = ap tree_of (sym (rolls-Neg a)) ∙ fold-roll-Word Tree layer (Layer_neg a)

pub tree_of-Binary : (o : WordOp) (a b : Word) → tree_of (Binary o a b) ≡ binary o (tree_of a) (tree_of b)
tree_of-Binary o a b = ap tree_of (sym (rolls-Binary o a b)) ∙ fold-roll-Word Tree layer (Layer_binary o a b)

pub tree_of-Reduce : (o : RedOp) (a : Word) → tree_of (Reduce o a) ≡ reduced o (tree_of a)
tree_of-Reduce o a = ap tree_of (sym (rolls-Reduce o a)) ∙ fold-roll-Word Tree layer (Layer_reduce o a)

pub tree_of-Mux : (c a b : Word) → tree_of (Mux c a b) ≡ choice (tree_of c) (tree_of a) (tree_of b)
tree_of-Mux c a b = ap tree_of (sym (rolls-Mux c a b)) ∙ fold-roll-Word Tree layer (Layer_mux c a b)

-- the tree of the word at a place
pub tree_at : (ws : List Word) (k : ℕ) (w : Word) → k < length ws → w ≡ slice_index_or ws k w → word_at (trees_of ws) k
    ≡ tree_of w
tree_at [] k w lt e = absurd (omega arith)
tree_at (x ∷ xs) zero w lt e = ap tree_of (sym e)
tree_at (x ∷ xs) (suc k) w lt e = tree_at xs k w (omega arith) e

pub length-trees_of : (ws : List Word) → length (trees_of ws) ≡ length ws
length-trees_of [] = refl
length-trees_of (w ∷ ws) = (let e = length-trees_of ws in omega arith)

-- the words from a place on are the word there and those behind it
pub rest_from : (ts : List Tree) (k : ℕ) → k < length ts → drop k ts ≡ word_at ts k ∷ drop (suc k) ts
rest_from [] k lt = absurd (omega arith)
rest_from (t ∷ ts) zero lt = refl
rest_from (t ∷ ts) (suc k) lt = rest_from ts k (omega arith)
