use Rattle.std.proofs.Common.{◌≡◌, ℕ, [], ◌∷◌, ◌++◌, List, sym, ap, subst, ◌∙◌}
use Rattle.eq_names.specs.declared.BitName.{BitName}
use Rattle.eq_net.specs.declared.types.Word.{Word}
use Rattle.eq_net.specs.declared.types.Word.TheFolds.{fold-roll-Word}
use Rattle.eq_net.specs.declared.types.Word.TheOpen.{Read as read_layer}
use Rattle.eq_net.specs.declared.types.Word.TheVariants.{rolls-Read, Read}
use Rattle.eq_net.specs.Net.{number_of}
use Rattle.eq_net.specs.Tree.{layer, read, tree_of, trees_of, Tree}
use Rattle.eq_verilog.specs.Registers.{itself}
use Rattle.eq_registers.specs.Standing.{StandsFor}
use Rattle.eq_registers.proofs.Grown.{trees_length, trees_more}
use Rattle.eq_drivers.specs.inner.Choosing.{Grows}
use Rattle.eq_drivers.proofs.Grown.{grows_read, stands_read}
use Rattle.eq_drivers.proofs.choosing.add_read.Goals as goal

tree_of_read : (ns : List BitName) → tree_of (Read ns) ≡ read ns
tree_of_read ns = ap tree_of (sym (rolls-Read ns)) ∙ fold-roll-Word Tree layer (read_layer ns)

-- words with one more, which reads a bit
with_read : (old new : List Word) (none ns : List BitName) (n : BitName) → none ≡ [] → ns ≡ none ++ n ∷ [] →
    new ≡ old ++ Read ns ∷ [] → trees_of new ≡ trees_of old ++ read (n ∷ []) ∷ []
with_read old new none ns n empty pushed added =
    let one : ns ≡ n ∷ [] = pushed ∙ ap (λ (xs : List BitName). xs ++ n ∷ []) empty in
    ap trees_of added ∙ trees_more old (Read ns)
    ∙ ap (λ (t : Tree). trees_of old ++ t ∷ []) (tree_of_read ns ∙ ap (λ (xs : List BitName). read xs) one)

pub returns-clause-grows : goal.returns-clause-grows
returns-clause-grows c =
    let nets = c.args.nets.now in
    let old = trees_of c.args.words.now in
    subst (λ (ts : List Tree). Grows nets old ts)
    (sym (with_read c.args.words.now c.add_word.new.words c.new-names.result c.push.new.self c.args.name
    c.new-names.ensures c.in_ok-push.ensures.ok c.in_ok-word.ensures.added))
    (grows_read nets old c.args.name c.requires.words c.requires.there)

pub returns-clause-stands : goal.returns-clause-stands
returns-clause-stands c =
    let nets = c.args.nets.now in
    let old = trees_of c.args.words.now in
    let f = itself (number_of nets c.args.name) in
    subst (λ (ts : List Tree). StandsFor nets ts (record { word = c.in_ok-word.word; bit = 0 }) f)
    (sym (with_read c.args.words.now c.add_word.new.words c.new-names.result c.push.new.self c.args.name
    c.new-names.ensures c.in_ok-push.ensures.ok c.in_ok-word.ensures.added))
    (subst (λ (k : ℕ). StandsFor nets (old ++ read (c.args.name ∷ []) ∷ []) (record { word = k; bit = 0 }) f)
    (trees_length c.args.words.now ∙ sym c.in_ok-word.ensures.number)
    (stands_read nets old c.args.name c.requires.words c.requires.there))
