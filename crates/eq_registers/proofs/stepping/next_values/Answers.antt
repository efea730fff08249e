use Rattle.std.proofs.Common.{◌++◌, ◌∷◌, [], List, length, sym, ap, subst, ◌∙◌}
use Rattle.eq_names.specs.declared.BitName.{BitName}
use Rattle.eq_net.specs.Net.{AreWords}
use Rattle.eq_net.specs.Tree as tree
use Rattle.eq_net.specs.Tree.{Tree, trees_of}
use Rattle.eq_verilog.specs.Trees.{stmt_tree}
use Rattle.eq_analysis.specs.Finding.{scope_of}
use Rattle.eq_registers.specs.inner.Choosing.{IsWhole}
use Rattle.eq_registers.proofs.Begun.{begun_words, next_made}
use Rattle.eq_registers.proofs.stepping.next_values.Goals as goal

pub run_stmt-requires-clause-words : goal.run_stmt-requires-clause-words
run_stmt-requires-clause-words c =
    let nets = c.args.nets.now in
    let old = trees_of c.args.words.now in
    let keys = c.in_ok-keys.keys in
    let is = c.in_ok-table.ensures.words
    ∙ ap (λ (ns : List BitName). old ++ tree.read ns ∷ []) c.as_slice.ensures in
    subst (λ (ws : List Tree). AreWords nets ws) (sym is)
    (begun_words nets old keys c.in_ok-table.table c.in_ok-keys.ensures.keyed
    (subst (λ (ns : List BitName). IsWhole (length old) c.in_ok-table.table (length ns)) c.as_slice.ensures
    c.in_ok-table.ensures.bits) c.requires.words)

pub returns : goal.returns
returns c =
    let nets = c.args.nets.now in
    let s = scope_of nets c.args.names.now c.args.from in
    let old = trees_of c.args.words.now in
    next_made nets s (stmt_tree c.args.body.now) c.in_ok-keys.keys old (trees_of c.read_all.new.words)
    (trees_of c.run_stmt.new.words) c.in_ok-table.table c.run_stmt.new.table c.in_ok-keys.ensures
    (c.in_ok-table.ensures.words ∙ ap (λ (ns : List BitName). old ++ tree.read ns ∷ []) c.as_slice.ensures)
    (subst (λ (ns : List BitName). IsWhole (length old) c.in_ok-table.table (length ns)) c.as_slice.ensures
    c.in_ok-table.ensures.bits)
    c.in_ok-run_stmt.ensures
