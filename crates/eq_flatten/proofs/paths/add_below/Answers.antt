use Rattle.std.proofs.Common.{◌++◌, List, map, arith, sym, ap, ◌∙◌}
use Rattle.eq_verilog.specs.Trees.{ModuleTree, item_tree, module_tree}
use Rattle.eq_flatten.specs.Paths.{Link, path_at, unfolded}
use Rattle.eq_flatten.proofs.Assigned.{on_ok}
use Rattle.eq_flatten.proofs.PathLemmas.{below_is}
use Rattle.eq_flatten.proofs.paths.add_below.Goals as goal

pub returns-clause-unfolded : goal.returns-clause-unfolded
returns-clause-unfolded c =
    let all = map (λ m. module_tree m.now) c.args.modules.now in
    let items = map item_tree c.as_slice-items.result.now in
    let none = c.if-left-eq0.false in
    on_ok c.add_items.result (λ h ps same. h ps
    ∙ ap (λ (ls : List Link). ls ++ unfolded all ps c.args.stack.now.items)
    (sym (below_is all c.args.left (path_at ps c.args.within) items (omega (arith, none))
    (ap (λ (m : ModuleTree). m.items) same ∙ ap (λ is. map item_tree is) (sym c.as_slice-items.ensures)))))
    c.add_items.ensures.unfolded
