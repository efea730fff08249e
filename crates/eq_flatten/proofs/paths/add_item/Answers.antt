use Rattle.std.proofs.Common.{List, map, refl, sym, ap, subst}
use Rattle.eq_verilog.specs.Trees.{item_tree, module_tree}
use Rattle.eq_verilog.specs.Hierarchy.{instance_in}
use Rattle.eq_flatten.specs.declared.paths.Pending.{Pending}
use Rattle.eq_flatten.specs.Paths.{AreWithin}
use Rattle.eq_flatten.proofs.PathLemmas.{links_pushed, within_append}
use Rattle.eq_flatten.proofs.paths.add_item.Goals as goal

pub returns-clause-unfolded : goal.returns-clause-unfolded
returns-clause-unfolded c =
    λ ps. links_pushed (map (λ m. module_tree m.now) c.args.modules.now) ps c.args.left c.args.within
    (item_tree c.args.item.now) _ c.args.stack.now.items c.push.new.self.items c.in_ok-push.ensures.items refl refl
    (ap (λ i. instance_in (item_tree i)) c.in-Instance.is) (sym c.in-Some.ensures.there)

pub returns-clause-within : goal.returns-clause-within
returns-clause-within c =
    λ n bound before. subst (λ (xs : List Pending). AreWithin (map (λ m. module_tree m.now) c.args.modules.now) n xs)
    (sym c.in_ok-push.ensures.items)
    (within_append (map (λ m. module_tree m.now) c.args.modules.now) n c.args.stack.now.items _ before
    (bound, (c.in-Some.ensures.placed, tt)))
