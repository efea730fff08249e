-- A netlist of a draft and of words.
use Rattle.std.proofs.Common.{◌≡◌, List, None, ap, ◌∙◌}
use Rattle.eq_net.specs.declared.types.Word.{Word}
use Rattle.eq_net.specs.Tree.{Tree, trees_of}
use Rattle.eq_net.specs.Net.{parts}
use Rattle.test_plans.specs.declared.types.Draft.{Draft}
use Rattle.test_plans.specs.Chains.{design}

pub same_parts : (d e : Draft) (words : List Word) (trees : List Tree) → d ≡ e → trees_of words ≡ trees →
    parts d.nets words d.drivers d.ports None 2000000 ≡ design e trees
same_parts d e words trees is same = ap (λ ts. design d ts) same ∙ ap (λ x. design x trees) is
