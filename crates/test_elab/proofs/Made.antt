-- A netlist of a draft and of words.
use Rattle.std.proofs.Common.{◌≡◌, ℕ, List, Option, ap, ◌∙◌}
use Rattle.eq_net.specs.declared.types.Word.{Word}
use Rattle.eq_net.specs.Tree.{Tree, trees_of}
use Rattle.eq_net.specs.Net.{parts}
use Rattle.test_elab.specs.declared.types.Draft.{Draft}
use Rattle.test_elab.specs.Made.{design}

pub same_parts : (d e : Draft) (words : List Word) (trees : List Tree) (clock : Option ℕ) → d ≡ e → trees_of words ≡
    trees →
    parts d.nets words d.drivers d.ports clock 2000000 ≡ design e trees clock
same_parts d e words trees clock is same = ap (λ ts. design d ts clock) same ∙ ap (λ x. design x trees clock) is
