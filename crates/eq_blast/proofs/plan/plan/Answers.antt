use Rattle.std.proofs.Common.{◌≡◌, ℕ, List, length, sym, subst, ◌∙◌, ap}
use Rattle.eq_bits.specs.declared.node.Node.{Node}
use Rattle.eq_bits.specs.Node.{AllNameInputs}
use Rattle.eq_net.specs.Net.{bits_of}
use Rattle.eq_blast.proofs.Plans.{names_bits}
use Rattle.eq_blast.proofs.plan.plan.Goals as goal

pub all_planned-requires : goal.all_planned-requires
all_planned-requires c =
    let P : ℕ → Type 0 = λ n. AllNameInputs n c.as_slice-2.result.now in
    let Q : List Node → Type 0 = λ ns. AllNameInputs (bits_of c.args.net.now.nets) ns in
    let count : length c.deref.result.now ≡ bits_of c.args.net.now.nets =
    ap (λ (ns : List Node). length ns) c.deref.ensures.value ∙ c.in_ok-own.ensures.count in
    subst P (sym count) (subst Q (sym c.as_slice-2.ensures)
    (names_bits (bits_of c.args.net.now.nets) c.args.wired.now.nodes c.requires.open_graph))
