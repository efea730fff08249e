use Rattle.std.proofs.Common.{ℕ, List, Option, subst}
use Rattle.eq_bits.specs.Node.{node_at}
use Rattle.eq_blast.specs.inner.Sorting.{IsCopyAdded, new_of}
use Rattle.eq_blast.proofs.Placed.{made_more}
use Rattle.eq_blast.proofs.placing.Placing.make.Goals as goal

pub returns-clause-ok : goal.returns-clause-ok
returns-clause-ok c =
    let P : List (Option ℕ) → Type 0 = λ ps. IsCopyAdded (new_of ps) (node_at c.args.plan.now c.args.m)
    c.args.self.now.builder c.append.new.builder c.in_ok-number.number in
    made_more c.args.plan.now c.args.self.now.places.items c.args.self.now.builder c.append.new.builder
    c.args.self.now.left c.args.m c.in_ok-number.number c.requires.placing c.requires.node c.requires.open
    c.requires.ready (subst P c.deref.ensures.value c.in_ok-number.ensures)
