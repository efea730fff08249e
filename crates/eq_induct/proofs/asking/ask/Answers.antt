use Rattle.std.proofs.Common.{Bool, List, sym, subst}
use Rattle.eq_proof.specs.Satisfying.{SatisfiesAll}
use Rattle.eq_unroll.specs.Unrolling.{unrolled}
use Rattle.eq_unroll.specs.Values.{value_of}
use Rattle.eq_induct.specs.inner.Asking.{IsSolved}
use Rattle.eq_induct.proofs.asking.ask.Goals as goal

pub run_of-requires-clause-satisfies : goal.run_of-requires-clause-satisfies
run_of-requires-clause-satisfies c =
    let part = c.args.part.now in
    let q = c.args.q in
    let k = c.args.k in
    let P : List Bool → Type 0 = λ bits. SatisfiesAll (value_of bits) (unrolled part q k) in
    subst P (sym c.as_slice.ensures) (subst (IsSolved part q k c.args.left) c.in-Sat.is c.in_ok-values.ensures)
