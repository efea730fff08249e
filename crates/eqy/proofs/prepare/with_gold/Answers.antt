use Rattle.std.proofs.Common.{◌≡◌, Some, List, inr, subst}
use Rattle.eq_io.specs.Files.{Files}
use Rattle.eq_first.specs.declared.module.Port.{Port}
use Rattle.eqy.specs.Command.{GateRefused, PairRefused}
use Rattle.eqy.proofs.Stopped.{if_refused}
use Rattle.eqy.proofs.prepare.with_gold.Goals as goal

pub returns-in-Err-check_pair-clause-refused : goal.returns-in-Err-check_pair-clause-refused
returns-in-Err-check_pair-clause-refused g c =
    if_refused c.in-Err-check_pair.stop (PairRefused c.as_slice.result.now c.as_slice-2.result.now)
    (λ r. (files : Files) → g.S.Store.map c.args.store.now ≡ Some files → GateRefused files c.args.job c.args.gold r)
    (λ r refused files told.
    let P : List Port → Type 0 = λ ps. PairRefused ps c.as_slice-2.result.now r in
    let Q : List Port → Type 0 = λ ps. PairRefused c.args.gold.ports ps r in
    inr (c.in-Ok.gate, c.in-Ok.ensures.ok files told, subst Q c.as_slice-2.ensures (subst P c.as_slice.ensures refused)))
    c.in-Err-check_pair.ensures.refused
