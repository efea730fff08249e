use Rattle.std.proofs.Common.{◌≡◌, Result, Err, IsErrOf, refl, subst, sym}
use Rattle.eq_net.specs.Whole.{parts_of}
use Rattle.eq_part.specs.declared.types.PlanErr.{PlanErr}
use Rattle.eq_part.specs.declared.types.PlanErr.TheVariants.{SameName}
use Rattle.eq_part.proofs.planning.partitions.Goals as goal

same_err : {T : Type 0} {e f : PlanErr} → IsErrOf {T = T} (Err e) f → e ≡ f
same_err is = cc

pub divide-requires-clause-bits : goal.divide-requires-clause-bits
divide-requires-clause-bits c =
    let gold = parts_of c.args.gold.now in
    let gate = parts_of c.args.gate.now in
    c.matched_pairs_are_few.ensures gold gate c.args.p c.args.gold.now.is_net
    (c.pairs_are_matched.ensures gold gate c.args.c.now c.args.p c.args.gold.now.is_net c.args.gate.now.is_net
    c.requires.ports c.requires.pairs)

pub divide-requires-clause-fits : goal.divide-requires-clause-fits
divide-requires-clause-fits c = (c.templates_fit.ensures c.args.c.now c.requires.config).partitions

pub check-requires-clause-few : goal.check-requires-clause-few
check-requires-clause-few c =
    let gold = parts_of c.args.gold.now in
    let gate = parts_of c.args.gate.now in
    (c.matched_pairs_are_few.ensures gold gate c.args.p c.args.gold.now.is_net
    (c.pairs_are_matched.ensures gold gate c.args.c.now c.args.p c.args.gold.now.is_net c.args.gate.now.is_net
    c.requires.ports c.requires.pairs)).few

pub plan-requires-clause-matched : goal.plan-requires-clause-matched
plan-requires-clause-matched c =
    c.pairs_are_matched.ensures (parts_of c.args.gold.now) (parts_of c.args.gate.now) c.args.c.now c.args.p
    c.args.gold.now.is_net c.args.gate.now.is_net c.requires.ports c.requires.pairs

pub returns-in-Err-clause-same_name : goal.returns-in-Err-clause-same_name
returns-in-Err-clause-same_name c first second given =
    let fault : c.in-Err.fault ≡ SameName first second = same_err given in
    let P : PlanErr → Type 0 = λ e. IsErrOf {T = Unit {0}} (Err e) (SameName first second) in
    let Q : Result (Unit {0}) PlanErr → Type 0 = λ r. IsErrOf r (SameName first second) in
    let clash = c.check.ensures.same_name first second (subst Q (sym c.in-Err.is) (subst P (sym fault) refl)) in
    record { parts = c.in_ok-parts.parts; are = c.in_ok-parts.ensures.ok; few = clash.0; clash = clash.1 }
