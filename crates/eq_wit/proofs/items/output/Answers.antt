use Rattle.std.proofs.Common.{arith}
use Rattle.eq_wit.proofs.ItemLemmas.{wrong_output}
use Rattle.eq_wit.proofs.items.output.Goals as goal

pub returns-in_default-up_to : goal.returns-in_default-up_to
returns-in_default-up_to c =
    wrong_output c.args.nodes c.args.words.now c.in-Some.first.now c.in-Some.second.now c.in-Some.third.now c.wrong_from.result
    (omega arith) (omega arith) c.in-Some.ensures
    (λ o fits gold gate. c.in_default-up_to.ensures o.gold (omega (arith, fits.1.0)) gold) c.wrong_from.ensures

pub returns-in_default-up_to-2 : goal.returns-in_default-up_to-2
returns-in_default-up_to-2 c =
    wrong_output c.args.nodes c.args.words.now c.in-Some.first.now c.in-Some.second.now c.in-Some.third.now
    c.wrong_from-in_default-up_to-2.result (omega arith) (omega arith) c.in-Some.ensures
    (λ o fits gold gate. c.in_default-up_to-2.ensures o.gate (omega (arith, fits.1.1)) gate)
    c.wrong_from-in_default-up_to-2.ensures
