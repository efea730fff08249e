use Rattle.std.proofs.Common.{◌^◌, arith}
use Rattle.std.specs.List.{fold}
use Rattle.std.proofs.lemmas.List.{at_drop_all}
use Rattle.eq_vlex.specs.Numbers as spec
use Rattle.eq_vlex.proofs.Values.{stays_large}
use Rattle.eq_vlex.proofs.number.value_of.Goals as goal

pub returns-in_err-value : goal.returns-in_err-value
returns-in_err-value c = rw c.from_residual.ensures (stays_large c.args.base c.loop-digit.value c.loop-digit.digit-index (2 ^ 128) c.args.digits.now c.requires c.loop-digit-test.true c.loop-digit.invariant.leads c.in_err-value.ensures)

pub returns : goal.returns
returns c =
    let all = at_drop_all (fold (spec.with_digit c.args.base) c.loop-digit.value) c.args.digits.now c.loop-digit.digit-index c.loop-digit-test.false in
    (omega (arith, all), omega (arith, all))
