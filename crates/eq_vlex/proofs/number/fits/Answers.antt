use Rattle.std.proofs.Common.{◌≡◌, ◌*◌, ◌^◌, ◌/◌, arith, eq-eqb}
use Rattle.std.proofs.lemmas.Bool.{eqb-true}
use Rattle.std.proofs.Math.Nat.{div-eq_of_lt, lt-div-mul-add}
use Rattle.std.proofs.lemmas.Nat.{pow_pos}
use Rattle.eq_vlex.proofs.number.fits.Goals as goal

pub returns-else-size-eq128 : goal.returns-else-size-eq128
returns-else-size-eq128 c = (
  λ zero.
      let none : c.args.value / 2 ^ c.args.size ≡ 0 = eqb-true _ _ zero in
      let below = lt-div-mul-add {a = c.args.value} {b = 2 ^ c.args.size} (pow_pos c.args.size) in
      let no_part : c.args.value / 2 ^ c.args.size * 2 ^ c.args.size ≡ 0 = rw none (omega arith) in
      omega (arith, below, no_part),
  λ small. eq-eqb (c.args.value / 2 ^ c.args.size) 0 (div-eq_of_lt small),
)
