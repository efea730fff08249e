use Rattle.std.proofs.Common.{◌≡◌, ◌<◌, ◌^◌, drop}
use Rattle.std.specs.List.{fold}
use Rattle.eq_vlex.specs.Numbers as spec
use Rattle.eq_vlex.proofs.number.value_of.Given as goal

-- the digits that are left lead to the whole value
abbrev pub invariant-loop-digit : goal.invariant-loop-digit
invariant-loop-digit l = record {
  leads : fold (spec.with_digit l.base) l.value (drop l.digit-index l.digits) ≡ spec.value_of l.base l.digits;
  small : l.value < 2 ^ 128;
}
