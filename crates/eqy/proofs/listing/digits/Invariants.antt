use Rattle.std.proofs.Common.{◌≡◌, ◌-◌, ◌++◌}
use Rattle.eqy.specs.Listing.{digits}
use Rattle.eqy.proofs.listing.digits.Given as goal

abbrev pub invariant-loop : goal.invariant-loop
invariant-loop l = l.bits.items ++ digits (l.count - l.counter) l.rest ≡ digits l.count l.number
