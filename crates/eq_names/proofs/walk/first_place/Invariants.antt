use Rattle.std.proofs.Common.{◌≡◌, ◌<◌, ℕ, false, drop}
use Rattle.eq_names.specs.inner.Segments as spec
use Rattle.eq_names.proofs.walk.first_place.Given as goal

-- they fit at no place so far
abbrev pub invariant-loop-at : goal.invariant-loop-at
invariant-loop-at l = (m : ℕ) → m < l.at → spec.fits l.segment (drop m l.name) ≡ false
