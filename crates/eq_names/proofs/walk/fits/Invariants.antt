use Rattle.std.proofs.Common.{◌≡◌, drop}
use Rattle.eq_names.specs.inner.Segments as spec
use Rattle.eq_names.proofs.walk.fits.Given as goal

-- what is left decides
abbrev pub invariant-loop-i : goal.invariant-loop-i
invariant-loop-i l = spec.fits (drop l.i l.segment) (drop l.i l.name) ≡ spec.fits l.segment l.name
