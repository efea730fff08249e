use Rattle.std.proofs.Common.{sym}
use Rattle.eq_names.proofs.Fitting.{fits-short}
use Rattle.eq_names.proofs.walk.fits.Goals as goal

pub returns-then-name-segment : goal.returns-then-name-segment
returns-then-name-segment c = sym (fits-short c.args.segment.now c.args.name.now c.if-name-segment.true)
