use Rattle.std.proofs.Common.{Err, ap, ◌∙◌}
use Rattle.eq_first.proofs.job.owned.Goals as goal

-- a name has no bad byte
pub unreachable-requires-in-Err-BadByte : goal.unreachable-requires-in-Err-BadByte
unreachable-requires-in-Err-BadByte c =
    let n = c.in-Err-BadByte.field-0-0 in
    let first = (c.read.ensures.bad n).0 (c.in-Err-BadByte.is ∙ ap Err c.in-Err-BadByte.field-0-is) in
    first.bad (c.requires.bytes n 0 first.within)
