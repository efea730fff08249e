use Rattle.std.proofs.Common.{◌∙◌, ap, Err}
use Rattle.eq_config.proofs.words.name_of.Goals as goal

pub unreachable-requires-in-Err-BadByte : goal.unreachable-requires-in-Err-BadByte
unreachable-requires-in-Err-BadByte c =
    let at = c.in-Err-BadByte.field-0-0 in
    let bad = (c.read.ensures.bad at).0 (c.in-Err-BadByte.is ∙ ap (λ e. Err e) c.in-Err-BadByte.field-0-is) in
    bad.bad (c.requires.bytes at 0 bad.within)
