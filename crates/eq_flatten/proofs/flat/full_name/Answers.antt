use Rattle.std.proofs.Common.{◌++◌, ◌∙◌, ap, Err}
use Rattle.eq_flatten.proofs.FlatLemmas.{full_bytes}
use Rattle.eq_flatten.proofs.flat.full_name.Goals as goal

pub unreachable-requires-in-Err-BadByte : goal.unreachable-requires-in-Err-BadByte
unreachable-requires-in-Err-BadByte c =
    let at = c.in-Err-BadByte.field-0-0 in
    let bad = (c.read.ensures.bad at).0 (c.in-Err-BadByte.is ∙ ap (λ e. Err e) c.in-Err-BadByte.field-0-is) in
    let text =
    c.as_slice.ensures.value ∙ c.in_ok-extend_from_slice-2.ensures.items
    ∙ ap (λ xs. xs ++ c.bytes.result.now)
    (c.in_ok-extend_from_slice.ensures.items ∙ ap (λ xs. xs ++ c.args.prefix.now) c.new-text.ensures.items)
    ∙ ap (λ ys. c.args.prefix.now ++ ys) c.bytes.ensures.bytes in
    bad.bad (full_bytes c.args.prefix.now c.args.own.now c.as_slice.result.now text c.requires c.bytes.ensures.name at 0
    bad.within)
