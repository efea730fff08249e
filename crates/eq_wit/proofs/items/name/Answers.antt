use Rattle.std.proofs.Common.{refl}
use Rattle.eq_wit.proofs.items.name.Goals as goal

pub returns-in-Err-BadByte : goal.returns-in-Err-BadByte
returns-in-Err-BadByte c = (
  refl,
  λ h.
      let bad = (c.in-Err-BadByte.ensures.bad c.in-Err-BadByte.field-0-0).0 (cc (c.in-Err-BadByte.field-0-is)) in
      bad.bad (h.bytes c.in-Err-BadByte.field-0-0 0 bad.within),
)
