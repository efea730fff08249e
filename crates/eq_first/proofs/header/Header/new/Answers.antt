use Rattle.std.proofs.Common.{refl}
use Rattle.eq_first.specs.Header.{place_of}
use Rattle.eq_first.proofs.header.Header.new.Goals as goal

pub returns-clause-known : goal.returns-clause-known
unfolding place_of
returns-clause-known c = λ name. rw (c.new-2.ensures.empty, c.new.ensures) refl
