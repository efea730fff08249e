use Rattle.std.proofs.Common.{length}
use Rattle.eq_model.specs.Frames.{values}
use Rattle.eq_match.specs.inner.Keys.{AreKeys, own_key}
use Rattle.eq_match.proofs.regrouping.own_keys.Given as goal

abbrev pub invariant-loop-position : goal.invariant-loop-position
invariant-loop-position l = AreKeys l.keys.items l.position (own_key (length l.leaders) (values l.hits) l.leaders)
