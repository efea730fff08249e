use Rattle.std.proofs.Common.{◌≡◌, length}
use Rattle.eq_vparse.specs.Limits.{limits}
use Rattle.eq_vlex.specs.declared.key.Key.TheVariants as word
use Rattle.eq_vparse.specs.Tests.{is_key}
use Rattle.eq_vparse.specs.Looping.{repeat_until}
use Rattle.eq_vparse.specs.ItemReading.{init_at}
use Rattle.eq_vparse.proofs.cursor.Cursor.inits.Given as goal

abbrev pub invariant-loop-alloc : goal.invariant-loop-alloc
invariant-loop-alloc l = repeat_until (is_key word.End) (init_at limits) l.items l.self ≡ repeat_until (is_key word.End) (init_at limits) l.initial.items l.initial.self

abbrev pub decreases-loop-alloc : goal.decreases-loop-alloc
decreases-loop-alloc l = length l.self
