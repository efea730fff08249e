use Rattle.std.proofs.Common.{◌≡◌, ◌++◌, map}
use Rattle.eq_unroll.specs.Unrolling.{frame_rows, ordered}
use Rattle.eq_unroll.proofs.frames.push_frames.Given as goal

abbrev pub invariant-loop-f : goal.invariant-loop-f
invariant-loop-f l = l.clauses ≡ l.initial.clauses ++ map ordered (frame_rows l.nodes l.q l.f)
