use Rattle.std.proofs.Common.{◌≤◌, length, take}
use Rattle.std.specs.Io.KnownBytes.{Appends}
use Rattle.eq_io.proofs.out_sink.write_front.Given as goal

abbrev pub invariant-loop : goal.invariant-loop
invariant-loop g l = record {
  within : l.taken ≤ length l.piece;
  written : Appends (g.W.Write.contents l.initial.out) (g.W.Write.contents l.out) (take l.taken l.piece);
}
