use Rattle.std.proofs.Common.{◌≡◌, ◌*◌, ◌++◌, map}
use Rattle.eq_bits.specs.Replay.{output_at}
use Rattle.eq_unroll.specs.Unrolling.{differ_rows, joined, literal, ordered}
use Rattle.eq_unroll.proofs.frames.push_differences.Given as goal

abbrev pub invariant-loop-i : goal.invariant-loop-i
invariant-loop-i l = l.clauses ≡ l.initial.clauses ++ map ordered (joined (λ i. differ_rows (literal (l.frames * l.n) i)
    (literal (l.last * l.n) (output_at l.outputs i).gold) (literal (l.last * l.n) (output_at l.outputs i).gate)) l.i)
