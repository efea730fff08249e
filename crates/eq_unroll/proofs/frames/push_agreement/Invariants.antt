use Rattle.std.proofs.Common.{◌≡◌, ◌*◌, ◌++◌, map}
use Rattle.eq_bits.specs.Replay.{output_at}
use Rattle.eq_unroll.specs.Unrolling.{joined, literal, ordered, same_rows}
use Rattle.eq_unroll.proofs.frames.push_agreement.Given as goal

abbrev pub invariant-loop-output : goal.invariant-loop-output
invariant-loop-output l = l.clauses ≡ l.initial.clauses ++ map ordered (joined (λ i.
    same_rows (literal (l.f * l.n) (output_at l.outputs i).gold)
    (literal (l.f * l.n) (output_at l.outputs i).gate)) l.output-index)
