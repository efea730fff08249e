use Rattle.std.proofs.Common.{ℕ, take, arith, length-drop, subst, sym}
use Rattle.std.proofs.lemmas.List.{take_rest}
use Rattle.std.specs.Io.KnownBytes.{Appends}
use Rattle.eq_io.proofs.Appending.{appends_more, appends_kept}
use Rattle.eq_io.proofs.out_sink.write_front.Goals as goal
use Rattle.eq_io.proofs.out_sink.write_front.Goals.{in-Ok, in-Err}

pub loop-preserved : goal.loop-preserved
loop-preserved g c =
    let before = c.loop.invariant in
    let piece = c.args.piece.now in
    let rest = take_rest piece c.loop.taken in
    elim c.match-write.branch [
      | in-Ok w ↦
          let bound = rw rest at w.in-Ok.ensures.bound in
          let bytes = rw rest at w.in-Ok.ensures.bytes in
          record {
            within = omega (arith, bound, length-drop c.loop.taken piece);
            written = appends_more _ _ _ _ _ _ _ before.written bytes w.taken-is;
          }
      | in-Err w ↦
          let P : ℕ → Type 0 = λ n. Appends (g.W.Write.contents c.args.out.now) (g.W.Write.contents c.write.new.self) (take n piece) in
          record {
            within = omega arith;
            written = subst P (sym w.taken-is) (appends_kept _ _ _ _ before.written w.in-Err.ensures.bytes);
          }
    ]
