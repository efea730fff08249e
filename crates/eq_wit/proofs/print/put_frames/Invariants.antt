use Rattle.std.proofs.Common.{◌≡◌, ◌++◌, take}
use Rattle.std.specs.Prelude.{map}
use Rattle.eq_wit.specs.Line.{lines_text}
use Rattle.eq_wit.specs.Texts.{frame_line}
use Rattle.eq_wit.proofs.print.put_frames.Given as goal

abbrev pub invariant-loop-frame : goal.invariant-loop-frame
invariant-loop-frame l = l.out.items ≡ l.fn.out.items ++ lines_text (map frame_line (take l.frame-index l.frames))
