use Rattle.std.proofs.Common.{◌≡◌, ℕ, ◌↔◌, true, length}
use Rattle.eq_model.specs.Frames.{values}
use Rattle.eq_net.specs.Whole.{parts_of}
use Rattle.eq_part.proofs.Rooted.{RootBelow}
use Rattle.eq_part.proofs.path.roots.Given as goal

abbrev pub invariant-loop-i : goal.invariant-loop-i
invariant-loop-i l = record {
  size : length l.marks.items ≡ l.nodes;
  told : (x : ℕ) → (values l.marks.items x ≡ true) ↔ RootBelow (parts_of l.gold) l.pairs l.leaders (values l.hits) l.i
      x;
}
