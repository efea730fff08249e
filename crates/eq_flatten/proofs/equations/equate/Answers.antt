use Rattle.std.proofs.Common.{ℕ, length, sym, ap, ◌∙◌}
use Rattle.eq_net.specs.Tree.{trees_of}
use Rattle.eq_verilog.specs.Equations.{place_below}
use Rattle.eq_flatten.specs.Driving.{filled, slot_at}
use Rattle.eq_flatten.proofs.Composing.{trees_length, trees_more}
use Rattle.eq_flatten.proofs.Numbered.{bits_inside, numbered_wired}
use Rattle.eq_flatten.proofs.equations.equate.Goals as goal

pub drive-requires-clause-there : goal.drive-requires-clause-there
drive-requires-clause-there c =
    bits_inside c.args.nets.now c.args.starts.now c.requires.starts c.args.bits.now (length c.args.slots.now)
    c.requires.slots c.requires.there

pub returns : goal.returns
returns c = record {
  added = ap trees_of c.in_ok-number.ensures.added ∙ trees_more c.args.words.now c.args.made;
  size = c.drive.ensures.size;
  filled = λ f numbered apart b.
      c.drive.ensures.driven f
      (numbered_wired c.args.nets.now c.args.starts.now c.requires.starts c.args.bits.now f c.requires.there numbered)
      apart b
      ∙ ap (λ (k : ℕ). filled (slot_at c.args.slots.now b) k (place_below (length c.args.bits.now) f b))
      (c.in_ok-number.ensures.number ∙ sym (trees_length c.args.words.now));
}
