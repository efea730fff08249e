use Rattle.std.proofs.Common.{◌≡◌, List, None, ap, subst, sym, ◌∙◌}
use Rattle.eq_net.specs.declared.types.Word.{Word}
use Rattle.eq_net.specs.Tree.{Tree, trees_of}
use Rattle.eq_net.specs.Net.{IsNet, Parts, parts}
use Rattle.test_plans.specs.declared.types.Draft.{Draft}
use Rattle.test_plans.specs.Designs.{design, draft_of, zero_word}
use Rattle.test_plans.proofs.designs.netlist.Goals as goal

same_parts : (d e : Draft) (words : List Word) → d ≡ e → trees_of words ≡ zero_word →
    parts d.nets words d.drivers d.ports None 2000000 ≡ design e
same_parts d e words is zero =
    let with_words : List Tree → Parts = λ ws. record {
      nets = d.nets;
      words = ws;
      drivers = d.drivers;
      ports =
          d.ports;
      clock = None;
      cost = 2000000;
    } in
    ap with_words zero ∙ ap design is

pub invariant_of-result : goal.invariant_of-result
invariant_of-result c = record {
  is_net = subst IsNet (sym (same_parts c.in_ok-nets.field-0 (draft_of c.args.signals.now) c.in_ok-words.words
      c.in_ok-nets.ensures c.in_ok-words.ensures))
      (c.test_of_nets.ensures (λ b. 0) (λ k. 0) (design (draft_of c.args.signals.now)) c.requires.good);
}
