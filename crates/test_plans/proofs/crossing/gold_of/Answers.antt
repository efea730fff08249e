use Rattle.std.proofs.Common.{subst, sym}
use Rattle.eq_net.specs.Net.{IsNet}
use Rattle.test_plans.specs.Chains.{design, draft_of}
use Rattle.test_plans.specs.Crossing.{gold_words, of_three}
use Rattle.test_plans.proofs.Drafted.{same_parts}
use Rattle.test_plans.proofs.crossing.gold_of.Goals as goal

pub invariant_of-result : goal.invariant_of-result
invariant_of-result c =
    let wires = c.args.wires.now in record {
      is_net = subst IsNet (sym (same_parts c.in_ok-nets.field-0 (draft_of wires) c.in_ok-words.words gold_words
          c.in_ok-nets.ensures c.in_ok-words.ensures))
          (c.test_of_nets.ensures (of_three 0 2 1) (of_three 1 2 1) (design (draft_of wires) gold_words) c.requires.good);
    }
