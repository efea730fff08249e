use Rattle.std.proofs.Common.{subst, sym}
use Rattle.eq_net.specs.Net.{IsNet}
use Rattle.test_plans.specs.Chains.{design, draft_of, rank_at, top_at, words_of}
use Rattle.test_plans.proofs.Drafted.{same_parts}
use Rattle.test_plans.proofs.chains.wired.Goals as goal

pub invariant_of-result : goal.invariant_of-result
invariant_of-result c =
    let wires = c.args.wires.now in record {
      is_net = subst IsNet (sym (same_parts c.in_ok-nets.field-0 (draft_of wires) c.in_ok-words.words (words_of wires)
          c.in_ok-nets.ensures c.in_ok-words.ensures))
          (c.test_of_nets.ensures (rank_at wires) (top_at wires) (design (draft_of wires) (words_of wires)) c.requires.good);
    }
