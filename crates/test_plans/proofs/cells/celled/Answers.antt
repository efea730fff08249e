use Rattle.std.proofs.Common.{subst, sym}
use Rattle.eq_net.specs.Net.{IsNet}
use Rattle.test_plans.specs.Cells.{draft_of, rank_at, top_at, words_of}
use Rattle.test_plans.specs.Chains.{design}
use Rattle.test_plans.proofs.Drafted.{same_parts}
use Rattle.test_plans.proofs.cells.celled.Goals as goal

pub invariant_of-result : goal.invariant_of-result
invariant_of-result c =
    let cells = c.args.cells.now in record {
      is_net = subst IsNet (sym (same_parts c.in_ok-nets.field-0 (draft_of cells) c.in_ok-words.words (words_of cells)
          c.in_ok-nets.ensures c.in_ok-words.ensures))
          (c.test_of_nets.ensures (rank_at cells) (top_at cells) (design (draft_of cells) (words_of cells))
          c.requires.good);
    }
