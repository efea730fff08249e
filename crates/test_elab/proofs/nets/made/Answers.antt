use Rattle.std.proofs.Common.{subst, sym}
use Rattle.eq_net.specs.Net.{IsNet}
use Rattle.test_elab.specs.Made.{design, draft_of, rank_at, top_at, words_of}
use Rattle.test_elab.proofs.Made.{same_parts}
use Rattle.test_elab.proofs.nets.made.Goals as goal

pub invariant_of-result : goal.invariant_of-result
invariant_of-result c =
    let lines = c.args.lines.now in record {
      is_net = subst IsNet (sym (same_parts c.in_ok-nets.field-0 (draft_of lines) c.in_ok-words.words (words_of lines)
          c.args.clock c.in_ok-nets.ensures c.in_ok-words.ensures))
          (c.test_of_nets.ensures (rank_at lines) (top_at lines) (design (draft_of lines) (words_of lines) c.args.clock)
          c.requires.good);
    }
