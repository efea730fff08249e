use Rattle.std.proofs.Common.{◌≡◌, List, [], Bool, slice_index_or, arith, ap, ◌∙◌}
use Rattle.std.proofs.lemmas.List.{get_or_default}
use Rattle.eq_bits.proofs.Replays.{begun, followed}
use Rattle.eq_bits.proofs.run.advance.Goals as goal

pub returns-then-c-eq0-clause-cycle : goal.returns-then-c-eq0-clause-cycle
returns-then-c-eq0-clause-cycle c =
    let frames = c.args.run.now.inputs in
    let at = c.args.c in
    let inputs : c.as_slice-inputs.result.now ≡ slice_index_or frames at [] =
    c.as_slice-inputs.ensures
    ∙ c.index-as_slice-c.is
    ∙ ap (λ (fs : List (List Bool)). slice_index_or fs at c.index-as_slice-c.result) c.as_slice.ensures
    ∙ get_or_default frames at c.index-as_slice-c.result [] c.requires.cycle
    in
    begun c.args.part.now c.args.run.now at c.as_slice-nodes.result.now c.as_slice-then-c-eq0.result.now
    c.as_slice-inputs.result.now c.begin.new.self
    (omega arith) c.requires.cycle c.as_slice-nodes.ensures c.as_slice-then-c-eq0.ensures inputs
    c.begin.ensures.computed

pub returns-else-c-eq0-clause-cycle : goal.returns-else-c-eq0-clause-cycle
returns-else-c-eq0-clause-cycle c =
    let frames = c.args.run.now.inputs in
    let at = c.args.c in
    let inputs : c.as_slice-inputs.result.now ≡ slice_index_or frames at [] =
    c.as_slice-inputs.ensures
    ∙ c.index-as_slice-c.is
    ∙ ap (λ (fs : List (List Bool)). slice_index_or fs at c.index-as_slice-c.result) c.as_slice.ensures
    ∙ get_or_default frames at c.index-as_slice-c.result [] c.requires.cycle
    in
    followed c.args.part.now c.args.run.now at c.as_slice-nodes.result.now c.as_slice-inputs.result.now
    c.args.scratch.now c.follow.new.self
    (omega arith) c.requires.cycle c.as_slice-nodes.ensures inputs c.requires.before c.follow.ensures.computed
