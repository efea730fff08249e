use Rattle.std.proofs.Common.{sym}
use Rattle.eq_config.proofs.Ended.{misses, has_config}
use Rattle.eq_config.proofs.read.read_whole.Goals as goal

pub returns-in-Some-clause-fault : goal.returns-in-Some-clause-fault
returns-in-Some-clause-fault c = rw c.missed.ensures
    (misses c.args.text.now c.in_ok-draft.field-0.lines c.in-Some.line c.in_ok-draft.field-0.draft
    c.in_ok-draft.ensures.draft c.in_ok-draft.ensures.count c.in_ok-draft.ensures.fine (sym c.in-Some.ensures))

pub returns-in_ok-finish-in-None-clause-ok : goal.returns-in_ok-finish-in-None-clause-ok
returns-in_ok-finish-in-None-clause-ok c =
    has_config c.args.text.now c.in_ok-draft.field-0.lines c.in_ok-draft.field-0.draft c.in_ok-finish-in-None.field-0
    c.in_ok-draft.ensures.draft c.in_ok-draft.ensures.count c.in_ok-draft.ensures.fine (sym c.in-None.ensures) c.in_ok-finish-in-None.ensures
