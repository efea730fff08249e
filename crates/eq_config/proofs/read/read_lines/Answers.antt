use Rattle.std.proofs.Common.{◌∙◌, sym, length, arith}
use Rattle.std.proofs.lemmas.Bool.{eqb-true}
use Rattle.eq_config.proofs.Passing.{reached_more, all_read, faulty_line}
use Rattle.eq_config.proofs.read.read_lines.Goals as goal

pub loop-rest-preserved : goal.loop-rest-preserved
loop-rest-preserved c =
    reached_more c.args.text.now c.loop-rest.rest.now c.next_line.result.0.now c.next_line.result.1.now c.loop-rest.number c.loop-rest.draft c.take_line.new.draft
    c.loop-rest.invariant c.next_line.ensures.line c.next_line.ensures.shorter c.in-Ok.ensures.ok c.in-Ok.ensures.fine

pub returns-in-Err-clause-fault : goal.returns-in-Err-clause-fault
returns-in-Err-clause-fault c = rw c.stopped.ensures
    (faulty_line c.args.text.now c.loop-rest.rest.now c.next_line.result.0.now c.next_line.result.1.now c.loop-rest.number c.loop-rest.draft c.in-Err.stop
    c.loop-rest.invariant c.next_line.ensures.line c.in-Err.ensures.fault)

pub returns-clause-draft : goal.returns-clause-draft
returns-clause-draft c = (all_read c.args.text.now c.loop-rest.rest.now c.loop-rest.number c.loop-rest.draft c.loop-rest.invariant (eqb-true (length c.loop-rest.rest.now) 0 (sym c.is_empty.ensures ∙ c.loop-rest-test.false))).said

pub returns-clause-fine : goal.returns-clause-fine
returns-clause-fine c = (all_read c.args.text.now c.loop-rest.rest.now c.loop-rest.number c.loop-rest.draft c.loop-rest.invariant (eqb-true (length c.loop-rest.rest.now) 0 (sym c.is_empty.ensures ∙ c.loop-rest-test.false))).fine

pub returns-clause-count : goal.returns-clause-count
returns-clause-count c = (all_read c.args.text.now c.loop-rest.rest.now c.loop-rest.number c.loop-rest.draft c.loop-rest.invariant (eqb-true (length c.loop-rest.rest.now) 0 (sym c.is_empty.ensures ∙ c.loop-rest-test.false))).count

pub returns-clause-room : goal.returns-clause-room
returns-clause-room c =
    let room = c.loop-rest.invariant.room in
    omega (arith, room)
