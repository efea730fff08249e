use Rattle.eqy.proofs.Fronts.{front_first, front_second, on_err}
use Rattle.eqy.proofs.report.tell_two.Goals as goal

pub returns-in-Ok-clause-err : goal.returns-in-Ok-clause-err
returns-in-Ok-clause-err g c =
    on_err c.tell-in-Ok.result (front_second (g.O.Sink.written c.args.out.now) (g.O.Sink.written c.tell.new.out) (g.O.Sink.written c.tell-in-Ok.new.out) c.args.first.now c.args.second.now c.in-Ok.ensures.ok) c.tell-in-Ok.ensures.err

pub returns-in-Err-clause-err : goal.returns-in-Err-clause-err
returns-in-Err-clause-err g c =
    front_first (g.O.Sink.written c.args.out.now) (g.O.Sink.written c.tell.new.out) c.args.first.now c.args.second.now c.in-Err.ensures.err
