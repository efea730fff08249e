use Rattle.std.proofs.Common.{Err, ap}
use Rattle.eqy.proofs.Fronts.{front_take}
use Rattle.eqy.proofs.report.tell.Goals as goal

pub returns-in-Err-Failed-clause-err : goal.returns-in-Err-Failed-clause-err
returns-in-Err-Failed-clause-err g c =
    let added = c.in-Err-Failed.ensures.failed (ap Err c.in-Err-Failed.field-0-is) in
    front_take (g.O.Sink.written c.args.out.now) (g.O.Sink.written c.put.new.self) c.args.piece.now added.0 added.1
