use Rattle.eq_first.proofs.Operands.{reads-Port, reads-Not, reads-And, reads-Xor, reads-Or}
use Rattle.eq_first.proofs.laws.reads.Goals as goal

pub returns-clause-port : goal.returns-clause-port
returns-clause-port c = reads-Port

pub returns-clause-not : goal.returns-clause-not
returns-clause-not c = reads-Not

pub returns-clause-and : goal.returns-clause-and
returns-clause-and c = reads-And

pub returns-clause-xor : goal.returns-clause-xor
returns-clause-xor c = reads-Xor

pub returns-clause-or : goal.returns-clause-or
returns-clause-or c = reads-Or
