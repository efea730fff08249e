use Rattle.eq_first.proofs.Operands.{value-Port, value-Not, value-And, value-Xor, value-Or}
use Rattle.eq_first.proofs.laws.values.Goals as goal

pub returns-clause-port : goal.returns-clause-port
returns-clause-port c = value-Port

pub returns-clause-not : goal.returns-clause-not
returns-clause-not c = value-Not

pub returns-clause-and : goal.returns-clause-and
returns-clause-and c = value-And

pub returns-clause-xor : goal.returns-clause-xor
returns-clause-xor c = value-Xor

pub returns-clause-or : goal.returns-clause-or
returns-clause-or c = value-Or
