use Rattle.eq_first.specs.Well.{Goes}
use Rattle.eq_first.proofs.Operands.{all-Port, all-Not, all-And, all-Xor, all-Or}
use Rattle.eq_first.proofs.laws.operands.Goals as goal

pub returns-clause-port : goal.returns-clause-port
returns-clause-port c = λ ports d. all-Port (Goes ports d)

pub returns-clause-not : goal.returns-clause-not
returns-clause-not c = λ ports d. all-Not (Goes ports d)

pub returns-clause-and : goal.returns-clause-and
returns-clause-and c = λ ports d. all-And (Goes ports d)

pub returns-clause-xor : goal.returns-clause-xor
returns-clause-xor c = λ ports d. all-Xor (Goes ports d)

pub returns-clause-or : goal.returns-clause-or
returns-clause-or c = λ ports d. all-Or (Goes ports d)
