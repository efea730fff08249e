use Rattle.eq_net.proofs.Wholes.{number_digit, digit_alone}
use Rattle.eq_net.proofs.laws.numbers_read_back.Goals as goal

pub returns-clause-number : goal.returns-clause-number
returns-clause-number c = number_digit

pub returns-clause-digit : goal.returns-clause-digit
returns-clause-digit c = digit_alone
