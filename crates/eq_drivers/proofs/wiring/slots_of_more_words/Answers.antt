use Rattle.eq_flatten.proofs.Equated.{slots_later}
use Rattle.eq_drivers.proofs.Later.{followed_later}
use Rattle.eq_drivers.proofs.wiring.slots_of_more_words.Goals as goal

pub returns-clause-driven : goal.returns-clause-driven
returns-clause-driven c = λ nets old new es slots grown are. slots_later nets old new grown es slots

pub returns-clause-followed : goal.returns-clause-followed
returns-clause-followed c = λ nets old new ps slots grown are. followed_later nets old new grown ps slots
