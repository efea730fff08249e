use Rattle.std.proofs.Common.{sym, subst}
use Rattle.eq_registers.specs.Standing.{StandsFor}
use Rattle.eq_sequential.proofs.FollowingLemmas.{none_follows, one_follows}
use Rattle.eq_sequential.proofs.laws.following_by_slot.Goals as goal

pub returns-clause-none : goal.returns-clause-none
returns-clause-none c = λ nets words ps b none. none_follows b ps none

pub returns-clause-one : goal.returns-clause-one
returns-clause-one c = λ nets words ps b w says.
    subst (λ f. StandsFor nets words w f) (sym (one_follows b ps says.1.0 says.1.1 says.1.2.sets_it says.0))
    says.1.2.stands
