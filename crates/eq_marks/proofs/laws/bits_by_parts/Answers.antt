use Rattle.eq_marks.proofs.Told.{first_astray_same, first_end_same, first_missed_same, first_taken_same}
use Rattle.eq_marks.proofs.laws.bits_by_parts.Goals as goal

pub returns-clause-missed : goal.returns-clause-missed
returns-clause-missed c n f are =
    first_missed_same n f are (c.words_make_a_system.ensures n are.words) (c.bits_stand_by_nets.ensures.there n.nets)

pub returns-clause-taken : goal.returns-clause-taken
returns-clause-taken c n f b are =
    first_taken_same n f are (c.words_make_a_system.ensures n are.words) (c.bits_stand_by_nets.ensures.there n.nets) b

pub returns-clause-clock : goal.returns-clause-clock
returns-clause-clock c n f es are there is =
    first_end_same n f are (c.words_make_a_system.ensures n are.words) (c.bits_stand_by_nets.ensures.there n.nets) es
    there is

pub returns-clause-astray : goal.returns-clause-astray
returns-clause-astray c n f es are there is =
    first_astray_same n f are (c.words_make_a_system.ensures n are.words) (c.bits_stand_by_nets.ensures.there n.nets) es
    there is
