use Rattle.eq_wit.proofs.EndLemmas.{wrong_fail, wrong_proved}
use Rattle.eq_wit.proofs.ends.end.Goals as goal

pub returns-in-None : goal.returns-in-None
returns-in-None c = wrong_proved c.args.words.now c.in-Some.word.now c.wrong.result c.in-Some.ensures c.in-None.ensures.none c.wrong.ensures

pub returns-in-None-short_number : goal.returns-in-None-short_number
returns-in-None-short_number c = wrong_fail c.args.words.now c.in-Some-keyed.word.now c.wrong-in-None-short_number.result
    c.in-Some-keyed.ensures c.in-None-short_number.ensures.none c.wrong-in-None-short_number.ensures
