use Rattle.eq_wit.proofs.ItemLemmas.{no_part}
use Rattle.eq_wit.proofs.items.part_name.Goals as goal

pub returns-in_default : goal.returns-in_default
returns-in_default c = no_part c.args.words.now c.in_default.ensures
