use Rattle.eq_wit.proofs.ItemLemmas.{no_input}
use Rattle.eq_wit.proofs.items.input_name.Goals as goal

pub returns-in_default : goal.returns-in_default
returns-in_default c = no_input c.args.words.now c.in_default.ensures
