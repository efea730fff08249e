use Rattle.eq_flatten.proofs.Reflected.{copies_of_word, reads_of_word, values_of_word}
use Rattle.eq_flatten.proofs.rendering.words_render.Goals as goal

pub returns-clause-values : goal.returns-clause-values
returns-clause-values c = values_of_word

pub returns-clause-reads : goal.returns-clause-reads
returns-clause-reads c = reads_of_word

pub returns-clause-copies : goal.returns-clause-copies
returns-clause-copies c = copies_of_word
