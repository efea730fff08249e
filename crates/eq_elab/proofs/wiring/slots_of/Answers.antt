use Rattle.eq_net.specs.Tree.{trees_of as words_of}
use Rattle.eq_layout.specs.Layout.{design_in}
use Rattle.eq_elab.proofs.Checked.{no_words}
use Rattle.eq_elab.proofs.wiring.slots_of.Goals as goal

pub returns-clause-tell : goal.returns-clause-tell
returns-clause-tell c =
    let l = c.args.layout.now in
    let f = design_in l c.args.top.now in
    record {
      nets_are = c.requires.laid.nets;
      driven_size = c.in_ok-driven.ensures.size;
      followed_size = c.in_ok-followed.ensures.size;
      begun_size = c.in_ok-begun.ensures.size;
      driven = c.slots_of_more_words.ensures.driven l.flat.nets.items (words_of c.driven.new.words)
          (words_of c.all_next.new.words) f.equations c.in_ok-driven.driven.items
          c.in_ok-followed.ensures.kept (c.in_ok-driven.ensures.words (no_words l.flat.nets.items (words_of c.args.words.now)
          c.requires.empty)) c.in_ok-driven.ensures.driven;
      followed = c.in_ok-followed.ensures.followed;
      begun = c.in_ok-begun.ensures.begun;
    }
