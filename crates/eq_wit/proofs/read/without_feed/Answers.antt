use Rattle.eq_wit.proofs.ReadLemmas.{stops_behind, stops_without_feed}
use Rattle.eq_wit.proofs.read.without_feed.Goals as goal

pub returns-in-Some : goal.returns-in-Some
returns-in-Some c = stops_behind c.args.text.now c.args.state c.in-Some._tally c.args.line c.args.rest.now c.requires.at
    c.requires.some c.in-Some.ensures

pub returns-in-None : goal.returns-in-None
returns-in-None c = stops_without_feed c.args.text.now c.args.state c.args.line c.args.rest.now c.requires.at
    c.requires.feed c.requires.some c.in-None.ensures
