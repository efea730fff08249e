use Rattle.std.proofs.Common.{◌+◌, map}
use Rattle.std.specs.Prelude.{zip}
use Rattle.eq_net.specs.Tree.{trees_of}
use Rattle.eq_analysis.specs.Tabling.{trees_at}
use Rattle.eq_flatten.specs.Owning.{names_in}
use Rattle.eq_flatten.proofs.LinksReady.{adds_link, link_ready_at, zip_inside}
use Rattle.eq_flatten.proofs.joining.add_links.Goals as goal

pub add_link_at-requires-clause-outer : goal.add_link_at-requires-clause-outer
add_link_at-requires-clause-outer c =
    let ends = zip c.args.paths.now c.args.firsts.now in
    let ready = link_ready_at c.args.nets.now (map names_in c.args.owned.now) ends (trees_at c.args.tables.now)
    c.args.links.now c.loop-place.place c.index-links-place.result c.loop-place-test.true c.index-links-place.is
    c.requires.ready in
    zip_inside c.args.paths.now c.args.firsts.now c.index-links-place.result.within ready.outer

pub add_link_at-requires-clause-own : goal.add_link_at-requires-clause-own
add_link_at-requires-clause-own c =
    let ends = zip c.args.paths.now c.args.firsts.now in
    let ready = link_ready_at c.args.nets.now (map names_in c.args.owned.now) ends (trees_at c.args.tables.now)
    c.args.links.now c.loop-place.place c.index-links-place.result c.loop-place-test.true c.index-links-place.is
    c.requires.ready in
    zip_inside c.args.paths.now c.args.firsts.now (c.loop-place.place + 1) ready.own

pub add_link_at-requires-clause-ready : goal.add_link_at-requires-clause-ready
add_link_at-requires-clause-ready c =
    link_ready_at c.args.nets.now (map names_in c.args.owned.now) (zip c.args.paths.now c.args.firsts.now)
    (trees_at c.args.tables.now) c.args.links.now c.loop-place.place c.index-links-place.result
    c.loop-place-test.true c.index-links-place.is c.requires.ready

pub loop-place-preserved : goal.loop-place-preserved
loop-place-preserved c =
    adds_link c.args.nets.now (map names_in c.args.owned.now) (zip c.args.paths.now c.args.firsts.now) c.args.links.now
    c.loop-place.place c.index-links-place.result (trees_of c.args.words.now) (trees_of c.loop-place.words)
    (trees_of c.add_link_at.new.words) c.args.slots.now c.loop-place.slots c.add_link_at.new.slots
    c.loop-place-test.true c.index-links-place.is c.loop-place.invariant c.in_ok-add_link_at.ensures
