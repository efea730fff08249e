use Rattle.eq_reads.specs.inner.Shapes.{AllLead}
use Rattle.eq_reads.proofs.Rows.{row_one}
use Rattle.eq_reads.proofs.operators.whole.Goals as goal

pub returns : goal.returns
returns c =
    let s = c.args.nodes.now in
    let row = c.args.row.now.items in
    row_one s row c.gather.new.nodes c.cut.new.row.items c.push.new.row.items c.args.from c.in_ok-all.all
    (AllLead s row c.args.from) c.requires.there c.requires.from
    c.in_ok-all.ensures.grew c.cut.ensures.size c.cut.ensures.kept c.in_ok-push.ensures.size
    c.in_ok-push.ensures.there c.in_ok-push.ensures.kept
    c.in_ok-all.ensures.there c.in_ok-all.ensures.ok
