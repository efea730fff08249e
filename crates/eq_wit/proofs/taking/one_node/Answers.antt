use Rattle.std.proofs.Common.{◌-◌, arith}
use Rattle.eq_wit.proofs.TakeLemmas.{names_mark, stopped_node, takes_node}
use Rattle.eq_wit.proofs.taking.one_node.Goals as goal

pub grown-requires : goal.grown-requires
grown-requires c = names_mark c.args.draft c.args.seen c.args.left _ c.args.words.now c.in-Ok.node c.requires.stands
    c.in-Ok.ensures

pub returns-in_ok-grown-in-Ok : goal.returns-in_ok-grown-in-Ok
returns-in_ok-grown-in-Ok c = takes_node c.args.draft c.args.seen c.args.left (c.args.left - 1) c.args.words.now c.in-Ok.node _
    (omega arith) c.in-Ok.ensures c.in_ok-grown-in-Ok.ensures

pub returns-in-Err : goal.returns-in-Err
returns-in-Err c = stopped_node c.args.draft c.args.seen c.args.left (c.args.left - 1) c.args.words.now c.in-Err.stop
    (omega arith) c.in-Err.ensures
