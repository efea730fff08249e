use Rattle.std.proofs.Common.{sym}
use Rattle.eq_first.specs.Headers.{head_of}
use Rattle.eq_first.proofs.Headed.{plain_is, next_is, known_after, few_after}
use Rattle.eq_first.proofs.header.add.Goals as goal

pub owned-requires : goal.owned-requires
owned-requires c = (plain_is c.args.name.now (next_is _ _ _ _ _ (sym c.in-Some.ensures)).new.plain).short.0

pub returns-clause-known : goal.returns-clause-known
returns-clause-known c =
    known_after c.args.header.places c.insert.new.places (head_of c.args.header) c.push.new.self c.args.keyword.now c.args.name.now c.in-Some.direction c.in-Some.output c.len.result c.in_ok-owned.field-0
    c.requires.known (next_is _ _ _ _ _ (sym c.in-Some.ensures)) c.in_ok-owned.ensures c.len.ensures c.in_ok-insert.ensures c.in_ok-push.ensures.ok

pub returns-clause-few : goal.returns-clause-few
returns-clause-few c = few_after (head_of c.args.header) c.push.new.self _ _ _ _ _ (next_is _ _ _ _ _ (sym c.in-Some.ensures)) c.in_ok-push.ensures.ok
