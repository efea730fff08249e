use Rattle.std.proofs.Common.{length, refl}
use Rattle.std.proofs.lemmas.Option.{slice_get_read}
use Rattle.eq_wit.proofs.print.put_queries.Goals as goal

pub put_asked-requires : goal.put_asked-requires
put_asked-requires c = c.requires c.loop-asked.asked-index c.asked-item.result
    (slice_get_read c.args.queries.now (length c.args.queries.now) c.loop-asked.asked-index c.asked-item.result refl
    c.loop-asked-test.true c.asked-item.is)
