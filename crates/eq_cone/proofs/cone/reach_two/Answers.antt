use Rattle.std.proofs.Common.{[], ◌∷◌}
use Rattle.eq_cone.proofs.Reaching.{reached_both_ok}
use Rattle.eq_cone.proofs.cone.reach_two.Goals as goal

pub returns : goal.returns
returns c = reached_both_ok c.insert-2.result c.args.cone.now c.insert.new.self c.insert-2.new.self
    (c.args.a ∷ []) (c.args.b ∷ []) c.in_ok-insert.ensures c.insert-2.ensures
