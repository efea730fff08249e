use Rattle.std.proofs.Common.{[], ◌∷◌, sym, subst, OnOk}
use Rattle.eq_model.specs.System.{reads_ever}
use Rattle.eq_bits.specs.declared.node.Node.{Node}
use Rattle.eq_bits.specs.Node.{driver_of}
use Rattle.eq_cone.specs.inner.Cones.{Reached}
use Rattle.eq_cone.proofs.Reaching.{reached_both_ok}
use Rattle.eq_cone.proofs.cone.reach.Goals as goal

pub returns-in_ok-insert-in-Mux : goal.returns-in_ok-insert-in-Mux
returns-in_ok-insert-in-Mux c =
    let P : Node → Type 0 = λ x. OnOk c.reach_two-in-Mux.result
    (Reached c.args.cone.now c.reach_two-in-Mux.new.cone (reads_ever (driver_of x))) in
    subst P (sym c.in-Mux.is) (reached_both_ok c.reach_two-in-Mux.result c.args.cone.now c.insert-in-Mux.new.self
    c.reach_two-in-Mux.new.cone (c.in-Mux.s ∷ []) (c.in-Mux.a ∷ c.in-Mux.b ∷ [])
    c.in_ok-insert-in-Mux.ensures c.reach_two-in-Mux.ensures)
