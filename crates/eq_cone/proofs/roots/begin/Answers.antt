use Rattle.std.proofs.Common.{ℕ, [], ◌∷◌, OnOk, subst}
use Rattle.eq_cone.specs.Paired.{own_in_gold}
use Rattle.eq_cone.specs.inner.Cones.{Reached}
use Rattle.eq_cone.proofs.Reaching.{reached_both_ok}
use Rattle.eq_cone.proofs.roots.begin.Goals as goal

pub returns : goal.returns
returns c =
    let P : ℕ → Type 0 = λ x. OnOk c.insert-2.result (Reached c.args.roots.now c.insert-2.new.self
    (x ∷ c.gate_node.result ∷ [])) in
    let Q : ℕ → Type 0 = λ x. OnOk c.insert-2.result (Reached c.args.roots.now c.insert-2.new.self
    (own_in_gold c.args.graphs.now.gold.now c.args.graphs.now.plan.now c.args.pair ∷ x ∷ [])) in
    subst Q c.gate_node.ensures (subst P c.gold_node.ensures (reached_both_ok c.insert-2.result c.args.roots.now
    c.insert.new.self c.insert-2.new.self (c.gold_node.result ∷ []) (c.gate_node.result ∷ [])
    c.in_ok-insert.ensures c.insert-2.ensures))
