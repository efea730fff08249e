use Rattle.std.proofs.Common.{ℕ, List, nat_eq, ap, ◌∙◌}
use Rattle.indexmap.specs.IndexSet.{insert_key}
use Rattle.std.proofs.lemmas.Bool.Decides.{Decides-eqb}
use Rattle.std.proofs.lemmas.Map.Made.{AllPairs-from_IsDistinct}
use Rattle.eq_cone.proofs.Reaching.{reached_one}
use Rattle.eq_cone.proofs.numbers.Numbers.insert.Goals as goal

pub invariant_of-self-2 : goal.invariant_of-self-2
invariant_of-self-2 c = AllPairs-from_IsDistinct Decides-eqb c.insert.new.self.keys c.in_ok-insert.ensures.unique

pub returns : goal.returns
returns c = reached_one c.args.self.now c.insert.new.self.keys c.args.number
    (c.in_ok-insert.ensures.keys ∙ ap (λ (l : List ℕ). insert_key nat_eq l c.args.number) c.self.view_is)
