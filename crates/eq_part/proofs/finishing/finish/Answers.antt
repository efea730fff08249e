use Rattle.std.proofs.Common.{◌∙◌, ℕ, List, length, sym, subst}
use Rattle.std.specs.List.{All}
use Rattle.eq_match.specs.Groups.{is_held}
use Rattle.eq_match.specs.Leaders.{one_leader}
use Rattle.eq_part.specs.inner.Named.{IsList}
use Rattle.eq_part.proofs.Listed.{divided_lists}
use Rattle.eq_part.proofs.finishing.finish.Goals as goal

pub parts_with-requires-clause-lists : goal.parts_with-requires-clause-lists
parts_with-requires-clause-lists c =
    let pairs = c.args.pairs.now in let n = length c.args.pairs.now in
    subst (λ (ls : List (List ℕ)). All (IsList n) ls) (sym (c.as_slice-2.ensures ∙ c.in_ok-lists.ensures))
    (divided_lists n (is_held c.args.pairs.now) (one_leader c.args.state.now.classes) _
    (c.classes_divide.ensures n (is_held c.args.pairs.now) c.args.state.now.classes))
