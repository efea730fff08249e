use Rattle.std.proofs.Common.{◌≡◌, ℕ, List, ◌++◌, subst}
use Rattle.std.specs.Prelude.{OnOk, codes}
use Rattle.std.specs.List.{flat_map}
use Rattle.eq_config.specs.declared.config.Strategy.{Strategy}
use Rattle.eq_config.specs.Printing.{text_of, side_lines, rule_lines, strategy_lines, printed}
use Rattle.eq_config.proofs.Printed.{on_ok, four_parts}
use Rattle.eq_config.proofs.print.put_config.Goals as goal

pub returns : goal.returns
returns c =
    let config = c.args.c.now in
    let strategies : List (List ℕ) = flat_map strategy_lines config.strategies in
    on_ok c.put_strategies.result (c.put_strategies.new.out ≡ c.put_rules.new.out ++ text_of strategies)
    (c.put_strategies.new.out ≡ c.args.out.now ++ printed config)
    (four_parts c.args.out.now c.put_side.new.out c.put_side-2.new.out c.put_rules.new.out c.put_strategies.new.out
    (side_lines (codes "gold") config.gold) (side_lines (codes "gate") config.gate)
    (rule_lines config) strategies c.in_ok-put_side.ensures c.in_ok-put_side-2.ensures c.in_ok-put_rules.ensures)
    (subst (λ (all : List Strategy). OnOk c.put_strategies.result
    (c.put_strategies.new.out ≡ c.put_rules.new.out ++ text_of (flat_map strategy_lines all))) c.as_slice.ensures
    c.put_strategies.ensures)
