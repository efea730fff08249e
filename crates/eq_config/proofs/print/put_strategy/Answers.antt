use Rattle.std.proofs.Common.{◌≡◌, ℕ, List, [], ◌∷◌, ◌++◌, ◌∙◌, ap, subst}
use Rattle.std.specs.Prelude.{OnOk, codes, map}
use Rattle.eq_config.specs.Printing.{heading_line, ended, text_of, limit_lines, apply_line, strategy_lines}
use Rattle.eq_config.proofs.Printed.{on_ok, section_text}
use Rattle.eq_config.proofs.print.put_strategy.Goals as goal

pub returns : goal.returns
returns c =
    let s = c.args.s.now in
    let title : c.put_heading.new.out ≡ c.args.out.now ++ ended (heading_line (codes "strategy" ∷ s.name ∷ [])) =
    c.in_ok-put_heading.ensures
    ∙ ap (λ (word : List ℕ). c.args.out.now ++ ended (heading_line (codes "strategy" ∷ word ∷ [])))
    c.bytes.ensures.bytes in
    let lines : List (List ℕ) = map apply_line s.apply in
    on_ok c.put_apply.result (c.put_apply.new.out ≡ c.put_limits.new.out ++ text_of lines)
    (c.put_apply.new.out ≡ c.args.out.now ++ text_of (strategy_lines s))
    (section_text c.args.out.now c.put_heading.new.out c.put_limits.new.out c.put_apply.new.out
    (heading_line (codes "strategy" ∷ s.name ∷ [])) (limit_lines s) lines title c.in_ok-put_limits.ensures)
    (subst (λ (all : List (List ℕ)). OnOk c.put_apply.result
    (c.put_apply.new.out ≡ c.put_limits.new.out ++ text_of (map apply_line all))) c.as_slice.ensures
    c.put_apply.ensures)
