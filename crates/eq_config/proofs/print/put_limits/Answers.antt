use Rattle.std.proofs.Common.{◌≡◌, ℕ, List, [], ◌∷◌, ◌++◌, ◌∙◌, ap}
use Rattle.std.specs.Prelude.{codes}
use Rattle.std.specs.Fmt.{decimal}
use Rattle.eq_config.specs.Printing.{spaced, ended, text_of, limit_lines}
use Rattle.eq_config.proofs.Printed.{on_ok, three_lines}
use Rattle.eq_config.proofs.print.put_limits.Goals as goal

pub returns : goal.returns
returns c =
    let uses : List ℕ = spaced (codes "use" ∷ codes "sat" ∷ []) in
    let depth : List ℕ = spaced (codes "depth" ∷ decimal c.args.s.now.depth ∷ []) in
    let conflicts : List ℕ = spaced (codes "conflicts" ∷ decimal c.args.s.now.conflicts ∷ []) in
    let more : c.put_number.new.out ≡ c.put_word.new.out ++ ended depth =
    c.in_ok-put_number.ensures ∙ ap (λ (n : ℕ). c.put_word.new.out ++ ended (spaced (codes "depth" ∷ decimal n ∷ [])))
    c.from.ensures in
    on_ok c.put_number-2.result (c.put_number-2.new.out ≡ c.put_number.new.out ++ ended conflicts)
    (c.put_number-2.new.out ≡ c.args.out.now ++ text_of (limit_lines c.args.s.now))
    (three_lines c.args.out.now c.put_word.new.out c.put_number.new.out c.put_number-2.new.out uses depth conflicts
    c.in_ok-put_word.ensures more)
    c.put_number-2.ensures
