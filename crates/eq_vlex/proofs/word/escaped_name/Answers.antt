use Rattle.std.proofs.Common.{◌≡◌, List, ℕ, length, drop, ap, ◌∙◌, arith}
use Rattle.std.specs.List.{take_while}
use Rattle.std.proofs.lemmas.List.{take_rest}
use Rattle.eq_vlex.specs.declared.bytes.Class.TheVariants as class
use Rattle.eq_vlex.specs.Bytes.{is_in}
use Rattle.eq_vlex.specs.Words.{escaped_name}
use Rattle.eq_vlex.proofs.Naming.{visible_visible, run_is_name}
use Rattle.eq_vlex.proofs.word.escaped_name.Goals as goal

pub name_of-requires : goal.name_of-requires
name_of-requires c =
    let text = c.args.text.now in
    let run-is : c.run-name.result.now ≡ escaped_name text = c.run-name.ensures.value ∙ ap (take_while (is_in class.Visible)) (take_rest text 1) in
    let some = (c.is_escaped_name.ensures.0 c.if-not-is_escaped_name.false).some in
    let len = ap (λ (bs : List ℕ). length bs) run-is in
    run_is_name class.Visible visible_visible (drop 1 text) c.run-name.result.now run-is (omega (arith, len, some))
