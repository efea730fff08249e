use Rattle.std.proofs.Common.{refl, arith}
use Rattle.eq_vlex.specs.declared.bytes.Class.TheVariants as class
use Rattle.eq_vlex.proofs.Beginnings.{simple_first}
use Rattle.eq_vlex.proofs.Naming.{simple_visible, run_some, run_is_name}
use Rattle.eq_vlex.proofs.word.simple_name.Goals as goal

pub name_of-requires : goal.name_of-requires
name_of-requires c =
    let some = run_some class.Simple c.args.text.now refl (simple_first c.args.text.now c.requires) in
    run_is_name class.Simple simple_visible c.args.text.now c.run-word.result.now c.run-word.ensures.value (omega (arith, some, c.run-word.ensures.len))
