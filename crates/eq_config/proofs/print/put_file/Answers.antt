use Rattle.std.proofs.Common.{◌≡◌, ℕ, List, ◌++◌, subst}
use Rattle.std.specs.Prelude.{OnOk}
use Rattle.eq_config.specs.Printing.{ended, file_line}
use Rattle.eq_config.proofs.print.put_file.Goals as goal

pub returns : goal.returns
returns c = subst (λ (word : List ℕ). OnOk c.put_word.result
    (c.put_word.new.out ≡ c.args.out.now ++ ended (file_line word))) c.bytes.ensures.bytes c.put_word.ensures
