use Rattle.std.proofs.Common.{ap, ◌∙◌}
use Rattle.std.specs.FinMap.{insert}
use Rattle.std.specs.Prelude.{string_bytes}
use Rattle.eq_io.specs.Fakes.{files_of}
use Rattle.eq_io.proofs.FilesInMemory.{files_of-update}
use Rattle.eq_io.proofs.mem_store.put_file.Goals as goal

pub returns-clause-ok : goal.returns-clause-ok
returns-clause-ok c =
    files_of-update (string_bytes c.in_ok-key.key) c.in_ok-value.value c.args.files.now c.insert.new.self c.in_ok-insert.ensures.updates
    ∙ ap (λ name. insert (files_of c.args.files.now.entries) name c.in_ok-value.value) c.in_ok-key.ensures.ok
    ∙ ap (insert (files_of c.args.files.now.entries) c.args.name.now) c.in_ok-value.ensures
