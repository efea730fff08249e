use Rattle.std.proofs.Common.{sym, ◌∙◌, ap, Some}
use Rattle.eq_io.proofs.FilesInMemory.{get-files_of}
use Rattle.eq_io.proofs.mem_store.find_file.Goals as goal

pub returns-in-Some : goal.returns-in-Some
returns-in-Some c = ap Some c.as_slice.ensures ∙ c.in-Some.ensures.value ∙ sym (get-files_of c.args.name.now c.args.files.now.entries)

pub returns-in-None : goal.returns-in-None
returns-in-None c = c.in-None.ensures.value ∙ sym (get-files_of c.args.name.now c.args.files.now.entries)
