use Rattle.std.proofs.Common.{rules, ap, Some, take, length, ◌/◌}
use Rattle.eq_io.specs.Fakes.{FilesInMemory}
use Rattle.eq_io.proofs.mem_store.MemStoreStore.TheImpl.Goals as goal

-- a write that fails leaves half of the bytes
pub write-tells : goal.write-tells
write-tells c = record {
  ok = search rules;
  failed = λ e. (Some (take (length c.args.bytes.now / 2) c.args.bytes.now), ap (λ (s : FilesInMemory). Some s.files) (c.ensures.failed e));
  memory = search (rules, c.ensures.memory);
  later = c.ensures.later;
  cause = search (rules, c.ensures.failed);
}
