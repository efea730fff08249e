use Rattle.std.proofs.Common.{◌≡◌, ℕ, ◌+◌, ◌<◌, length, slice_get, slice_index_or}
use Rattle.eq_names.specs.declared.BitName.{BitName}
use Rattle.eq_net.specs.Meaning.{if_there}
use Rattle.eq_net.specs.Net.{number_of}
use Rattle.eq_blast.specs.inner.Stack.{Written}
use Rattle.eq_blast.specs.inner.Wiring.{node_of}
use Rattle.eq_blast.proofs.words.push_named.Given as goal

abbrev pub invariant-loop-name : goal.invariant-loop-name
invariant-loop-name l = record {
  written : Written (length l.fn.stack.items) l.name-index l.fn.stack.items l.stack.items;
  put : (i : ℕ) → i < l.name-index → slice_index_or l.stack.items (length l.fn.stack.items + i) 0 ≡ if_there 0 (λ (n : BitName). node_of (number_of l.nets n)) (slice_get l.names i);
}
