use Rattle.std.proofs.Common.{◌≡◌, ℕ, ◌<◌, length}
use Rattle.eq_net.specs.Net.{offset}
use Rattle.eq_reads.specs.Words.{number_at}
use Rattle.eq_reads.proofs.words.starts.Given as goal

abbrev pub invariant-loop-net : goal.invariant-loop-net
invariant-loop-net l = record {
  count : length l.starts.items ≡ l.net-index;
  next : l.next ≡ offset l.nets l.net-index;
  each : (k : ℕ) → k < l.net-index → number_at l.starts.items k ≡ offset l.nets k;
}
