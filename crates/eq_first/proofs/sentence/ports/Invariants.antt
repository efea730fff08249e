use Rattle.std.proofs.Common.{◌≡◌, ◌<◌, ◌≤◌, ◌-◌, ◌^◌, length, drop}
use Rattle.eq_first.specs.Lexing.{tokens_in}
use Rattle.eq_first.specs.Header.{Knows}
use Rattle.eq_first.specs.Headers.{head_of}
use Rattle.eq_first.specs.Sentence.{start, ports_at}
use Rattle.eq_first.proofs.sentence.ports.Given as goal

abbrev pub invariant-loop-more : goal.invariant-loop-more
invariant-loop-more l = record {
  known : Knows l.header.places l.header.ports;
  few : length l.header.ports < 2 ^ 32;
  within : l.at ≤ length l.tokens;
  read : ports_at (head_of l.header) (tokens_in (drop l.at l.tokens)) ≡ ports_at start (tokens_in l.tokens);
}

abbrev pub decreases-loop-more : goal.decreases-loop-more
decreases-loop-more l = length l.tokens - l.at
