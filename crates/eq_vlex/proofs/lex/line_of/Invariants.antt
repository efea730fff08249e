use Rattle.std.proofs.Common.{◌≡◌, ◌+◌, ◌≤◌, ◌==◌, take}
use Rattle.std.specs.Prelude.{count_by}
use Rattle.eq_vlex.proofs.lex.line_of.Given as goal

-- the line feeds so far
abbrev pub invariant-loop-byte : goal.invariant-loop-byte
invariant-loop-byte l = record {
  so_far : l.line ≡ 1 + count_by (λ b. b == 10) (take l.byte-index l.before);
  fits : l.line ≤ 1 + l.byte-index;
}
