use Rattle.std.proofs.Common.{◌≡◌, ◌++◌, take}
use Rattle.std.specs.Prelude.{map}
use Rattle.eq_wit.specs.Line.{spaced_fields}
use Rattle.eq_wit.specs.Texts.{literal_field}
use Rattle.eq_wit.proofs.log.put_clause.Given as goal

abbrev pub invariant-loop-literal : goal.invariant-loop-literal
invariant-loop-literal l = l.out.items ≡ l.fn.out.items ++ spaced_fields (map literal_field (take l.literal-index l.clause))
