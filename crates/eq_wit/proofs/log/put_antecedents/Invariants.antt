use Rattle.std.proofs.Common.{◌≡◌, ◌++◌, take}
use Rattle.std.specs.Prelude.{map}
use Rattle.eq_wit.specs.Line.{spaced_fields, number}
use Rattle.eq_wit.proofs.log.put_antecedents.Given as goal

abbrev pub invariant-loop-antecedent : goal.invariant-loop-antecedent
invariant-loop-antecedent l = l.out.items ≡ l.fn.out.items ++ spaced_fields (map number (take l.antecedent-index l.antecedents))
