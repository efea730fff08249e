use Rattle.std.proofs.Common.{◌≡◌, ◌++◌, take}
use Rattle.eq_report.specs.Rows.{further_text}
use Rattle.eq_report.proofs.rows.put_further.Given as goal

abbrev pub invariant-loop-cause : goal.invariant-loop-cause
invariant-loop-cause l = l.out.items ≡ l.fn.out.items ++ further_text l.strategies (take l.cause-index l.causes)
