use Rattle.std.proofs.Common.{ℕ, List, [], ◌∷◌}
use Rattle.eq_vlex.specs.declared.token.TokenKind.TheVariants as kind
use Rattle.eq_vparse.proofs.Printed.{put_next}
use Rattle.eq_vparse.proofs.print.names.Goals as goal

pub loop-at-preserved : goal.loop-at-preserved
loop-at-preserved c = put_next (λ (n : List ℕ). kind.Word n ∷ []) c.args.all.now c.loop-at.at c.index-all-at.result c.index-all-at.result c.args.out.now c.loop-at.out c.comma.new.out c.name.new.self c.loop-at-test.true c.index-all-at.is c.loop-at.invariant c.in_ok-comma.ensures c.in_ok-name.ensures
