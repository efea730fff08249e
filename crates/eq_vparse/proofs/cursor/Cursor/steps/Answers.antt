use Rattle.std.proofs.Common.{rules, refl}
use Rattle.eq_vparse.specs.Machine.{expr_at}
use Rattle.eq_vparse.proofs.Progress.{goes_on, ends, stops, shortens}
use Rattle.eq_vparse.proofs.cursor.Cursor.steps.Goals as goal

pub loop-next-init : goal.loop-next-init
unfolding expr_at
loop-next-init c = rw c.new-stack.ensures refl

pub returns-in_err-next : goal.returns-in_err-next
returns-in_err-next c = (let h = stops _ _ _ _ c.loop-next.invariant c.in_err-next.ensures in search rules)

pub loop-next-smaller : goal.loop-next-smaller
loop-next-smaller c = shortens _ _ _ _ _ c.in_ok-next.ensures c.in-More.is

pub loop-next-preserved : goal.loop-next-preserved
loop-next-preserved c = goes_on _ _ _ _ _ _ c.loop-next.invariant c.in_ok-next.ensures c.in-More.is

pub returns-in-Whole : goal.returns-in-Whole
returns-in-Whole c = ends _ _ _ _ _ _ c.loop-next.invariant c.in_ok-next.ensures c.in-Whole.is
