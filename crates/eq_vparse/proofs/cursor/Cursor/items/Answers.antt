use Rattle.std.proofs.Common.{rules, ◌≡◌, ◌≢◌, sym, ◌∙◌}
use Rattle.eq_vparse.specs.Limits.{limits}
use Rattle.eq_vlex.specs.declared.key.Key.TheVariants as word
use Rattle.eq_vparse.specs.Tests.{is_key}
use Rattle.eq_vparse.specs.declared.stop.Stop.TheVariants as stop
use Rattle.eq_vparse.specs.Reading.{stopped}
use Rattle.eq_vparse.specs.SourceReading.{items_at}
use Rattle.eq_vparse.specs.ItemReading.{item_at}
use Rattle.eq_vparse.proofs.Turns.{until_stops, until_ends, until_goes, until_less}
use Rattle.eq_vparse.proofs.Items.{item_progress}
use Rattle.eq_vparse.proofs.cursor.Cursor.items.Goals as goal

pub loop-alloc-smaller : goal.loop-alloc-smaller
loop-alloc-smaller c = until_less (item_at limits) (is_key word.Endmodule) (item_progress limits) c.loop-alloc.items c.loop-alloc.self _ _ (sym c.loop-alloc-test.ensures) c.in_ok-item.ensures

pub loop-alloc-preserved : goal.loop-alloc-preserved
loop-alloc-preserved c = sym (until_goes (item_at limits) (is_key word.Endmodule) (item_progress limits) c.loop-alloc.items c.loop-alloc.self _ _ (sym c.loop-alloc-test.ensures) c.in_ok-item.ensures) ∙ c.loop-alloc.invariant

pub returns-in_err-item : goal.returns-in_err-item
unfolding items_at
returns-in_err-item c =
    let stops : c.in_err-item.field-0.0 ≢ stop.Memory → items_at limits c.args.items.now c.args.self.now ≡ stopped c.in_err-item.field-0.0 =
    λ e. sym c.loop-alloc.invariant ∙ until_stops (item_at limits) (is_key word.Endmodule) (item_progress limits) c.loop-alloc.items c.loop-alloc.self _ (sym c.loop-alloc-test.ensures) (c.in_err-item.ensures e) in
    search (rules, stops)

pub returns : goal.returns
unfolding items_at
returns c = sym c.loop-alloc.invariant ∙ until_ends (item_at limits) (is_key word.Endmodule) (item_progress limits) c.loop-alloc.items c.loop-alloc.self (sym c.loop-alloc-test.ensures)
