use Rattle.std.proofs.Common.{◌≡◌, ◌+◌, ◌-◌, length, arith}
use Rattle.eq_blast.specs.inner.Shifts.{place, takes}
use Rattle.eq_blast.proofs.Staged.{place_in, there_moved}
use Rattle.eq_blast.proofs.shifts.stage.Goals as goal

pub map-requires-clause-there : goal.map-requires-clause-there
map-requires-clause-there c =
    let s = c.args.stack.now.items in
    let from = c.requires.from in
    let w = c.len-top.result - c.args.from in
    let top : c.len-top.result ≡ length s = (let e = c.len-top.ensures in let ok = c.args.stack.now.ok in omega arith) in
    let some = c.requires.constants.room in
    there_moved w c.args.builder.now s c.push_moved.new.stack.items (λ j. takes c.args.up w c.args.by j) (λ j. c.args.from + place c.args.up c.args.by j) (omega arith) c.requires.there
    c.in_ok-push_moved.ensures.written (λ j lt e. (let p = place_in c.args.up w c.args.by j lt e in omega arith)) c.in_ok-push_moved.ensures.put
