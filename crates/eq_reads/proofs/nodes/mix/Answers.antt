use Rattle.std.proofs.Common.{◌≡◌, ℕ, ◌-◌, length, refl, arith, subst}
use Rattle.std.proofs.lemmas.Result.{on_ok_weaker}
use Rattle.eq_reads.specs.inner.Leading.{Appended, PairLeads, RowGrew}
use Rattle.eq_reads.proofs.Rows.{filled_there, mixed_row}
use Rattle.eq_reads.proofs.nodes.mix.Goals as goal

pub combine-requires-clause-there : goal.combine-requires-clause-there
combine-requires-clause-there c =
    filled_there c.args.nodes.now c.args.row.now.items c.fill.new.row.items (c.len-right.result - c.args.from)
    c.args.other
    c.requires.there c.requires.other c.in_ok-fill.ensures

pub returns : goal.returns
returns c =
    let s = c.args.nodes.now in
    let row = c.args.row.now.items in
    let mid = c.fill.new.row.items in
    let from = c.args.from in
    let now = c.combine.new.nodes in
    let after = c.combine.new.row.items in
    let len = c.len-right.ensures in
    let is : c.len-right.result ≡ length row = omega arith in
    let F : ℕ → Type 0 = λ n. Appended row mid (n - from) (λ j. c.args.other) in
    let P : ℕ → Type 0 = λ n. RowGrew s mid now after from (n - from) (PairLeads s mid from n) in
    on_ok_weaker c.combine.result
    (λ h. mixed_row s row mid now after from (length row - from) c.args.other c.requires.are c.requires.from refl
    (subst F is c.in_ok-fill.ensures) (subst P is h))
    c.combine.ensures
