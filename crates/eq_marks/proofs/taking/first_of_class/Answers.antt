use Rattle.std.proofs.Common.{ℕ, List, Bool, Option, length, ap, subst, sym, ◌∙◌}
use Rattle.eq_net.specs.Net.{number_of}
use Rattle.eq_net.specs.Tree.{trees_of}
use Rattle.eq_verilog.specs.Firsts.{first_below}
use Rattle.eq_marks.specs.declared.marks.Way.TheVariants.{Reads}
use Rattle.eq_reads.specs.Graph.{bare}
use Rattle.eq_marks.specs.inner.Carrying.{HasRows, mark_of, rows_mark}
use Rattle.eq_marks.specs.inner.Taking.{takes_at}
use Rattle.eq_marks.proofs.TakingLemmas.{first_taken, flags_length}
use Rattle.eq_marks.proofs.WordTrees.{length-trees_of}
use Rattle.eq_marks.proofs.taking.first_of_class.Goals as goal

pub first_of_takers-requires-clause-outputs : goal.first_of_takers-requires-clause-outputs
first_of_takers-requires-clause-outputs c =
    ap (λ (os : List Bool). length os) (c.deref.ensures.value ∙ c.in_ok-outputs.ensures)
    ∙ flags_length c.args.nets.now ∙ sym c.requires.size

pub returns : goal.returns
returns c =
    let nets = c.args.nets.now in
    let words = c.args.words.now in
    let drivers = c.args.drivers.now in
    let class = c.args.class.now in
    let rows = c.in_ok-rows.rows.items in
    let outputs = c.in_ok-outputs.outputs.items in
    let n = bare nets (trees_of words) drivers in
    let L : ℕ → Type 0 = λ k. HasRows Reads (λ m. mark_of class (number_of nets m)) (trees_of words) k rows in
    let has = subst L (sym (length-trees_of words)) c.in_ok-rows.ensures in
    c.first_of_takers.ensures
    ∙ ap (λ (os : List Bool). first_below (length drivers)
    (takes_at drivers os class (rows_mark c.deref-2.result.now))) c.deref.ensures.value
    ∙ ap (λ (rs : List (List (Option ℕ))). first_below (length drivers)
    (takes_at drivers outputs class (rows_mark rs))) c.deref-2.ensures.value
    ∙ first_taken n c.args.clock class c.requires.class (c.words_make_a_system.ensures n c.requires.words)
    c.requires.size rows has outputs c.in_ok-outputs.ensures c.requires.drivers
