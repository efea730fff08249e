use Rattle.std.proofs.Common.{ℕ, List, Option, map, length, arith, ap, subst, sym, ◌∙◌}
use Rattle.std.proofs.lemmas.List.{take_all}
use Rattle.eq_net.specs.declared.types.Driver.{Driver}
use Rattle.eq_net.specs.Net.{number_of}
use Rattle.eq_net.specs.Tree.{trees_of}
use Rattle.eq_marks.specs.declared.marks.Way.TheVariants.{Copies}
use Rattle.eq_reads.specs.Graph.{bare}
use Rattle.eq_marks.specs.inner.Carrying.{HasRows, mark_of, rows_mark}
use Rattle.eq_marks.specs.inner.Taking.{AreOwn, driven_mark}
use Rattle.eq_marks.proofs.TakingLemmas.{bits_copied}
use Rattle.eq_marks.proofs.WordTrees.{length-trees_of}
use Rattle.eq_marks.proofs.taking.bit_copies.Goals as goal

pub returns : goal.returns
returns c =
    let nets = c.args.nets.now in
    let words = c.args.words.now in
    let drivers = c.args.drivers.now in
    let own = c.in_ok-own.own.items in
    let rows = c.in_ok-rows.rows.items in
    let B : ℕ → Type 0 = λ n. AreOwn n own in
    let M : List (Option ℕ) → Type 0 =
    λ ms. HasRows Copies (λ n. mark_of ms (number_of nets n)) (trees_of words) (length words) rows in
    let L : ℕ → Type 0 = λ k. HasRows Copies (λ n. mark_of own (number_of nets n)) (trees_of words) k rows in
    let has = subst L (sym (length-trees_of words)) (subst M c.deref.ensures.value c.in_ok-rows.ensures) in
    let test = c.loop-driver-test.false in
    let f = driven_mark (rows_mark rows) in
    bits_copied (bare nets (trees_of words) drivers) (c.bits_stand_by_nets.ensures.there nets) c.requires.words
    c.requires.size own (subst B c.requires.size c.in_ok-own.ensures) rows has
    c.requires.drivers c.loop-driver.copies.items
    (c.loop-driver.invariant ∙ ap (λ (ds : List Driver). map f ds) (take_all c.loop-driver.driver-index drivers
    (omega arith)))
