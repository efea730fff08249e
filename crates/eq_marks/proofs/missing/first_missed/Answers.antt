use Rattle.std.proofs.Common.{ℕ, List, Bool, Option, length, ap, subst, sym, ◌∙◌}
use Rattle.eq_net.specs.Net.{number_of}
use Rattle.eq_net.specs.Tree.{trees_of}
use Rattle.eq_marks.specs.declared.marks.Way.TheVariants.{Reads}
use Rattle.eq_reads.specs.Graph.{bare}
use Rattle.eq_marks.specs.inner.Carrying.{HasRows, mark_of, rows_mark}
use Rattle.eq_marks.specs.inner.Marks.{mixed_all}
use Rattle.eq_marks.specs.inner.Missing.{missed_at}
use Rattle.eq_marks.proofs.MissingLemmas.{first_is_missed}
use Rattle.eq_marks.proofs.TakingLemmas.{flags_length}
use Rattle.eq_marks.proofs.WordTrees.{length-trees_of}
use Rattle.eq_marks.proofs.missing.first_missed.Goals as goal

pub least_missed-requires-clause-outputs : goal.least_missed-requires-clause-outputs
least_missed-requires-clause-outputs c =
    ap (λ (os : List Bool). length os) (c.deref-3.ensures.value ∙ c.in_ok-outputs.ensures)
    ∙ flags_length c.args.nets.now ∙ sym c.requires.size

pub returns : goal.returns
returns c =
    let nets = c.args.nets.now in
    let words = c.args.words.now in
    let drivers = c.args.drivers.now in
    let marks = c.in_ok-marks.marks.items in
    let rows = c.in_ok-rows.rows.items in
    let outputs = c.in_ok-outputs.outputs.items in
    let n = bare nets (trees_of words) drivers in
    let M : List (Option ℕ) → Type 0 =
    λ ms. HasRows Reads (λ m. mark_of ms (number_of nets m)) (trees_of words) (length words) rows in
    let L : ℕ → Type 0 = λ k. HasRows Reads (λ m. mark_of marks (number_of nets m)) (trees_of words) k rows in
    let has = subst L (sym (length-trees_of words)) (subst M c.deref-2.ensures.value c.in_ok-rows.ensures) in
    record {
      ok = c.least_missed.ensures
          ∙ ap (λ (os : List Bool). mixed_all Reads (length drivers)
          (missed_at drivers os c.deref-4.result.now (rows_mark c.deref-5.result.now))) c.deref-3.ensures.value
          ∙ ap (λ (ms : List (Option ℕ)). mixed_all Reads (length drivers)
          (missed_at drivers outputs ms (rows_mark c.deref-5.result.now))) c.deref-4.ensures.value
          ∙ ap (λ (rs : List (List (Option ℕ))). mixed_all Reads (length drivers)
          (missed_at drivers outputs marks (rows_mark rs))) c.deref-5.ensures.value
          ∙ first_is_missed n (c.words_make_a_system.ensures n c.requires.words) c.requires.size c.requires.drivers marks
          c.in_ok-marks.ensures rows has outputs c.in_ok-outputs.ensures;
    }
