use Rattle.std.proofs.Common.{◌≡◌, ℕ, ◌<◌, List, Bool, map, length, slice_index_or, arith, ap, subst, sym, ◌∙◌}
use Rattle.eq_model.specs.Frames.{values}
use Rattle.eq_net.specs.declared.cells.gates.Cell.{Cell}
use Rattle.eq_net.specs.Net.{bits_of, driver_at, number_of}
use Rattle.eq_net.specs.Tree.{trees_of}
use Rattle.eq_net.specs.Whole.{parts_of}
use Rattle.eq_net.specs.inner.Cells.{Computes}
use Rattle.eq_net.specs.inner.Circuits.{HasRows, cells_of, link_of, valuation}
use Rattle.eq_net.specs.inner.Sized.{HasWords}
use Rattle.eq_net.proofs.Completed.{completed_cycle, completed_held, completed_words}
use Rattle.eq_net.proofs.Swept.{marked_itself}
use Rattle.eq_net.proofs.Trees.{length-trees_of}
use Rattle.eq_net.proofs.cells.completion.complete.Goals as goal

pub all_cells-requires-clause-sizes : goal.all_cells-requires-clause-sizes
all_cells-requires-clause-sizes c =
    λ w e. (c.requires.swept.fits (values c.args.now.now) (marked_itself c.args.now.now c.args.done.now)).sizes w e

pub returns-in-Some-clause-cycle : goal.returns-in-Some-clause-cycle
returns-in-Some-clause-cycle c =
    let net = c.args.net.now in
    let n = parts_of net in
    let trees = length-trees_of net.words in
    let cells = c.in_ok-circuit.circuit.cells.items in
    let rows = c.in_ok-circuit.circuit.rows.items in
    let links = c.in_ok-links.links.items in
    let bits = c.in-Some.bits.items in
    let H : ℕ → Type 0 = λ k. HasRows n c.args.words.now c.args.whole.now k cells rows in
    let L : List (List ℕ) → Type 0 = λ rs. (b : ℕ) → b < bits_of net.nets → slice_index_or links b 0 ≡ link_of (driver_at n b) (values c.args.done.now b) (values c.args.now.now b) rs in
    let linked = subst L c.deref.ensures.value c.in_ok-links.ensures.each in
    let C : List Cell → Type 0 = λ cs. Computes cs (valuation c.deref-2.result.now bits) in
    let D : List ℕ → Type 0 = λ ls. Computes cells (valuation ls bits) in
    let computes = subst D c.deref-2.ensures.value (subst C c.deref-3.ensures.value (rw c.in-Some.is at c.in_ok-found.ensures)) in
    let size = c.requires.bits in
    let E : List ℕ → Type 0 = λ ls. (b : ℕ) → b < bits_of net.nets → values c.put_values.new.now b ≡ cells_of c.deref-in-Some-4.result.now (slice_index_or ls b 0) in
    let F : List Bool → Type 0 = λ bs. (b : ℕ) → b < bits_of net.nets → values c.put_values.new.now b ≡ cells_of bs (slice_index_or links b 0) in
    let put = subst F c.deref-in-Some-4.ensures.value (subst E c.deref-in-Some-3.ensures.value (λ b lt. c.put_values.ensures b (omega arith))) in
    completed_cycle n net.is_net c.args.now.now c.args.done.now c.args.words.now c.args.whole.now c.requires.marks c.requires.swept cells rows
    (subst H (sym trees) c.in_ok-circuit.ensures) links bits linked computes c.put_values.new.now put

pub returns-in-Some-clause-held : goal.returns-in-Some-clause-held
returns-in-Some-clause-held c =
    let net = c.args.net.now in
    let n = parts_of net in
    let trees = length-trees_of net.words in
    let cells = c.in_ok-circuit.circuit.cells.items in
    let rows = c.in_ok-circuit.circuit.rows.items in
    let links = c.in_ok-links.links.items in
    let bits = c.in-Some.bits.items in
    let H : ℕ → Type 0 = λ k. HasRows n c.args.words.now c.args.whole.now k cells rows in
    let L : List (List ℕ) → Type 0 = λ rs. (b : ℕ) → b < bits_of net.nets → slice_index_or links b 0 ≡ link_of (driver_at n b) (values c.args.done.now b) (values c.args.now.now b) rs in
    let linked = subst L c.deref.ensures.value c.in_ok-links.ensures.each in
    let C : List Cell → Type 0 = λ cs. Computes cs (valuation c.deref-2.result.now bits) in
    let D : List ℕ → Type 0 = λ ls. Computes cells (valuation ls bits) in
    let computes = subst D c.deref-2.ensures.value (subst C c.deref-3.ensures.value (rw c.in-Some.is at c.in_ok-found.ensures)) in
    let size = c.requires.bits in
    let E : List ℕ → Type 0 = λ ls. (b : ℕ) → b < bits_of net.nets → values c.put_values.new.now b ≡ cells_of c.deref-in-Some-4.result.now (slice_index_or ls b 0) in
    let F : List Bool → Type 0 = λ bs. (b : ℕ) → b < bits_of net.nets → values c.put_values.new.now b ≡ cells_of bs (slice_index_or links b 0) in
    let put = subst F c.deref-in-Some-4.ensures.value (subst E c.deref-in-Some-3.ensures.value (λ b lt. c.put_values.ensures b (omega arith))) in
    completed_held n net.is_net c.args.now.now c.args.done.now c.args.words.now c.args.whole.now c.requires.marks c.requires.swept cells rows
    (subst H (sym trees) c.in_ok-circuit.ensures) links bits linked computes c.put_values.new.now put

pub returns-in-Some-clause-words : goal.returns-in-Some-clause-words
returns-in-Some-clause-words c =
    let net = c.args.net.now in
    let n = parts_of net in
    let trees = length-trees_of net.words in
    let cells = c.in_ok-circuit.circuit.cells.items in
    let rows = c.in_ok-circuit.circuit.rows.items in
    let links = c.in_ok-links.links.items in
    let bits = c.in-Some.bits.items in
    let H : ℕ → Type 0 = λ k. HasRows n c.args.words.now c.args.whole.now k cells rows in
    let L : List (List ℕ) → Type 0 = λ rs. (b : ℕ) → b < bits_of net.nets → slice_index_or links b 0 ≡ link_of (driver_at n b) (values c.args.done.now b) (values c.args.now.now b) rs in
    let linked = subst L c.deref.ensures.value c.in_ok-links.ensures.each in
    let C : List Cell → Type 0 = λ cs. Computes cs (valuation c.deref-2.result.now bits) in
    let D : List ℕ → Type 0 = λ ls. Computes cells (valuation ls bits) in
    let computes = subst D c.deref-2.ensures.value (subst C c.deref-3.ensures.value (rw c.in-Some.is at c.in_ok-found.ensures)) in
    let size = c.requires.bits in
    let E : List ℕ → Type 0 = λ ls. (b : ℕ) → b < bits_of net.nets → values c.put_values.new.now b ≡ cells_of c.deref-in-Some-4.result.now (slice_index_or ls b 0) in
    let F : List Bool → Type 0 = λ bs. (b : ℕ) → b < bits_of net.nets → values c.put_values.new.now b ≡ cells_of bs (slice_index_or links b 0) in
    let put = subst F c.deref-in-Some-4.ensures.value (subst E c.deref-in-Some-3.ensures.value (λ b lt. c.put_values.ensures b (omega arith))) in
    let W : List (List Bool) → Type 0 = λ ws. HasWords (values c.put_values.new.now) (number_of net.nets) (trees_of net.words) (length net.words) ws in
    let K : ℕ → Type 0 = λ k. HasWords (values c.put_values.new.now) (number_of net.nets) (trees_of net.words) k (map (map (cells_of bits)) rows) in
    let read : c.in_ok-all-in-Some.all.items ≡ map (map (cells_of bits)) rows = c.in_ok-all-in-Some.ensures ∙ ap (λ (bs : List Bool). map (map (cells_of bs)) c.deref-in-Some.result.now) c.deref-in-Some-2.ensures.value
    ∙ ap (λ (rs : List (List ℕ)). map (map (cells_of bits)) rs) c.deref-in-Some.ensures.value in
    subst W (sym read) (subst K trees (completed_words n net.is_net c.args.now.now c.args.done.now c.args.words.now c.args.whole.now c.requires.marks c.requires.swept cells rows
    (subst H (sym trees) c.in_ok-circuit.ensures) links bits linked computes c.put_values.new.now put))
