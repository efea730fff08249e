use Rattle.std.proofs.Common.{◌≡◌, ℕ, ◌<◌, ◌≤◌, ◌+◌, ◌^◌, List, Bool, Option, Some, false, length, slice_index_or, arith, subst}
use Rattle.eq_net.specs.inner.Circuits.{value_of}
use Rattle.eq_net.proofs.Walked.{all_compute, both_found}
use Rattle.eq_net.proofs.cells.walk.cell_values.Goals as goal

pub returns : goal.returns
returns c =
    let links = c.args.links.now in
    let cells = c.args.cells.now in
    let all = c.in_ok-values.values.items in
    let few : 2 + length cells ≤ 2 ^ 32 = (let no = c.if-cells-gt4294967294.false in omega arith) in
    both_found c.settled.result (λ bits count each. (
    let P : List (Option Bool) → Type 0 = λ vs. length bits.items ≡ length vs in
    let Q : List (Option Bool) → Type 0 = λ vs. (k : ℕ) → k < length vs → value_of vs k ≡ Some (slice_index_or bits.items k false) in
    all_compute links cells all bits.items c.in_ok-values.ensures.size (subst P c.deref.ensures.value count) few c.in_ok-values.ensures.computed (subst Q c.deref.ensures.value each)))
    c.settled.ensures.size c.settled.ensures.each
