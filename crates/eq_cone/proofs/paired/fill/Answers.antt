use Rattle.std.proofs.Common.{ℕ, ◌+◌, List, Option, None, length, arith, ap, subst}
use Rattle.std.proofs.lemmas.List.{length-replicate}
use Rattle.eq_cone.specs.inner.Marks.{Marked}
use Rattle.eq_cone.proofs.PairTables.{both_marked, marks_of}
use Rattle.eq_cone.proofs.paired.fill.Goals as goal

abbrev nothing : Option ℕ
nothing = None

pub mark-requires-clause-marks : goal.mark-requires-clause-marks
mark-requires-clause-marks c =
    let plan = c.args.plan.now in
    let e = ap (λ (l : List (Option ℕ)). length l) c.requires.empty in
    let f = length-replicate (length c.args.gold.now.nodes + length c.args.gate.now.nodes) nothing in
    rw (c.as_slice.ensures, c.as_slice-2.ensures) (marks_of plan.gold.bits plan.gold.pairs plan.gold.inverse
    c.args.gold.now (length c.args.paired.now) 0 c.requires.gold c.requires.gold_bits (omega arith))

pub mark-requires-2-clause-marks : goal.mark-requires-2-clause-marks
mark-requires-2-clause-marks c =
    let plan = c.args.plan.now in
    let e = ap (λ (l : List (Option ℕ)). length l) c.requires.empty in
    let f = length-replicate (length c.args.gold.now.nodes + length c.args.gate.now.nodes) nothing in
    let g = c.mark.ensures.count in
    rw (c.len.ensures, c.as_slice-3.ensures, c.as_slice-4.ensures) (marks_of plan.gate.bits plan.gate.pairs
    plan.gate.inverse c.args.gate.now (length c.mark.new.paired) (length c.args.gold.now.nodes) c.requires.gate
    c.requires.gate_bits (omega arith))

pub returns : goal.returns
returns c =
    let gold = c.args.gold.now in
    let gate = c.args.gate.now in
    let plan = c.args.plan.now in
    let P : List ℕ → Type 0 = λ l. Marked 0 l c.as_slice-2.result.now (length c.as_slice-2.result.now)
    c.args.paired.now c.mark.new.paired in
    let Q : List ℕ → Type 0 = λ l. Marked 0 gold.bits l (length l) c.args.paired.now c.mark.new.paired in
    let R : List (Option ℕ) → Type 0 = λ l. Marked 0 gold.bits plan.gold.bits (length plan.gold.bits) l
    c.mark.new.paired in
    let one = subst R c.requires.empty (subst Q c.as_slice-2.ensures (subst P c.as_slice.ensures c.mark.ensures)) in
    let S : ℕ → Type 0 = λ n. Marked n c.as_slice-3.result.now c.as_slice-4.result.now
    (length c.as_slice-4.result.now) c.mark.new.paired c.mark-2.new.paired in
    let T : List ℕ → Type 0 = λ l. Marked (length gold.nodes) l c.as_slice-4.result.now
    (length c.as_slice-4.result.now) c.mark.new.paired c.mark-2.new.paired in
    let U : List ℕ → Type 0 = λ l. Marked (length gold.nodes) gate.bits l (length l) c.mark.new.paired
    c.mark-2.new.paired in
    let two = subst U c.as_slice-4.ensures (subst T c.as_slice-3.ensures (subst S c.len.ensures c.mark-2.ensures)) in
    both_marked gold gate plan c.requires.gold c.requires.gate c.requires.gold_bits c.requires.gate_bits
    c.mark.new.paired c.mark-2.new.paired one two
    (length-replicate (length gold.nodes + length gate.nodes) nothing)
