use Rattle.std.proofs.Common.{◌≡◌, ℕ, ◌+◌, Bool, ap, subst, ◌∙◌}
use Rattle.eq_net.specs.declared.types.Driver.{Driver}
use Rattle.eq_net.specs.Net.{driver_at}
use Rattle.eq_net.specs.Whole.{parts_of}
use Rattle.eq_match.specs.declared.types.Pair.{Pair}
use Rattle.eq_match.specs.Matched.{gold_bit}
use Rattle.eq_reads.specs.inner.Drawing.{Gains}
use Rattle.eq_part.specs.inner.Visits.{OneVisits, part_node}
use Rattle.eq_reads.specs.Words.{number_at}
use Rattle.eq_part.proofs.Gained.{pairs_next}
use Rattle.eq_part.proofs.visits.push_pairs.Goals as goal

pub loop-i-preserved : goal.loop-i-preserved
loop-i-preserved c =
    let net = c.args.gold.now in
    let gold = parts_of net in
    let pairs = c.args.pairs.now in
    let leaders = c.args.leaders.now in
    let places = c.args.places.now in
    let row = c.args.row.now.items in
    let i = c.loop-i.i in
    let e1 = c.loop-i.edges.items in
    let e2 = c.push_pair.new.edges.items in
    let input = c.pair_at-input.result.input in
    let part : ℕ = c.len.result + number_at leaders i in
    let part_is : part ≡ part_node gold leaders i = ap (λ (n : ℕ). n + number_at leaders i)
    (c.len.ensures ∙ net.is_net.one_driver) in
    let O : Bool → ℕ → ℕ → Driver → Type 0 = λ x p b d. Gains e1 e2 (OneVisits x p b d places row) in
    let a = subst (O input part c.gold_bit-bit.result) c.driver_at.ensures c.in_ok-push_pair.ensures in
    let b = subst (λ (n : ℕ). O input part n (driver_at gold n)) c.gold_bit-bit.ensures.value a in
    let d = subst (λ (n : ℕ). O input n (gold_bit gold pairs i) (driver_at gold (gold_bit gold pairs i))) part_is b in
    pairs_next gold pairs leaders places row i c.args.edges.now.items e1 e2 c.loop-i.invariant
    (subst (λ (p : Pair). O p.input (part_node gold leaders i) (gold_bit gold pairs i)
    (driver_at gold (gold_bit gold pairs i))) c.pair_at-input.ensures d)
