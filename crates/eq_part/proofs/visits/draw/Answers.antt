use Rattle.std.proofs.Common.{inl, inr}
use Rattle.eq_model.specs.Frames.{values}
use Rattle.eq_net.specs.Net.{bits_of}
use Rattle.eq_net.specs.Whole.{parts_of}
use Rattle.std.proofs.Common.{length}
use Rattle.eq_part.specs.inner.Visits.{DrawnVisits, FreeVisits, PairsVisit}
use Rattle.eq_reads.proofs.Gained.{gains_then}
use Rattle.eq_part.proofs.visits.draw.Goals as goal

pub returns : goal.returns
returns c =
    let gold = parts_of c.args.gold.now in
    let pairs = c.args.pairs.now in
    let leaders = c.args.leaders.now in
    let paired = values c.args.paired.now in
    let places = c.args.places.now in
    let row = c.args.row.now.items in
    gains_then c.args.edges.now.items c.push_pairs.new.edges.items c.push_free.new.edges.items
    (PairsVisit gold pairs leaders places row (length pairs))
    (FreeVisits gold paired places row (bits_of gold.nets)) (DrawnVisits gold pairs leaders paired places row)
    (λ a b p. inl p) (λ a b f. inr f) (λ a b v. v) c.in_ok-push_pairs.ensures c.in_ok-push_free.ensures
