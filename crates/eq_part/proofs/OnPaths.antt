-- What a caller of the walk of a path line cites: what it asks, and what its answer says of the line's patterns.
use Rattle.std.proofs.Common.{◌≡◌, ℕ, ◌<◌, ◌↔◌, List, Bool, length, arith}
use Rattle.eq_net.specs.Net.{HasBit, Parts}
use Rattle.eq_match.specs.declared.types.Pair.{Pair}
use Rattle.eq_match.specs.Classes.{Together}
use Rattle.eq_match.specs.Groups.{TellsHits}
use Rattle.eq_match.specs.Leaders.{AreLeaders}
use Rattle.eq_match.specs.Pairs.{pair_at}
use Rattle.eq_match.specs.Matched.{gold_bit}
use Rattle.eq_part.specs.Reach.{IsOnPath, LiesBetween}
use Rattle.eq_part.specs.inner.Visits.{AreLed}
use Rattle.eq_part.proofs.Between.{leads_first, leads_last}

-- pairs with bits of gold, no two the same, and their leaders are what the walk asks for
pub led_by : (gold : Parts) (pairs : List Pair) (leaders : List ℕ) → AreLeaders leaders → length leaders ≡ length pairs →
    ((i : ℕ) → i < length pairs → HasBit gold.nets (pair_at pairs i).gold) →
    ((i j : ℕ) → i < length pairs → j < length pairs → gold_bit gold pairs i ≡ gold_bit gold pairs j → i ≡ j) → AreLed gold pairs leaders
led_by gold pairs leaders l count there apart = record {
  there = there;
  apart = apart;
  count = count;
  led = λ i li. (let before = l.before i (omega arith) in omega arith);
}

-- where the tests tell the hits of the two patterns, the answer is that of the line
pub between_is_path : (gold : Parts) (pairs : List Pair) (together : Together) (from to : List ℕ) (starts ends : ℕ → Bool) →
    TellsHits gold pairs from starts → TellsHits gold pairs to ends → (i : ℕ) →
    LiesBetween gold pairs together starts ends i ↔ IsOnPath gold pairs together from to i
between_is_path gold pairs together from to starts ends told_from told_to i = (
  λ l. record {
    start = l.start;
    start_hit = (told_from l.start (leads_first gold pairs together l.steps_before l.start i l.reached).0).0 l.is_start;
    steps_before = l.steps_before;
    reached = l.reached;
    end = l.end;
    end_hit = (told_to l.end (leads_last gold pairs together l.steps_behind i l.end l.leads).0).0 l.is_end;
    steps_behind = l.steps_behind;
    leads = l.leads;
  },
  λ p. record {
    start = p.start;
    is_start = (told_from p.start (leads_first gold pairs together p.steps_before p.start i p.reached).0).1 p.start_hit;
    steps_before = p.steps_before;
    reached = p.reached;
    end = p.end;
    is_end = (told_to p.end (leads_last gold pairs together p.steps_behind i p.end p.leads).0).1 p.end_hit;
    steps_behind = p.steps_behind;
    leads = p.leads;
  },
)
