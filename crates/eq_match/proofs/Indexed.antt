-- An index has all names, and says of each net whether it is seen.
use Rattle.std.proofs.Common.{◌≡◌, ◌≢◌, ℕ, ◌<◌, Bool, List, AllPairs, Some, length, map, subst, sym}
use Rattle.eq_names.specs.Tables.{number_of}
use Rattle.eq_net.specs.Net.{Parts, name_at}
use Rattle.eq_match.specs.Seen.{IsSeen}
use Rattle.eq_match.specs.inner.Indexing.{IsIndex, TellsTo, part_of}
use Rattle.eq_match.proofs.Numbered.{number_found, number_named, number_there}

seen_to : (n : Parts) (k : ℕ) → IsSeen (part_of n.nets n.drivers) k → IsSeen n k
seen_to n k s = record { there = s.there; inside = s.inside; driven = s.driven }

seen_from : (n : Parts) (k : ℕ) → IsSeen n k → IsSeen (part_of n.nets n.drivers) k
seen_from n k s = record { there = s.there; inside = s.inside; driven = s.driven }

pub indexed : (n : Parts) → AllPairs (λ a b. a.name ≢ b.name) n.nets → (names : List (List ℕ)) (seen : List Bool) →
    names ≡ map (λ m. m.name) n.nets → TellsTo (length n.nets) (part_of n.nets n.drivers) seen → IsIndex n names seen
indexed n apart names seen is tells =
    let F : List (List ℕ) → Type 0 = λ ns. (k : ℕ) → k < length n.nets → number_of ns (name_at n.nets k) ≡ Some k in
    let N : List (List ℕ) → Type 0 = λ ns. (text : List ℕ) (k : ℕ) → number_of ns text ≡ Some k → k < length n.nets in
    let M : List (List ℕ) → Type 0 = λ ns. (text : List ℕ) (k : ℕ) → number_of ns text ≡ Some k → name_at n.nets k ≡
    text in
    record {
      found = subst F (sym is) (number_found n.nets apart);
      there = subst N (sym is) (number_there n.nets);
      named = subst M (sym is) (number_named n.nets);
      tells = record {
        size = tells.size;
        tells = λ k lt. (λ e. seen_to n k ((tells.tells k lt).0 e), λ s. (tells.tells k lt).1 (seen_from n k s));
      };
    }
