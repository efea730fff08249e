-- Marks of a clause's literals, one after the other, and what they say of the last level.
use Rattle.std.proofs.Common.{◌≡◌, ℕ, ◌+◌, ◌-◌, ◌<◌, ◌≤◌, suc, inl, inr, Bool, true, false, List, [], ◌∷◌, ◌++◌, length, set, take, get_or, slice_get, Some, arith, refl, sym, ap, ◌∙◌, subst, get_or-set_same, get_or-set_other}
use Rattle.std.specs.Prelude.{All}
use Rattle.std.proofs.lemmas.Bool.{cases_eq, cases_lt}
use Rattle.std.proofs.lemmas.List.{length-set}
use Rattle.std.proofs.lemmas.List.Elements.{All-push, All-nil, All-cons, All-weaker, All-head}
use Rattle.std.proofs.lemmas.Option.{slice_get_within}
use Rattle.eq_proof.specs.Literal.{Literal, negation}
use Rattle.eq_proof.specs.Sets.{IsFalsified, IsUnit}
use Rattle.eq_proof.specs.Derivation.{HasNumber}
use Rattle.eq_proof.specs.Fresh.{IsSettled}
use Rattle.eq_proof.proofs.Lists.{All-at}
use Rattle.eq_cdcl.specs.inner.Assignment.{Assignment}
use Rattle.eq_cdcl.specs.inner.Slots.{HasVariable, IsAtPlace}
use Rattle.eq_cdcl.specs.inner.Sound.{AreApart, IsSound}
use Rattle.eq_cdcl.specs.inner.Resolved.{marked, opens, IsMarkedAt, MarksToo}
use Rattle.eq_cdcl.specs.declared.trail.Reason.TheVariants.{Decision, Implied}
use Rattle.eq_cdcl.proofs.Places.{member_place, taken_member, member_taken, same_place, element_at}
use Rattle.eq_cdcl.proofs.Counting.{opens_some, opens_outside, opens_more, opens_hit}

-- the place of a variable that has one below an end is there
pub place_below : (lits : List Literal) (end var place : ℕ) → AreApart lits → HasVariable (take end lits) var → IsAtPlace lits var place → place < end
place_below lits end var place apart has at =
    let q = taken_member end lits has.0 has.1 in
    let e : place ≡ q.0 = apart place q.0 at.0 has.0 at.1 q.2 (at.2 ∙ sym has.2) in
    let h = q.1 in omega arith

-- or now
pub marked_now : (lits : List Literal) (end place : ℕ) (l : Literal) (marks : List Bool) → AreApart lits → IsAtPlace lits l.var place → place < end → place < length marks → MarksToo lits (l ∷ []) end marks (set marks place true)
marked_now lits end place l marks apart at below room =
    let new = set marks place true in
    let here : marked new place ≡ true = get_or-set_same marks place true false room in
    record {
      same = length-set marks place true;
      kept = λ p h. elim (cases_eq p place) [ inl is ↦ ap (λ n. marked new n) is ∙ here | inr ne ↦ get_or-set_other marks place p true false ne ∙ h ];
      above = λ p h. get_or-set_other marks place p true false (omega arith);
      all = All-cons (IsMarkedAt lits new) l [] (λ p m there same. let e : p ≡ place = apart p place m at.0 there at.1 (same ∙ sym at.2) in ap (λ n. marked new n) e ∙ here) (All-nil (IsMarkedAt lits new));
    }

-- the count: the place is from the start on
pub counted_now : (marks : List Bool) (start end place : ℕ) → place < length marks → place < end → start ≤ place → marked marks place ≡ false → opens (set marks place true) start end ≡ opens marks start end + 1
counted_now marks start end place room below from none = opens_more marks start end place room below from none

-- one literal after others
pub marks_more : (lits few : List Literal) (end : ℕ) (l : Literal) (a b c : List Bool) → MarksToo lits few end a b → MarksToo lits (l ∷ []) end b c → MarksToo lits (few ++ l ∷ []) end a c
marks_more lits few end l a b c m n = record {
  same = n.same ∙ m.same;
  kept = λ p h. n.kept p (m.kept p h);
  above = λ p h. n.above p h ∙ m.above p h;
  all = All-push (IsMarkedAt lits c) few l (All-weaker (IsMarkedAt lits b) (IsMarkedAt lits c) (λ x h p y at same. n.kept p (h p y at same)) few m.all) (All-head (IsMarkedAt lits c) l [] n.all);
}

-- a falsified clause's literals have places
pub falsified_places : (lits clause : List Literal) (end : ℕ) → length lits ≤ end → IsFalsified lits clause → All (λ l. HasVariable (take end lits) l.var) clause
falsified_places lits clause end within falsified = λ k d h.
    let m = get_or clause k d in
    let at = member_place lits (negation m) (falsified k d h) in
    let below = slice_get_within lits at.0 (negation m) at.1 in
    (negation m, member_taken end lits at.0 (negation m) (omega arith) at.1, refl)

-- and so do a reason's, with the literal that it is the reason of
pub reason_places : (lits clause : List Literal) (place : ℕ) (x : Literal) → slice_get lits place ≡ Some x → IsUnit (take place lits) clause x → All (λ l. HasVariable (take (suc place) lits) l.var) clause
reason_places lits clause place x at unit = λ k d h.
    let m = get_or clause k d in
    elim (unit.others k d h) [
      | inl is ↦ (x, member_taken (suc place) lits place x (omega arith) at, ap (λ (l : Literal). l.var) (sym is))
      | inr f ↦ (let q = taken_member place lits (negation m) f in (negation m, member_taken (suc place) lits q.0 (negation m) (omega (arith, q.1)) q.2, refl))
    ]

pub number_within : (known : List (List Literal)) (n : ℕ) (clause : List Literal) → HasNumber known n clause → n ≤ length known
number_within known n clause h = let below = slice_get_within known (n - 1) clause h.1 in let from = h.0 in omega arith

pub same_number : (known : List (List Literal)) (n : ℕ) (a b : List Literal) → HasNumber known n a → HasNumber known n b → a ≡ b
same_number known n a b h k = same_place known (n - 1) a b h.1 k.1

-- a clause that is falsified has a literal from the last decision on, since what stands before a decision is settled
pub conflict_open : (known : List (List Literal)) (a : Assignment) (n start : ℕ) (clause : List Literal) (old new : List Bool) → IsSound known a → HasNumber known n clause → IsFalsified a.lits clause → MarksToo a.lits clause (length a.lits) old new → slice_get a.reasons start ≡ Some Decision
    → 1 ≤ opens new start (length a.lits)
conflict_open known a n start clause old new sound number falsified more decision =
    elim (cases_lt 0 (opens new start (length a.lits))) [
      | inl some ↦ omega arith
      | inr none ↦
          let within = slice_get_within a.reasons start Decision decision in
          let same = sound.same in
          let l = element_at a.lits start (omega arith) in
          let settled : IsSettled known (take start a.lits) = sound.explained start l.0 Decision l.1 decision in
          let lower : IsFalsified (take start a.lits) clause = λ k d h.
          let m = get_or clause k d in
          let at = member_place a.lits (negation m) (falsified k d h) in
          let mark = more.all k d h at.0 (negation m) at.1 refl in
          elim (cases_lt at.0 start) [
            | inl lt ↦ member_taken start a.lits at.0 (negation m) lt at.1
            | inr ge ↦ absurd (let count = opens_some new start (length a.lits) at.0 ge (slice_get_within a.lits at.0 (negation m) at.1) mark in omega arith)
          ] in
          absurd (All-at (λ c. ¬ IsFalsified (take start a.lits) c) known (n - 1) clause number.1 settled.no_conflict lower)
    ]

-- the reason of a literal that isn't a decision
pub reason_unit : (known : List (List Literal)) (a : Assignment) (place n : ℕ) (clause : List Literal) → IsSound known a → place < length a.lits → slice_get a.reasons place ≡ Some (Implied n) → HasNumber known n clause → (x : Literal) × (slice_get a.lits place ≡ Some x) × IsUnit (take place a.lits) clause x
reason_unit known a place n clause sound within why number =
    let x = element_at a.lits place within in
    let e = sound.explained place x.0 (Implied n) x.1 why in
    let P : List Literal → Type 0 = λ c. IsUnit (take place a.lits) c x.0 in
    (x.0, x.1, subst P (same_number known n e.0 clause e.1 number) e.2)

pub reason_number : (known : List (List Literal)) (a : Assignment) (place n : ℕ) → IsSound known a → place < length a.lits → slice_get a.reasons place ≡ Some (Implied n) → (0 < n) × (n ≤ length known)
reason_number known a place n sound within why =
    let x = element_at a.lits place within in
    let e = sound.explained place x.0 (Implied n) x.1 why in
    (e.1.0, number_within known n e.0 e.1)

-- the count once the literal at a place is resolved away
pub resolved_count : (marks marked_too : List Bool) (start place more : ℕ) → start ≤ place → marked marked_too place ≡ true → opens marked_too start (suc place) ≡ opens marks start (suc place) + more → opens (set marked_too place false) start place + 1 ≡ opens marks start (suc place) + more
resolved_count marks marked_too start place more from mark count =
    let outside = opens_outside marked_too start place place false (inr (omega arith)) in
    let here = opens_hit marked_too start place from mark in
    omega arith
