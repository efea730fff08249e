-- After a conflict: the trail is cut, the learned clause is watched, and its literal becomes true.
use Rattle.std.proofs.Common.{◌≡◌, ◌≢◌, ℕ, ◌+◌, ◌<◌, ◌≤◌, suc, inl, inr, Option, Some, None, List, [], ◌∷◌, ◌++◌, length, take, slice_get, min, arith, refl, sym, ap, ◌∙◌, subst}
use Rattle.std.specs.Prelude.{Contains}
use Rattle.std.proofs.lemmas.Bool.{cases_lt}
use Rattle.std.proofs.lemmas.List.{length-take-le}
use Rattle.std.proofs.lemmas.List.Elements.{All-contains}
use Rattle.eq_proof.specs.Literal.{Literal, negation}
use Rattle.eq_proof.specs.Sets.{IsUnit}
use Rattle.eq_cdcl.specs.inner.Assignment.{Assignment, extended, cut_to}
use Rattle.eq_cdcl.specs.inner.Slots.{IsProper}
use Rattle.eq_cdcl.specs.inner.Sound.{IsSound}
use Rattle.eq_cdcl.specs.inner.Teaching.{IsSecond, IsTakenUp, Teaches}
use Rattle.eq_cdcl.specs.inner.Watched.{IsCut, StaysTrue, IsQuietFor, IsWatched, Watching}
use Rattle.eq_cdcl.specs.declared.learning.Learned.{Learned}
use Rattle.eq_cdcl.specs.declared.trail.Reason.{Reason}
use Rattle.eq_cdcl.specs.declared.trail.Reason.TheVariants.{Decision, Implied}
use Rattle.eq_cdcl.specs.declared.watches.Pair.{Pair}
use Rattle.eq_cdcl.specs.declared.watches.Watch.{Watch}
use Rattle.eq_cdcl.specs.declared.watches.Watches.{Watches}
use Rattle.eq_cdcl.proofs.Places.{place_member, member_taken, push_cases, push_old, push_last, taken_place, place_taken, number_at}
use Rattle.eq_cdcl.proofs.Sounds.{apart_consistent, sound_cut, sound_extended}
use Rattle.eq_cdcl.proofs.Staying.{watched_cut, watched_extended}
use Rattle.eq_cdcl.proofs.Attaching.{watched_root, watched_attached}

-- visits of literals that are taken back are forgotten
pub watched_back : (known : List (List Literal)) (a : Assignment) (n head : ℕ) (pairs : List Pair) (lists : List (List Watch)) → n ≤ length a.lits → IsCut a n → IsWatched known a head pairs lists → IsWatched known (cut_to n a) (min head n) pairs lists
watched_back known a n head pairs lists fits cut w =
    watched_cut known a n head (min head n) pairs lists fits cut (omega arith) (omega arith) (elim (cases_lt head n) [ inl lt ↦ inl (omega arith) | inr ge ↦ inr (omega arith) ]) w

module _ (known : List (List Literal)) (a : Assignment) (head cut : ℕ) (pairs pairs' : List Pair) (lists lists' : List (List Watch)) (clause : List Literal) (l : Literal)
    (sound : IsSound (known ++ clause ∷ []) (cut_to cut a)) (watched : IsWatched known a head pairs lists) (fits : cut ≤ length a.lits) (decision : slice_get a.reasons cut ≡ Some Decision)
    (unit : IsUnit (take cut a.lits) clause l) (proper : IsProper l) (below : l.var < a.size) where
  abbrev pub more : List (List Literal)
  more = known ++ clause ∷ []

  abbrev pub front : Assignment
  front = cut_to cut a

  abbrev pub why : Reason
  why = Implied (length known + 1)

  abbrev pub new : Assignment
  new = record { size = a.size; lits = take cut a.lits ++ l ∷ []; reasons = take cut a.reasons ++ Implied (length known + 1) ∷ [] }

  new_sound : IsSound more new
  new_sound = sound_extended more front l why sound below unit.no_value (clause, number_at more (length known) clause (push_last known clause), unit)

  new_watched : IsWatched known new (min head cut) pairs lists
  new_watched = watched_extended known front l why (min head cut) pairs lists sound.same (λ is. absurd (cc)) (watched_back known a cut head pairs lists fits (inr decision) watched)

  len : length front.lits ≡ cut
  len = length-take-le cut a.lits fits

  stays : (start : ℕ) → ((d : ℕ) → start ≤ d → d < cut → slice_get a.reasons d ≢ Some Decision) → StaysTrue new start clause
  stays start none = record {
    literal = l;
    member = unit.member;
    proper = proper;
    place = length front.lits;
    there = push_last front.lits l;
    level = λ d from to e. elim (push_cases front.reasons why d Decision e) [
      | inl old ↦ (let t = taken_place cut a.reasons d Decision old in none d from t.0 t.1)
      | inr last ↦ (let is = last.1 in absurd (cc))
    ];
  }

  holds : Contains new.lits l
  holds = place_member new.lits (length front.lits) l (push_last front.lits l)

  l_quiet : IsQuietFor new (min head cut) clause l
  l_quiet p lt at = absurd (apart_consistent new.lits new_sound.apart l holds (place_member new.lits p (negation l) at))

  k_quiet : (k : Literal) (q : ℕ) → q < cut → slice_get a.lits q ≡ Some (negation k) → ((d : ℕ) → q < d → d < cut → slice_get a.reasons d ≢ Some Decision) → IsQuietFor new (min head cut) clause k
  k_quiet k q lt there none p before at =
      let here : slice_get new.lits q ≡ Some (negation k) = push_old front.lits (l ∷ []) q (negation k) (place_taken cut a.lits q (negation k) lt there) in
      let same : p ≡ q = new_sound.apart p q (negation k) (negation k) at here refl in
      stays (suc p) (λ d from to. none d (omega arith) to)

  -- the learned clause is watched, and its literal is true
  pub taken_up : (second : Option Literal) → IsSecond a cut clause second → IsTakenUp pairs lists pairs' lists' l second → IsSound more new × IsWatched more new (min head cut) pairs' lists'
  taken_up None none up =
      let P : List Pair → Type 0 = λ ps. IsWatched more new (min head cut) ps lists in
      let Q : List (List Watch) → Type 0 = λ ls. IsWatched more new (min head cut) pairs' ls in
      (new_sound, subst Q (sym up.1) (subst P (sym up.0) (watched_root known new (min head cut) pairs lists clause l new_watched unit.member proper (stays 0 (λ d from to. none d to)))))
  taken_up (Some k) s up =
      let k_false : Contains (take cut a.lits) (negation k) = member_taken cut a.lits s.1 (negation k) s.2 s.3 in
      let different : l ≢ k = λ is. unit.no_value.1 (subst (λ (m : Literal). Contains (take cut a.lits) (negation m)) (sym is) k_false) in
      (new_sound, watched_attached known new (min head cut) pairs pairs' lists lists' clause l k new_watched up unit.member s.0 different l_quiet (k_quiet k s.1 s.2 s.3 s.4))

-- all that is done after a conflict: the learned clause is taken up, and the trail may be cut again
pub gone_back : (known now : List (List Literal)) (a b d : Assignment) (w v u : Watches) (learned : Learned) (number len : ℕ) → Watching known a w → Teaches known a learned → number ≡ length known + 1 → b ≡ extended (cut_to learned.cut a) learned.literal (Implied number) → IsProper learned.literal → v.head ≡ min w.head learned.cut
    → IsTakenUp w.pairs.items w.lists.items v.pairs.items v.lists.items learned.literal learned.second → now ≡ known ++ learned.step.clause ∷ [] → len ≤ length b.lits → IsCut b len → d ≡ cut_to len b → u.head ≡ min v.head len → u.pairs ≡ v.pairs → u.lists ≡ v.lists → IsSound now d × Watching now d u
gone_back known now a b d w v u learned number len watching t numbered b_is proper head up known_is fits cut d_is back same_pairs same_lists =
    let clause = learned.step.clause in
    let P : Literal → Type 0 = λ m. m.var < a.size in
    let below : P learned.literal = All-contains P clause learned.literal t.below t.unit.member in
    let new : Assignment = extended (cut_to learned.cut a) learned.literal (Implied (length known + 1)) in
    let one = taken_up known a w.head learned.cut w.pairs.items v.pairs.items w.lists.items v.lists.items clause learned.literal t.sound watching t.cut t.decision t.unit proper below learned.second t.second up in
    let new_is : b ≡ new = b_is ∙ ap (λ n. extended (cut_to learned.cut a) learned.literal (Implied n)) numbered in
    let K : List (List Literal) = known ++ clause ∷ [] in
    let sound : IsSound K b = subst (λ (x : Assignment). IsSound K x) (sym new_is) one.0 in
    let watched : IsWatched K b v.head v.pairs.items v.lists.items = subst (λ (x : Assignment). IsWatched K x v.head v.pairs.items v.lists.items) (sym new_is) (subst (λ n. IsWatched K new n v.pairs.items v.lists.items) (sym head) one.1) in
    let after : IsWatched K (cut_to len b) (min v.head len) v.pairs.items v.lists.items = watched_back K b len v.head v.pairs.items v.lists.items fits cut watched in
    let Q : List Pair → Type 0 = λ ps. IsWatched K d u.head ps v.lists.items in
    let R : List (List Watch) → Type 0 = λ ls. IsWatched K d u.head u.pairs.items ls in
    let moved : IsWatched K d u.head v.pairs.items v.lists.items = subst (λ (x : Assignment). IsWatched K x u.head v.pairs.items v.lists.items) (sym d_is) (subst (λ n. IsWatched K (cut_to len b) n v.pairs.items v.lists.items) (sym back) after) in
    let pairs_are : v.pairs.items ≡ u.pairs.items = ap (λ x. x.items) (sym same_pairs) in
    let lists_are : v.lists.items ≡ u.lists.items = ap (λ x. x.items) (sym same_lists) in
    let end : Watching K d u = subst R lists_are (subst Q pairs_are moved) in
    let sound_end : IsSound K d = subst (λ (x : Assignment). IsSound K x) (sym d_is) (sound_cut K b len sound fits) in
    let both : IsSound K d × Watching K d u = (sound_end, end) in
    subst (λ (ks : List (List Literal)). IsSound ks d × Watching ks d u) (sym known_is) both
