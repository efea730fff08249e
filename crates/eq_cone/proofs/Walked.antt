-- The walk: node after node of the cone gives what it reads, until none is left.
use Rattle.std.proofs.Common.{◌≡◌, ℕ, ◌+◌, ◌<◌, ◌≤◌, List, [], ◌∷◌, ◌++◌, Option, Some, None, Contains, length, arith, refl, sym, ap, subst, ◌∙◌, ◌⊎◌, inl, inr, length-append}
use Rattle.std.proofs.Math.ListN.{get_or-append}
use Rattle.std.proofs.lemmas.Bool.{cases_lt}
use Rattle.std.proofs.lemmas.List.{get_or_default}
use Rattle.std.proofs.lemmas.List.Elements.{Contains-append_cases, Contains-get_or}
use Rattle.eq_model.specs.System.{reads_ever}
use Rattle.eq_bits.specs.declared.node.Node.{Node}
use Rattle.eq_bits.specs.declared.node.Node.TheVariants.{Const, Input, Not, And, Xor, Mux, Buf, Reg}
use Rattle.eq_bits.specs.Node.{AreNodes, IsNode, driver_of, node_at}
use Rattle.eq_cone.specs.inner.Cones.{AreApart, AreWithin, IsCone, IsLed, IsWalk, Leads, Reached, number_at, reads_of, reads_unless}
use Rattle.eq_cone.proofs.Pigeons.{few_distinct}
use Rattle.eq_cone.proofs.Reaching.{contains_nothing, contains_one, still_there}

-- what a list of up to three numbers has
pub each_of_two : (P : ℕ → Type 0) (a b r : ℕ) → P a → P b → Contains (a ∷ b ∷ []) r → P r
each_of_two P a b r pa pb c =
    elim (Contains-append_cases (a ∷ []) (b ∷ []) r c) [
      | inl here ↦ subst P (contains_one a r here) pa
      | inr there ↦ subst P (contains_one b r there) pb
    ]

pub each_of_three : (P : ℕ → Type 0) (s a b r : ℕ) → P s → P a → P b → Contains (s ∷ a ∷ b ∷ []) r → P r
each_of_three P s a b r ps pa pb c =
    elim (Contains-append_cases (s ∷ []) (a ∷ b ∷ []) r c) [
      | inl here ↦ subst P (contains_one s r here) ps
      | inr there ↦ each_of_two P a b r pa pb there
    ]

-- a node reads nodes that are there
pub reads_there : (n m : ℕ) (node : Node) (r : ℕ) → m < n → IsNode n m node →
    Contains (reads_ever (driver_of node)) r → r < n
reads_there n m (Const b) r lt is c = absurd (contains_nothing r c)
reads_there n m (Input i) r lt is c = absurd (contains_nothing r c)
reads_there n m (Not a) r lt is c = (let e = contains_one a r c in omega arith)
reads_there n m (And a b) r lt is c = (let x = is.0 in let y = is.1 in
    each_of_two (λ k. k < n) a b r (omega arith) (omega arith) c)
reads_there n m (Xor a b) r lt is c = (let x = is.0 in let y = is.1 in
    each_of_two (λ k. k < n) a b r (omega arith) (omega arith) c)
reads_there n m (Mux s a b) r lt is c = (let x = is.0 in let y = is.1 in let z = is.2 in
    each_of_three (λ k. k < n) s a b r (omega arith) (omega arith) (omega arith) c)
reads_there n m (Buf a) r lt is c = (let e = contains_one a r c in omega arith)
reads_there n m (Reg next init) r lt is c = (let e = contains_one next r c in omega arith)

unless_there : (n m : ℕ) (stop : Option ℕ) (node : Node) (r : ℕ) → m < n → IsNode n m node →
    Contains (reads_unless stop node) r → r < n
unless_there n m None node r lt is c = reads_there n m node r lt is c
unless_there n m (Some i) node r lt is c = absurd (contains_nothing r c)

module _ (nodes : List Node) (cut : ℕ → Option ℕ) where
  leads_on : (a : ℕ) (cs : List ℕ) (b c : ℕ) → Leads nodes cut a cs b → Contains (reads_of nodes cut b) c →
      Leads nodes cut a (cs ++ c ∷ []) c
  leads_on a [] b c here reads = (subst (λ (x : ℕ). Contains (reads_of nodes cut x) c) (sym here) reads, refl)
  leads_on a (d ∷ ds) b c leads reads = (leads.0, leads_on d ds b c leads.1 reads)

  -- nothing is read yet
  pub walk_begins : (roots : List ℕ) → AreWithin nodes roots → IsWalk nodes cut roots roots 0
  walk_begins roots within = record {
    count = omega arith;
    within = within;
    roots_there = λ r c. c;
    closed = λ k r lt. absurd (omega arith);
    led = λ m c. (m, [], c, refl);
  }

  module _ (are : AreNodes nodes) (roots cone new : List ℕ) (k : ℕ) (walk : IsWalk nodes cut roots cone k)
      (lt : k < length cone) (reached : Reached cone new (reads_of nodes cut (number_at cone k))) where
    here : Contains cone (number_at cone k)
    here = Contains-get_or cone k 0 lt

    cases_new : (m : ℕ) → Contains new m → Contains cone m ⊎ Contains (reads_of nodes cut (number_at cone k)) m
    cases_new m c =
        elim (Contains-append_cases cone reached.more m (subst (λ (l : List ℕ). Contains l m) reached.is c)) [
          | inl old ↦ inl old
          | inr more ↦ inr (reached.only m more)
        ]

    still : (m : ℕ) → Contains cone m → Contains new m
    still m c = still_there cone new (reads_of nodes cut (number_at cone k)) reached m c

    same_number : (j : ℕ) → j < length cone → number_at new j ≡ number_at cone j
    same_number j less = ap (λ (l : List ℕ). number_at l j) reached.is ∙ get_or-append cone reached.more 0 j less

    within_new : AreWithin nodes new
    within_new m c =
        elim (cases_new m c) [
          | inl old ↦ walk.within m old
          | inr read ↦ (
              let inside = walk.within (number_at cone k) here in
              unless_there (length nodes) (number_at cone k) (cut (number_at cone k))
              (node_at nodes (number_at cone k)) m
              inside (are (number_at cone k) inside) read)
        ]

    closed_new : (j r : ℕ) → j < k + 1 → j < length new → Contains (reads_of nodes cut (number_at new j)) r →
        Contains new r
    closed_new j r less there c =
        let old = subst (λ (x : ℕ). Contains (reads_of nodes cut x) r) (same_number j (omega arith)) c in
        elim (cases_lt j k) [
          | inl before ↦ still r (walk.closed j r before (omega arith) old)
          | inr now ↦ (
              let e : j ≡ k = omega arith in
              reached.has r (subst (λ (x : ℕ). Contains (reads_of nodes cut (number_at cone x)) r) e old))
        ]

    led_new : (m : ℕ) → Contains new m → IsLed nodes cut roots m
    led_new m c =
        elim (cases_new m c) [
          | inl old ↦ walk.led m old
          | inr read ↦ (
              let led = walk.led (number_at cone k) here in
              (led.0, led.1 ++ m ∷ [], led.2, leads_on led.0 led.1 (number_at cone k) m led.3 read))
        ]

    pub walk_on : IsWalk nodes cut roots new (k + 1)
    walk_on = record {
      count = (let e = length-append cone reached.more in
          let f = ap (λ (l : List ℕ). length l) reached.is in omega arith);
      within = within_new;
      roots_there = λ r c. still r (walk.roots_there r c);
      closed = closed_new;
      led = led_new;
    }

  -- all of the cone are read
  pub walk_ends : (roots cone : List ℕ) (k : ℕ) → IsWalk nodes cut roots cone k → length cone ≤ k →
      IsCone nodes cut roots cone
  walk_ends roots cone k walk le = record {
    within = walk.within;
    roots_there = walk.roots_there;
    closed = λ m r c reads. (let lt = c.1 in let e = c.2 in walk.closed c.0 r (omega arith) lt
        (subst (λ (x : ℕ). Contains (reads_of nodes cut x) r) (sym (get_or_default cone c.0 0 m lt ∙ e)) reads));
    led = walk.led;
  }

  pub all_walked : (roots cone : List ℕ) → IsWalk nodes cut roots cone (length nodes) → AreApart cone →
      IsCone nodes cut roots cone
  all_walked roots cone walk distinct = walk_ends roots cone (length nodes) walk
      (few_distinct cone (length nodes) distinct walk.within)
