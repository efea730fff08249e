-- What lies on a path fills partitions.
use Rattle.std.proofs.Common.{◌≡◌, ℕ, zero, suc, ◌<◌, ◌↔◌, inl, inr, List, Bool, true, length, arith, sym, ◌∙◌}
use Rattle.std.proofs.lemmas.Bool.{cases_Bool, eqb-true, eq-eqb, false_from_ne_true}
use Rattle.eq_net.specs.Net.{Parts}
use Rattle.eq_match.specs.declared.types.Pair.{Pair}
use Rattle.eq_match.specs.Groups.{TellsHits, is_held}
use Rattle.eq_match.specs.Leaders.{leader_at, one_leader}
use Rattle.eq_match.specs.Pairs.{no_pair}
use Rattle.eq_part.specs.declared.state.State.{State}
use Rattle.eq_part.specs.Partitions.{HaveGoldBits}
use Rattle.eq_part.specs.Reach.{AreOfOne, IsOnPath, LeadsIn, LiesBetween}
use Rattle.eq_part.specs.inner.States.{AreFilled, IsState}
use Rattle.eq_part.specs.inner.Visits.{AreLed}

module _ (gold : Parts) (pairs : List Pair) (s : State) (is : IsState pairs s) where
  abbrev T : ℕ → ℕ → Bool
  T = one_leader s.classes

  pub leaders_led : HaveGoldBits gold pairs → AreLed gold pairs s.classes
  leaders_led bits = record {
    there = λ i h. bits.there i no_pair h;
    apart = bits.once;
    count = is.count;
    led = λ i h. let b = is.lead.before i (let c = is.count in omega arith) in omega arith;
  }

  -- where a way begins and ends
  begins : (n p q : ℕ) → LeadsIn gold pairs T n p q → p < length pairs
  begins zero p q l = l.here
  begins (suc n) p q l = l.1.read_is.here

  ends_in : (n p q : ℕ) → LeadsIn gold pairs T n p q → (q < length pairs) × (is_held pairs q ≡ true)
  ends_in zero p q l = (l.there, l.held_there)
  ends_in (suc n) p q l = ends_in n l.0 q l.2

  -- a way leads from and to all outputs of a partition
  module _ (i j : ℕ) (k : j < length pairs) (held : is_held pairs j ≡ true) (same : leader_at s.classes i ≡ leader_at s.classes j) where
    also_to : (p : ℕ) → AreOfOne pairs T p i → AreOfOne pairs T p j
    also_to p o = record {
      here = o.here;
      there = k;
      held_here = o.held_here;
      held_there = held;
      one = eq-eqb (leader_at s.classes p) (leader_at s.classes j)
          (eqb-true (leader_at s.classes p) (leader_at s.classes i) o.one ∙ same);
    }

    also_from : (q : ℕ) → AreOfOne pairs T i q → AreOfOne pairs T j q
    also_from q o = record {
      here = k;
      there = o.there;
      held_here = held;
      held_there = o.held_there;
      one = eq-eqb (leader_at s.classes j) (leader_at s.classes q)
          (sym same ∙ eqb-true (leader_at s.classes i) (leader_at s.classes q) o.one);
    }

    leads_to : (n p : ℕ) → LeadsIn gold pairs T n p i → LeadsIn gold pairs T n p j
    leads_to zero p l = also_to p l
    leads_to (suc n) p l = (l.0, l.1, leads_to n l.0 l.2)

    leads_from : (n q : ℕ) → LeadsIn gold pairs T n i q → LeadsIn gold pairs T n j q
    leads_from zero q l = also_from q l
    leads_from (suc n) q l = (
      l.0,
      record {
        read = l.1.read;
        read_is = also_from l.1.read l.1.read_is;
        output = l.1.output;
        output_is = l.1.output_is;
        reads = l.1.reads;
        reaches = l.1.reaches;
      },
      l.2,
    )

  module _ (starts ends marks : ℕ → Bool)
      (tells : (i : ℕ) → i < length pairs → (marks i ≡ true) ↔ LiesBetween gold pairs T starts ends i) where
    lies_held : (i : ℕ) → LiesBetween gold pairs T starts ends i → is_held pairs i ≡ true
    lies_held i l = (ends_in l.steps_before l.start i l.reached).1

    also_lies : (i j : ℕ) → i < length pairs → j < length pairs → leader_at s.classes i ≡ leader_at s.classes j →
        marks i ≡ true → marks j ≡ true
    also_lies i j h k same e =
        let l = (tells i h).0 e in
        let held = sym (is.alike i j h k same) ∙ lies_held i l in
        (tells j k).1 (record {
          start = l.start;
          is_start = l.is_start;
          steps_before = l.steps_before;
          reached = leads_to i j k held same l.steps_before l.start l.reached;
          end = l.end;
          is_end = l.is_end;
          steps_behind = l.steps_behind;
          leads = leads_from i j k held same l.steps_behind l.end l.leads;
        })

    pub path_filled : AreFilled pairs s marks
    path_filled = record {
      filled = λ i j h k same. elim (cases_Bool (marks i)) [
        | inl holds ↦ holds ∙ sym (also_lies i j h k same holds)
        | inr fails ↦ fails ∙ sym (false_from_ne_true (marks j) (λ e.
            let t = sym fails ∙ also_lies j i k h (sym same) e in absurd (cc)))
      ];
      held = λ i h e. lies_held i ((tells i h).0 e);
    }

    -- tests that tell the hits of two patterns tell what lies on their path
    pub on_the_path : (from to : List ℕ) → TellsHits gold pairs from starts → TellsHits gold pairs to ends → (i : ℕ) → i < length pairs →
        (marks i ≡ true) ↔ IsOnPath gold pairs T from to i
    on_the_path from to first last i h = (
      (λ e. let l = (tells i h).0 e in record {
        start = l.start;
        start_hit = (first l.start (begins l.steps_before l.start i l.reached)).0 l.is_start;
        steps_before = l.steps_before;
        reached = l.reached;
        end = l.end;
        end_hit = (last l.end (ends_in l.steps_behind i l.end l.leads).0).0 l.is_end;
        steps_behind = l.steps_behind;
        leads = l.leads;
      }),
      (λ p. (tells i h).1 (record {
        start = p.start;
        is_start = (first p.start (begins p.steps_before p.start i p.reached)).1 p.start_hit;
        steps_before = p.steps_before;
        reached = p.reached;
        end = p.end;
        is_end = (last p.end (ends_in p.steps_behind i p.end p.leads).0).1 p.end_hit;
        steps_behind = p.steps_behind;
        leads = p.leads;
      })),
    )
