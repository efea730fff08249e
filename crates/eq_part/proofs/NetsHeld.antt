-- Nets whose pairs stand in one partition.
use Rattle.std.proofs.Common.{◌≡◌, ℕ, ◌<◌, ◌+◌, ◌⊎◌, inl, inr, List, Bool, true, false, not, ◌&&◌, ◌||◌, eqb, length, set, get_or, refl, arith, sym, ap, subst, ◌∙◌, add-one, get_or-set_same, get_or-set_other}
use Rattle.std.proofs.Math.ListN.{length-set}
use Rattle.std.proofs.lemmas.Bool.{and_left, and_parts, and_cases, cases_eq, cases_lt, eqb-true, eq-eqb, ne_eqb, not-true, not-false}
use Rattle.eq_model.specs.Cut.{any_below}
use Rattle.eq_model.specs.Frames.{values}
use Rattle.eq_match.specs.declared.types.Pair.{Pair}
use Rattle.eq_match.specs.Leaders.{leader_at, one_leader}
use Rattle.eq_match.specs.Pairs.{gold_net}
use Rattle.eq_part.specs.Partitions.{HoldsNet}
use Rattle.eq_part.specs.inner.Wholes.{AreKept, AreSplit, Keeps, strays}
use Rattle.eq_part.proofs.AnyBelow.{found_below, none_below}

below : (j i : ℕ) → j < i + 1 → (j < i) ⊎ (j ≡ i)
below j i h = elim (cases_lt j i) [ inl less ↦ inl less | inr more ↦ inr (omega arith) ]

module _ (pairs : List Pair) (leaders : List ℕ) where
  -- the leader of one position more is kept for its net
  pub one_kept : (kept : List ℕ) (nets p : ℕ) → gold_net pairs p < nets → AreKept pairs leaders kept nets p →
      AreKept pairs leaders (set kept (gold_net pairs p) (leader_at leaders p)) nets (p + 1)
  one_kept kept nets p h are =
      let k = gold_net pairs p in let now = set kept (gold_net pairs p) (leader_at leaders p) in
      let new : Keeps pairs leaders now (p + 1) k = record {
        at = p;
        before = omega arith;
        net_is = refl;
        leader_is = sym (get_or-set_same kept k (leader_at leaders p) 0 (let c = are.count in omega arith));
      } in
      record {
        count = length-set kept k (leader_at leaders p) ∙ are.count;
        each = λ j l. elim (cases_eq (gold_net pairs j) k) [
          | inl same ↦ subst (Keeps pairs leaders now (p + 1)) (sym same) new
          | inr apart ↦ (elim (below j p l) [
            | inl less ↦ (let e = are.each j less in record {
              at = e.at;
              before = (let b = e.before in omega arith);
              net_is = e.net_is;
              leader_is = e.leader_is ∙ sym (get_or-set_other kept k (gold_net pairs j) (leader_at leaders p) 0 apart);
            })
            | inr is ↦ absurd (apart (ap (gold_net pairs) is))
          ])
        ];
      }

  module _ (kept : List ℕ) where
    -- one position more strays, or doesn't
    pub one_split : (nets p : ℕ) (split : List Bool) → length split ≡ nets → gold_net pairs p < nets →
        AreSplit pairs leaders kept nets p split → (on : Bool) →
        on ≡ not (eqb (leader_at leaders p) (get_or kept (gold_net pairs p) 0)) →
        AreSplit pairs leaders kept nets (p + 1) (set split (gold_net pairs p) (on || values split (gold_net pairs p)))
    one_split nets p split count h are on is_on net l =
        let k = gold_net pairs p in
        elim (cases_eq net k) [
          | inl same ↦ ap (values (set split k (on || values split k))) same ∙
              get_or-set_same split k (on || values split k) false (omega arith) ∙
              ap (λ m. on || values split m) (sym same) ∙ ap (λ b. on || b) (are net l) ∙
              ap (λ b. b || any_below p (strays pairs leaders kept net)) (is_on ∙
              ap (λ m. not (eqb (leader_at leaders p) (get_or kept m 0))) (sym same) ∙
              ap (λ b. b && not (eqb (leader_at leaders p) (get_or kept net 0))) (sym (eq-eqb net k same))) ∙
              ap (λ m. any_below m (strays pairs leaders kept net)) (sym (add-one p))
          | inr apart ↦ get_or-set_other split k net (on || values split k) false apart ∙ are net l ∙
              ap (λ b. b || any_below p (strays pairs leaders kept net)) (sym (and_left (eqb net k) _ (ne_eqb net k apart))) ∙
              ap (λ m. any_below m (strays pairs leaders kept net)) (sym (add-one p))
        ]

    module _ (nets : ℕ) (split : List Bool) (are : AreKept pairs leaders kept nets (length pairs))
        (is : AreSplit pairs leaders kept nets (length pairs) split) (there : (i : ℕ) → i < length pairs → gold_net pairs i < nets) where
      with_kept : (i j : ℕ) → i < length pairs → j < length pairs → gold_net pairs j ≡ gold_net pairs i →
          values split (gold_net pairs i) ≡ false → leader_at leaders j ≡ get_or kept (gold_net pairs i) 0
      with_kept i j h k same fails =
          elim (and_cases (eqb (gold_net pairs i) (gold_net pairs j)) _ (none_below (length pairs) (strays pairs leaders kept (gold_net pairs i))
          (sym (is (gold_net pairs i) (there i h)) ∙ fails) j k)) [
            | inl other ↦ absurd (let t = sym (eq-eqb (gold_net pairs i) (gold_net pairs j) (sym same)) ∙ other in cc)
            | inr stays ↦ eqb-true (leader_at leaders j) (get_or kept (gold_net pairs i) 0) (not-false _ stays)
          ]

      pub is_whole : (i : ℕ) → i < length pairs → values split (gold_net pairs i) ≡ false → HoldsNet pairs (one_leader leaders) i
      is_whole i h fails j k same = eq-eqb (leader_at leaders i) (leader_at leaders j)
          (with_kept i i h h refl fails ∙ sym (with_kept i j h k same fails))

      pub is_split : (i : ℕ) → i < length pairs → values split (gold_net pairs i) ≡ true → HoldsNet pairs (one_leader leaders) i → ⊥
      is_split i h holds whole =
          let f = found_below (length pairs) (strays pairs leaders kept (gold_net pairs i)) (sym (is (gold_net pairs i) (there i h)) ∙ holds) in
          let p = and_parts (eqb (gold_net pairs i) (gold_net pairs f.0)) _ f.2 in
          let e = are.each i h in
          let one = eqb-true (leader_at leaders i) (leader_at leaders f.0)
          (whole f.0 f.1 (sym (eqb-true (gold_net pairs i) (gold_net pairs f.0) p.0))) in
          let two = eqb-true (leader_at leaders i) (leader_at leaders e.at) (whole e.at e.before e.net_is) in
          let t = sym (eq-eqb (leader_at leaders f.0) (get_or kept (gold_net pairs i) 0) (sym one ∙ two ∙ e.leader_is)) ∙ not-true _ p.1 in
          absurd (cc)
