-- The partition of each pair, written one partition after another.
use Rattle.std.proofs.Common.{◌≡◌, ℕ, zero, suc, ◌<◌, ◌+◌, ◌==◌, List, [], ◌∷◌, true, false, not, Option, Some, None, set, length, map, replicate, slice_index_or, refl, arith, sym, ap, subst, ◌∙◌, inl, inr, get_or-set_other, get_or-set_same}
use Rattle.std.proofs.Math.ListN.{length-set}
use Rattle.std.proofs.lemmas.Bool.{cases_Bool, cases_lt, or_cases, or_left, or_right}
use Rattle.std.proofs.lemmas.Bool.Decides.{Decides-eqb, eqb_tells}
use Rattle.std.proofs.lemmas.List.{length-replicate}
use Rattle.std.proofs.lemmas.Option.{get_or_from_slice_get, same_Some, slice_get-get_or, slice_get_within}
use Rattle.eq_match.specs.declared.types.Pair.{Pair}
use Rattle.eq_match.specs.Classes.{Together}
use Rattle.eq_match.specs.Divided.{AreDivided, has, list_at}
use Rattle.eq_match.specs.Groups.{is_held}
use Rattle.eq_match.specs.Pairs.{no_pair, pair_at}
use Rattle.eq_part.specs.declared.types.Partition.{Partition}
use Rattle.eq_part.specs.Tables.{AreOwners, holds, no_part}
use Rattle.eq_part.specs.inner.Tabling.{AreOwned, AreOwnedBy, HoldOnce, place_at}
use Rattle.eq_reads.specs.Words.{number_at}
use Rattle.eq_part.proofs.Tabled.{get_some, no_place}

-- ---- members of a list

pub has_there : (xs : List ℕ) (k : ℕ) → k < length xs → has (number_at xs k) xs ≡ true
has_there [] k lt = absurd (omega arith)
has_there (x ∷ xs) zero lt = or_left (x == x) (has x xs) ((Decides-eqb x x).1 refl)
has_there (x ∷ xs) (suc k) lt = or_right (x == number_at xs k) (has (number_at xs k) xs) (has_there xs k (omega arith))

pub has_some : (xs : List ℕ) (i : ℕ) → has i xs ≡ true → (k : ℕ) × (k < length xs) × (number_at xs k ≡ i)
has_some [] i e = absurd (cc)
has_some (x ∷ xs) i e =
    elim (or_cases (x == i) (has i xs) e) [
      | inl here ↦ (0, (omega arith), (Decides-eqb x i).0 here)
      | inr there ↦ (let t = has_some xs i there in (suc t.0, (let lt = t.1 in omega arith), t.2))
    ]

-- ---- the outputs of one partition

pub none_owned : (q : ℕ) (outputs : List ℕ) (old : List (Option ℕ)) → AreOwnedBy q outputs 0 old old
none_owned q outputs old = record {
  count = refl;
  there = λ k lt. absurd (omega arith);
  kept = λ i apart. refl;
}

module _ (q : ℕ) (outputs : List ℕ) (n : ℕ) (old table : List (Option ℕ)) (are : AreOwnedBy q outputs n old table)
    (inside : number_at outputs n < length old) where
  abbrev now : List (Option ℕ)
  now = set table (number_at outputs n) (Some q)

  here : place_at now (number_at outputs n) ≡ Some q
  here = get_or-set_same table (number_at outputs n) (Some q) None (let e = are.count in omega arith)

  other : (i : ℕ) → (i ≡ number_at outputs n → ⊥) → place_at now i ≡ place_at table i
  other i apart = get_or-set_other table (number_at outputs n) i (Some q) None apart

  pub one_owned : AreOwnedBy q outputs (n + 1) old now
  one_owned = record {
    count = length-set table (number_at outputs n) (Some q) ∙ are.count;
    there = λ k less. elim (eqb_tells (number_at outputs k) (number_at outputs n)) [
      | inl same ↦ subst (λ (x : ℕ). place_at now x ≡ Some q) (sym same.1) here
      | inr apart ↦ elim (cases_lt k n) [
        | inl before ↦ other (number_at outputs k) apart.1 ∙ are.there k before
        | inr last ↦ (
            let e : k ≡ n = omega arith in
            absurd (apart.1 (ap (number_at outputs) e)))
      ]
    ];
    kept = λ i apart. other i (λ same. apart n (omega arith) (sym same))
        ∙ are.kept i (λ k less same. apart k (omega arith) same);
  }

-- ---- all partitions

pub size_of_empty : (size : ℕ) (table : List (Option ℕ)) → table ≡ replicate size None → length table ≡ size
size_of_empty size table empty = ap (λ (l : List (Option ℕ)). length l) empty ∙ length-replicate {A = Option ℕ} size None

pub none_possessed : (parts : List Partition) (size : ℕ) → AreOwned parts size 0 (replicate size None)
none_possessed parts size = record {
  count = length-replicate {A = Option ℕ} size None;
  there = λ q i lt h. absurd (omega arith);
  back = λ i q e. absurd (no_place size i q e);
}

module _ (parts : List Partition) (size q : ℕ) (table now : List (Option ℕ)) (once : HoldOnce size parts)
    (are : AreOwned parts size q table)
    (is : AreOwnedBy q (slice_index_or parts q no_part).outputs (length (slice_index_or parts q no_part).outputs) table now)
  where
    abbrev outputs : List ℕ
    outputs = (slice_index_or parts q no_part).outputs

    its_own : (i : ℕ) → holds parts q i ≡ true → place_at now i ≡ Some q
    its_own i h =
        let t = has_some outputs i h in
        subst (λ (x : ℕ). place_at now x ≡ Some q) t.2 (is.there t.0 t.1)

    others_own : (i : ℕ) → holds parts q i ≡ false → place_at now i ≡ place_at table i
    others_own i h = is.kept i (λ k less same. (
        let e : true ≡ false =
        sym (subst (λ (x : ℕ). has x outputs ≡ true) same (has_there outputs k less)) ∙ h in
        absurd (cc)))

    pub one_possessed : AreOwned parts size (q + 1) now
    one_possessed = record {
      count = is.count ∙ are.count;
      there = λ r i less h. elim (cases_Bool (holds parts q i)) [
        | inl mine ↦ (
            let e : q ≡ r = once.once q r i mine h in
            subst (λ (x : ℕ). place_at now i ≡ Some x) e (its_own i mine))
        | inr not_mine ↦ elim (cases_lt r q) [
          | inl before ↦ others_own i not_mine ∙ are.there r i before h
          | inr last ↦ (
              let e : r ≡ q = omega arith in
              let f : true ≡ false = sym (subst (λ (x : ℕ). holds parts x i ≡ true) e h) ∙ not_mine in
              absurd (cc))
        ]
      ];
      back = λ i r e. elim (cases_Bool (holds parts q i)) [
        | inl mine ↦ (
            let f : q ≡ r = same_Some q r (sym (its_own i mine) ∙ e) in
            ((omega arith), subst (λ (x : ℕ). holds parts x i ≡ true) f mine))
        | inr not_mine ↦ (
            let t = are.back i r (sym (others_own i not_mine) ∙ e) in
            let less = t.0 in ((omega arith), t.1))
      ];
    }

-- the same of outputs that a list of the code holds
module _ (parts : List Partition) (size q : ℕ) (table : List (Option ℕ)) (outputs : List ℕ) (once : HoldOnce size parts)
    (same : (slice_index_or parts q no_part).outputs ≡ outputs) where
  pub outputs_within : length table ≡ size → (k : ℕ) → k < length outputs → number_at outputs k < length table
  outputs_within count k lt =
      let lt_size = once.inside q (number_at outputs k)
      (subst (λ (xs : List ℕ). has (number_at outputs k) xs ≡ true) (sym same) (has_there outputs k lt)) in
      omega arith

  pub next_possessed : (now : List (Option ℕ)) → AreOwned parts size q table →
      AreOwnedBy q outputs (length outputs) table now → AreOwned parts size (q + 1) now
  next_possessed now are is = one_possessed parts size q table now once are
      (subst (λ (xs : List ℕ). AreOwnedBy q xs (length xs) table now) (sym same) is)

-- ---- the partitions that divide the pairs

abbrev lists_of : List Partition → List (List ℕ)
lists_of parts = map (λ (p : Partition). p.outputs) parts

pub lists_are : (parts : List Partition) (q : ℕ) → list_at (lists_of parts) q ≡ (slice_index_or parts q no_part).outputs
lists_are [] q = refl
lists_are (p ∷ parts) zero = refl
lists_are (p ∷ parts) (suc q) = lists_are parts q

pub held_within : (parts : List Partition) (q i : ℕ) → holds parts q i ≡ true → q < length parts
held_within [] q i h = absurd (cc)
held_within (p ∷ parts) zero i h = omega arith
held_within (p ∷ parts) (suc q) i h = (let lt = held_within parts q i h in omega arith)

module _ (pairs : List Pair) (parts : List Partition) (together : Together)
    (divided : AreDivided (length pairs) (is_held pairs) together (lists_of parts)) where
  to_list : (q i : ℕ) → holds parts q i ≡ true → has i (list_at (lists_of parts) q) ≡ true
  to_list q i h = subst (λ (xs : List ℕ). has i xs ≡ true) (sym (lists_are parts q)) h

  from_list : (q i : ℕ) → has i (list_at (lists_of parts) q) ≡ true → holds parts q i ≡ true
  from_list q i h = subst (λ (xs : List ℕ). has i xs ≡ true) (lists_are parts q) h

  pub hold_once : HoldOnce (length pairs) parts
  hold_once = record {
    inside = λ q i h. (divided.inside q i (to_list q i h)).0;
    once = λ q r i h k. (
        let a = divided.inside q i (to_list q i h) in
        let g = divided.in_one i a.0 a.1 in
        g.3 q (to_list q i h) ∙ sym (g.3 r (to_list r i k)));
  }

  module _ (table : List (Option ℕ)) (are : AreOwned parts (length pairs) (length parts) table) where
    not_owned : (i : ℕ) → i < length pairs → is_held pairs i ≡ true → place_at table i ≡ None → ⊥
    not_owned i lt held none =
        let g = divided.in_one i lt held in
        let h = from_list g.0 i g.2 in
        let e : None ≡ Some g.0 = sym none ∙ are.there g.0 i (held_within parts g.0 i h) h in
        absurd (cc)

    nothing_owned : (i : ℕ) → is_held pairs i ≡ false → (o : Option ℕ) → place_at table i ≡ o → o ≡ None
    nothing_owned i free None e = refl
    nothing_owned i free (Some q) e =
        let t = are.back i q e in
        let f : true ≡ false = sym (divided.inside q i (to_list q i t.1)).1 ∙ free in
        absurd (cc)

    pub are_owners : AreOwners pairs parts table
    are_owners = record {
      count = are.count;
      inputs = λ i p e. (
          (let is : pair_at pairs i ≡ p = get_or_from_slice_get pairs i p no_pair e in
          let lt = slice_get_within pairs i p e in
          let count = are.count in (
            (λ none. elim (cases_Bool p.input) [
              | inl input ↦ input
              | inr held ↦ absurd (not_owned i lt (ap (λ (x : Pair). not x.input) is ∙ ap not held)
                  (get_or_from_slice_get table i None None none))
            ]),
            (λ input. slice_get-get_or table i None (omega arith)
                ∙ ap (λ (o : Option ℕ). Some o) (nothing_owned i
                (ap (λ (x : Pair). not x.input) is ∙ ap not input) (place_at table i) refl)),
          )));
      owned = λ i q. (
        (λ e. (are.back i q (get_or_from_slice_get table i (Some q) None e)).1),
        (λ h. get_some table i q (are.there q i (held_within parts q i h) h)),
      );
    }
