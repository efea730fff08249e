-- Keys by groups, and the classes that they make.
use Rattle.std.proofs.Common.{◌≡◌, ℕ, ◌<◌, ◌≤◌, ◌+◌, ◌⊎◌, inl, inr, List, [], ◌∷◌, true, false, ◌&&◌, ◌||◌, eqb, length, take, set, get_or, refl, arith, sym, ap, subst, ◌∙◌, get_or-set_same, get_or-set_other}
use Rattle.std.specs.List.{All, list_any}
use Rattle.std.proofs.Math.ListN.{length-set}
use Rattle.std.proofs.lemmas.Bool.{and_from, and_parts, cases_Bool, cases_eq, cases_lt, eqb-true, eq-eqb, false_from_ne_true, ne_eqb, or_cases, or_left, or_parts, or_right}
use Rattle.std.proofs.lemmas.List.{get_or_default, nil_from_length, take_all, take_more}
use Rattle.std.proofs.lemmas.List.Folds.{Any-from_list_any, list_any-append, list_any_at}
use Rattle.eq_match.specs.declared.types.Pair.{Pair}
use Rattle.eq_match.specs.Classes.{SameClasses}
use Rattle.eq_match.specs.Divided.{AreApart, has, list_at}
use Rattle.eq_match.specs.Groups.{is_held}
use Rattle.eq_match.specs.Leaders.{AreByKeys, one_leader}
use Rattle.eq_part.specs.Partitions.{from_groups}
use Rattle.eq_part.specs.inner.Starting.{AreGroupKeys, ArePut}

pub has_at : (xs : List ℕ) (k d : ℕ) → k < length xs → has (get_or xs k d) xs ≡ true
has_at xs k d h = list_any_at (λ j. eqb j (get_or xs k d)) xs k d h (eq-eqb (get_or xs k d) (get_or xs k d) refl)

has_more : (xs : List ℕ) (k i : ℕ) → k < length xs → has i (take (k + 1) xs) ≡ (has i (take k xs) || (eqb (get_or xs k 0) i || false))
has_more xs k i h = ap (has i) (take_more xs k 0 h) ∙ list_any-append (λ j. eqb j i) (take k xs) (get_or xs k 0 ∷ [])

pub put_none : (before : List ℕ) (key : ℕ) → ArePut before [] key before
put_none before key = record {
  count = refl;
  in_list = λ i e. absurd (cc);
  others = λ i e. refl;
}

-- one position more has the key
pub put_more : (before list now : List ℕ) (key k : ℕ) → k < length list → get_or list k 0 < length before →
    ArePut before (take k list) key now → ArePut before (take (k + 1) list) key (set now (get_or list k 0) key)
put_more before list now key k h inside put = record {
  count = length-set now (get_or list k 0) key ∙ put.count;
  in_list = λ i e. elim (cases_eq i (get_or list k 0)) [
    | inl same ↦ ap (λ m. get_or (set now (get_or list k 0) key) m 0) same ∙
        get_or-set_same now (get_or list k 0) key 0 (let c = put.count in omega arith)
    | inr apart ↦ get_or-set_other now (get_or list k 0) i key 0 apart ∙ put.in_list i (elim (or_cases (has i (take k list)) _
        (sym (has_more list k i h) ∙ e)) [
          | inl old ↦ old
          | inr new ↦ (elim (or_cases (eqb (get_or list k 0) i) false new) [
            | inl here ↦ absurd (apart (sym (eqb-true (get_or list k 0) i here)))
            | inr never ↦ absurd (cc)
          ])
        ])
  ];
  others = λ i e. let parts = or_parts (has i (take k list)) _ (sym (has_more list k i h) ∙ e) in
      get_or-set_other now (get_or list k 0) i key 0
      (λ same. let t = sym (eq-eqb (get_or list k 0) i (sym same)) ∙ (or_parts (eqb (get_or list k 0) i) false parts.1).0 in absurd (cc)) ∙
      put.others i parts.0;
}

pub put_whole : (before list now : List ℕ) (key k : ℕ) → length list ≤ k → ArePut before (take k list) key now → ArePut before list key now
put_whole before list now key k h put = subst (λ xs. ArePut before xs key now) (take_all k list h) put

pub no_groups : (groups : List (List ℕ)) (n : ℕ) (keys : List ℕ) → length keys ≡ n → ((i : ℕ) → i < n → get_or keys i 0 ≡ i) →
    AreGroupKeys groups n 0 keys
no_groups groups n keys count own = record {
  count = count;
  in_group = λ h i l e. absurd (omega arith);
  in_none = λ i h all. own i h;
}

module _ (pairs : List Pair) (groups : List (List ℕ)) (is : AreApart pairs groups) where
  pub group_inside : (g n : ℕ) → n ≡ length pairs → All (λ i. i < n) (list_at groups g)
  group_inside g n same k d h = subst (λ m. get_or (list_at groups g) k d < m) (sym same)
      (is.held g (get_or (list_at groups g) k d) (has_at (list_at groups g) k d h)).0

  -- the positions of one group more have their key
  pub one_group_more : (g : ℕ) (keys after : List ℕ) → AreGroupKeys groups (length pairs) g keys →
      ArePut keys (list_at groups g) (get_or (list_at groups g) 0 0) after → AreGroupKeys groups (length pairs) (g + 1) after
  one_group_more g keys after are put = record {
    count = put.count ∙ are.count;
    in_group = λ h i l e. elim (cases_lt h g) [
      | inl less ↦ put.others i (false_from_ne_true (has i (list_at groups g)) (λ t. let same = is.once g h i t e in omega arith)) ∙
          are.in_group h i less e
      | inr more ↦ (let same : h ≡ g = omega arith in
          put.in_list i (ap (λ m. has i (list_at groups m)) (sym same) ∙ e) ∙ ap (λ m. get_or (list_at groups m) 0 0) (sym same))
    ];
    in_none = λ i h all. put.others i (all g (omega arith)) ∙ are.in_none i h (λ m l. all m (omega arith));
  }

  module _ (keys : List ℕ) (are : AreGroupKeys groups (length pairs) (length groups) keys) where
    abbrev first : ℕ → ℕ
    first g = get_or (list_at groups g) 0 0

    some_group : (i : ℕ) → ((g : ℕ) × (g < length groups) × (has i (list_at groups g) ≡ true)) ⊎
        ((h : ℕ) → h < length groups → has i (list_at groups h) ≡ false)
    some_group i = elim (cases_Bool (list_any (has i) groups)) [
      | inl holds ↦ (let a = Any-from_list_any (has i) groups holds in
          inl (a.0, a.2, ap (has i) (get_or_default groups a.0 [] a.1 a.2 ∙ a.3) ∙ a.4))
      | inr fails ↦ inr (λ h l. false_from_ne_true (has i (list_at groups h)) (λ t.
          let s = list_any_at (has i) groups h [] l t in let u = sym s ∙ fails in absurd (cc)))
    ]

    has_first : (g i : ℕ) → has i (list_at groups g) ≡ true → has (first g) (list_at groups g) ≡ true
    has_first g i e = elim (cases_lt 0 (length (list_at groups g))) [
      | inl some ↦ has_at (list_at groups g) 0 0 some
      | inr none ↦ absurd (let t = sym e ∙ ap (has i) (nil_from_length (list_at groups g) (omega arith)) in cc)
    ]

    pub key_below : (i : ℕ) → i < length pairs → get_or keys i 0 < length pairs
    key_below i h = elim (some_group i) [
      | inl g ↦ subst (λ k. k < length pairs) (sym (are.in_group g.0 i g.1 g.2)) (is.held g.0 (first g.0) (has_first g.0 i g.2)).0
      | inr none ↦ subst (λ k. k < length pairs) (sym (are.in_none i h none)) h
    ]

    pub keys_below : (n : ℕ) → n ≡ length pairs → All (λ k. k < n) keys
    keys_below n same k d h = subst (λ m. get_or keys k d < m) (sym same)
        (subst (λ m. m < length pairs) (sym (get_or_default keys k d 0 h)) (key_below k (let c = are.count in omega arith)))

    one_key : (i j : ℕ) → i < length pairs → j < length pairs → get_or keys i 0 ≡ get_or keys j 0 →
        (i ≡ j) ⊎ ((g : ℕ) × (g < length groups) × (has i (list_at groups g) ≡ true) × (has j (list_at groups g) ≡ true))
    one_key i j h k e = elim (some_group i) [
      | inl g ↦ (elim (some_group j) [
        | inl m ↦ (let same : first g.0 ≡ first m.0 = sym (are.in_group g.0 i g.1 g.2) ∙ e ∙ are.in_group m.0 j m.1 m.2 in
            let one = is.once g.0 m.0 (first g.0) (has_first g.0 i g.2)
            (ap (λ f. has f (list_at groups m.0)) same ∙ has_first m.0 j m.2) in
            inr (g.0, g.1, g.2, ap (λ x. has j (list_at groups x)) one ∙ m.2))
        | inr none ↦ (let same : first g.0 ≡ j = sym (are.in_group g.0 i g.1 g.2) ∙ e ∙ are.in_none j k none in
            inr (g.0, g.1, g.2, ap (λ f. has f (list_at groups g.0)) (sym same) ∙ has_first g.0 i g.2))
      ])
      | inr none ↦ (elim (some_group j) [
        | inl m ↦ (let same : first m.0 ≡ i = sym (are.in_group m.0 j m.1 m.2) ∙ sym e ∙ are.in_none i h none in
            inr (m.0, m.1, ap (λ f. has f (list_at groups m.0)) (sym same) ∙ has_first m.0 j m.2, m.2))
        | inr also ↦ inl (sym (are.in_none i h none) ∙ e ∙ are.in_none j k also)
      ])
    ]

    -- two positions have one key where they stand in one group
    pub same_keys : (i j : ℕ) → i < length pairs → j < length pairs →
        eqb (get_or keys i 0) (get_or keys j 0) ≡ (from_groups groups).together i j
    same_keys i j h k = elim (cases_Bool (eqb i j || list_any (λ g. has i g && has j g) groups)) [
      | inl holds ↦ eq-eqb (get_or keys i 0) (get_or keys j 0) (elim (or_cases (eqb i j) _ holds) [
        | inl same ↦ ap (λ m. get_or keys m 0) (eqb-true i j same)
        | inr some ↦ (let a = Any-from_list_any (λ g. has i g && has j g) groups some in
            let p = and_parts (has i a.1) (has j a.1) a.4 in
            let at : list_at groups a.0 ≡ a.1 = get_or_default groups a.0 [] a.1 a.2 ∙ a.3 in
            are.in_group a.0 i a.2 (ap (has i) at ∙ p.0) ∙ sym (are.in_group a.0 j a.2 (ap (has j) at ∙ p.1)))
      ]) ∙ sym holds
      | inr fails ↦ ne_eqb (get_or keys i 0) (get_or keys j 0) (λ e. elim (one_key i j h k e) [
        | inl same ↦ (let t = sym (or_left (eqb i j) _ (eq-eqb i j same)) ∙ fails in absurd (cc))
        | inr g ↦ (let t = sym (or_right (eqb i j) _ (list_any_at (λ l. has i l && has j l) groups g.0 [] g.1
            (and_from _ _ g.2 g.3))) ∙ fails in absurd (cc))
      ]) ∙ sym fails
    ]

    pub start_classes : (leaders : List ℕ) → AreByKeys keys leaders →
        SameClasses (length pairs) (one_leader leaders) (from_groups groups).together
    start_classes leaders by i j h k =
        let c = are.count in by.one i j (omega arith) (omega arith) ∙ same_keys i j h k

-- at the start inputs stand with inputs alone
pub start_alike : (pairs : List Pair) (groups : List (List ℕ)) → AreApart pairs groups → (i j : ℕ) →
    (from_groups groups).together i j ≡ true → is_held pairs i ≡ is_held pairs j
start_alike pairs groups is i j e = elim (or_cases (eqb i j) _ e) [
  | inl same ↦ ap (is_held pairs) (eqb-true i j same)
  | inr some ↦ (let a = Any-from_list_any (λ g. has i g && has j g) groups some in
      let p = and_parts (has i a.1) (has j a.1) a.4 in
      let at : list_at groups a.0 ≡ a.1 = get_or_default groups a.0 [] a.1 a.2 ∙ a.3 in
      (is.held a.0 i (ap (has i) at ∙ p.0)).1 ∙ sym (is.held a.0 j (ap (has j) at ∙ p.1)).1)
]
