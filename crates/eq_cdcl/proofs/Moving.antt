-- A clause watches another literal: its pair, and the two lists.
use Rattle.std.proofs.Common.{◌≡◌, ◌≢◌, ℕ, ◌+◌, ◌⊎◌, suc, zero, inl, inr, List, [], ◌∷◌, length, set, slice_get, Some, arith, refl, sym, ap, ◌∙◌, subst, eqb}
use Rattle.std.specs.Prelude.{Contains, slice_index_or}
use Rattle.std.proofs.lemmas.Bool.{cases_eq}
use Rattle.std.proofs.lemmas.Cmp.{nat_eq_equiv}
use Rattle.std.proofs.lemmas.List.{length-set}
use Rattle.eq_proof.specs.Literal.{Literal, negation, code_of}
use Rattle.eq_proof.specs.Sets.{IsFalse}
use Rattle.eq_proof.proofs.Sorting.{same_code}
use Rattle.eq_cdcl.specs.inner.Assignment.{Assignment}
use Rattle.eq_cdcl.specs.inner.Slots.{IsProper}
use Rattle.eq_cdcl.specs.inner.Listing.{IsAdded, IsTakenOut}
use Rattle.eq_cdcl.specs.inner.Watched.{StaysTrue, list_of, IsListed, IsQuietFor, IsOnWatch, IsMinded, IsEntry, IsWatched, HasLiteral, IsOther, IsAtEntry, IsMoved}
use Rattle.eq_cdcl.specs.inner.Visiting.{IsSeen, IsVisiting, IsAnother, Visiting}
use Rattle.eq_cdcl.specs.declared.watches.Pair.{Pair}
use Rattle.eq_cdcl.specs.declared.watches.Watch.{Watch}
use Rattle.eq_cdcl.specs.declared.watches.Watches.{Watches}
use Rattle.eq_cdcl.proofs.Places.{place_member, same_place}
use Rattle.eq_cdcl.proofs.Staying.{stays_later}
use Rattle.eq_cdcl.proofs.Visited.{other_member}

-- literals with one number are the same
pub number_same : (a b : Literal) → code_of a ≡ code_of b → a ≡ b
number_same a b e = same_code a b (ap (λ n. eqb n (code_of b)) e ∙ nat_eq_equiv.refl (code_of b))

-- a list with one element changed
pub set_here : {X : Type 0} (xs : List X) (n : ℕ) (x y : X) → slice_get (set xs n x) n ≡ Some y → x ≡ y
set_here [] n x y e = absurd (cc)
set_here (z ∷ xs) zero x y e = same_place (x ∷ []) 0 x y refl e
set_here (z ∷ xs) (suc n) x y e = set_here xs n x y e

pub set_there : {X : Type 0} (xs : List X) (n k : ℕ) (x : X) → k ≢ n → slice_get (set xs n x) k ≡ slice_get xs k
set_there [] n k x ne = refl
set_there (z ∷ xs) zero zero x ne = absurd (ne refl)
set_there (z ∷ xs) zero (suc k) x ne = refl
set_there (z ∷ xs) (suc n) zero x ne = refl
set_there (z ∷ xs) (suc n) (suc k) x ne = set_there xs n k x (λ e. ne (omega arith))

-- entries of the lists with one more
pub added_kept : (old new : List (List Watch)) (at k : ℕ) (w v : Watch) → IsAdded old new at w → Contains (slice_index_or old k []) v → Contains (slice_index_or new k []) v
added_kept old new at k w v a h =
    let P : List Watch → Type 0 = λ ws. Contains ws v in
    elim (cases_eq k at) [
      | inl is ↦
          let Q : ℕ → Type 0 = λ n. Contains (slice_index_or old n []) v in
          let R : ℕ → Type 0 = λ n. Contains (slice_index_or new n []) v in
          subst R (sym is) (a.kept v (subst Q is h))
      | inr ne ↦ subst P (sym (a.others k ne)) h
    ]

pub added_only : (old new : List (List Watch)) (at k : ℕ) (w v : Watch) → IsAdded old new at w → Contains (slice_index_or new k []) v → Contains (slice_index_or old k []) v ⊎ (w ≡ v)
added_only old new at k w v a h =
    let P : List Watch → Type 0 = λ ws. Contains ws v in
    elim (cases_eq k at) [
      | inl is ↦
          let Q : ℕ → Type 0 = λ n. Contains (slice_index_or new n []) v in
          let R : ℕ → Type 0 = λ n. Contains (slice_index_or old n []) v ⊎ (w ≡ v) in
          subst R (sym is) (a.only v (subst Q is h))
      | inr ne ↦ inl (subst P (a.others k ne) h)
    ]

-- entries of the lists with one less
taken_kept : (old new : List (List Watch)) (at i k : ℕ) (v : Watch) → IsTakenOut old new at i → Contains (slice_index_or old k []) v → Contains (slice_index_or new k []) v ⊎ (slice_get (slice_index_or old at []) i ≡ Some v)
taken_kept old new at i k v t h =
    let P : List Watch → Type 0 = λ ws. Contains ws v in
    elim (cases_eq k at) [
      | inl is ↦
          let Q : ℕ → Type 0 = λ n. Contains (slice_index_or old n []) v in
          let R : ℕ → Type 0 = λ n. Contains (slice_index_or new n []) v ⊎ (slice_get (slice_index_or old at []) i ≡ Some v) in
          subst R (sym is) (t.less.kept v (subst Q is h))
      | inr ne ↦ inl (subst P (sym (t.others k ne)) h)
    ]

taken_only : (old new : List (List Watch)) (at i k : ℕ) (v : Watch) → IsTakenOut old new at i → Contains (slice_index_or new k []) v → Contains (slice_index_or old k []) v
taken_only old new at i k v t h =
    let P : List Watch → Type 0 = λ ws. Contains ws v in
    elim (cases_eq k at) [
      | inl is ↦
          let Q : ℕ → Type 0 = λ n. Contains (slice_index_or new n []) v in
          let R : ℕ → Type 0 = λ n. Contains (slice_index_or old n []) v in
          subst R (sym is) (t.less.only v (subst Q is h))
      | inr ne ↦ subst P (t.others k ne) h
    ]

-- a clause that watches `next` in place of f
module _ (known : List (List Literal)) (a : Assignment) (head : ℕ) (pairs : List Pair) (lists between lists' : List (List Watch)) (f other next : Literal) (i n : ℕ) (clause : List Literal) (entry : Watch)
    (v : IsVisiting known a head pairs lists f i) (e : IsAtEntry pairs lists f i n other) (ek : slice_get known n ≡ Some clause) (free : IsAnother a.lits clause other next)
    (taken : IsTakenOut lists between (code_of f) i) (added : IsAdded between lists' (code_of next) entry) (entry_is : (entry.clause ≡ n) × (entry.blocker ≡ other)) where
  abbrev pub new_pair : Pair
  new_pair = record { first = other; second = next }

  f_false : IsFalse a.lits f
  f_false = place_member a.lits head (negation f) v.here

  next_not_f : next ≢ f
  next_not_f is = free.live (subst (IsFalse a.lits) (sym is) f_false)

  codes : code_of f ≢ code_of next
  codes same = next_not_f (sym (number_same f next same))

  same_list : list_of lists' f ≡ slice_index_or between (code_of f) []
  same_list = added.others (code_of f) codes

  minded : IsMinded a head lists n clause e.pair
  minded = v.watched.minded n clause e.pair ek e.paired

  -- what is listed for another clause stays
  listed_kept : (m : ℕ) (l : Literal) → m ≢ n → IsListed lists m l → IsListed lists' m l
  listed_kept m l ne h =
      elim (taken_kept lists between (code_of f) i (code_of l) h.0 taken h.1) [
        | inl there ↦ (h.0, added_kept between lists' (code_of next) (code_of l) entry h.0 added there, h.2)
        | inr gone ↦
            let is : e.watch ≡ h.0 = same_place (list_of lists f) i e.watch h.0 e.at gone in
            absurd (ne (sym h.2 ∙ ap (λ (w : Watch). w.clause) (sym is) ∙ e.names))
      ]

  -- and so it does in the list of another literal
  other_kept : (m : ℕ) (l : Literal) → l ≢ f → IsListed lists m l → IsListed lists' m l
  other_kept m l ne h =
      let P : List Watch → Type 0 = λ ws. Contains ws h.0 in
      let there = subst P (sym (taken.others (code_of l) (λ same. ne (number_same l f same)))) h.1 in
      (h.0, added_kept between lists' (code_of next) (code_of l) entry h.0 added there, h.2)

  on_watch : (pair : Pair) → IsOther pair f other → IsOnWatch a head lists n clause pair → (other ≢ f) × IsListed lists n other × IsQuietFor a head clause other
  on_watch pair (inl h) o = (
    λ is. o.different (h.0 ∙ sym is ∙ sym h.1),
    subst (λ (x : Literal). IsListed lists n x) h.1 o.second_listed,
    subst (λ (x : Literal). IsQuietFor a head clause x) h.1 o.second_quiet,
  )
  on_watch pair (inr h) o = (
    λ is. o.different (h.1 ∙ is ∙ sym h.0),
    subst (λ (x : Literal). IsListed lists n x) h.1 o.first_listed,
    subst (λ (x : Literal). IsQuietFor a head clause x) h.1 o.first_quiet,
  )

  other_proper : (pair : Pair) → IsOther pair f other → IsMinded a head lists n clause pair → IsProper other
  other_proper pair (inl h) m = subst IsProper h.1 m.second_proper
  other_proper pair (inr h) m = subst IsProper h.1 m.first_proper

  new_minded : IsMinded a head lists' n clause new_pair
  new_minded = record {
    first = other_member a head lists n clause e.pair f other minded e.which;
    second = free.member;
    first_proper = other_proper e.pair e.which minded;
    second_proper = free.proper;
    watched = elim minded.watched [
      | inl s ↦ inl s
      | inr o ↦
          let old = on_watch e.pair e.which o in
          inr (record {
            different = λ is. free.different (sym is);
            first_listed = other_kept n other old.0 old.1;
            second_listed = (entry, added.there, entry_is.0);
            first_quiet = old.2;
            second_quiet = λ p lt at. absurd (free.live (place_member a.lits p (negation next) at));
          })
    ];
  }

  old_minded : (m : ℕ) (c : List Literal) (pair : Pair) → m ≢ n → IsMinded a head lists m c pair → IsMinded a head lists' m c pair
  old_minded m c pair ne h = record {
    first = h.first;
    second = h.second;
    first_proper = h.first_proper;
    second_proper = h.second_proper;
    watched = elim h.watched [
      | inl s ↦ inl s
      | inr o ↦ inr (record {
        different = o.different;
        first_listed = listed_kept m pair.first ne o.first_listed;
        second_listed = listed_kept m pair.second ne o.second_listed;
        first_quiet = o.first_quiet;
        second_quiet = o.second_quiet;
      })
    ];
  }

  new_entry : IsEntry known entry
  new_entry =
      let P : ℕ → Type 0 = λ m. slice_get known m ≡ Some clause in
      let Q : Literal → Type 0 = λ l. Contains clause l in
      (clause, subst P (sym entry_is.0) ek, subst Q (sym entry_is.1) (other_member a head lists n clause e.pair f other minded e.which))

  moved_minded : (m : ℕ) (c : List Literal) (pair : Pair) → slice_get known m ≡ Some c → slice_get (set pairs n new_pair) m ≡ Some pair → IsMinded a head lists' m c pair
  moved_minded m c pair ec ep = elim (cases_eq m n) [
    | inl is ↦
        let c_is : clause ≡ c = same_place known n clause c ek (ap (λ k. slice_get known k) (sym is) ∙ ec) in
        let p_is : new_pair ≡ pair = set_here pairs n new_pair pair (ap (λ k. slice_get (set pairs n new_pair) k) (sym is) ∙ ep) in
        let P : ℕ → Type 0 = λ k. IsMinded a head lists' k c pair in
        let Q : List Literal → Type 0 = λ x. IsMinded a head lists' n x pair in
        let R : Pair → Type 0 = λ x. IsMinded a head lists' n clause x in
        subst P (sym is) (subst Q c_is (subst R p_is new_minded))
    | inr ne ↦ old_minded m c pair ne (v.watched.minded m c pair ec (sym (set_there pairs n m new_pair ne) ∙ ep))
  ]

  moved_watched : IsWatched known a head (set pairs n new_pair) lists'
  moved_watched = record {
    count = length-set pairs n new_pair ∙ v.watched.count;
    room = added.same ∙ taken.same ∙ v.watched.room;
    entries = λ k w h. elim (added_only between lists' (code_of next) k entry w added h) [
      | inl old ↦ v.watched.entries k w (taken_only lists between (code_of f) i k w taken old)
      | inr is ↦ subst (λ (x : Watch). IsEntry known x) is new_entry
    ];
    minded = moved_minded;
    within = v.watched.within;
    last_level = v.watched.last_level;
  }

  moved_seen : (m : ℕ) → IsSeen known a head pairs f m → IsSeen known a head (set pairs n new_pair) f m
  moved_seen m old c pair ec ep has = elim (cases_eq m n) [
    | inl is ↦
        let c_is : clause ≡ c = same_place known n clause c ek (ap (λ k. slice_get known k) (sym is) ∙ ec) in
        let p_is : new_pair ≡ pair = set_here pairs n new_pair pair (ap (λ k. slice_get (set pairs n new_pair) k) (sym is) ∙ ep) in
        let Q : List Literal → Type 0 = λ x. StaysTrue a (suc head) x in
        let R : Pair → Type 0 = λ x. HasLiteral x f in
        subst Q c_is (elim minded.watched [
          | inl s ↦ stays_later a 0 (suc head) clause (omega arith) s
          | inr o ↦ absurd (elim (subst R (sym p_is) has) [
            | inl same ↦ (on_watch e.pair e.which o).0 same
            | inr same ↦ next_not_f same
          ])
        ])
    | inr ne ↦ old c pair ec (sym (set_there pairs n m new_pair ne) ∙ ep) has
  ]

  pub visiting_moved : IsVisiting known a head (set pairs n new_pair) lists' f i × (length (list_of lists' f) + 1 ≡ length (list_of lists f))
  visiting_moved = (
    record {
      sound = v.sound;
      watched = moved_watched;
      here = v.here;
      seen = λ j w lt at. moved_seen w.clause (v.seen j w lt (sym (taken.less.before j lt) ∙ ap (λ (ws : List Watch). slice_get ws j) (sym same_list) ∙ at));
    },
    ap (λ (ws : List Watch). length ws + 1) same_list ∙ taken.less.shorter,
  )

-- the same of the program's watches
pub moved_visits : (known : List (List Literal)) (a : Assignment) (w w' : Watches) (f other next : Literal) (i n : ℕ) (clause : List Literal) → Visiting known a w f i → IsAtEntry w.pairs.items w.lists.items f i n other → slice_get known n ≡ Some clause → IsAnother a.lits clause other next → IsMoved w.pairs.items w.lists.items w'.pairs.items w'.lists.items f i n other next → w'.head ≡ w.head
    → Visiting known a w' f i × (length (list_of w'.lists.items f) + 1 ≡ length (list_of w.lists.items f))
moved_visits known a w w' f other next i n clause v e ek free m same =
    let one = visiting_moved known a w.head w.pairs.items w.lists.items m.between w'.lists.items f other next i n clause m.entry v e ek free m.taken m.added m.entry_is in
    let P : ℕ → Type 0 = λ h. IsVisiting known a h w'.pairs.items w'.lists.items f i in
    let Q : List Pair → Type 0 = λ ps. IsVisiting known a w.head ps w'.lists.items f i in
    (subst P (sym same) (subst Q (sym m.changed) one.0), one.1)
