-- Initial values one by one: what the slots say of the bits that one more begins, and of all others.
use Rattle.std.proofs.Common.{◌≡◌, ℕ, zero, suc, ◌+◌, ◌<◌, Bool, true, false, cond, List, [], ◌∷◌, ◌++◌, length, slice_index_or, Option, Some, None, refl, arith, sym, ap, subst, ◌∙◌, inl, inr}
use Rattle.std.specs.Prelude.{Contains, is_some, slice_get, flat_map, map, zip}
use Rattle.std.proofs.lemmas.List.{append_assoc, append-nil}
use Rattle.std.proofs.lemmas.List.Concat.{flat_map-append}
use Rattle.std.proofs.lemmas.List.Elements.{Contains-append_cases, Contains-append_left, Contains-append_right, filter_map-append}
use Rattle.eq_vlex.specs.declared.token.Constant.{Constant}
use Rattle.eq_vparse.specs.declared.tree.Item.{Item}
use Rattle.eq_net.specs.declared.types.NetInfo.{NetInfo}
use Rattle.eq_net.specs.Meaning.{if_there}
use Rattle.eq_net.specs.Numbers.{digit}
use Rattle.eq_verilog.specs.Trees.{Name, ItemTree, item_tree}
use Rattle.eq_verilog.specs.Scopes.{Scope}
use Rattle.eq_verilog.specs.Equations.{place_in}
use Rattle.eq_verilog.specs.Registers.{Initial, begins}
use Rattle.eq_flatten.specs.declared.driving.Slot.{Slot}
use Rattle.eq_flatten.specs.declared.driving.Slot.TheVariants.{Free, Once, Twice}
use Rattle.eq_flatten.specs.declared.paths.Path.{Path}
use Rattle.eq_flatten.specs.Driving.{filled, slot_at}
use Rattle.eq_flatten.specs.Beginning.{begins_bit, beginnings_of, initials_in, AddsInitials, AreBegun, AreInitialsReady, ArePathsBegun, IsInitialReady, IsPathBegun, SlotBegins}
use Rattle.eq_flatten.proofs.Equated.{count_append, count_one}

-- ---- constants by their numbers

front_get : {X : Type 0} (xs ys : List X) (k : ℕ) (x : X) → slice_get xs k ≡ Some x → slice_get (xs ++ ys) k ≡ Some x
front_get [] ys k x h = absurd (cc)
front_get (y ∷ xs) ys zero x h = h
front_get (y ∷ xs) ys (suc k) x h = front_get xs ys k x h

last_get : {X : Type 0} (xs : List X) (x : X) → slice_get (xs ++ x ∷ []) (length xs) ≡ Some x
last_get [] x = refl
last_get (y ∷ xs) x = last_get xs x

-- ---- one more

module _ (old new : List Constant) (kept : (k : ℕ) (c : Constant) → slice_get old k ≡ Some c → slice_get new k ≡ Some c)
  where
    later : (is : List Initial) (b : ℕ) (s : Slot) → SlotBegins old is b s → SlotBegins new is b s
    later is b Free says = says
    later is b (Once w) says = (
      says.0,
      (
        says.1.0,
        says.1.1,
        record { place = says.1.2.place; value = kept w.word says.1.0.value says.1.2.value },
      ),
    )
    later is b Twice says = says

    module _ (is : List Initial) (i : Initial) where
      counted : (b : ℕ) → beginnings_of (is ++ i ∷ []) b ≡ beginnings_of is b + beginnings_of (i ∷ []) b
      counted b = count_append (begins_bit b) is (i ∷ [])

      same_count : (b : ℕ) → place_in i.scope i.target b ≡ None → beginnings_of (is ++ i ∷ []) b ≡ beginnings_of is b
      same_count b none =
          (let c = counted b in
          let o = count_one (begins_bit b) i false (ap (λ p. is_some p) none) in
          omega (arith, c, o))

      one_more : (b j : ℕ) → place_in i.scope i.target b ≡ Some j →
          beginnings_of (is ++ i ∷ []) b ≡ beginnings_of is b + 1
      one_more b j here =
          (let c = counted b in
          let o = count_one (begins_bit b) i true (ap (λ p. is_some p) here) in
          omega (arith, c, o))

      -- a bit that it doesn't begin
      other_bit : (b : ℕ) (s : Slot) → place_in i.scope i.target b ≡ None → SlotBegins new is b s →
          SlotBegins new (is ++ i ∷ []) b s
      other_bit b Free none says = same_count b none ∙ says
      other_bit b (Once w) none says = (
        same_count b none ∙ says.0,
        (says.1.0, Contains-append_left is (i ∷ []) says.1.0 says.1.1, says.1.2),
      )
      other_bit b Twice none says = (let c = same_count b none in omega (arith, c, says))

      -- a bit that it begins
      its_bit : (b j k : ℕ) (s : Slot) → place_in i.scope i.target b ≡ Some j → slice_get new k ≡ Some i.value →
          SlotBegins new is b s → SlotBegins new (is ++ i ∷ []) b (filled s k (Some j))
      its_bit b j k Free here value says = (
        (let c = one_more b j here in omega (arith, c, says)),
        (i, Contains-append_right is (i ∷ []) i (0, omega arith, refl), record { place = here; value = value }),
      )
      its_bit b j k (Once w) here value says = (let c = one_more b j here in let d = says.0 in omega (arith, c, d))
      its_bit b j k Twice here value says = (let c = one_more b j here in omega (arith, c, says))

      begun_with : (k : ℕ) (slots filleds : List Slot) → slice_get new k ≡ Some i.value → length filleds ≡ length slots
          → ((b : ℕ) → slot_at filleds b ≡ filled (slot_at slots b) k (place_in i.scope i.target b))
          → AreBegun old is slots → AreBegun new (is ++ i ∷ []) filleds
      begun_with k slots filleds value size goes so_far b inside =
          subst (λ (s : Slot). SlotBegins new (is ++ i ∷ []) b s) (sym (goes b)) (at (place_in i.scope i.target b) refl)
        where
          says : SlotBegins new is b (slot_at slots b)
          says = later is b (slot_at slots b) (so_far b (omega (arith, inside, size)))

          at : (o : Option ℕ) → place_in i.scope i.target b ≡ o →
              SlotBegins new (is ++ i ∷ []) b (filled (slot_at slots b) k o)
          at None none = other_bit b (slot_at slots b) none says
          at (Some j) here = its_bit b j k (slot_at slots b) here value says

-- an initial value with one more constant
pub adds_initial : (old : List Constant) (i : Initial) (new : List Constant) (n : ℕ) (before after : List Slot)
    → new ≡ old ++ i.value ∷ [] → n ≡ length old → length after ≡ length before
    → ((b : ℕ) → slot_at after b ≡ filled (slot_at before b) n (place_in i.scope i.target b))
    → AddsInitials old new before after (i ∷ [])
adds_initial old i new n before after added number size goes =
    let kept = λ (k : ℕ) (c : Constant) (h : slice_get old k ≡ Some c).
    ap (λ (cs : List Constant). slice_get cs k) added ∙ front_get old (i.value ∷ []) k c h in
    record {
      kept = kept;
      size = size;
      begun = λ earlier so_far.
          begun_with old new kept earlier i n before after
          (ap (λ (cs : List Constant). slice_get cs n) added
          ∙ ap (λ (m : ℕ). slice_get (old ++ i.value ∷ []) m) number ∙ last_get old i.value)
          size goes so_far;
    }

pub adds_no_initials : (constants : List Constant) (slots : List Slot) → AddsInitials constants constants slots slots []
adds_no_initials constants slots = record {
  kept = λ k c h. h;
  size = refl;
  begun = λ earlier so_far. subst (λ is. AreBegun constants is slots) (sym (append-nil earlier)) so_far;
}

pub initials_then : (a b c : List Constant) (x y z : List Slot) (is js : List Initial)
    → AddsInitials a b x y is → AddsInitials b c y z js → AddsInitials a c x z (is ++ js)
initials_then a b c x y z is js one other = record {
  kept = λ k v h. other.kept k v (one.kept k v h);
  size = other.size ∙ one.size;
  begun = λ earlier so_far.
      subst (λ ks. AreBegun c ks z) (append_assoc earlier is js) (other.begun (earlier ++ is) (one.begun earlier so_far));
}

-- those of one item more
pub initials_next : (s : Scope) (is : List ItemTree) (i : ItemTree) (a b c : List Constant) (x y z : List Slot)
    → AddsInitials a b x y (initials_in s is) → AddsInitials b c y z (initials_in s (i ∷ []))
    → AddsInitials a c x z (initials_in s (is ++ i ∷ []))
initials_next s is i a b c x y z so_far one =
    subst (λ js. AddsInitials a c x z js) (sym (filter_map-append _ is (i ∷ [])))
    (initials_then a b c x y z (initials_in s is) (initials_in s (i ∷ [])) so_far one)

-- those of one more of anything that has some
pub initials_each : {X : Type 0} (f : X → List Initial) (xs : List X) (u : X) (a b c : List Constant) (x y z : List Slot)
    → AddsInitials a b x y (flat_map f xs) → AddsInitials b c y z (f u)
    → AddsInitials a c x z (flat_map f (xs ++ u ∷ []))
initials_each f xs u a b c x y z so_far one =
    subst (λ js. AddsInitials a c x z js)
    (sym (flat_map-append f xs (u ∷ []) ∙ ap (λ js. flat_map f xs ++ js) (append-nil (f u))))
    (initials_then a b c x y z (flat_map f xs) (f u) so_far one)

-- ---- what a slot says of the first initial value

module _ (b : ℕ) where
  heads : (i : Initial) (is : List Initial) (t : Bool) → begins_bit b i ≡ t →
      beginnings_of (i ∷ is) b ≡ cond {A = ℕ} t 1 0 + beginnings_of is b
  heads i is t h =
      (let c = count_append (begins_bit b) (i ∷ []) is in
      let o = count_one (begins_bit b) i t h in
      omega (arith, c, o))

  none_with : (i : Initial) (is : List Initial) (o : Option ℕ) → place_in i.scope i.target b ≡ o →
      (beginnings_of is b ≡ 0 → begins is b ≡ None) → beginnings_of (i ∷ is) b ≡ 0 → begins (i ∷ is) b ≡ None
  none_with i is None none rest h =
      ap (λ p. if_there (begins is b) (λ j. Some (digit i.value.value j)) p) none
      ∙ rest (let c = heads i is false (ap (λ p. is_some p) none) in omega (arith, c, h))
  none_with i is (Some j) here rest h =
      absurd (let c = heads i is true (ap (λ p. is_some p) here) in omega (arith, c, h))

  -- what no initial value begins has none
  pub none_begins : (is : List Initial) → beginnings_of is b ≡ 0 → begins is b ≡ None
  none_begins [] h = refl
  none_begins (i ∷ is) h = none_with i is (place_in i.scope i.target b) refl (none_begins is) h

  only : (x i : Initial) (k : ℕ) → k < length (x ∷ []) → slice_index_or (x ∷ []) k i ≡ i → x ≡ i
  only x i zero less is = is
  only x i (suc k) less is = absurd (omega (arith, less))

  alone : (i x : Initial) → Contains (x ∷ []) i → x ≡ i
  alone i x h = only x i h.0 h.1 h.2

  -- a list with an initial value of the bit has one at least
  some_begins : (is : List Initial) (i : Initial) (j : ℕ) → Contains is i → place_in i.scope i.target b ≡ Some j →
      0 < beginnings_of is b
  some_begins [] i j has here = absurd (let e = has.1 in omega (arith, e))
  some_begins (x ∷ xs) i j has here = elim (Contains-append_cases (x ∷ []) xs i has) [
    | inl l ↦
        let c = heads x xs true
        (ap (λ (y : Initial). is_some (place_in y.scope y.target b)) (alone i x l) ∙ ap (λ p. is_some p) here) in
        omega (arith, c)
    | inr r ↦
        let c = heads x xs (begins_bit b x) refl in
        let d = some_begins xs i j r here in
        omega (arith, c, d)
  ]

  one_with : (x : Initial) (xs : List Initial) (i : Initial) (j : ℕ) (o : Option ℕ) → place_in x.scope x.target b ≡ o
      → Contains (x ∷ xs) i → place_in i.scope i.target b ≡ Some j
      → (Contains xs i → beginnings_of xs b ≡ 1 → begins xs b ≡ Some (digit i.value.value j))
      → beginnings_of (x ∷ xs) b ≡ 1 → begins (x ∷ xs) b ≡ Some (digit i.value.value j)
  one_with x xs i j None none has here rest one =
      let count = heads x xs false (ap (λ p. is_some p) none) in
      elim (Contains-append_cases (x ∷ []) xs i has) [
        | inl l ↦
            absurd (none_some j (sym none ∙ ap (λ (y : Initial). place_in y.scope y.target b) (alone i x l) ∙ here))
        | inr r ↦
            ap (λ p. if_there (begins xs b) (λ k. Some (digit x.value.value k)) p) none
            ∙ rest r (omega (arith, count, one))
      ]
    where
      none_some : (k : ℕ) → None ≡ Some k → ⊥
      none_some k e = absurd (cc)
  one_with x xs i j (Some k) place has here rest one =
      let count = heads x xs true (ap (λ p. is_some p) place) in
      elim (Contains-append_cases (x ∷ []) xs i has) [
        | inl l ↦
            ap (λ p. if_there (begins xs b) (λ n. Some (digit x.value.value n)) p)
            (ap (λ (y : Initial). place_in y.scope y.target b) (alone i x l) ∙ here)
            ∙ ap (λ (y : Initial). Some (digit y.value.value j)) (alone i x l)
        | inr r ↦ absurd (let d = some_begins xs i j r here in omega (arith, count, d, one))
      ]

  -- the only initial value of a bit is the first
  pub one_begins : (is : List Initial) (i : Initial) (j : ℕ) → Contains is i → place_in i.scope i.target b ≡ Some j →
      beginnings_of is b ≡ 1 → begins is b ≡ Some (digit i.value.value j)
  one_begins [] i j has here one = absurd (let e = has.1 in omega (arith, e))
  one_begins (x ∷ xs) i j has here one =
      one_with x xs i j (place_in x.scope x.target b) refl has here (λ r. one_begins xs i j r here) one

pub same_value : (c d : Constant) → Some c ≡ Some d → c ≡ d
same_value c d e = cc

-- ---- items and paths that are ready

pub initial_ready_at : (nets : List NetInfo) (names : List Name) (from : ℕ) (is : List Item) (k : ℕ) (i : Item) →
    k < length is → i ≡ slice_index_or is k i → AreInitialsReady nets names from (map item_tree is) →
    IsInitialReady nets names from (item_tree i)
initial_ready_at nets names from [] k i inside is h = absurd (omega (arith, inside))
initial_ready_at nets names from (x ∷ xs) zero i inside is h =
    subst (λ y. IsInitialReady nets names from (item_tree y)) (sym is) h.0
initial_ready_at nets names from (x ∷ xs) (suc k) i inside is h =
    initial_ready_at nets names from xs k i (omega (arith, inside)) is h.1

pub path_begun_at : (nets : List NetInfo) (owned : List (List Name)) (paths : List Path) (firsts : List ℕ) (k : ℕ)
    (p : Path) → k < length paths → k < length firsts → p ≡ slice_index_or paths k p →
    ArePathsBegun nets owned (zip paths firsts) → IsPathBegun nets owned (p, slice_index_or firsts k 0)
path_begun_at nets owned [] firsts k p a b is h = absurd (omega (arith, a))
path_begun_at nets owned (x ∷ xs) [] k p a b is h = absurd (omega (arith, b))
path_begun_at nets owned (x ∷ xs) (n ∷ ns) zero p a b is h =
    subst (λ y. IsPathBegun nets owned (y, n)) (sym is) h.0
path_begun_at nets owned (x ∷ xs) (n ∷ ns) (suc k) p a b is h =
    path_begun_at nets owned xs ns k p (omega (arith, a)) (omega (arith, b)) is h.1
