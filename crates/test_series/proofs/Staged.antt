-- The test of a net says yes of stages, of whatever width and number. A bit's rank is its number, and a word's top the
-- number of the first bit that it drives.
use Rattle.std.proofs.Common.{◌≡◌, ℕ, zero, suc, ◌+◌, ◌-◌, ◌*◌, ◌/◌, ◌%◌, ◌<◌, ◌≤◌, List, [], ◌∷◌, ◌++◌, Bool, true, false, not, ◌&&◌, ◌||◌, ◌==◌, cond, nat_lt, length, length-append, slice_index_or, refl, arith, ap, sym, subst, ◌∙◌, inl, inr, eq-eqb}
use Rattle.std.specs.List.{sum_by, list_any}
use Rattle.std.proofs.lemmas.Bool.{cases_lt, eqb-true, le-leb, le-ltb, lt-ltb}
use Rattle.std.proofs.lemmas.List.{get_or_append_left, get_or-append_right}
use Rattle.std.proofs.lemmas.List.Sums.{sum_by_push}
use Rattle.eq_model.specs.Nets.{Dir as Side, Net, at_bit, first_bit, inner, is_output, net_width}
use Rattle.eq_names.specs.declared.BitName.{BitName}
use Rattle.eq_net.specs.declared.types.NetInfo.{NetInfo}
use Rattle.eq_net.specs.declared.types.Dir.{Dir}
use Rattle.eq_net.specs.declared.types.Dir.TheVariants.{Inner, Input as InputPort, Output as OutputPort}
use Rattle.eq_net.specs.declared.types.Driver.{Driver}
use Rattle.eq_net.specs.declared.types.Driver.TheVariants.{Input, Undriven, Expr}
use Rattle.eq_net.specs.Nets.{net_of, side_of, width_of}
use Rattle.eq_net.specs.Tree.{Tree, empty}
use Rattle.eq_net.specs.Meaning.{cost_of, width}
use Rattle.eq_net.specs.Net.{Parts, bits_of, driver_at, net_at, nets_of, no_net, number_of, offset, word_at}
use Rattle.eq_net.specs.Decided.{apart, below, every, has_bit, is_above, is_input_side, is_net, is_outside, is_port, is_ranked, is_word, names_word, same_name, same_truth}
use Rattle.test_series.specs.Lists.{listed, ranged}
use Rattle.test_series.specs.Stages.{all_bits, driven, given, place, stage, stage_dir, stage_name, stage_net, stage_nets, stages}
use Rattle.test_series.proofs.Listed.{all_below, apart_listed, both, every_append, every_listed, high, left_holds, listed_at, listed_length, low, right_holds}

-- ---- names

is_false : (t : Bool) → (t ≡ true → ⊥) → t ≡ false
is_false true h = absurd (h refl)
is_false false h = refl

four_same : (a b c d e f g h : ℕ) →
    same_name (110 ∷ a ∷ b ∷ c ∷ d ∷ []) (110 ∷ e ∷ f ∷ g ∷ h ∷ []) ≡ true →
    (a ≡ e) × (b ≡ f) × (c ≡ g) × (d ≡ h)
four_same a b c d e f g h is =
    let p = (b == f) && ((c == g) && ((d == h) && true)) in
    let q = (c == g) && ((d == h) && true) in
    let r = (d == h) && true in
    let first = right_holds (a == e) p is in
    let second = right_holds (b == f) q first in
    let third = right_holds (c == g) r second in (
      eqb-true a e (left_holds (a == e) p is),
      eqb-true b f (left_holds (b == f) q first),
      eqb-true c g (left_holds (c == g) r second),
      eqb-true d h (left_holds (d == h) true third),
    )

-- numbers of one quotient and one remainder are one
one_number : (i j : ℕ) → i / 10 ≡ j / 10 → 48 + i % 10 ≡ 48 + j % 10 → i ≡ j
one_number i j quotients remainders = omega (arith, quotients, remainders)

same_digits : (i j : ℕ) → same_name (stage_name i) (stage_name j) ≡ true → i ≡ j
same_digits i j is =
    let d = four_same (48 + i / 10 / 10 / 10) (48 + i / 10 / 10 % 10) (48 + i / 10 % 10) (48 + i % 10)
    (48 + j / 10 / 10 / 10) (48 + j / 10 / 10 % 10) (48 + j / 10 % 10) (48 + j % 10) is in
    let top : i / 10 / 10 / 10 ≡ j / 10 / 10 / 10 = omega (arith, d.0) in
    one_number i j (one_number (i / 10) (j / 10) (one_number (i / 10 / 10) (j / 10 / 10) top d.1) d.2) d.3

apart_names : (i j : ℕ) → i < j → same_name (stage_name i) (stage_name j) ≡ false
apart_names i j less = is_false (same_name (stage_name i) (stage_name j))
    (λ is. (let same = same_digits i j is in absurd (omega (arith, same, less))))

-- ---- bits of lists of nets

bits_push : (xs : List NetInfo) (y : NetInfo) → bits_of (xs ++ y ∷ []) ≡ bits_of xs + width_of y
bits_push [] y = omega arith
bits_push (x ∷ xs) y = omega (arith, bits_push xs y)

first_left : (xs : List NetInfo) (y : NetInfo) (k : ℕ) → k ≤ length xs → offset (xs ++ y ∷ []) k ≡ offset xs k
first_left [] y zero le = refl
first_left [] y (suc k) le = absurd (omega arith)
first_left (x ∷ xs) y zero le = refl
first_left (x ∷ xs) y (suc k) le = ap (λ (n : ℕ). width_of x + n) (first_left xs y k (omega (arith, le)))

first_behind : (xs : List NetInfo) → offset xs (length xs) ≡ bits_of xs
first_behind [] = refl
first_behind (x ∷ xs) = ap (λ (n : ℕ). width_of x + n) (first_behind xs)

-- the side of the net of a bit
abbrev side : List NetInfo → ℕ → Side
side nets b = at_bit inner (λ m p. m.dir) (nets_of nets) b

side_left : (xs : List NetInfo) (y : NetInfo) (b : ℕ) → b < bits_of xs → side (xs ++ y ∷ []) b ≡ side xs b
side_left [] y b lt = absurd (omega arith)
side_left (x ∷ xs) y b lt = elim (cases_lt b (width_of x)) [
  | inl less ↦ low _ _ b (width_of x) less ∙ sym (low _ _ b (width_of x) less)
  | inr more ↦ high _ _ b (width_of x) more ∙ side_left xs y (b - width_of x) (omega arith)
      ∙ sym (high _ _ b (width_of x) more)
]

side_right : (xs : List NetInfo) (y : NetInfo) (j : ℕ) → j < width_of y →
    side (xs ++ y ∷ []) (bits_of xs + j) ≡ side_of y.dir
side_right [] y j lt =
    let at : 0 + j ≡ j = omega arith in ap (side (y ∷ [])) at ∙ low _ _ j (width_of y) lt
side_right (x ∷ xs) y j lt =
    let b = (width_of x + bits_of xs) + j in
    let P : ℕ → Type 0 = λ (n : ℕ). side (xs ++ y ∷ []) n ≡ side_of y.dir in
    high _ _ b (width_of x) (omega arith)
    ∙ subst P (omega arith) (side_right xs y j lt)

-- the bits of so many stages
abbrev pub bits_in : ℕ → ℕ → ℕ
bits_in w zero = 0
bits_in w (suc n) = bits_in w n + w

module _ (w : ℕ) (some : 0 < w) where
  wide : (name : List ℕ) (dir : Dir) → width_of (ranged name w dir) ≡ w
  wide name dir = omega (arith, some)

  abbrev span : ℕ → ℕ
  span = bits_in w

  span_is : (n : ℕ) → span n ≡ n * w
  span_is zero = omega arith
  span_is (suc n) = omega (arith, span_is n)

  -- a bit of stages is one of a stage
  in_stage : (n b : ℕ) → b < span n → (k : ℕ) × (j : ℕ) × (k < n) × (j < w) × (b ≡ span k + j)
  in_stage zero b lt = absurd (omega arith)
  in_stage (suc n) b lt = elim (cases_lt b (span n)) [
    | inl less ↦ (let h = in_stage n b less in (h.0, h.1, omega (arith, h.2), h.3, h.4))
    | inr more ↦ (n, b - span n, omega arith, omega arith, omega arith)
  ]

  span_grows : (k n : ℕ) → k < n → span k + w ≤ span n
  span_grows k zero lt = absurd (omega arith)
  span_grows k (suc n) lt = elim (cases_lt k n) [
    | inl less ↦ omega (arith, span_grows k n less)
    | inr more ↦ (
        let same : k ≡ n = omega arith in
        subst (λ (m : ℕ). span k + w ≤ span m + w) same (omega arith))
  ]

  -- ---- the nets

  abbrev some_nets : ℕ → ℕ → List NetInfo
  some_nets n m = listed (stage_net w n) m

  some_bits : (n m : ℕ) → bits_of (some_nets n m) ≡ span m
  some_bits n zero = refl
  some_bits n (suc m) =
      bits_push (some_nets n m) (stage_net w n m) ∙ omega (arith, some_bits n m, wide (stage_name m) (stage_dir n m))

  all_there : (n : ℕ) → bits_of (stage_nets w n) ≡ w + span n
  all_there n = omega (arith, some_bits n n, wide (97 ∷ []) InputPort)

  some_offset : (n m k : ℕ) → k ≤ m → offset (some_nets n m) k ≡ span k
  some_offset n zero zero le = refl
  some_offset n zero (suc k) le = absurd (omega arith)
  some_offset n (suc m) k le = elim (cases_lt k (suc m)) [
    | inl less ↦ first_left (some_nets n m) (stage_net w n m) k (omega (arith, listed_length (stage_net w n) m, less))
        ∙ some_offset n m k (omega arith)
    | inr more ↦ (
        let same : length (some_nets n (suc m)) ≡ k = listed_length (stage_net w n) (suc m) ∙ omega arith in
        let all : suc m ≡ k = omega arith in
        let P : ℕ → Type 0 = λ (x : ℕ). offset (some_nets n (suc m)) x ≡ bits_of (some_nets n (suc m)) in
        subst P same (first_behind (some_nets n (suc m))) ∙ some_bits n (suc m) ∙ ap (bits_in w) all)
  ]

  stage_number : (n k i : ℕ) → k ≤ n → number_of (stage_nets w n) (place (suc k) i) ≡ (w + span k) + i
  stage_number n k i le = omega (arith, some_offset n n k le, wide (97 ∷ []) InputPort)

  -- numbers of bits that a word reads, below the first that it drives
  read_below : (n k i : ℕ) → k < n → i < w → number_of (stage_nets w n) (place k i) < w + span k
  read_below n zero i lt less = omega arith
  read_below n (suc k) i lt less = omega (arith, stage_number n k i (omega arith), less)

  some_side : (n m k j : ℕ) → k < m → j < w → side (some_nets n m) (span k + j) ≡ side_of (stage_dir n k)
  some_side n zero k j lt less = absurd (omega arith)
  some_side n (suc m) k j lt less = elim (cases_lt k m) [
    | inl before ↦ side_left (some_nets n m) (stage_net w n m) (span k + j)
        (omega (arith, some_bits n m, span_grows k m before, less)) ∙ some_side n m k j before less
    | inr behind ↦ (
        let same : m ≡ k = omega arith in
        let y = stage_net w n m in
        let P : ℕ → Type 0 = λ (b : ℕ). side (some_nets n m ++ y ∷ []) b ≡ side_of y.dir in
        let Q : ℕ → Type 0 = λ (x : ℕ). side (some_nets n (suc m)) (span x + j) ≡ side_of (stage_dir n x) in
        let at : bits_of (some_nets n m) + j ≡ span m + j = omega (arith, some_bits n m) in
        let within : j < width_of y = omega (arith, less, wide (stage_name m) (stage_dir n m)) in
        subst Q same (subst P at (side_right (some_nets n m) y j within)))
  ]

  stage_at : (n k : ℕ) → k < n → net_at (stage_nets w n) (suc k) ≡ stage_net w n k
  stage_at n k lt = listed_at (stage_net w n) n k no_net lt

  width_at : (n k : ℕ) → k ≤ n → width_of (net_at (stage_nets w n) k) ≡ w
  width_at n zero le = wide (97 ∷ []) InputPort
  width_at n (suc k) le = ap width_of (stage_at n k (omega (arith, le))) ∙ wide (stage_name k) (stage_dir n k)

  has_place : (n k i : ℕ) → k ≤ n → i < w → has_bit (stage_nets w n) (place k i) ≡ true
  has_place n k i le lt =
      both (lt-ltb k (length (stage_nets w n)) (omega (arith, listed_length (stage_net w n) n, le)))
      (lt-ltb i (width_of (net_at (stage_nets w n) k)) (omega (arith, width_at n k le, lt)))

  -- ---- the words

  has_stage : (n k : ℕ) → k < n → word_at (stages w n).words k ≡ stage w k
  has_stage n k lt = listed_at (stage w) n k empty lt

  stage_width : (k : ℕ) → width (stage w k) ≡ w
  stage_width k = listed_length (place k) w

  a_word : (n k : ℕ) → k < n → is_word (stage_nets w n) (stages w n).words k (word_at (stages w n).words k) ≡ true
  a_word n k lt =
      let nets = stage_nets w n in
      let P : Tree → Type 0 = λ t. is_word nets (stages w n).words k t ≡ true in
      subst P (sym (has_stage n k lt))
      (both (every_listed (has_bit nets) (place k) w (λ i less. has_place n k i (omega (arith, lt)) less))
      (both (every_listed (has_bit nets) (place 0) w (λ i less. has_place n 0 i (omega arith) less))
      (eq-eqb _ _ (listed_length (place k) w ∙ sym (listed_length (place 0) w)))))

  a_rank : (n k : ℕ) → k < n →
      is_ranked (λ b. b) (λ x. w + span x) (number_of (stage_nets w n)) (w + span k)
      (word_at (stages w n).words k) ≡ true
  a_rank n k lt =
      let number = number_of (stage_nets w n) in
      let P : Tree → Type 0 = λ t. is_ranked (λ b. b) (λ x. w + span x) number (w + span k) t ≡ true in
      let p : BitName → Bool = λ b. nat_lt (number b) (w + span k) in
      subst P (sym (has_stage n k lt))
      (both (every_listed p (place k) w (λ i less. lt-ltb _ _ (read_below n k i lt less)))
      (every_listed p (place 0) w (λ i less. lt-ltb (0 + i) (w + span k) (omega (arith, less)))))

  costs : (n : ℕ) → sum_by cost_of (listed (stage w) n) ≡ span n
  costs zero = refl
  costs (suc n) = sum_by_push cost_of (listed (stage w) n) (stage w n)
      ∙ omega (arith, costs n, listed_length (place n) w)

  -- ---- the drivers

  driven_length : (n : ℕ) → length (driven w n) ≡ span n
  driven_length zero = refl
  driven_length (suc n) = length-append (driven w n) (listed (Expr n) w)
      ∙ omega (arith, driven_length n, listed_length (Expr n) w)

  driven_at : (n k j : ℕ) → k < n → j < w → slice_index_or (driven w n) (span k + j) Undriven ≡ Expr k j
  driven_at zero k j lt less = absurd (omega arith)
  driven_at (suc n) k j lt less = elim (cases_lt k n) [
    | inl before ↦ get_or_append_left (driven w n) (listed (Expr n) w) Undriven (span k + j)
        (omega (arith, driven_length n, span_grows k n before, less)) ∙ driven_at n k j before less
    | inr behind ↦ (
        let same : n ≡ k = omega arith in
        let all = driven w n ++ listed (Expr n) w in
        let P : ℕ → Type 0 = λ (x : ℕ). slice_index_or all (span x + j) Undriven ≡ Expr x j in
        let at : (span n + j) - span n ≡ j = omega arith in
        let Q : ℕ → Type 0 = λ (x : ℕ). slice_index_or (listed (Expr n) w) x Undriven ≡ Expr n j in
        subst P same (get_or-append_right (driven w n) (listed (Expr n) w) (span n) (span n + j) Undriven
        (driven_length n) (omega arith) ∙ subst Q (sym at) (listed_at (Expr n) w j Undriven less)))
  ]

  low_driver : (n b : ℕ) → b < w → driver_at (stages w n) b ≡ Input
  low_driver n b lt = get_or_append_left (listed given w) (driven w n) Undriven b
      (omega (arith, listed_length given w, lt))
      ∙ listed_at given w b Undriven lt

  high_driver : (n k j : ℕ) → k < n → j < w → driver_at (stages w n) (w + (span k + j)) ≡ Expr k j
  high_driver n k j lt less =
      let at : (w + (span k + j)) - w ≡ span k + j = omega arith in
      let P : ℕ → Type 0 = λ (x : ℕ). slice_index_or (driven w n) x Undriven ≡ Expr k j in
      get_or-append_right (listed given w) (driven w n) w (w + (span k + j)) Undriven (listed_length given w)
      (omega arith)
      ∙ subst P (sym at) (driven_at n k j lt less)

  -- what holds of each input bit, and of each bit of a stage, holds of all bits
  each_bit : (n : ℕ) (P : ℕ → Type 0) → ((b : ℕ) → b < w → P b) →
      ((k j : ℕ) → k < n → j < w → P (w + (span k + j))) → (b : ℕ) → b < w + span n → P b
  each_bit n P inputs others b lt = elim (cases_lt b w) [
    | inl less ↦ inputs b less
    | inr more ↦ (
        let h = in_stage n (b - w) (omega arith) in
        let is : w + (span h.0 + h.1) ≡ b = omega (arith, h.4, more) in
        subst P is (others h.0 h.1 h.2 h.3))
  ]

  names_stage : (n k j : ℕ) → k < n → j < w → names_word (stages w n).words (Expr k j) ≡ true
  names_stage n k j lt less =
      let Q : Tree → Type 0 = λ t. nat_lt j (width t) ≡ true in
      both (lt-ltb k (length (stages w n).words) (omega (arith, listed_length (stage w) n, lt)))
      (subst Q (sym (has_stage n k lt)) (lt-ltb j (width (stage w k)) (omega (arith, stage_width k, less))))

  some_named : (n m : ℕ) → m ≤ n → every (names_word (stages w n).words) (driven w m) ≡ true
  some_named n zero le = refl
  some_named n (suc m) le = every_append (names_word (stages w n).words) (driven w m) (listed (Expr m) w)
      (some_named n m (omega arith))
      (every_listed (names_word (stages w n).words) (Expr m) w (λ j less. names_stage n m j (omega arith) less))

  all_named : (n : ℕ) → every (names_word (stages w n).words) (stages w n).drivers ≡ true
  all_named n = every_append (names_word (stages w n).words) (listed given w) (driven w n)
      (every_listed (names_word (stages w n).words) given w (λ j less. refl)) (some_named n n (omega arith))

  -- ---- inputs and ports

  agree : (x y z : Bool) → x ≡ z → y ≡ z → same_truth x y ≡ true
  agree true true z e f = refl
  agree false false z e f = refl
  agree true false z e f = absurd (cc)
  agree false true z e f = absurd (cc)

  no_input : (n k : ℕ) → is_input_side (side_of (stage_dir n k)) ≡ false
  no_input n k = elim (cases_lt (k + 1) n) [
    | inl less ↦ ap (λ (d : Dir). is_input_side (side_of d)) (low Inner OutputPort (k + 1) n less)
    | inr more ↦ ap (λ (d : Dir). is_input_side (side_of d)) (high Inner OutputPort (k + 1) n more)
  ]

  low_side : (n b : ℕ) → b < w → is_input_side (side (stage_nets w n) b) ≡ true
  low_side n b lt =
      ap is_input_side (low _ _ b (width_of (ranged (97 ∷ []) w InputPort))
      (omega (arith, lt, wide (97 ∷ []) InputPort)))

  high_side : (n k j : ℕ) → k < n → j < w → is_input_side (side (stage_nets w n) (w + (span k + j))) ≡ false
  high_side n k j lt less =
      let own = width_of (ranged (97 ∷ []) w InputPort) in
      let at : span k + j ≡ (w + (span k + j)) - own = omega (arith, wide (97 ∷ []) InputPort) in
      let P : ℕ → Type 0 = λ (x : ℕ). side (some_nets n n) x ≡ side_of (stage_dir n k) in
      ap is_input_side (high _ _ (w + (span k + j)) own (omega (arith, wide (97 ∷ []) InputPort))
      ∙ subst P at (some_side n n k j lt less)) ∙ no_input n k

  an_input : (n b : ℕ) → b < w + span n →
      same_truth (is_outside (driver_at (stages w n) b)) (is_input_side (side (stage_nets w n) b)) ≡ true
  an_input n = each_bit n (λ (b : ℕ).
      same_truth (is_outside (driver_at (stages w n) b)) (is_input_side (side (stage_nets w n) b)) ≡ true)
      (λ b less. agree _ _ true (ap is_outside (low_driver n b less)) (low_side n b less))
      (λ k j lt less. agree _ _ false (ap is_outside (high_driver n k j lt less)) (high_side n k j lt less))

  is_over : (n b : ℕ) → b < w + span n → is_above (λ x. w + span x) (driver_at (stages w n) b) b ≡ true
  is_over n = each_bit n (λ (b : ℕ). is_above (λ x. w + span x) (driver_at (stages w n) b) b ≡ true)
      (λ b less. ap (λ (d : Driver). is_above (λ x. w + span x) d b) (low_driver n b less))
      (λ k j lt less. ap (λ (d : Driver). is_above (λ x. w + span x) d (w + (span k + j))) (high_driver n k j lt less)
      ∙ le-leb (w + span k) (w + (span k + j)) (omega arith))

  or_left : (x y : Bool) → x ≡ true → (x || y) ≡ true
  or_left true y e = refl
  or_left false y e = absurd (cc)

  or_right : (x y : Bool) → y ≡ true → (x || y) ≡ true
  or_right true y e = refl
  or_right false y e = e

  last_port : (n k : ℕ) → k < n → n ≤ k + 1 → is_port (net_at (stage_nets w n) (suc k)).dir ≡ true
  last_port n k lt le = ap (λ (m : NetInfo). is_port m.dir) (stage_at n k lt)
      ∙ ap is_port (high Inner OutputPort (k + 1) n le)

  a_port : (n k : ℕ) → k < 1 + n →
      (not (is_port (net_at (stage_nets w n) k).dir) || list_any (λ p. p == k) (0 ∷ n ∷ [])) ≡ true
  a_port n zero lt = refl
  a_port n (suc k) lt = elim (cases_lt (k + 1) n) [
    | inl less ↦ or_left _ _ (ap (λ (m : NetInfo). not (is_port m.dir)) (stage_at n k (omega arith))
        ∙ ap (λ (d : Dir). not (is_port d)) (low Inner OutputPort (k + 1) n less))
    | inr more ↦ or_right _ _ (or_right (0 == suc k) _ (or_left (n == suc k) false (eq-eqb n (suc k) (omega arith))))
  ]

  ports_there : (m : ℕ) →
      every (λ k. nat_lt k (length (stage_nets w (suc m))) && is_port (net_at (stage_nets w (suc m)) k).dir)
      (0 ∷ suc m ∷ []) ≡ true
  ports_there m =
      let nets = stage_nets w (suc m) in
      let there : suc m < length nets = omega (arith, listed_length (stage_net w (suc m)) (suc m)) in
      both (both (lt-ltb 0 (length nets) (omega (arith, there))) refl)
      (both (both (lt-ltb (suc m) (length nets) there) (last_port (suc m) m (omega arith) (omega arith))) refl)

  ports_differ : (m : ℕ) → apart (λ p q. p == q) (0 ∷ suc m ∷ []) ≡ true
  ports_differ m =
      let no : (0 == suc m) ≡ false = is_false (0 == suc m) (λ e. absurd (omega (arith, eqb-true 0 (suc m) e))) in
      both (both (ap not no) refl) refl

  -- ---- all points

  is_good_suc : (m : ℕ) → 2 + w + 2 * (suc m * w) ≤ 2000000 →
      is_net (λ b. b) (λ x. w + span x) (stages w (suc m)) ≡ true
  is_good_suc m small =
      let n = suc m in
      let bits = all_there n in
      let words = listed_length (stage w) n in
      both (both (every_listed (λ (y : NetInfo). not (same_name (97 ∷ []) y.name)) (stage_net w n) n (λ i lt. refl))
      (apart_listed (λ (a b : NetInfo). same_name a.name b.name) (stage_net w n) n
      (λ i j less lt. apart_names i j less)))
      (both (eq-eqb _ _ (length-append (listed given w) (driven w n)
      ∙ omega (arith, listed_length given w, driven_length n, bits)))
      (both (all_below _ (length (stages w n).words) (λ k lt. a_word n k (omega (arith, words, lt))))
      (both (all_named n)
      (both (all_below _ (bits_of (stage_nets w n)) (λ b lt. an_input n b (omega (arith, bits, lt))))
      (both (ports_differ m)
      (both (ports_there m)
      (both (all_below _ (length (stage_nets w n))
      (λ k lt. a_port n k (omega (arith, listed_length (stage_net w n) n, lt))))
      (both refl
      (both (all_below _ (length (stages w n).words) (λ k lt. a_rank n k (omega (arith, words, lt))))
      (both (all_below _ (bits_of (stage_nets w n)) (λ b lt. is_over n b (omega (arith, bits, lt))))
      (both (le-leb _ _ (omega (arith, bits, costs n, span_is n, small))) refl)))))))))))

  pub is_good : (n : ℕ) → 0 < n → 2 + w + 2 * (n * w) ≤ 2000000 →
      is_net (λ b. b) (λ x. w + bits_in w x) (stages w n) ≡ true
  is_good zero some small = absurd (omega arith)
  is_good (suc m) some small = is_good_suc m small
