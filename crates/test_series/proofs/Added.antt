-- The test of a net says yes of the chain, whatever its length. A bit's rank is its number, and a word's top the number
-- of the first bit that it drives.
use Rattle.std.proofs.Common.{◌≡◌, ℕ, zero, suc, ◌+◌, ◌-◌, ◌*◌, ◌/◌, ◌%◌, ◌<◌, ◌≤◌, List, [], ◌∷◌, ◌++◌, Bool, true, false, ◌&&◌, cond, nat_lt, length, length-append, slice_index_or, refl, arith, ap, sym, subst, ◌∙◌, inl, inr, eq-eqb}
use Rattle.std.specs.List.{sum_by}
use Rattle.std.proofs.lemmas.Bool.{cases_lt, le-leb, le-ltb, lt-ltb}
use Rattle.std.proofs.lemmas.List.Sums.{sum_by_push}
use Rattle.eq_model.specs.Nets.{at_bit, inner, is_output}
use Rattle.eq_names.specs.declared.BitName.{BitName}
use Rattle.eq_net.specs.declared.types.Driver.{Driver}
use Rattle.eq_net.specs.declared.types.Driver.TheVariants.{Input, Undriven, Expr}
use Rattle.eq_net.specs.Tree.{Tree, empty}
use Rattle.eq_net.specs.Meaning.{cost_of, width}
use Rattle.eq_net.specs.Net.{bits_of, driver_at, nets_of, number_of, word_at}
use Rattle.eq_net.specs.Decided.{below, every, has_bit, is_above, is_input_side, is_net, is_outside, is_ranked, is_word, names_word, same_truth}
use Rattle.test_series.specs.Additions.{chain, chain_nets, driver, link, name}
use Rattle.test_series.specs.Lists.{listed}
use Rattle.test_series.proofs.Listed.{all_below, both, every_listed, high, listed_at, listed_length, low}

-- ---- the bits

bits_there : (last : ℕ) → bits_of (chain_nets last) ≡ 8 * last + 16
bits_there last = omega arith

low_name : (b : ℕ) → b < 8 → name b ≡ record { net = 0; bit = b }
low_name b lt = low _ _ b 8 lt

high_name : (b : ℕ) → 8 ≤ b → name b ≡ record { net = 1; bit = b - 8 }
high_name b le = high _ _ b 8 le

has_name : (last b : ℕ) → b < 8 * last + 16 → has_bit (chain_nets last) (name b) ≡ true
has_name last b lt =
    let P : BitName → Type 0 = λ n. has_bit (chain_nets last) n ≡ true in
    elim (cases_lt b 8) [
      | inl less ↦ subst P (sym (low_name b less)) (lt-ltb b 8 less)
      | inr more ↦ subst P (sym (high_name b more)) (lt-ltb _ _ (omega arith))
    ]

number_name : (last b : ℕ) → number_of (chain_nets last) (name b) ≡ b
number_name last b = elim (cases_lt b 8) [
  | inl less ↦ ap (number_of (chain_nets last)) (low_name b less) ∙ omega arith
  | inr more ↦ ap (number_of (chain_nets last)) (high_name b more) ∙ omega arith
]

-- ---- the drivers

low_driver : (last b : ℕ) → b < 8 → driver last b ≡ Input
low_driver last b lt = low _ _ b 8 lt

high_driver : (last b : ℕ) → 8 ≤ b → driver last b ≡ Expr (last - (b - 8) / 8) ((b - 8) % 8)
high_driver last b le = high _ _ b 8 le

has_driver : (last b : ℕ) → b < 8 * last + 16 → driver_at (chain last) b ≡ driver last b
has_driver last b lt = listed_at (driver last) (8 * last + 16) b Undriven lt

has_link : (last k : ℕ) → k < last + 1 → word_at (chain last).words k ≡ link last k
has_link last k lt = listed_at (link last) (last + 1) k empty lt

-- ---- the points of a net

a_word : (last k : ℕ) → k < last + 1 →
    is_word (chain_nets last) (chain last).words k (word_at (chain last).words k) ≡ true
a_word last k lt =
    let nets = chain_nets last in
    let P : Tree → Type 0 = λ t. is_word nets (chain last).words k t ≡ true in
    subst P (sym (has_link last k lt))
    (both (every_listed (has_bit nets) (λ i. name (8 * (last - k) + i)) 8
    (λ i less. has_name last (8 * (last - k) + i) (omega arith)))
    (both (every_listed (has_bit nets) (λ i. name (0 + i)) 8 (λ i less. has_name last (0 + i) (omega arith))) refl))

a_driver : (last b : ℕ) → b < 8 * last + 16 → names_word (chain last).words (driver last b) ≡ true
a_driver last b lt =
    let words = (chain last).words in
    let P : Driver → Type 0 = λ d. names_word words d ≡ true in
    elim (cases_lt b 8) [
      | inl less ↦ subst P (sym (low_driver last b less)) refl
      | inr more ↦ (
          let k = last - (b - 8) / 8 in
          let j = (b - 8) % 8 in
          let named : k < last + 1 = omega arith in
          let Q : Tree → Type 0 = λ t. nat_lt j (width t) ≡ true in
          subst P (sym (high_driver last b more))
          (both (lt-ltb k (length words) (omega (arith, listed_length (link last) (last + 1), named)))
          (subst Q (sym (has_link last k named)) (lt-ltb j 8 (omega arith)))))
    ]

-- what comes from outside, and what is a bit of an input
pub agree : (x y z : Bool) → x ≡ z → y ≡ z → same_truth x y ≡ true
agree true true z e f = refl
agree false false z e f = refl
agree true false z e f = absurd (cc)
agree false true z e f = absurd (cc)

an_input : (last b : ℕ) → b < 8 * last + 16 →
    same_truth (is_outside (driver_at (chain last) b))
    (is_input_side (at_bit inner (λ m p. m.dir) (nets_of (chain_nets last)) b)) ≡ true
an_input last b lt = elim (cases_lt b 8) [
  | inl less ↦ agree _ _ true (ap is_outside (has_driver last b lt ∙ low_driver last b less))
      (ap is_input_side (low _ _ b 8 less))
  | inr more ↦ agree _ _ false (ap is_outside (has_driver last b lt ∙ high_driver last b more))
      (ap is_input_side (high _ _ b 8 more ∙ ap (λ (t : Bool). cond t is_output inner) (lt-ltb _ _ (omega arith))))
]

a_rank : (last k : ℕ) → k < last + 1 →
    is_ranked (λ b. b) (λ j. 8 + 8 * (last - j)) (number_of (chain_nets last)) (8 + 8 * (last - k))
    (word_at (chain last).words k) ≡ true
a_rank last k lt =
    let number = number_of (chain_nets last) in
    let P : Tree → Type 0 = λ t. is_ranked (λ b. b) (λ j. 8 + 8 * (last - j)) number (8 + 8 * (last - k)) t ≡ true in
    let below_top : (b : ℕ) → b < 8 + 8 * (last - k) → nat_lt (number (name b)) (8 + 8 * (last - k)) ≡ true =
    λ b less. ap (λ (x : ℕ). nat_lt x (8 + 8 * (last - k))) (number_name last b) ∙ lt-ltb b (8 + 8 * (last - k)) less in
    let p : BitName → Bool = λ n. nat_lt (number n) (8 + 8 * (last - k)) in
    subst P (sym (has_link last k lt))
    (both (every_listed p (λ i. name (8 * (last - k) + i)) 8 (λ i less. below_top (8 * (last - k) + i) (omega arith)))
    (every_listed p (λ i. name (0 + i)) 8 (λ i less. below_top (0 + i) (omega arith))))

is_over : (last b : ℕ) → b < 8 * last + 16 → is_above (λ j. 8 + 8 * (last - j)) (driver_at (chain last) b) b ≡ true
is_over last b lt =
    let P : Driver → Type 0 = λ d. is_above (λ j. 8 + 8 * (last - j)) d b ≡ true in
    elim (cases_lt b 8) [
      | inl less ↦ subst P (sym (has_driver last b lt ∙ low_driver last b less)) refl
      | inr more ↦ subst P (sym (has_driver last b lt ∙ high_driver last b more)) (le-leb _ _ (omega arith))
    ]

costs : (last n : ℕ) → sum_by cost_of (listed (link last) n) ≡ 40 * n
costs last zero = refl
costs last (suc n) = sum_by_push cost_of (listed (link last) n) (link last n) ∙ omega (arith, costs last n)

pub is_good : (last : ℕ) → last < 10000 → is_net (λ b. b) (λ k. 8 + 8 * (last - k)) (chain last) ≡ true
is_good last small =
    let bits = bits_there last in
    let words = listed_length (link last) (last + 1) in
    both refl
    (both (eq-eqb _ _ (listed_length (driver last) (8 * last + 16) ∙ sym bits))
    (both (all_below _ (length (chain last).words) (λ k lt. a_word last k (omega (arith, words, lt))))
    (both (every_listed (names_word (chain last).words) (driver last) (8 * last + 16) (λ b lt. a_driver last b lt))
    (both (all_below _ (bits_of (chain_nets last)) (λ b lt. an_input last b (omega (arith, bits, lt))))
    (both refl
    (both refl
    (both refl
    (both refl
    (both (all_below _ (length (chain last).words) (λ k lt. a_rank last k (omega (arith, words, lt))))
    (both (all_below _ (bits_of (chain_nets last)) (λ b lt. is_over last b (omega (arith, bits, lt))))
    (both (le-leb _ _ (omega (arith, bits, costs last (last + 1), small))) refl)))))))))))
