-- What a net keeps, as tests that compute. They say yes of fewer netlists than keep it: the first asks for an order of reading
-- of whole words, so a word that reads its own bits isn't among its netlists; the second asks for an order of bits, and looks
-- at all that each reads, so it takes longer. This project's own.
use Rattle.std.specs.Prelude.{ℕ, zero, suc, List, [], ◌∷◌, Bool, true, false, not, ◌&&◌, ◌||◌, ◌==◌, nat_lt, nat_le, length, Option, Some, None}
use Rattle.std.specs.List.{list_any}
use Rattle.eq_model.specs.Nets.{Dir as Side, inner, is_input, is_output, at_bit}
use Rattle.eq_model.specs.System.{reads_now}
use Rattle.eq_names.specs.declared.BitName.{BitName}
use Rattle.eq_net.specs.declared.types.NetInfo.{NetInfo}
use Rattle.eq_net.specs.declared.types.WordBit.{WordBit}
use Rattle.eq_net.specs.declared.types.Dir.{Dir}
use Rattle.eq_net.specs.declared.types.Dir.TheVariants.{Inner, Input as InputPort, Output as OutputPort}
use Rattle.eq_net.specs.declared.types.Driver.{Driver}
use Rattle.eq_net.specs.declared.types.Driver.TheVariants.{Input, Undriven, Expr as WordOf, Reg}
use Rattle.eq_net.specs.Nets.{width_of}
use Rattle.eq_net.specs.Operators.{has_free_sizes}
use Rattle.eq_net.specs.Tree.{Tree, const, read, pick, negated, opposite, binary, reduced, choice, empty, joined, extended}
use Rattle.eq_net.specs.Meaning.{width}
use Rattle.eq_net.specs.Net.{Parts, bits_of, driver_at, least_cost, most_cost, net_at, nets_of, number_of, source_of, word_at}

-- p holds of all of a list, and of all numbers below n
abbrev pub every : {A : Type 0} → (A → Bool) → List A → Bool
every p [] = true
every p (x ∷ xs) = p x && every p xs

abbrev pub below : (ℕ → Bool) → ℕ → Bool
below p zero = true
below p (suc n) = below p n && p n

-- no two of a list are the same
abbrev pub apart : {A : Type 0} → (A → A → Bool) → List A → Bool
apart same [] = true
apart same (x ∷ xs) = every (λ y. not (same x y)) xs && apart same xs

abbrev pub same_name : List ℕ → List ℕ → Bool
same_name [] [] = true
same_name (a ∷ rest) (b ∷ others) = (a == b) && same_name rest others
same_name _ _ = false

abbrev pub same_truth : Bool → Bool → Bool
same_truth true b = b
same_truth false b = not b

-- ---- words

abbrev pub has_bit : List NetInfo → BitName → Bool
has_bit nets b = nat_lt b.net (length nets) && nat_lt b.bit (width_of (net_at nets b.net))

abbrev pub has_word_bit : List Tree → ℕ → WordBit → Bool
has_word_bit words k b = nat_lt b.word k && nat_lt b.bit (width (word_at words b.word))

abbrev pub is_word : List NetInfo → List Tree → ℕ → Tree → Bool
is_word nets words k (const bits) = true
is_word nets words k (read names) = every (has_bit nets) names
is_word nets words k (pick bits) = every (has_word_bit words k) bits
is_word nets words k (negated a) = is_word nets words k a
is_word nets words k (opposite a) = is_word nets words k a
is_word nets words k (binary o a b) =
    is_word nets words k a && (is_word nets words k b && (has_free_sizes o || (width a == width b)))
is_word nets words k (reduced o a) = is_word nets words k a
is_word nets words k (choice c a b) =
    is_word nets words k c && (is_word nets words k a && (is_word nets words k b && (width a == width b)))
is_word nets words k empty = true
is_word nets words k (joined a b) = is_word nets words k a && is_word nets words k b
is_word nets words k (extended a n) = is_word nets words k a && nat_le (width a) n

abbrev pub names_word : List Tree → Driver → Bool
names_word words Input = true
names_word words Undriven = true
names_word words (WordOf w j) = nat_lt w (length words) && nat_lt j (width (word_at words w))
names_word words (Reg init w j) = nat_lt w (length words) && nat_lt j (width (word_at words w))

-- ---- nets

abbrev pub is_outside : Driver → Bool
is_outside Input = true
is_outside Undriven = false
is_outside (WordOf w j) = false
is_outside (Reg init w j) = false

abbrev pub is_input_side : Side → Bool
is_input_side inner = false
is_input_side is_input = true
is_input_side is_output = false

abbrev pub is_port : Dir → Bool
is_port Inner = false
is_port InputPort = true
is_port OutputPort = true

abbrev pub is_input_port : Dir → Bool
is_input_port Inner = false
is_input_port InputPort = true
is_input_port OutputPort = false

abbrev pub is_clock : List NetInfo → Option ℕ → Bool
is_clock nets None = true
is_clock nets (Some k) =
    nat_lt k (length nets) && ((width_of (net_at nets k) == 1) && is_input_port (net_at nets k).dir)

-- ---- the order of reading

-- all that a word reads has a rank below the top given, and no word of which it picks bits a higher top
abbrev pub is_ranked : (ℕ → ℕ) → (ℕ → ℕ) → (BitName → ℕ) → ℕ → Tree → Bool
is_ranked rank tops number top (const bits) = true
is_ranked rank tops number top (read names) = every (λ n. nat_lt (rank (number n)) top) names
is_ranked rank tops number top (pick bits) = every (λ (b : WordBit). nat_le (tops b.word) top) bits
is_ranked rank tops number top (negated a) = is_ranked rank tops number top a
is_ranked rank tops number top (opposite a) = is_ranked rank tops number top a
is_ranked rank tops number top (binary o a b) = is_ranked rank tops number top a && is_ranked rank tops number top b
is_ranked rank tops number top (reduced o a) = is_ranked rank tops number top a
is_ranked rank tops number top (choice c a b) =
    is_ranked rank tops number top c && (is_ranked rank tops number top a && is_ranked rank tops number top b)
is_ranked rank tops number top empty = true
is_ranked rank tops number top (joined a b) = is_ranked rank tops number top a && is_ranked rank tops number top b
is_ranked rank tops number top (extended a n) = is_ranked rank tops number top a

-- a bit that a word drives has at least the word's top for its rank
abbrev pub is_above : (ℕ → ℕ) → Driver → ℕ → Bool
is_above tops Input r = true
is_above tops Undriven r = true
is_above tops (WordOf w j) r = nat_le (tops w) r
is_above tops (Reg init w j) r = true

-- ---- the test, where each bit has a rank and each word a top

pub record Tests : Type 0 where
  pub names : Bool
  pub one_driver : Bool
  pub words_read : Bool
  pub drivers_named : Bool
  pub inputs : Bool
  pub ports_apart : Bool
  pub ports_are : Bool
  pub all_ports : Bool
  pub clocked : Bool
  pub words_ranked : Bool
  pub bits_ranked : Bool
  pub cost : Bool

-- each point of a net as a test, but for the order of reading, of words and of bits
abbrev pub tests_with : Bool → Bool → Parts → Tests
tests_with words bits n = record {
  names = apart (λ (a b : NetInfo). same_name a.name b.name) n.nets;
  one_driver = length n.drivers == bits_of n.nets;
  words_read = below (λ k. is_word n.nets n.words k (word_at n.words k)) (length n.words);
  drivers_named = every (names_word n.words) n.drivers;
  inputs = below (λ b. same_truth (is_outside (driver_at n b)) (is_input_side (at_bit inner (λ m p. m.dir) (nets_of n.nets) b))) (bits_of n.nets);
  ports_apart = apart (λ p q. p == q) n.ports;
  ports_are = every (λ k. nat_lt k (length n.nets) && is_port (net_at n.nets k).dir) n.ports;
  all_ports = below (λ k. not (is_port (net_at n.nets k).dir) || list_any (λ p. p == k) n.ports) (length n.nets);
  clocked = is_clock n.nets n.clock;
  words_ranked = words;
  bits_ranked = bits;
  cost = nat_le (least_cost n) n.cost && nat_le n.cost most_cost;
}

abbrev pub tests : (ℕ → ℕ) → (ℕ → ℕ) → Parts → Tests
tests rank tops n = tests_with
    (below (λ k. is_ranked rank tops (number_of n.nets) (tops k) (word_at n.words k)) (length n.words))
    (below (λ b. is_above tops (driver_at n b) (rank b)) (bits_of n.nets)) n

-- what bit b reads within a cycle has a lower rank
abbrev pub reads_below : (ℕ → ℕ) → Parts → ℕ → Bool
reads_below rank n b = every (λ r. nat_lt (rank r) (rank b)) (reads_now (source_of n.nets n.words (driver_at n b)))

abbrev pub all_hold : Tests → Bool
all_hold t =
    t.names && (t.one_driver && (t.words_read && (t.drivers_named && (t.inputs && (t.ports_apart && (t.ports_are
    && (t.all_ports && (t.clocked && (t.words_ranked && (t.bits_ranked && t.cost))))))))))

abbrev pub is_net : (ℕ → ℕ) → (ℕ → ℕ) → Parts → Bool
is_net rank tops n = all_hold (tests rank tops n)

-- the test where each bit has a rank and nothing is said of words
abbrev pub is_net_by_bits : (ℕ → ℕ) → Parts → Bool
is_net_by_bits rank n = all_hold (tests_with true (below (reads_below rank n) (bits_of n.nets)) n)
