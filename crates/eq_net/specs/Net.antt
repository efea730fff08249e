-- What a net is, and the design that it stands for.
use Rattle.std.specs.Prelude.{◌≡◌, ◌≢◌, ◌==◌, IsTrue, ℕ, ◌+◌, ◌<◌, ◌≤◌, List, [], false, map, Option, None, slice_index_or, length, sum_by, All, AllPairs, ◌↔◌}
use Rattle.std.specs.List.{list_any}
use Rattle.std.specs.Option.{ForSome, option_map}
use Rattle.eq_model.specs.Nets.{NetName, Net, total_width, first_bit, at_bit, inner, is_input}
use Rattle.eq_model.specs.Run.{Design}
use Rattle.eq_model.specs.System.{Expr, Driver as Source, System, input, undriven, equation, register, IsLoopFree}
use Rattle.eq_names.specs.declared.BitName.{BitName}
use Rattle.eq_net.specs.declared.types.NetInfo.{NetInfo}
use Rattle.eq_net.specs.declared.types.Word.{Word}
use Rattle.eq_net.specs.declared.types.WordBit.{WordBit}
use Rattle.eq_net.specs.declared.types.Dir.TheVariants.{Inner, Input as InputPort}
use Rattle.eq_net.specs.declared.types.Driver.{Driver}
use Rattle.eq_net.specs.declared.types.Driver.TheVariants.{Input, Undriven, Expr as WordOf, Reg}
use Rattle.eq_net.specs.Nets.{net_of, width_of}
use Rattle.eq_net.specs.Operators.{has_free_sizes}
use Rattle.eq_net.specs.Tree.{Tree, const, read, pick, negated, opposite, binary, reduced, choice, empty, joined, extended, trees_of}
use Rattle.eq_net.specs.Meaning.{width, values_of, all_reads_of, all_copies_of, cost_of}

-- The bits of all nets stand in one row, net by net and from position 0 up.

abbrev pub nets_of : List NetInfo → List Net
nets_of nets = map net_of nets

abbrev pub bits_of : List NetInfo → ℕ
bits_of nets = total_width (nets_of nets)

-- where the bits of net k begin
abbrev pub offset : List NetInfo → ℕ → ℕ
offset nets k = first_bit (nets_of nets) k

abbrev pub number_of : List NetInfo → BitName → ℕ
number_of nets b = offset nets b.net + b.bit

abbrev pub no_net : NetInfo
no_net = record { name = []; left = 0; right = 0; ranged = false; dir = Inner; auto = false }

abbrev pub net_at : List NetInfo → ℕ → NetInfo
net_at nets k = slice_index_or nets k no_net

abbrev pub name_at : List NetInfo → ℕ → NetName
name_at nets k = (net_at nets k).name

abbrev pub word_at : List Tree → ℕ → Tree
word_at words k = slice_index_or words k empty

-- what a netlist has, its words without their places in memory
pub record Parts : Type 0 where
  pub nets : List NetInfo
  pub words : List Tree
  pub drivers : List Driver
  pub ports : List ℕ
  pub clock : Option ℕ
  pub cost : ℕ

abbrev pub parts : List NetInfo → List Word → List Driver → List ℕ → Option ℕ → ℕ → Parts
parts nets words drivers ports clock cost = record { nets = nets; words = trees_of words; drivers = drivers; ports = ports; clock = clock; cost = cost }

abbrev pub driver_at : Parts → ℕ → Driver
driver_at n b = slice_index_or n.drivers b Undriven

-- ---- the design

-- bit j of a word as an equation: the bits that it reads, and its value
abbrev pub equation_of : List NetInfo → List Tree → ℕ → ℕ → Expr
equation_of nets words w j = record { reads = all_reads_of (number_of nets) words w j; value = λ v. values_of v (number_of nets) words w j }

abbrev pub source_of : List NetInfo → List Tree → Driver → Source
source_of nets words Input = input
source_of nets words Undriven = undriven
source_of nets words (WordOf w j) = equation (equation_of nets words w j)
source_of nets words (Reg init w j) = register init (equation_of nets words w j)

-- the bit of which a bit is a plain copy
abbrev pub copy_of : List NetInfo → List Tree → Driver → Option ℕ
copy_of nets words (WordOf w j) = all_copies_of (number_of nets) words w j
copy_of nets words _ = None

abbrev pub system_of : Parts → System
system_of n = record { bits = bits_of n.nets; driver = λ b. source_of n.nets n.words (driver_at n b) }

abbrev pub design_of : Parts → Design
design_of n = record {
  system = system_of n;
  nets = nets_of n.nets;
  ports = map (name_at n.nets) n.ports;
  clock = option_map (name_at n.nets) n.clock;
  copy_of = λ b. copy_of n.nets n.words (driver_at n b);
}

-- ---- what a net keeps

-- the bit is there
abbrev pub HasBit : List NetInfo → BitName → Type 0
HasBit nets b = (b.net < length nets) × (b.bit < width_of (net_at nets b.net))

-- the bit of a word before word k
abbrev pub HasWordBit : List Tree → ℕ → WordBit → Type 0
HasWordBit words k b = (b.word < k) × (b.bit < width (word_at words b.word))

-- word k reads bits that are there, picks bits of words before it, and the sizes of its operands agree
abbrev pub IsWord : List NetInfo → List Tree → ℕ → Tree → Type 0
IsWord nets words k (const bits) = Unit {0}
IsWord nets words k (read names) = All (HasBit nets) names
IsWord nets words k (pick bits) = All (HasWordBit words k) bits
IsWord nets words k (negated a) = IsWord nets words k a
IsWord nets words k (opposite a) = IsWord nets words k a
IsWord nets words k (binary o a b) = IsWord nets words k a × IsWord nets words k b × (has_free_sizes o ≡ false → width a ≡ width b)
IsWord nets words k (reduced o a) = IsWord nets words k a
IsWord nets words k (choice c a b) = IsWord nets words k c × IsWord nets words k a × IsWord nets words k b × (width a ≡ width b)
IsWord nets words k empty = Unit {0}
IsWord nets words k (joined a b) = IsWord nets words k a × IsWord nets words k b
IsWord nets words k (extended a n) = IsWord nets words k a × (width a ≤ n)

-- each word is one over those before it
abbrev pub AreWords : List NetInfo → List Tree → Type 0
AreWords nets words = (k : ℕ) → k < length words → IsWord nets words k (word_at words k)

-- the driver names a bit of a word that is there
abbrev pub NamesWord : List Tree → Driver → Type 0
NamesWord words Input = Unit {0}
NamesWord words Undriven = Unit {0}
NamesWord words (WordOf w j) = (w < length words) × (j < width (word_at words w))
NamesWord words (Reg init w j) = (w < length words) × (j < width (word_at words w))

-- the net is a port
abbrev pub IsPortNet : List NetInfo → ℕ → Type 0
IsPortNet nets k = (k < length nets) × ((net_at nets k).dir ≢ Inner)

-- the net is a port of one bit that comes from outside
abbrev pub IsClock : List NetInfo → ℕ → Type 0
IsClock nets k = (k < length nets) × (width_of (net_at nets k) ≡ 1) × ((net_at nets k).dir ≡ InputPort)

-- bit b comes from outside, and bit b is one of an input
abbrev pub IsOutside : Parts → ℕ → Type 0
IsOutside n b = driver_at n b ≡ Input

abbrev pub IsInputBit : Parts → ℕ → Type 0
IsInputBit n b = at_bit inner (λ m p. m.dir) (nets_of n.nets) b ≡ is_input

-- the most that a design may cost
abbrev pub most_cost : ℕ
most_cost = 2000000

-- 2, one for each bit, and the costs of the words
abbrev pub least_cost : Parts → ℕ
least_cost n = (2 + bits_of n.nets) + sum_by cost_of n.words

pub record IsNet (n : Parts) : Type 0 where
  pub names : AllPairs (λ a b. a.name ≢ b.name) n.nets
  pub one_driver : length n.drivers ≡ bits_of n.nets
  pub words_read : AreWords n.nets n.words
  pub drivers_named : All (NamesWord n.words) n.drivers
  pub inputs : (b : ℕ) → b < bits_of n.nets → IsOutside n b ↔ IsInputBit n b
  pub ports_apart : AllPairs (λ p q. p ≢ q) n.ports
  pub ports_are : All (IsPortNet n.nets) n.ports
  pub all_ports : (k : ℕ) → IsPortNet n.nets k → IsTrue (list_any (λ p. p == k) n.ports)
  pub clocked : ForSome n.clock (IsClock n.nets)
  pub loop_free : IsLoopFree (system_of n)
  pub covered : least_cost n ≤ n.cost
  pub limited : n.cost ≤ most_cost
