-- Cited by proofs alone; nothing here has to be believed.
-- The graph of a walk against the reads. Its nodes are the bits that are read, by their numbers, behind them the positions, of
-- which leaders stand for partitions, and behind these the inner nodes of words.
use Rattle.std.specs.Prelude.{◌≡◌, ◌≢◌, ℕ, ◌+◌, ◌<◌, ◌≤◌, ◌⊎◌, Bool, true, false, List, length}
use Rattle.eq_model.specs.Frames.{values}
use Rattle.eq_model.specs.System.{ReadsEver}
use Rattle.eq_net.specs.declared.types.Driver.{Driver}
use Rattle.eq_net.specs.declared.types.Driver.TheVariants.{Input, Undriven, Expr as WordOf, Reg}
use Rattle.eq_net.specs.Net.{HasBit, Parts, bits_of, driver_at, system_of}
use Rattle.eq_match.specs.declared.types.Pair.{Pair}
use Rattle.eq_match.specs.Groups.{is_held}
use Rattle.eq_match.specs.Pairs.{pair_at}
use Rattle.eq_match.specs.Matched.{gold_bit}
use Rattle.eq_reads.specs.declared.graph.Edge.{Edge}
use Rattle.eq_reads.specs.Graph.{AreBetween, Joins, Leads}
use Rattle.eq_reads.specs.inner.Chains.{Chain}
use Rattle.eq_reads.specs.Words.{number_at, picked_node}

-- a driver's bit of a word has this node
abbrev pub IsWordBit : List ℕ → List ℕ → Driver → ℕ → Type 0
IsWordBit places row Input x = ⊥
IsWordBit places row Undriven x = ⊥
IsWordBit places row (WordOf w j) x = x ≡ picked_node places row (record { word = w; bit = j })
IsWordBit places row (Reg init w j) x = x ≡ picked_node places row (record { word = w; bit = j })

-- no pair has the bit
abbrev pub Unpaired : Parts → List Pair → ℕ → Type 0
Unpaired gold pairs b = (i : ℕ) → i < length pairs → gold_bit gold pairs i ≢ b

-- the node of the partition of position i
abbrev pub part_node : Parts → List ℕ → ℕ → ℕ
part_node gold leaders i = bits_of gold.nets + number_at leaders i

-- a partition leads to what its outputs read
pub record PartVisits (gold : Parts) (pairs : List Pair) (leaders : List ℕ) (a b : ℕ) : Type 0 where
  pub output : ℕ
  pub there : output < length pairs
  pub held : is_held pairs output ≡ true
  pub is : a ≡ part_node gold leaders output
  pub reads : ReadsEver (system_of gold) (gold_bit gold pairs output) b

-- a read output leads to its partition
pub record OutputVisits (gold : Parts) (pairs : List Pair) (leaders : List ℕ) (a b : ℕ) : Type 0 where
  pub output : ℕ
  pub there : output < length pairs
  pub held : is_held pairs output ≡ true
  pub is : a ≡ gold_bit gold pairs output
  pub part : b ≡ part_node gold leaders output

-- a read bit that is in no pair leads to what it reads
pub record BitVisits (gold : Parts) (pairs : List Pair) (a b : ℕ) : Type 0 where
  pub there : a < bits_of gold.nets
  pub unpaired : Unpaired gold pairs a
  pub reads : ReadsEver (system_of gold) a b

abbrev pub Visits : Parts → List Pair → List ℕ → ℕ → ℕ → Type 0
Visits gold pairs leaders a b = PartVisits gold pairs leaders a b ⊎ (OutputVisits gold pairs leaders a b ⊎ BitVisits gold pairs a b)

-- the pairs have bits of gold, no two the same, and the leaders are positions
pub record AreLed (gold : Parts) (pairs : List Pair) (leaders : List ℕ) : Type 0 where
  pub there : (i : ℕ) → i < length pairs → HasBit gold.nets (pair_at pairs i).gold
  pub apart : (i j : ℕ) → i < length pairs → j < length pairs → gold_bit gold pairs i ≡ gold_bit gold pairs j → i ≡ j
  pub count : length leaders ≡ length pairs
  pub led : (i : ℕ) → i < length pairs → number_at leaders i < length pairs

-- the number of the bits and positions, and so that of the node behind theirs, which leads to nothing
abbrev pub outer : Parts → List Pair → ℕ
outer gold pairs = bits_of gold.nets + length pairs

-- through inner nodes the edges lead from bits and partitions to what these visit
pub record AreVisits (gold : Parts) (pairs : List Pair) (leaders : List ℕ) (edges : List Edge) (nodes : ℕ) : Type 0 where
  pub room : outer gold pairs ≤ nodes
  pub between : AreBetween nodes edges
  pub there : (a b : ℕ) → Visits gold pairs leaders a b → (x : ℕ) × Joins edges a x × Leads edges (outer gold pairs) x b
  pub only : (a x b : ℕ) → a < outer gold pairs → Joins edges a x → Leads edges (outer gold pairs) x b → Visits gold pairs leaders a b

-- the nodes of partitions that have an output of which the test says yes
pub record IsRoot (gold : Parts) (pairs : List Pair) (leaders : List ℕ) (hits : ℕ → Bool) (x : ℕ) : Type 0 where
  pub output : ℕ
  pub there : output < length pairs
  pub held : is_held pairs output ≡ true
  pub hit : hits output ≡ true
  pub is : x ≡ part_node gold leaders output

-- the edges of a pair: none for inputs
abbrev pub OneVisits : Bool → ℕ → ℕ → Driver → List ℕ → List ℕ → ℕ → ℕ → Type 0
OneVisits input part bit driver places row a b = (input ≡ false) ×
    (((a ≡ part) × IsWordBit places row driver b) ⊎ ((a ≡ bit) × (b ≡ part)))

-- the edges of the first k pairs
pub record PairsVisit (gold : Parts) (pairs : List Pair) (leaders places row : List ℕ) (k a b : ℕ) : Type 0 where
  pub pair : ℕ
  pub before : pair < k
  pub visits : OneVisits (pair_at pairs pair).input (part_node gold leaders pair) (gold_bit gold pairs pair)
      (driver_at gold (gold_bit gold pairs pair)) places row a b

-- of the first k bits those of which the test says no lead to what drives them
pub record FreeVisits (gold : Parts) (paired : ℕ → Bool) (places row : List ℕ) (k a b : ℕ) : Type 0 where
  pub before : a < k
  pub free : paired a ≡ false
  pub driven : IsWordBit places row (driver_at gold a) b

-- the edges of all pairs and of the bits of which the test says no
abbrev pub DrawnVisits : Parts → List Pair → List ℕ → (ℕ → Bool) → List ℕ → List ℕ → ℕ → ℕ → Type 0
DrawnVisits gold pairs leaders paired places row a b = PairsVisit gold pairs leaders places row (length pairs) a b ⊎
    FreeVisits gold paired places row (bits_of gold.nets) a b

-- a chain of edges leads from such a node to this one
pub record IsWalked (gold : Parts) (pairs : List Pair) (leaders : List ℕ)
    (hits : ℕ → Bool) (edges : List Edge) (x : ℕ) : Type 0 where
  pub root : ℕ
  pub root_is : IsRoot gold pairs leaders hits root
  pub steps : ℕ
  pub chain : Chain (Joins edges) steps root x

-- position i is held, and both walks marked its partition
abbrev pub IsPassed : Parts → List Pair → List ℕ → List Bool → List Bool → ℕ → Type 0
IsPassed gold pairs leaders before behind i = (is_held pairs i ≡ true) ×
    ((values before (part_node gold leaders i) ≡ true) × (values behind (part_node gold leaders i) ≡ true))
