-- What the examples compute with.
use Rattle.std.specs.Prelude.{ℕ, zero, suc, [], ◌∷◌, Bool, true, false, Some, None}
use Rattle.eq_net.specs.declared.types.NetInfo.{NetInfo}
use Rattle.eq_net.specs.declared.types.Dir.{Dir}
use Rattle.eq_net.specs.declared.types.Dir.TheVariants.{Inner, Input as InputPort, Output as OutputPort}
use Rattle.eq_net.specs.declared.types.Driver.TheVariants.{Input, Undriven, Expr}
use Rattle.eq_net.specs.Tree.{const}
use Rattle.eq_net.specs.Net.{Parts}
use Rattle.eq_match.specs.declared.types.Partner.{Partner}
use Rattle.eq_match.specs.NetPairs.{Pairing}

-- a net whose name has one byte
abbrev pub net : ℕ → ℕ → Dir → Bool → NetInfo
net byte left dir auto = record { name = byte ∷ []; left = left; right = 0; ranged = true; dir = dir; auto = auto }

-- input 0 of two bits, output 1, and inside: 2 of two bits, 3 of two bits of which one has no driver, 4 that a tool
-- named
abbrev pub sample : Parts
sample = record {
  nets = net 1 1 InputPort false ∷ net 2 0 OutputPort false ∷ net 3 1 Inner false ∷ net 4 1 Inner false ∷ net 5 0 Inner
      true ∷ [];
  words = const (false ∷ []) ∷ [];
  drivers = Input ∷ Input ∷ Expr 0 0 ∷ Expr 0 0 ∷ Expr 0 0 ∷ Expr 0 0 ∷ Undriven ∷ Expr 0 0 ∷ [];
  ports = 0 ∷ 1 ∷ [];
  clock = None;
  cost = 100;
}

abbrev pub plain : ℕ → Partner
plain h = record { net = h; inverted = false }

abbrev pub inverted : ℕ → Partner
inverted h = record { net = h; inverted = true }

-- each net with that of its number
abbrev pub straight : Pairing
straight k = Some (plain k)

-- the input with net 1 of gate, and net 2 with net 3, inverted
abbrev pub two_pairs : Pairing
two_pairs zero = Some (plain 1)
two_pairs (suc zero) = None
two_pairs (suc (suc zero)) = Some (inverted 3)
two_pairs (suc (suc (suc k))) = None
