-- Words that read their own bits: carries in one net, in two that read one another, and a sum of a net with itself.
use Rattle.std.specs.Prelude.{ℕ, ◌+◌, ◌-◌, ◌*◌, List, [], ◌∷◌, ◌++◌, Bool, false, nat_lt, None, if◌then◌else◌}
use Rattle.eq_net.specs.declared.types.NetInfo.{NetInfo}
use Rattle.eq_net.specs.declared.types.Dir.TheVariants.{Inner, Input as InputPort}
use Rattle.eq_net.specs.declared.types.WordOp.TheVariants as op
use Rattle.eq_net.specs.declared.types.Driver.{Driver}
use Rattle.eq_net.specs.Tree.{Tree, const, read, binary}
use Rattle.eq_net.specs.Net.{Parts}
use Rattle.eq_net.specs.Decided.{is_net_by_bits}
use Rattle.test_netlists.specs.Operators.{places, ranged, operation, inputs, driven}

-- `c[w-1:0] & (a ^ b)`, of the net with a number
abbrev pub passed : ℕ → ℕ → Tree
passed net w = binary op.And (read (places net w)) (operation w op.Xor)

-- `(a & b) | (c[w-1:0] & (a ^ b))`
abbrev pub carries : ℕ → Tree
carries w = binary op.Or (operation w op.And) (passed 2 w)

-- `(a & b) | p`
abbrev pub with_passed : ℕ → Tree
with_passed w = binary op.Or (operation w op.And) (read (places 4 w))

-- `t[w-1:0] + a`
abbrev pub doubled : ℕ → Tree
doubled w = binary op.Add (read (places 5 w)) (read (places 0 w))

abbrev pub words : ℕ → List Tree
words w = const (false ∷ []) ∷ carries w ∷ passed 3 w ∷ with_passed w ∷ doubled w ∷ []

abbrev pub nets : ℕ → List NetInfo
nets w =
    ranged (97 ∷ []) w InputPort ∷ ranged (98 ∷ []) w InputPort ∷ ranged (99 ∷ []) (w + 1) Inner
    ∷ ranged (100 ∷ []) (w + 1) Inner ∷ ranged (112 ∷ []) w Inner ∷ ranged (116 ∷ []) (w + 1) Inner ∷ []

-- bit 0 of c, d and t is 0
abbrev pub drivers : ℕ → List Driver
drivers w =
    ((((((inputs (2 * w) ++ driven 0 1) ++ driven 1 w) ++ driven 0 1) ++ driven 3 w) ++ driven 2 w) ++ driven 0 1)
    ++ driven 4 w

abbrev pub vectors : ℕ → Parts
vectors w = record {
  nets = nets w;
  words = words w;
  drivers = drivers w;
  ports = 0 ∷ 1 ∷ [];
  clock = None;
  cost = 2000000;
}

-- inputs have rank 0, bit i of c, d and t has 2 i + 1, and bit i of p has 2 i + 2
abbrev pub rank : ℕ → ℕ → ℕ
rank w b =
    if nat_lt b (2 * w) then 0
    else (if nat_lt b (3 * w + 1) then 2 * (b - 2 * w) + 1
    else (if nat_lt b (4 * w + 2) then 2 * (b - (3 * w + 1)) + 1
    else (if nat_lt b (5 * w + 2) then 2 * (b - (4 * w + 2)) + 2
    else 2 * (b - (5 * w + 2)) + 1)))

abbrev pub is_good : ℕ → Bool
is_good w = is_net_by_bits (rank w) (vectors w)
