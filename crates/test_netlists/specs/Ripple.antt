-- A sum whose carries are a net of their own: each bit of it but the lowest reads the bit below.
use Rattle.std.specs.Prelude.{ℕ, zero, suc, ◌+◌, ◌-◌, ◌*◌, List, [], ◌∷◌, ◌++◌, Bool, false, nat_lt, None, if◌then◌else◌}
use Rattle.eq_net.specs.declared.types.NetInfo.{NetInfo}
use Rattle.eq_net.specs.declared.types.Dir.TheVariants.{Inner, Input as InputPort, Output as OutputPort}
use Rattle.eq_net.specs.declared.types.WordOp.{WordOp}
use Rattle.eq_net.specs.declared.types.WordOp.TheVariants as op
use Rattle.eq_net.specs.declared.types.Driver.{Driver}
use Rattle.eq_net.specs.declared.types.Driver.TheVariants.{Expr}
use Rattle.eq_net.specs.Tree.{Tree, const, read, binary}
use Rattle.eq_net.specs.Net.{Parts}
use Rattle.eq_net.specs.Decided.{is_net}
use Rattle.test_netlists.specs.Operators.{places, ranged, operation, inputs, driven}

-- bit i of a net
abbrev pub bit : ℕ → ℕ → Tree
bit net i = read (record { net = net; bit = i } ∷ [])

abbrev pub of_bits : WordOp → ℕ → ℕ → Tree
of_bits o net i = binary o (bit net i) (bit 1 i)

-- the carry into bit i + 1: `a[i] & b[i] | c[i] & (a[i] ^ b[i])`
abbrev pub passed : ℕ → Tree
passed i = binary op.And (bit 2 i) (of_bits op.Xor 0 i)

abbrev pub carry : ℕ → Tree
carry i = binary op.Or (of_bits op.And 0 i) (passed i)

-- no carry comes into bit 0. Then n carries
abbrev pub carries : ℕ → List Tree
carries zero = const (false ∷ []) ∷ []
carries (suc n) = carries n ++ carry n ∷ []

-- `a ^ b ^ c[w-1:0]`
abbrev pub sum_word : ℕ → Tree
sum_word w = binary op.Xor (operation w op.Xor) (read (places 2 w))

-- the lowest bits of the first n words
abbrev pub lowest : ℕ → List Driver
lowest zero = []
lowest (suc n) = lowest n ++ Expr n 0 ∷ []

abbrev pub nets : ℕ → List NetInfo
nets w =
    ranged (97 ∷ []) w InputPort ∷ ranged (98 ∷ []) w InputPort ∷ ranged (99 ∷ []) (w + 1) Inner
    ∷ ranged (121 ∷ []) w OutputPort ∷ []

abbrev pub words : ℕ → List Tree
words w = carries w ++ sum_word w ∷ []

abbrev pub drivers : ℕ → List Driver
drivers w = (inputs (2 * w) ++ lowest (w + 1)) ++ driven (w + 1) w

abbrev pub ripple : ℕ → Parts
ripple w = record {
  nets = nets w;
  words = words w;
  drivers = drivers w;
  ports = 0 ∷ 1 ∷ 3 ∷ [];
  clock = None;
  cost = 2000000;
}

-- inputs have rank 0, each carry a rank above the one below, and the sum the highest
abbrev pub rank : ℕ → ℕ → ℕ
rank w b = if nat_lt b (2 * w) then 0 else (if nat_lt b (3 * w + 1) then b - 2 * w + 1 else w + 2)

abbrev pub is_good : ℕ → Bool
is_good w = is_net (rank w) (λ k. k + 1) (ripple w)
