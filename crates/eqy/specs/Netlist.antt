-- The netlist of a design of the first form: a net of one bit for each port, and one word for the assignment.
use Rattle.std.specs.Prelude.{ℕ, zero, suc, ◌+◌, List, [], ◌∷◌, None, false, length, map}
use Rattle.eq_first.specs.declared.module.Direction.{Direction}
use Rattle.eq_first.specs.declared.module.Direction.TheVariants.{Input, Output}
use Rattle.eq_first.specs.declared.module.Module.{Module}
use Rattle.eq_first.specs.declared.module.Port.{Port}
use Rattle.eq_first.specs.declared.module.Expr.{Expr}
use Rattle.eq_first.specs.declared.module.Expr.TheOpen.{Expr-F, Port as Named, Not, And, Xor, Or}
use Rattle.eq_first.specs.declared.module.Expr.TheFolds.{fold-Expr}
use Rattle.eq_net.specs.Automatic.{is_automatic}
use Rattle.eq_net.specs.declared.types.Dir.{Dir}
use Rattle.eq_net.specs.declared.types.Dir.TheVariants.{Input as InputPort, Output as OutputPort}
use Rattle.eq_net.specs.declared.types.Driver.{Driver}
use Rattle.eq_net.specs.declared.types.Driver.TheVariants.{Input as Outside, Expr as WordBit}
use Rattle.eq_net.specs.declared.types.NetInfo.{NetInfo}
use Rattle.eq_net.specs.declared.types.WordOp.TheVariants.{And as AndOp, Or as OrOp, Xor as XorOp}
use Rattle.eq_net.specs.Meaning.{cost_of}
use Rattle.eq_net.specs.Net.{Parts}
use Rattle.eq_net.specs.Tree.{Tree, read, negated, binary}

abbrev pub dir_of : Direction → Dir
dir_of Input = InputPort
dir_of Output = OutputPort

abbrev pub net_of : Port → NetInfo
net_of p = record { name = p.name; left = 0; right = 0; ranged = false; dir = dir_of p.direction; auto = is_automatic p.name }

abbrev pub driven_by : Direction → Driver
driven_by Input = Outside
driven_by Output = WordBit 0 0

-- an input comes from outside, and the output is the one bit of the one word
abbrev pub driver_of : Port → Driver
driver_of p = driven_by p.direction

-- the one bit of port n
abbrev pub reads_port : ℕ → Tree
reads_port n = read (record { net = n; bit = 0 } ∷ [])

abbrev pub word_layer : Expr-F Tree → Tree
word_layer (Named n) = reads_port n
word_layer (Not a) = negated a
word_layer (And a b) = binary AndOp a b
word_layer (Xor a b) = binary XorOp a b
word_layer (Or a b) = binary OrOp a b

-- the word of an expression
abbrev pub word_of : Expr → Tree
word_of = fold-Expr Tree word_layer

-- the numbers from the first on, as many as there are
abbrev pub numbers_from : ℕ → ℕ → List ℕ
numbers_from first zero = []
numbers_from first (suc n) = first ∷ numbers_from (suc first) n

-- the netlist: the ports are its nets, in the order of the header
abbrev pub first_parts : Module → Parts
first_parts m = record {
  nets = map net_of m.ports;
  words = word_of m.expr ∷ [];
  drivers = map driver_of m.ports;
  ports = numbers_from 0 (length m.ports);
  clock = None;
  cost = (2 + length m.ports) + cost_of (word_of m.expr);
}
