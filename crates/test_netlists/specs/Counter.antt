-- A counter of two bits that counts while its input is 1, as nodes.
use Rattle.std.specs.Prelude.{List, [], ◌∷◌, false}
use Rattle.eq_bits.specs.declared.node.Node.{Node}
use Rattle.eq_bits.specs.declared.node.Node.TheVariants.{Const, Input, Not, And, Xor, Mux, Buf, Reg}

abbrev pub counter_nodes : List Node
counter_nodes =
    Reg 3 false ∷ Reg 5 false ∷ Input 0 ∷ Xor 0 2 ∷ And 0 2 ∷ Xor 1 4 ∷ Not 0 ∷ And 1 6 ∷ Const false ∷ Mux 2 1 0 ∷ Buf 9 ∷ []
