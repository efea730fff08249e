-- Cited by proofs alone; nothing here has to be believed.
-- Fields make a part in one way at most.
use Rattle.std.specs.Prelude.{ℕ, List}
use Rattle.std.proofs.Props.{props}
use Rattle.eq_bits.specs.declared.node.Node.{Node}
use Rattle.eq_bits.specs.declared.node.Node.TheVariants.{Const, Input, Not, And, Xor, Mux, Buf, Reg}
use Rattle.eq_bits.specs.declared.part.Output.{Output}
use Rattle.eq_bits.specs.Node.{IsNode, NamesInput}
use Rattle.eq_bits.specs.Part.{MakePart}

pub IsNode-prop : (n m : ℕ) (node : Node) → IsProp (IsNode n m node)
IsNode-prop n m (Const b) = hlevel props
IsNode-prop n m (Input i) = hlevel props
IsNode-prop n m (Not a) = hlevel props
IsNode-prop n m (And a b) = hlevel props
IsNode-prop n m (Xor a b) = hlevel props
IsNode-prop n m (Mux s a b) = hlevel props
IsNode-prop n m (Buf a) = hlevel props
IsNode-prop n m (Reg next init) = hlevel props

pub NamesInput-prop : (n : ℕ) (node : Node) → IsProp (NamesInput n node)
NamesInput-prop n (Const b) = hlevel props
NamesInput-prop n (Input i) = hlevel props
NamesInput-prop n (Not a) = hlevel props
NamesInput-prop n (And a b) = hlevel props
NamesInput-prop n (Xor a b) = hlevel props
NamesInput-prop n (Mux s a b) = hlevel props
NamesInput-prop n (Buf a) = hlevel props
NamesInput-prop n (Reg next init) = hlevel props

pub MakePart-prop : (inputs : List (List ℕ)) (nodes : List Node) (outputs : List Output) →
    IsProp (MakePart inputs nodes outputs)
MakePart-prop inputs nodes outputs = hlevel (props, IsNode-prop, NamesInput-prop)
