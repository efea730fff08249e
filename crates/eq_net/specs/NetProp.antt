-- A net keeps its points in one way at most.
use Rattle.std.specs.Prelude.{ℕ, List}
use Rattle.std.proofs.Props.{props}
use Rattle.eq_net.specs.declared.types.NetInfo.{NetInfo}
use Rattle.eq_net.specs.declared.types.Driver.{Driver}
use Rattle.eq_net.specs.declared.types.Driver.TheVariants.{Input, Undriven, Expr as WordOf, Reg}
use Rattle.eq_net.specs.Tree.{Tree, const, read, pick, negated, opposite, binary, reduced, choice, empty, joined, extended}
use Rattle.eq_net.specs.Net.{IsWord, NamesWord, IsNet, Parts}

pub IsWord-prop : (nets : List NetInfo) (words : List Tree) (k : ℕ) (t : Tree) → IsProp (IsWord nets words k t)
IsWord-prop nets words k (const bits) = hlevel props
IsWord-prop nets words k (read names) = hlevel props
IsWord-prop nets words k (pick bits) = hlevel props
IsWord-prop nets words k (negated a) = IsWord-prop nets words k a
IsWord-prop nets words k (opposite a) = IsWord-prop nets words k a
IsWord-prop nets words k (binary o a b) = hlevel (props, IsWord-prop nets words k a, IsWord-prop nets words k b)
IsWord-prop nets words k (reduced o a) = IsWord-prop nets words k a
IsWord-prop nets words k (choice c a b) = hlevel (props, IsWord-prop nets words k c, IsWord-prop nets words k a, IsWord-prop nets words k b)
IsWord-prop nets words k empty = hlevel props
IsWord-prop nets words k (joined a b) = hlevel (props, IsWord-prop nets words k a, IsWord-prop nets words k b)
IsWord-prop nets words k (extended a n) = hlevel (props, IsWord-prop nets words k a)

pub NamesWord-prop : (words : List Tree) (d : Driver) → IsProp (NamesWord words d)
NamesWord-prop words Input = hlevel props
NamesWord-prop words Undriven = hlevel props
NamesWord-prop words (WordOf w j) = hlevel props
NamesWord-prop words (Reg init w j) = hlevel props

pub IsNet-prop : (n : Parts) → IsProp (IsNet n)
IsNet-prop n = hlevel (props, IsWord-prop, NamesWord-prop)
