-- A word of a net has what its evaluation asks.
use Rattle.std.proofs.Common.{ℕ, List}
use Rattle.eq_net.specs.declared.types.NetInfo.{NetInfo}
use Rattle.eq_net.specs.Tree.{Tree, const, read, pick, negated, opposite, binary, reduced, choice, empty, joined, extended}
use Rattle.eq_net.specs.Net.{IsWord}
use Rattle.eq_net.specs.inner.Sized.{IsSized}

pub sized : (nets : List NetInfo) (words : List Tree) (k : ℕ) (t : Tree) → IsWord nets words k t → IsSized nets t
sized nets words k (const bits) is = tt
sized nets words k (read names) is = is
sized nets words k (pick bits) is = tt
sized nets words k (negated a) is = sized nets words k a is
sized nets words k (opposite a) is = sized nets words k a is
sized nets words k (binary o a b) is = (sized nets words k a is.0, sized nets words k b is.1, is.2)
sized nets words k (reduced o a) is = sized nets words k a is
sized nets words k (choice c a b) is = (sized nets words k c is.0, sized nets words k a is.1, sized nets words k b is.2, is.3)
sized nets words k empty is = tt
sized nets words k (joined a b) is = (sized nets words k a is.0, sized nets words k b is.1)
sized nets words k (extended a n) is = (sized nets words k a is.0, is.1)
