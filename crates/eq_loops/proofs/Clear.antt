-- Where all edges that lead to a node with a rank begin at one, and no edge of b leads to one, no edges lead from b to itself.
use Rattle.std.proofs.Common.{◌≡◌, ℕ, zero, suc, ◌+◌, ◌<◌, ◌≤◌, List, length, slice_index, arith, sym, subst, below_more}
use Rattle.eq_reads.specs.declared.graph.Edge.{Edge}
use Rattle.eq_reads.specs.Graph.{Joins}
use Rattle.eq_loops.specs.inner.Back.{AreClear, AreClosed, HasNoEntry, IsClear, LeadBack, Passes}

joined : (edges : List Edge) (ranks : List ℕ) (a c : ℕ) → AreClosed edges ranks (length edges) → Joins edges a c →
    0 < slice_index ranks c → 0 < slice_index ranks a
joined edges ranks a c closed j some =
    subst (λ (u : ℕ). 0 < slice_index ranks u) j.starts
    (closed j.edge j.there (subst (λ (u : ℕ). 0 < slice_index ranks u) (sym j.ends) some))

passed : (edges : List Edge) (ranks : List ℕ) (n a b : ℕ) → AreClosed edges ranks (length edges) → Passes edges n a b →
    0 < slice_index ranks b → 0 < slice_index ranks a
passed edges ranks zero a b closed is some = subst (λ (u : ℕ). 0 < slice_index ranks u) (sym is) some
passed edges ranks (suc n) a b closed (c, j, way) some = joined edges ranks a c closed j (passed edges ranks n c b closed way some)

-- no edges lead from b to itself
pub no_round : (edges : List Edge) (ranks vias : List ℕ) (b : ℕ) → LeadBack edges b ranks vias →
    AreClosed edges ranks (length edges) → HasNoEntry edges ranks b → IsClear edges b
no_round edges ranks vias b back closed none n (c, j, way) =
    let begins = back.begins in
    let some = passed edges ranks n c b closed way (omega arith) in
    let zero_at : slice_index ranks c ≡ 0 = subst (λ (u : ℕ). slice_index ranks u ≡ 0) j.ends (none j.edge j.there j.starts) in
    absurd (omega arith)

-- one more node is clear
pub clear_more : (edges : List Edge) (n : ℕ) → AreClear edges n → IsClear edges n → AreClear edges (n + 1)
clear_more edges n clear one b lt = below_more (λ (k : ℕ). IsClear edges k) n clear one b lt

pub clear_upto : (edges : List Edge) (m n : ℕ) → n ≤ m → AreClear edges m → AreClear edges n
clear_upto edges m n le clear b lt = clear b (omega arith)
