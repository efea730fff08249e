-- The literals of all outputs are a clause as they stand.
use Rattle.std.proofs.Common.{◌≡◌, ℕ, zero, suc, ◌+◌, ◌*◌, ◌<◌, List, [], ◌∷◌, ◌++◌, arith}
use Rattle.std.specs.List.{AllByRecursion}
use Rattle.eq_proof.specs.Literal.{Literal, code_of}
use Rattle.eq_proof.specs.Clause.{IsClause}
use Rattle.eq_unroll.specs.Unrolling.{literal, ordered, output_literals}
use Rattle.eq_unroll.proofs.InOrder.{InOrder, clause_from, order_kept}

all_push : (P : Literal → Type 0) (ls : List Literal) (l : Literal) → AllByRecursion P ls → P l →
    AllByRecursion P (ls ++ l ∷ [])
all_push P [] l h p = (p, tt)
all_push P (m ∷ ms) l h p = (h.0, all_push P ms l h.1 p)

order_push : (ls : List Literal) (l : Literal) → InOrder ls → AllByRecursion (λ m. code_of m < code_of l) ls →
    InOrder (ls ++ l ∷ [])
order_push [] l h below = (tt, tt)
order_push (m ∷ ms) l h below = (all_push (λ x. code_of m < code_of x) ms l h.0 below.0, order_push ms l h.1 below.1)

all_below : (before n b : ℕ) → 2 * (before + n) < b → AllByRecursion (λ m. code_of m < b) (output_literals before n)
all_below before zero b lt = tt
all_below before (suc n) b lt = all_push (λ m. code_of m < b) (output_literals before n) (literal before n)
    (all_below before n b (omega arith)) (omega arith)

outputs_in_order : (before n : ℕ) → InOrder (output_literals before n)
outputs_in_order before zero = tt
outputs_in_order before (suc n) =
    order_push (output_literals before n) (literal before n) (outputs_in_order before n)
    (all_below before n (2 * (before + n + 1) + 0) (omega arith))

pub outputs_clause : (before n : ℕ) → IsClause (output_literals before n)
outputs_clause before n = clause_from (output_literals before n) (outputs_in_order before n)

pub outputs_ordered : (before n : ℕ) → ordered (output_literals before n) ≡ output_literals before n
outputs_ordered before n = order_kept (output_literals before n) (outputs_in_order before n)
