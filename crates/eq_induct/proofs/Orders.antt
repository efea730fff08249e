-- Where a query stands in the order.
use Rattle.std.proofs.Common.{◌≡◌, ℕ, zero, suc, ◌+◌, ◌*◌, ◌<◌, arith, refl, ap}
use Rattle.eq_unroll.specs.declared.query.Query.{Query}
use Rattle.eq_unroll.specs.declared.query.Query.TheVariants.{Base, Step}
use Rattle.eq_induct.specs.Attempts.{cycles_at, query_at}

-- at an even place stands Base
pub base_place : (i j : ℕ) → i ≡ 2 * j → (query_at i ≡ Base) × (cycles_at i ≡ suc j)
base_place zero zero e = (refl, refl)
base_place zero (suc j) e = absurd (omega arith)
base_place (suc zero) j e = absurd (omega arith)
base_place (suc (suc i)) zero e = absurd (omega arith)
base_place (suc (suc i)) (suc j) e = let h = base_place i j (omega arith) in (h.0, ap suc h.1)

-- and behind it Step
pub step_place : (i j : ℕ) → i ≡ 2 * j + 1 → (query_at i ≡ Step) × (cycles_at i ≡ suc j)
step_place zero j e = absurd (omega arith)
step_place (suc zero) zero e = (refl, refl)
step_place (suc zero) (suc j) e = absurd (omega arith)
step_place (suc (suc i)) zero e = absurd (omega arith)
step_place (suc (suc i)) (suc j) e = let h = step_place i j (omega arith) in (h.0, ap suc h.1)

-- how many places a query stands behind the Base of its number of cycles
abbrev pub offset : Query → ℕ
offset Base = 0
offset Step = 1

-- the place of a query in the order
pub place_of : (i : ℕ) → i + 2 ≡ 2 * cycles_at i + offset (query_at i)
place_of zero = refl
place_of (suc zero) = refl
place_of (suc (suc i)) = let h = place_of i in omega arith

-- each query has a cycle at least
pub some_cycles : (i : ℕ) → 0 < cycles_at i
some_cycles zero = omega arith
some_cycles (suc zero) = omega arith
some_cycles (suc (suc i)) = omega arith
