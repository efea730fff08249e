-- Pairs that go by a line.
use Rattle.std.proofs.Common.{◌≡◌, ℕ, ◌<◌, List, Option, Some, None, refl, inl, inr, arith}
use Rattle.eq_net.specs.Net.{Parts}
use Rattle.eq_match.specs.declared.types.Partner.{Partner}
use Rattle.eq_match.specs.NetPairs.{IsPartnerNamed, Loses}
use Rattle.eq_match.specs.inner.Tables.{IsTable, pairing_of}
use Rattle.eq_match.proofs.Linked.{within}

-- a partner is a net of gate
pub partner_within : (n m : ℕ) (ps : List (Option Partner)) (os : List (Option ℕ)) → IsTable n m ps os → (k : ℕ)
    (p : Partner) → pairing_of ps k ≡ Some p → p.net < m
partner_within n m ps os is k p at =
    let lt = within os p.net k (is.linked.there k p at) in
    let size = is.gate_size in
    omega arith

some_named : (gate : Parts) (pattern : List ℕ) (o : Option Partner) → IsPartnerNamed gate pattern o → (p : Partner) ×
    (o ≡ Some p)
some_named gate pattern None h = absurd h
some_named gate pattern (Some p) h = (p, refl)

-- where no net of gold is left, all pairs with such partners are gone
pub all_lost : (n m : ℕ) (ps qs : List (Option Partner)) (os : List (Option ℕ)) (gate : Parts) (pattern : List ℕ) →
    IsTable n m ps os → Loses (λ i. (i < n) × IsPartnerNamed gate pattern (pairing_of ps i)) (pairing_of ps)
    (pairing_of qs) →
    Loses (λ i. IsPartnerNamed gate pattern (pairing_of ps i)) (pairing_of ps) (pairing_of qs)
all_lost n m ps qs os gate pattern is loses k = elim (loses k) [
  | inl gone ↦ inl (gone.0.1, gone.1)
  | inr stays ↦ inr (
    λ h.
        let p = some_named gate pattern (pairing_of ps k) h in
        let lt = within ps k p.0 p.1 in
        let size = is.gold_size in
        stays.0 (omega arith, h),
    stays.1,
  )
]
