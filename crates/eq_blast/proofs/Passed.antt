-- Passes over the plan: one that makes nothing leaves nothing to make.
use Rattle.std.proofs.Common.{◌≡◌, ℕ, zero, suc, ◌<◌, ◌+◌, List, [], ◌∷◌, true, Option, Some, None, length, refl, arith, ◌⊎◌, inl, inr}
use Rattle.std.proofs.lemmas.List.Sums.{sum_by-cons}
use Rattle.eq_bits.specs.declared.node.Node.{Node}
use Rattle.eq_blast.specs.inner.Sorting.{IsClosedTo, IsGrounded, IsPassed, IsPlacing, is_made, is_there, one_if_open, open_count}

opened : (p : Option ℕ) (ps : List (Option ℕ)) → open_count (p ∷ ps) ≡ one_if_open p + open_count ps
opened p ps = sum_by-cons one_if_open p ps

made_is_none : (p : Option ℕ) → is_there p ≡ true → one_if_open p ≡ 0
made_is_none None e = absurd (cc)
made_is_none (Some k) e = refl

none_is_made : (p : Option ℕ) → one_if_open p ≡ 0 → is_there p ≡ true
none_is_made None e = absurd (omega arith)
none_is_made (Some k) e = refl

-- where each node is made none is open, and the other way round
pub none_open : (ps : List (Option ℕ)) → ((m : ℕ) → m < length ps → is_made ps m ≡ true) → open_count ps ≡ 0
none_open [] all = refl
none_open (p ∷ ps) all =
    let rest = none_open ps (λ m lt. all (suc m) (omega arith)) in
    let first = made_is_none p (all zero (omega arith)) in
    let e = opened p ps in
    omega arith

pub all_made : (ps : List (Option ℕ)) → open_count ps ≡ 0 → (m : ℕ) → m < length ps → is_made ps m ≡ true
all_made [] none m lt = absurd (omega arith)
all_made (p ∷ ps) none zero lt = none_is_made p (let e = opened p ps in omega arith)
all_made (p ∷ ps) none (suc m) lt = all_made ps (let e = opened p ps in omega arith) m (omega arith)

module _ (plan : List Node) where
  -- a pass over all nodes of a plan that can be made makes one where one is left
  pub passed_all : (old new : List (Option ℕ)) (nodes : List Node) (before after : ℕ) → IsGrounded plan →
      IsPlacing plan old nodes before → IsPassed plan old new before after (length plan) → 0 < before → after < before
  passed_all old new nodes before after grounded placing passed some = go passed.moved
    where
      go : (after < before) ⊎ ((new ≡ old) × IsClosedTo (length plan) plan (is_made old)) → after < before
      go (inl less) = less
      go (inr stuck) = absurd (
          let all = grounded (is_made old) stuck.1 in
          let none = none_open old (λ m lt. all m (let e = placing.count in omega arith)) in
          let e = placing.still in
          omega arith)
