use Rattle.std.proofs.Common.{ℕ, List, Contains, sym, subst}
use Rattle.std.proofs.lemmas.Bool.Decides.{Decides-eqb}
use Rattle.std.proofs.lemmas.List.Sorted.{Contains-permutation, IsPermutation-sym}
use Rattle.std.proofs.lemmas.Map.Made.{AllPairs-from_IsDistinct}
use Rattle.std.proofs.lemmas.Result.{on_ok_weaker}
use Rattle.eq_cone.proofs.Collected.{sorted_ascend}
use Rattle.eq_cone.proofs.numbers.Numbers.sort.Goals as goal

pub invariant_of-self : goal.invariant_of-self
invariant_of-self c = AllPairs-from_IsDistinct Decides-eqb c.sort.new.self.keys c.sort.ensures.unique

pub returns-clause-ascending : goal.returns-clause-ascending
returns-clause-ascending c = on_ok_weaker c.sort.result
    (λ sorted. sorted_ascend c.sort.new.self.keys sorted c.sort.ensures.unique) c.sort.ensures.sorted

pub returns-clause-same : goal.returns-clause-same
returns-clause-same c = λ m. (
  λ h. Contains-permutation c.self.inside.keys.keys c.sort.new.self.keys m c.sort.ensures.reordered.0
      (subst (λ (l : List ℕ). Contains l m) (sym c.self.view_is) h),
  λ h. subst (λ (l : List ℕ). Contains l m) c.self.view_is
      (Contains-permutation c.sort.new.self.keys c.self.inside.keys.keys m
      (IsPermutation-sym c.self.inside.keys.keys c.sort.new.self.keys c.sort.ensures.reordered.0) h),
)
