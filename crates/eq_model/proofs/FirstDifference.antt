-- A partition's first difference: the last cycle of the shortest run that has one.
use Rattle.std.proofs.Common.{◌≡◌, ℕ, suc, ◌<◌, ◌≤◌, ◌-◌, Bool, arith, subst, ◌↔◌}
use Rattle.eq_model.specs.System.{Values, System, nothing}
use Rattle.eq_model.specs.Plan.{Plan}
use Rattle.eq_model.specs.Cut.{CutRun, IsFromInitial, Differ, Base, Never}
use Rattle.eq_model.specs.Part.{Part, PartRun, PartDiffer, PartBase}
use Rattle.eq_model.specs.System.{IsInitial}
use Rattle.eq_model.proofs.Induction.{front_cut}
use Rattle.eq_model.proofs.PartRuns.{part_front}
use Rattle.eq_model.proofs.Witness.{no_base}

-- a difference in some cycle of a run from the initial values ends a shorter run
cut_short : (gold gate : System) (p : Plan) (inside : ℕ → Bool) (n : ℕ) (v w : ℕ → Values) →
    CutRun gold gate p inside n v w → IsFromInitial gold gate p inside v w →
    (c : ℕ) → c < n → Differ p inside (v c) (w c) → Base gold gate p inside (suc c)
cut_short gold gate p inside n v w run initial c lc differ = record {
  v = v;
  w = w;
  run = front_cut gold gate p inside n v w run (suc c) lc (omega arith);
  initial = initial;
  differ =
      let e : c ≡ suc c - 1 = omega arith in
      let P : ℕ → Type 0 = λ x. Differ p inside (v x) (w x) in
      subst P e differ;
}

pub first_differs : (gold gate : System) (p : Plan) (inside : ℕ → Bool) (k : ℕ) →
    ((j : ℕ) → 1 ≤ j → j < k → Base gold gate p inside j → ⊥) →
    (n : ℕ) (v w : ℕ → Values) → CutRun gold gate p inside n v w → IsFromInitial gold gate p inside v w → (c : ℕ) →
    c < n → suc c < k → Differ p inside (v c) (w c) → ⊥
first_differs gold gate p inside k none n v w run initial c lc less differ =
    none (suc c) (omega arith) less (cut_short gold gate p inside n v w run initial c lc differ)

never_from : (gold gate : System) (p : Plan) (inside : ℕ → Bool) → ((k : ℕ) → 1 ≤ k → Base gold gate p inside k → ⊥) →
    Never gold gate p inside
never_from gold gate p inside none n v w run initial c lc differ =
    none (suc c) (omega arith) (cut_short gold gate p inside n v w run initial c lc differ)

-- a partition never differs exactly where no base query holds
pub never_bases : (gold gate : System) (p : Plan) (inside : ℕ → Bool) →
    (((k : ℕ) → 1 ≤ k → Base gold gate p inside k → ⊥) ↔ Never gold gate p inside)
never_bases gold gate p inside =
    (never_from gold gate p inside, (λ never k pos b. no_base gold gate p inside never k b))

pub zero_base : (gold gate : System) (p : Plan) (inside : ℕ → Bool) → Base gold gate p inside 0 → ⊥
zero_base gold gate p inside b = (let pos = b.run.some in absurd (omega arith))

pub zero_part_base : (t : Part) → PartBase t 0 → ⊥
zero_part_base t b = (let pos = b.some in absurd (omega arith))

pub part_first_differs : (t : Part) (k : ℕ) → ((j : ℕ) → 1 ≤ j → j < k → PartBase t j → ⊥) →
    (given : ℕ → ℕ → Bool) (n : ℕ) (x : ℕ → Values) → PartRun t given n x → IsInitial t.system nothing (x 0) → (c : ℕ) →
    c < n → suc c < k → PartDiffer t (x c) → ⊥
part_first_differs t k none given n x run initial c lc less differ =
    none (suc c) (omega arith) less (record {
      some = omega arith;
      given = given;
      x = x;
      run = part_front t given n x run (suc c) lc;
      initial = initial;
      differ = let e : c ≡ suc c - 1 = omega arith in let P : ℕ → Type 0 = λ i. PartDiffer t (x i) in subst P e differ;
    })
