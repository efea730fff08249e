-- Induction over cycles: k cycles without a difference, and none in the next, so none ever.
use Rattle.std.proofs.Common.{◌≡◌, ◌≢◌, ℕ, zero, suc, ◌<◌, ◌≤◌, ◌-◌, ◌+◌, Bool, true, false, refl, arith, sym, subst, inl, inr}
use Rattle.std.proofs.lemmas.Bool.{cases_lt}
use Rattle.eq_model.specs.System.{Values, System, Solves, Follows}
use Rattle.eq_model.specs.Plan.{Plan, gate_value}
use Rattle.eq_model.specs.Cut.{CutRun, IsFromInitial, Differ, Same, Base, Step, Never, is_cut}
use Rattle.eq_model.proofs.Prefix.{front}

pub stable : (x y : Bool) → (x ≢ y → ⊥) → x ≡ y
stable true true h = refl
stable true false h = absurd (h (λ e. cc))
stable false true h = absurd (h (λ e. cc))
stable false false h = refl

pub same_from : (p : Plan) (inside : ℕ → Bool) (v w : Values) → (Differ p inside v w → ⊥) → Same p inside v w
same_from p inside v w never_so i lt h = stable (v (p.gold i)) (gate_value p i w) (λ ne. never_so (i, lt, h, ne))

-- the cycles from d on
pub later : (s : System) (cut : ℕ → Bool) (n : ℕ) (v : ℕ → Values) → Solves s cut n v → (d m : ℕ) → d + m ≤ n → Solves s cut m (λ c. v (d + c))
later s cut n v h d m le = record {
  now = λ c b lt bit kept. h.now (d + c) b (omega arith) bit kept;
  next = λ c b lt bit kept.
      let e : d + suc c ≡ suc (d + c) = omega arith in
      let P : ℕ → Type 0 = λ x. Follows (s.driver b) (v (d + c)) (v x b) in
      subst P (sym e) (h.next (d + c) b (omega arith) bit kept);
}

module _ (gold gate : System) (p : Plan) (inside : ℕ → Bool) where
  pub front_cut : (n : ℕ) (v w : ℕ → Values) → CutRun gold gate p inside n v w → (m : ℕ) → m ≤ n → 0 < m → CutRun gold gate p inside m v w
  front_cut n v w h m le pos = record {
    some = pos;
    gold_solves = front gold (is_cut p.pairs p.gold inside) n v h.gold_solves m le;
    gate_solves = front gate (is_cut p.pairs p.gate inside) n w h.gate_solves m le;
    equal = λ c i lt li out. h.equal c i (omega arith) li out;
  }

  pub later_cut : (n : ℕ) (v w : ℕ → Values) → CutRun gold gate p inside n v w → (d m : ℕ) → d + m ≤ n → 0 < m →
      CutRun gold gate p inside m (λ c. v (d + c)) (λ c. w (d + c))
  later_cut n v w h d m le pos = record {
    some = pos;
    gold_solves = later gold (is_cut p.pairs p.gold inside) n v h.gold_solves d m le;
    gate_solves = later gate (is_cut p.pairs p.gate inside) n w h.gate_solves d m le;
    equal = λ c i lt li out. h.equal (d + c) i (omega arith) li out;
  }

  module _ (k : ℕ) (bases : (j : ℕ) → 1 ≤ j → j ≤ k → Base gold gate p inside j → ⊥) (step : Step gold gate p inside k → ⊥) where
    module _ (n : ℕ) (v w : ℕ → Values) (run : CutRun gold gate p inside n v w) (initial : IsFromInitial gold gate p inside v w) where
      at_base : (m : ℕ) → m < n → m < k → Differ p inside (v m) (w m) → ⊥
      at_base m lt small differ =
          bases (suc m) (omega arith) small (record {
            v = v;
            w = w;
            run = front_cut n v w run (suc m) lt (omega arith);
            initial = initial;
            differ = let e : m ≡ suc m - 1 = omega arith in let P : ℕ → Type 0 = λ x. Differ p inside (v x) (w x) in subst P e differ;
          })

      at_step : (m : ℕ) → m < n → k ≤ m → ((c : ℕ) → c < m → Same p inside (v c) (w c)) → Differ p inside (v m) (w m) → ⊥
      at_step m lt big before differ =
          step (record {
            v = λ c. v ((m - k) + c);
            w = λ c. w ((m - k) + c);
            run = later_cut n v w run (m - k) (suc k) (omega arith) (omega arith);
            same = λ c lc. before ((m - k) + c) (omega arith);
            differ = let e : m ≡ (m - k) + k = omega arith in let P : ℕ → Type 0 = λ x. Differ p inside (v x) (w x) in subst P e differ;
          })

      all_same : (m : ℕ) → m ≤ n → (c : ℕ) → c < m → Same p inside (v c) (w c)
      all_same zero le c lt = absurd (omega arith)
      all_same (suc m) le c lt =
          same_from p inside (v c) (w c) (λ differ.
          elim (cases_lt c k) [
            | inl small ↦ at_base c (omega arith) small differ
            | inr big ↦ at_step c (omega arith) big (λ b lb. all_same m (omega arith) b (omega arith)) differ
          ])

    pub never : Never gold gate p inside
    never n v w run initial c lt differ = (let (i, li, h, ne) = differ in ne (all_same n v w run initial n (omega arith) c lt i li h))
