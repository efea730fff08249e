-- How the examples' claims are shown: runs that are computed, and partitions pair by pair.
use Rattle.std.proofs.Common.{◌≡◌, ◌≢◌, ℕ, suc, ◌<◌, ◌-◌, Bool, true, false, [], ◌∷◌, ◌==◌, arith, subst, inl, inr}
use Rattle.std.specs.List.{list_any}
use Rattle.std.proofs.lemmas.Bool.{or_cases}
use Rattle.eq_model.specs.System.{Values, System, IsSystem, IsLoopFree, nothing}
use Rattle.eq_model.specs.Run.{Design, Given, Equivalent, key, dir}
use Rattle.eq_model.specs.Nets.{is_output}
use Rattle.eq_model.specs.Plan.{Plan, gate_value}
use Rattle.eq_model.specs.Cut.{is_cut, CutRun, IsFromInitial, Differ, Same, Base, Step, Never}
use Rattle.eq_model.proofs.Places.{same_number}
use Rattle.eq_model.proofs.Trace.{trace, is_trace, initial_trace, is_initial_trace, by_bit, trace_is_run}

-- designs whose outputs differ in computed runs aren't equivalent
module _ (gold gate : Design) (gold_sound : IsSystem gold.system) (gate_sound : IsSystem gate.system) (gold_free : IsLoopFree gold.system) (gate_free : IsLoopFree gate.system)
    (given : Given) where
  abbrev gold_values : ℕ → Values
  gold_values = initial_trace gold.system nothing (by_bit gold given) gold_sound gold_free

  abbrev gate_values : ℕ → Values
  gate_values = initial_trace gate.system nothing (by_bit gate given) gate_sound gate_free

  pub refuted : (c a b : ℕ) → a < gold.bits → b < gate.bits → dir gold a ≡ is_output → dir gate b ≡ is_output → key gold a ≡ key gate b →
      gold_values c a ≢ gate_values c b → Equivalent gold gate → ⊥
  refuted c a b la lb da db key ne e = ne (e.outputs given (suc c) gold_values gate_values
      (trace_is_run gold given (suc c) gold_values (is_initial_trace gold.system nothing (by_bit gold given) gold_sound gold_free (suc c)))
      (trace_is_run gate given (suc c) gate_values (is_initial_trace gate.system nothing (by_bit gate given) gate_sound gate_free (suc c)))
      c a b (omega arith) la lb da db key)

-- cut runs that are computed
module _ (s h : System) (s_sound : IsSystem s) (h_sound : IsSystem h) (s_free : IsLoopFree s) (h_free : IsLoopFree h) (p : Plan) (inside : ℕ → Bool) (u x : ℕ → Values) where
  abbrev pub initial_v : ℕ → Values
  initial_v = initial_trace s (is_cut p.pairs p.gold inside) u s_sound s_free

  abbrev pub initial_w : ℕ → Values
  initial_w = initial_trace h (is_cut p.pairs p.gate inside) x h_sound h_free

  pub base_shown : (k : ℕ) → ((c i : ℕ) → c < suc k → i < p.pairs → inside i ≡ false → initial_v c (p.gold i) ≡ gate_value p i (initial_w c)) →
      Differ p inside (initial_v k) (initial_w k) → Base s h p inside (suc k)
  base_shown k equal differ =
      let a = is_initial_trace s (is_cut p.pairs p.gold inside) u s_sound s_free (suc k) in
      let b = is_initial_trace h (is_cut p.pairs p.gate inside) x h_sound h_free (suc k) in
      record {
        v = initial_v;
        w = initial_w;
        run = record { some = omega arith; gold_solves = a.solves; gate_solves = b.solves; equal = equal };
        initial = record { gold_begins = a.begins (omega arith); gate_begins = b.begins (omega arith) };
        differ = let e : k ≡ suc k - 1 = omega arith in let P : ℕ → Type 0 = λ m. Differ p inside (initial_v m) (initial_w m) in subst P e differ;
      }

  abbrev pub free_v : ℕ → Values
  free_v = trace s (is_cut p.pairs p.gold inside) u

  abbrev pub free_w : ℕ → Values
  free_w = trace h (is_cut p.pairs p.gate inside) x

  pub step_shown : (k : ℕ) → ((c i : ℕ) → c < suc k → i < p.pairs → inside i ≡ false → free_v c (p.gold i) ≡ gate_value p i (free_w c)) →
      ((c : ℕ) → c < k → Same p inside (free_v c) (free_w c)) → Differ p inside (free_v k) (free_w k) → Step s h p inside k
  step_shown k equal same differ =
      let a = is_trace s (is_cut p.pairs p.gold inside) u s_sound s_free (suc k) in
      let b = is_trace h (is_cut p.pairs p.gate inside) x h_sound h_free (suc k) in
      record {
        v = free_v;
        w = free_w;
        run = record { some = omega arith; gold_solves = a.solves; gate_solves = b.solves; equal = equal };
        same = same;
        differ = differ;
      }

-- a partition of one pair differs only there
pub one_pair : (j i : ℕ) → list_any (λ (k : ℕ). k == i) (j ∷ []) ≡ true → i ≡ j
one_pair j i h = elim (or_cases (j == i) false h) [ inl e ↦ (let f : j ≡ i = same_number j i e in omega arith) | inr e ↦ absurd (cc) ]

pub never_one : (s h : System) (p : Plan) (inside : ℕ → Bool) (j : ℕ) → ((i : ℕ) → inside i ≡ true → i ≡ j) →
    ((n : ℕ) (v w : ℕ → Values) → CutRun s h p inside n v w → IsFromInitial s h p inside v w → (c : ℕ) → c < n → v c (p.gold j) ≡ gate_value p j (w c)) →
    Never s h p inside
never_one s h p inside j only same n v w run begins c lc differ =
    let P : ℕ → Type 0 = λ i. v c (p.gold i) ≢ gate_value p i (w c) in
    subst P (only differ.0 differ.2) differ.3 (same n v w run begins c lc)

-- what never differs has no base query
pub no_base : (s h : System) (p : Plan) (inside : ℕ → Bool) → Never s h p inside → (k : ℕ) → Base s h p inside k → ⊥
no_base s h p inside never k b = never k b.v b.w b.run b.initial (k - 1) (let pos = b.run.some in omega arith) b.differ

-- where a partition has one pair, values that are the same there don't differ
pub one_same : (p : Plan) (inside : ℕ → Bool) (j : ℕ) → ((i : ℕ) → inside i ≡ true → i ≡ j) → (v w : Values) → v (p.gold j) ≡ gate_value p j w → Differ p inside v w → ⊥
one_same p inside j only v w same differ =
    let P : ℕ → Type 0 = λ i. v (p.gold i) ≢ gate_value p i w in
    subst P (only differ.0 differ.2) differ.3 same
