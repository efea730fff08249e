-- A part that denotes a partition has the partition's queries.
use Rattle.std.proofs.Common.{◌≡◌, ℕ, suc, ◌<◌, ◌-◌, Bool, arith, sym, subst, ◌∙◌, ◌↔◌, ◌==◌, ◌&&◌, true, false, refl, ap}
use Rattle.std.proofs.lemmas.Bool.{and_parts, and_from}
use Rattle.std.proofs.lemmas.Bool.Decides.{Decides-eqb}
use Rattle.eq_model.proofs.Places.{any_from, find_below, found}
use Rattle.eq_model.specs.System.{Values, Driver, input, undriven, equation, register, System, IsInput, Solves, nothing}
use Rattle.eq_model.specs.Plan.{Plan, gate_value}
use Rattle.eq_model.specs.Cut.{any_below, Differ, Same, Base, Step}
use Rattle.eq_model.specs.Part.{Part, IsPart, PartRun, PartDiffer, PartSame, PartBase, PartStep}
use Rattle.eq_model.specs.Denotes.{Pinout, Fits, Denotes}

module _ (p : Plan) (inside : ℕ → Bool) (t : Part) (pinout : Pinout p inside t) (n : ℕ) (given : ℕ → ℕ → Bool) (x v w : ℕ → Values)
    (fits : Fits p inside t pinout n given x v w) (c : ℕ) (lt : c < n) where
  same_to_part : Same p inside (v c) (w c) → PartSame t (x c)
  same_to_part h o lo = fits.gold_outputs c o lt lo ∙ h (pinout.output_pair o) (pinout.within o lo).0 (pinout.within o lo).1 ∙ sym (fits.gate_outputs c o lt lo)

  same_from_part : PartSame t (x c) → Same p inside (v c) (w c)
  same_from_part h i li is =
      let e = pinout.each i li is in
      let P : ℕ → Type 0 = λ j. v c (p.gold j) ≡ gate_value p j (w c) in
      subst P e.2 (sym (fits.gold_outputs c e.0 lt e.1) ∙ h e.0 e.1 ∙ fits.gate_outputs c e.0 lt e.1)

  differ_to_part : Differ p inside (v c) (w c) → PartDiffer t (x c)
  differ_to_part d =
      let e = pinout.each d.0 d.1 d.2 in
      let P : ℕ → Type 0 = λ j. v c (p.gold j) ≡ gate_value p j (w c) in
      (e.0, e.1, λ same. d.3 (subst P e.2 (sym (fits.gold_outputs c e.0 lt e.1) ∙ same ∙ fits.gate_outputs c e.0 lt e.1)))

  differ_from_part : PartDiffer t (x c) → Differ p inside (v c) (w c)
  differ_from_part d = (
    pinout.output_pair d.0,
    (pinout.within d.0 d.1).0,
    (pinout.within d.0 d.1).1,
    λ same. d.2 (fits.gold_outputs c d.0 lt d.1 ∙ same ∙ sym (fits.gate_outputs c d.0 lt d.1)),
  )

module _ (s h : System) (p : Plan) (inside : ℕ → Bool) (t : Part) (denotes : Denotes s h p inside t) where
  base_to_part : (k : ℕ) → Base s h p inside k → PartBase t k
  base_to_part k b =
      let r = denotes.part_run_initial k b.v b.w b.run b.initial in
      let pos = b.run.some in
      record { some = pos; given = r.0; x = r.1; run = r.2; initial = r.3; differ = differ_to_part p inside t denotes.pinout k r.0 r.1 b.v b.w r.4 (k - 1) (omega arith) b.differ }

  base_from_part : (k : ℕ) → PartBase t k → Base s h p inside k
  base_from_part k b =
      let pos = b.some in
      let r = denotes.cut_run_initial k b.given b.x pos b.run b.initial in
      record { v = r.0; w = r.1; run = r.2; initial = r.3; differ = differ_from_part p inside t denotes.pinout k b.given b.x r.0 r.1 r.4 (k - 1) (omega arith) b.differ }

  step_to_part : (k : ℕ) → Step s h p inside k → PartStep t k
  step_to_part k b =
      let r = denotes.part_run (suc k) b.v b.w b.run in
      record {
        given = r.0;
        x = r.1;
        run = r.2;
        same = λ c lc. same_to_part p inside t denotes.pinout (suc k) r.0 r.1 b.v b.w r.3 c (omega arith) (b.same c lc);
        differ = differ_to_part p inside t denotes.pinout (suc k) r.0 r.1 b.v b.w r.3 k (omega arith) b.differ;
      }

  step_from_part : (k : ℕ) → PartStep t k → Step s h p inside k
  step_from_part k b =
      let r = denotes.cut_run (suc k) b.given b.x (omega arith) b.run in
      record {
        v = r.0;
        w = r.1;
        run = r.2;
        same = λ c lc. same_from_part p inside t denotes.pinout (suc k) b.given b.x r.0 r.1 r.3 c (omega arith) (b.same c lc);
        differ = differ_from_part p inside t denotes.pinout (suc k) b.given b.x r.0 r.1 r.3 k (omega arith) b.differ;
      }

  pub same_base : (k : ℕ) → Base s h p inside k ↔ PartBase t k
  same_base k = (base_to_part k, base_from_part k)

  pub same_step : (k : ℕ) → Step s h p inside k ↔ PartStep t k
  same_step k = (step_to_part k, step_from_part k)

-- Values that solve a part's nodes are those of a run, for the inputs that they show

is_input : Driver → Bool
is_input input = true
is_input undriven = false
is_input (equation e) = false
is_input (register i e) = false

input_is : (d : Driver) → is_input d ≡ true → IsInput d
unfolding is_input
input_is input h = tt
input_is undriven h = absurd (cc)
input_is (equation e) h = absurd (cc)
input_is (register i e) h = absurd (cc)

is_input_at : (d : Driver) → IsInput d → is_input d ≡ true
unfolding is_input
is_input_at input h = refl
is_input_at undriven h = absurd h
is_input_at (equation e) h = absurd h
is_input_at (register i e) h = absurd h

module _ (t : Part) (part : IsPart t) (n : ℕ) (x : ℕ → Values) (h : Solves t.system nothing n x) where
  abbrev shows : ℕ → ℕ → Bool
  shows k b = is_input (t.driver b) && (t.number b == k)

  pub shown : ℕ → ℕ → Bool
  shown c k = x c (find_below t.bits (shows k))

  pub run_shown : PartRun t shown n x
  unfolding shown
  run_shown = record {
    inputs = λ c b lc lb is.
        let k = t.number b in
        let here : any_below t.bits (shows k) ≡ true = any_from t.bits (shows k) b lb (and_from (is_input (t.driver b)) (t.number b == k) (is_input_at (t.driver b) is) ((Decides-eqb k k).1 refl)) in
        let f = found t.bits (shows k) here in
        let a = find_below t.bits (shows k) in
        let parts = and_parts (is_input (t.driver a)) (t.number a == k) f.1 in
        let same : b ≡ a = part.one_node b a lb f.0 is (input_is (t.driver a) parts.0) (sym ((Decides-eqb (t.number a) k).0 parts.1)) in
        ap (x c) same;
    solves = h;
  }
