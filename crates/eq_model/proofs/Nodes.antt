-- A system's solutions are those of its graph.
use Rattle.std.proofs.Common.{◌≡◌, ℕ, suc, ◌<◌, Bool, true, false, ◌==◌, refl, arith, sym, ap, subst, ◌∙◌, inl, inr}
use Rattle.std.proofs.lemmas.Bool.{cases_Bool, false_from_ne_true}
use Rattle.std.proofs.lemmas.Bool.Decides.{Decides-eqb}
use Rattle.eq_model.specs.System.{Values, Driver, input, undriven, equation, register, System, IsSystem, IsDriver, IsHeld, Meets, Begins, Follows, IsLoopFree, IsInput, Cycle, rounds, Solves, IsInitial, nothing}
use Rattle.eq_model.specs.Run.{Design, Given, Run, key}
use Rattle.eq_model.specs.Plan.{Plan, IsOneToOne, signed}
use Rattle.eq_model.specs.Cut.{is_cut, CutRun, IsFromInitial}
use Rattle.eq_model.specs.Part.{Part}
use Rattle.eq_model.specs.Denotes.{Pinout, Fits, Denotes}
use Rattle.eq_model.specs.Graph.{is_own, InnerComputes, DrivesNode, IsGraphOf, on_nodes}
use Rattle.eq_model.proofs.Places.{any_from, any_some, cut_from, cut_some, index_of, index_is}
use Rattle.eq_model.proofs.Cycle.{rounds_solve}

-- down: from a node's driver to the bit's

down_meets : (g : System) (n : ℕ) (own : ℕ → ℕ) (d e : Driver) → DrivesNode g n own d e → (x : Values) → InnerComputes g n own x → (a : Bool) → Meets e x a → Meets d (λ b. x (own b)) a
down_meets g n own input input h x inner a m = tt
down_meets g n own undriven (equation f) h x inner a m = m ∙ h x inner
down_meets g n own (equation e) (equation f) h x inner a m = m ∙ h x inner
down_meets g n own (register i e) (register j f) h x inner a m = tt
down_meets g n own _ _ h x inner a m = absurd h

down_follows : (g : System) (n : ℕ) (own : ℕ → ℕ) (d e : Driver) → DrivesNode g n own d e → (x : Values) → InnerComputes g n own x → (a : Bool) → Follows e x a → Follows d (λ b. x (own b)) a
down_follows g n own input input h x inner a m = tt
down_follows g n own undriven (equation f) h x inner a m = tt
down_follows g n own (equation e) (equation f) h x inner a m = tt
down_follows g n own (register i e) (register j f) h x inner a m = m ∙ h.1 x inner
down_follows g n own _ _ h x inner a m = absurd h

down_begins : (g : System) (n : ℕ) (own : ℕ → ℕ) (d e : Driver) → DrivesNode g n own d e → (a : Bool) → Begins e a → Begins d a
down_begins g n own input input h a m = tt
down_begins g n own undriven (equation f) h a m = tt
down_begins g n own (equation e) (equation f) h a m = tt
down_begins g n own (register i e) (register j f) h a m = m ∙ sym h.0
down_begins g n own _ _ h a m = absurd h

-- up: from a bit's driver to its own node's, where the node has the bit's value

up_meets : (g : System) (n : ℕ) (own : ℕ → ℕ) (d e : Driver) → DrivesNode g n own d e → IsDriver n d → (v x : Values) → InnerComputes g n own x → ((b : ℕ) → b < n → x (own b) ≡ v b) → (a y : Bool) → y ≡ a → Meets d v a → Meets e x y
up_meets g n own input input h sound v x inner agree a y same m = tt
up_meets g n own undriven (equation f) h sound v x inner agree a y same m = same ∙ m ∙ sym (h x inner)
up_meets g n own (equation e) (equation f) h sound v x inner agree a y same m =
    same ∙ m ∙ sym (h x inner ∙ sound.respects (λ b. x (own b)) v (λ b c. agree b (sound.bounded b c)))
up_meets g n own (register i e) (register j f) h sound v x inner agree a y same m = tt
up_meets g n own _ _ h sound v x inner agree a y same m = absurd h

up_follows : (g : System) (n : ℕ) (own : ℕ → ℕ) (d e : Driver) → DrivesNode g n own d e → IsDriver n d → (v x : Values) → InnerComputes g n own x → ((b : ℕ) → b < n → x (own b) ≡ v b) → (a y : Bool) → y ≡ a → Follows d v a → Follows e x y
up_follows g n own input input h sound v x inner agree a y same m = tt
up_follows g n own undriven (equation f) h sound v x inner agree a y same m = tt
up_follows g n own (equation e) (equation f) h sound v x inner agree a y same m = tt
up_follows g n own (register i e) (register j f) h sound v x inner agree a y same m =
    same ∙ m ∙ sym (h.1 x inner ∙ sound.respects (λ b. x (own b)) v (λ b c. agree b (sound.bounded b c)))
up_follows g n own _ _ h sound v x inner agree a y same m = absurd h

up_begins : (g : System) (n : ℕ) (own : ℕ → ℕ) (d e : Driver) → DrivesNode g n own d e → (a y : Bool) → y ≡ a → Begins d a → Begins e y
up_begins g n own input input h a y same m = tt
up_begins g n own undriven (equation f) h a y same m = tt
up_begins g n own (equation e) (equation f) h a y same m = tt
up_begins g n own (register i e) (register j f) h a y same m = same ∙ m ∙ h.0
up_begins g n own _ _ h a y same m = absurd h

free_follows : (d : Driver) (v : Values) (x : Bool) → (IsHeld d → ⊥) → Follows d v x
free_follows input v x free = tt
free_follows undriven v x free = tt
free_follows (equation e) v x free = tt
free_follows (register i e) v x free = absurd (free tt)

free_begins : (d : Driver) (x : Bool) → (IsHeld d → ⊥) → Begins d x
free_begins input x free = tt
free_begins undriven x free = tt
free_begins (equation e) x free = tt
free_begins (register i e) x free = absurd (free tt)

own_from : (n : ℕ) (own : ℕ → ℕ) (b : ℕ) → b < n → is_own n own (own b) ≡ true
own_from n own b lt = any_from n (λ a. own a == own b) b lt ((Decides-eqb (own b) (own b)).1 refl)

own_some : (n : ℕ) (own : ℕ → ℕ) (m : ℕ) → is_own n own m ≡ true → (b : ℕ) × (b < n) × (own b ≡ m)
own_some n own m h = let t = any_some n (λ a. own a == m) h in (t.0, t.1, (Decides-eqb (own t.0) m).0 t.2)

module _ (s g : System) (own : ℕ → ℕ) (graph : IsGraphOf s g own) (cut gcut : ℕ → Bool)
    (same_cut : (b : ℕ) → b < s.bits → gcut (own b) ≡ cut b) (none_cut : (m : ℕ) → m < g.bits → is_own s.bits own m ≡ false → gcut m ≡ false) (n : ℕ) where
  module _ (x : ℕ → Values) (h : Solves g gcut n x) where
    inner : (c : ℕ) → c < n → InnerComputes g s.bits own (x c)
    inner c lc m lm free = h.now c m lc lm (none_cut m lm free)

    pub down : Solves s cut n (λ c b. x c (own b))
    down = record {
      now = λ c b lc lb kept. down_meets g s.bits own (s.driver b) (g.driver (own b)) (graph.drivers b lb) (x c) (inner c lc) (x c (own b))
          (h.now c (own b) lc (graph.nodes b lb) (same_cut b lb ∙ kept));
      next = λ c b lc lb kept. down_follows g s.bits own (s.driver b) (g.driver (own b)) (graph.drivers b lb) (x c) (inner c (omega arith)) (x (suc c) (own b))
          (h.next c (own b) lc (graph.nodes b lb) (same_cut b lb ∙ kept));
    }

    pub down_initial : IsInitial g gcut (x 0) → IsInitial s cut (λ b. x 0 (own b))
    down_initial begins b lb kept = down_begins g s.bits own (s.driver b) (g.driver (own b)) (graph.drivers b lb) (x 0 (own b)) (begins (own b) (graph.nodes b lb) (same_cut b lb ∙ kept))

  module _ (s_sound : IsSystem s) (g_sound : IsSystem g) (g_free : IsLoopFree g) (v : ℕ → Values) where
    abbrev pub lifted_u : ℕ → Values
    lifted_u c m = v c (index_of s.bits own m)

    -- the nodes' values for these values of the bits
    abbrev pub lifted : ℕ → Values
    lifted c = rounds g (is_own s.bits own) (lifted_u c) g.bits

    lifted_cycle : (c : ℕ) → Cycle g (is_own s.bits own) (lifted_u c) (lifted c)
    lifted_cycle c = rounds_solve g (is_own s.bits own) (lifted_u c) g_sound g_free

    pub lifted_at : (c b : ℕ) → b < s.bits → lifted c (own b) ≡ v c b
    lifted_at c b lb = (lifted_cycle c).held (own b) (graph.nodes b lb) (inl (own_from s.bits own b lb)) ∙ ap (v c) (index_is s.bits own graph.once b (own b) lb refl s.bits (omega arith) lb)

    lifted_inner : (c : ℕ) → InnerComputes g s.bits own (lifted c)
    lifted_inner c m lm free = (lifted_cycle c).driven m lm free

    module _ (h : Solves s cut n v) where
      up_now : (c m : ℕ) → c < n → m < g.bits → gcut m ≡ false → Meets (g.driver m) (lifted c) (lifted c m)
      up_now c m lc lm kept =
          elim (cases_Bool (is_own s.bits own m)) [
            | inl is ↦ (
                let t = own_some s.bits own m is in
                let b = t.0 in
                let P : ℕ → Type 0 = λ k. gcut k ≡ false → Meets (g.driver k) (lifted c) (lifted c k) in
                subst P t.2 (λ kept_own. up_meets g s.bits own (s.driver b) (g.driver (own b)) (graph.drivers b t.1) (s_sound b t.1) (v c) (lifted c) (lifted_inner c) (λ a la. lifted_at c a la)
                (v c b) (lifted c (own b)) (lifted_at c b t.1) (h.now c b lc t.1 (sym (same_cut b t.1) ∙ kept_own))) kept)
            | inr free ↦ lifted_inner c m lm free
          ]

      up_next : (c m : ℕ) → suc c < n → m < g.bits → gcut m ≡ false → Follows (g.driver m) (lifted c) (lifted (suc c) m)
      up_next c m lc lm kept =
          elim (cases_Bool (is_own s.bits own m)) [
            | inl is ↦ (
                let t = own_some s.bits own m is in
                let b = t.0 in
                let P : ℕ → Type 0 = λ k. gcut k ≡ false → Follows (g.driver k) (lifted c) (lifted (suc c) k) in
                subst P t.2 (λ kept_own. up_follows g s.bits own (s.driver b) (g.driver (own b)) (graph.drivers b t.1) (s_sound b t.1) (v c) (lifted c) (lifted_inner c) (λ a la. lifted_at c a la)
                (v (suc c) b) (lifted (suc c) (own b)) (lifted_at (suc c) b t.1) (h.next c b lc t.1 (sym (same_cut b t.1) ∙ kept_own))) kept)
            | inr free ↦ free_follows (g.driver m) (lifted c) (lifted (suc c) m) (graph.others m lm free)
          ]

      pub up : Solves g gcut n lifted
      up = record { now = up_now; next = up_next }

    pub up_initial : IsInitial s cut (v 0) → IsInitial g gcut (lifted 0)
    up_initial begins m lm kept =
        elim (cases_Bool (is_own s.bits own m)) [
          | inl is ↦ (
              let t = own_some s.bits own m is in
              let b = t.0 in
              let P : ℕ → Type 0 = λ k. gcut k ≡ false → Begins (g.driver k) (lifted 0 k) in
              subst P t.2 (λ kept_own. up_begins g s.bits own (s.driver b) (g.driver (own b)) (graph.drivers b t.1) (v 0 b) (lifted 0 (own b)) (lifted_at 0 b t.1)
              (begins b t.1 (sym (same_cut b t.1) ∙ kept_own))) kept)
          | inr free ↦ free_begins (g.driver m) (lifted 0 m) (graph.others m lm free)
        ]

-- so a run of the nodes is one of the bits
pub graph_run : (d : Design) (g : System) (own : ℕ → ℕ) → IsGraphOf d.system g own → (given : Given) (n : ℕ) (x : ℕ → Values) →
    Solves g nothing n x → (0 < n → IsInitial g nothing (x 0)) → ((c b : ℕ) → c < n → b < d.bits → IsInput (d.driver b) → x c (own b) ≡ given c (key d b)) →
    Run d given n (λ c b. x c (own b))
graph_run d g own graph given n x solves begins inputs = record {
  inputs = inputs;
  begins = λ pos. down_initial d.system g own graph nothing nothing (λ b lb. refl) (λ m lm free. refl) n x solves (begins pos);
  solves = down d.system g own graph nothing nothing (λ b lb. refl) (λ m lm free. refl) n x solves;
}

-- the cut bits of the nodes are the own nodes of the cut bits

module _ (s g : System) (own : ℕ → ℕ) (graph : IsGraphOf s g own) (pairs : ℕ) (side : ℕ → ℕ) (inside : ℕ → Bool) (bits : (i : ℕ) → i < pairs → side i < s.bits) where
  pub cut_of_own : (b : ℕ) → b < s.bits → is_cut pairs (λ i. own (side i)) inside (own b) ≡ is_cut pairs side inside b
  cut_of_own b lb =
      elim (cases_Bool (is_cut pairs side inside b)) [
        | inl h ↦ (let t = cut_some pairs side inside b h in
            cut_from pairs (λ i. own (side i)) inside t.0 (own b) t.1 (ap own t.2) t.3 ∙ sym h)
        | inr h ↦ false_from_ne_true (is_cut pairs (λ i. own (side i)) inside (own b)) (λ f.
            let t = cut_some pairs (λ i. own (side i)) inside (own b) f in
            let same : side t.0 ≡ b = graph.once (side t.0) b (bits t.0 t.1) lb t.2 in
            let g : is_cut pairs side inside b ≡ true = cut_from pairs side inside t.0 b t.1 same t.3 in
            cc) ∙ sym h
      ]

  pub cut_of_other : (m : ℕ) → is_own s.bits own m ≡ false → is_cut pairs (λ i. own (side i)) inside m ≡ false
  cut_of_other m free = false_from_ne_true (is_cut pairs (λ i. own (side i)) inside m) (λ f.
      let t = cut_some pairs (λ i. own (side i)) inside m f in
      let is : is_own s.bits own (own (side t.0)) ≡ true = own_from s.bits own (side t.0) (bits t.0 t.1) in
      let P : ℕ → Type 0 = λ k. is_own s.bits own k ≡ true in
      let is' : is_own s.bits own m ≡ true = subst P t.2 is in
      cc)

module _ (s h gs gh : System) (own_s own_h : ℕ → ℕ) (s_graph : IsGraphOf s gs own_s) (h_graph : IsGraphOf h gh own_h)
    (s_sound : IsSystem s) (h_sound : IsSystem h) (gs_sound : IsSystem gs) (gh_sound : IsSystem gh) (gs_free : IsLoopFree gs) (gh_free : IsLoopFree gh)
    (p : Plan) (inside : ℕ → Bool)
    (one : IsOneToOne s h p) where
  abbrev scut : ℕ → Bool
  scut = is_cut p.pairs p.gold inside

  abbrev hcut : ℕ → Bool
  hcut = is_cut p.pairs p.gate inside

  abbrev gscut : ℕ → Bool
  gscut = is_cut p.pairs (λ i. own_s (p.gold i)) inside

  abbrev ghcut : ℕ → Bool
  ghcut = is_cut p.pairs (λ i. own_h (p.gate i)) inside

  s_same : (b : ℕ) → b < s.bits → gscut (own_s b) ≡ scut b
  s_same b lb = cut_of_own s gs own_s s_graph p.pairs p.gold inside one.gold_bits b lb

  s_none : (m : ℕ) → m < gs.bits → is_own s.bits own_s m ≡ false → gscut m ≡ false
  s_none m lm free = cut_of_other s gs own_s s_graph p.pairs p.gold inside one.gold_bits m free

  h_same : (b : ℕ) → b < h.bits → ghcut (own_h b) ≡ hcut b
  h_same b lb = cut_of_own h gh own_h h_graph p.pairs p.gate inside one.gate_bits b lb

  h_none : (m : ℕ) → m < gh.bits → is_own h.bits own_h m ≡ false → ghcut m ≡ false
  h_none m lm free = cut_of_other h gh own_h h_graph p.pairs p.gate inside one.gate_bits m free

  cut_down : (n : ℕ) (x y : ℕ → Values) → CutRun gs gh (on_nodes own_s own_h p) inside n x y → CutRun s h p inside n (λ c b. x c (own_s b)) (λ c b. y c (own_h b))
  cut_down n x y run = record {
    some = run.some;
    gold_solves = down s gs own_s s_graph scut gscut s_same s_none n x run.gold_solves;
    gate_solves = down h gh own_h h_graph hcut ghcut h_same h_none n y run.gate_solves;
    equal = run.equal;
  }

  down_from_initial : (n : ℕ) (x y : ℕ → Values) → CutRun gs gh (on_nodes own_s own_h p) inside n x y → IsFromInitial gs gh (on_nodes own_s own_h p) inside x y →
      IsFromInitial s h p inside (λ c b. x c (own_s b)) (λ c b. y c (own_h b))
  down_from_initial n x y run begins = record {
    gold_begins = down_initial s gs own_s s_graph scut gscut s_same s_none n x run.gold_solves begins.gold_begins;
    gate_begins = down_initial h gh own_h h_graph hcut ghcut h_same h_none n y run.gate_solves begins.gate_begins;
  }

  abbrev gold_up : ℕ → (ℕ → Values) → ℕ → Values
  gold_up n v = lifted s gs own_s s_graph scut gscut s_same s_none n s_sound gs_sound gs_free v

  abbrev gate_up : ℕ → (ℕ → Values) → ℕ → Values
  gate_up n w = lifted h gh own_h h_graph hcut ghcut h_same h_none n h_sound gh_sound gh_free w

  gold_up-at : (n : ℕ) (v : ℕ → Values) (c b : ℕ) → b < s.bits → gold_up n v c (own_s b) ≡ v c b
  gold_up-at n v c b lb = lifted_at s gs own_s s_graph scut gscut s_same s_none n s_sound gs_sound gs_free v c b lb

  gate_up-at : (n : ℕ) (w : ℕ → Values) (c b : ℕ) → b < h.bits → gate_up n w c (own_h b) ≡ w c b
  gate_up-at n w c b lb = lifted_at h gh own_h h_graph hcut ghcut h_same h_none n h_sound gh_sound gh_free w c b lb

  cut_up : (n : ℕ) (v w : ℕ → Values) → CutRun s h p inside n v w → CutRun gs gh (on_nodes own_s own_h p) inside n (gold_up n v) (gate_up n w)
  cut_up n v w run = record {
    some = run.some;
    gold_solves = up s gs own_s s_graph scut gscut s_same s_none n s_sound gs_sound gs_free v run.gold_solves;
    gate_solves = up h gh own_h h_graph hcut ghcut h_same h_none n h_sound gh_sound gh_free w run.gate_solves;
    equal = λ c i lc li out. gold_up-at n v c (p.gold i) (one.gold_bits i li) ∙ run.equal c i lc li out ∙ ap (signed (p.inverted i)) (sym (gate_up-at n w c (p.gate i) (one.gate_bits i li)));
  }

  up_from_initial : (n : ℕ) (v w : ℕ → Values) → IsFromInitial s h p inside v w → IsFromInitial gs gh (on_nodes own_s own_h p) inside (gold_up n v) (gate_up n w)
  up_from_initial n v w begins = record {
    gold_begins = up_initial s gs own_s s_graph scut gscut s_same s_none n s_sound gs_sound gs_free v begins.gold_begins;
    gate_begins = up_initial h gh own_h h_graph hcut ghcut h_same h_none n h_sound gh_sound gh_free w begins.gate_begins;
  }

  module _ (t : Part) (denotes : Denotes gs gh (on_nodes own_s own_h p) inside t) where
    pinout : Pinout p inside t
    pinout = record {
      input_pair = denotes.pinout.input_pair;
      output_pair = denotes.pinout.output_pair;
      outside = denotes.pinout.outside;
      apart = denotes.pinout.apart;
      within = denotes.pinout.within;
      each = denotes.pinout.each;
      once = denotes.pinout.once;
    }

    fits_down : (n : ℕ) (given : ℕ → ℕ → Bool) (x v w : ℕ → Values) → Fits (on_nodes own_s own_h p) inside t denotes.pinout n given x v w →
        Fits p inside t pinout n given x (λ c b. v c (own_s b)) (λ c b. w c (own_h b))
    unfolding pinout
    fits_down n given x v w f = record { inputs = f.inputs; gold_outputs = f.gold_outputs; gate_outputs = f.gate_outputs }

    fits_up : (n : ℕ) (given : ℕ → ℕ → Bool) (x v w : ℕ → Values) → Fits (on_nodes own_s own_h p) inside t denotes.pinout n given x (gold_up n v) (gate_up n w) →
        Fits p inside t pinout n given x v w
    unfolding pinout
    fits_up n given x v w f = record {
      inputs = λ c k lc lk. f.inputs c k lc lk ∙ gold_up-at n v c (p.gold (denotes.pinout.input_pair k)) (one.gold_bits (denotes.pinout.input_pair k) (denotes.pinout.outside k lk).0);
      gold_outputs = λ c o lc lo. f.gold_outputs c o lc lo ∙ gold_up-at n v c (p.gold (denotes.pinout.output_pair o)) (one.gold_bits (denotes.pinout.output_pair o) (denotes.pinout.within o lo).0);
      gate_outputs = λ c o lc lo. f.gate_outputs c o lc lo ∙
          ap (signed (p.inverted (denotes.pinout.output_pair o))) (gate_up-at n w c (p.gate (denotes.pinout.output_pair o)) (one.gate_bits (denotes.pinout.output_pair o) (denotes.pinout.within o lo).0));
    }

    pub graph_denotes : Denotes s h p inside t
    graph_denotes = record {
      pinout = pinout;
      part_run = λ n v w run.
          (let r = denotes.part_run n (gold_up n v) (gate_up n w) (cut_up n v w run) in (r.0, r.1, r.2, fits_up n r.0 r.1 v w r.3));
      cut_run = λ n given x pos run.
          (let r = denotes.cut_run n given x pos run in
          ((λ c b. r.0 c (own_s b)), (λ c b. r.1 c (own_h b)), cut_down n r.0 r.1 r.2, fits_down n given x r.0 r.1 r.3));
      part_run_initial = λ n v w run begins.
          (let r = denotes.part_run_initial n (gold_up n v) (gate_up n w) (cut_up n v w run) (up_from_initial n v w begins) in (r.0, r.1, r.2, r.3, fits_up n r.0 r.1 v w r.4));
      cut_run_initial = λ n given x pos run begins.
          (let r = denotes.cut_run_initial n given x pos run begins in
          ((λ c b. r.0 c (own_s b)), (λ c b. r.1 c (own_h b)), cut_down n r.0 r.1 r.2, down_from_initial n r.0 r.1 r.2 r.3, fits_down n given x r.0 r.1 r.4));
      trim = denotes.trim;
    }
