-- Designs that agree have the same runs and the same cut runs, and may stand for one another.
use Rattle.std.proofs.Common.{◌≡◌, ◌≢◌, ℕ, suc, ◌<◌, Bool, List, [], ◌∷◌, Option, Contains, AllPairs, arith, sym, ap, subst, ◌∙◌, ◌↔◌}
use Rattle.std.specs.Option.{ForSome}
use Rattle.eq_model.specs.System.{Values, Expr, Driver, input, undriven, equation, register, System, IsExpr, IsDriver, IsSystem, IsInput, IsLoopFree, IsChain, reads_now, Meets, Begins, Follows, Solves, IsInitial, nothing}
use Rattle.eq_model.specs.Run.{Given, Design, IsDesign, key, dir, Run, HasOneRun, HasPorts, SameOutputs, Equivalent}
use Rattle.eq_model.specs.Nets.{Dir, inner, is_input, IsPort, NetName, Key, Net, net_width, total_width, at_bit, HasNet}
use Rattle.eq_model.specs.Agreement.{SameExpr, SameDriver, SameSystem, SameDesign}
use Rattle.eq_model.specs.Plan.{Plan, IsOneToOne, PairsPorts, Covers}
use Rattle.eq_model.specs.Cut.{is_cut, CutRun, IsFromInitial, Base, Step, Never}
use Rattle.eq_model.specs.Part.{Part}
use Rattle.eq_model.specs.Denotes.{Denotes}
use Rattle.eq_model.proofs.Order.{reads_bounded}

-- one driver

expr_back : (e f : Expr) → SameExpr e f → SameExpr f e
expr_back e f h = record { reads = λ b. ((h.reads b).1, (h.reads b).0); value = λ v. sym (h.value v) }

driver_back : (d e : Driver) → SameDriver d e → SameDriver e d
driver_back input input h = tt
driver_back undriven undriven h = tt
driver_back (equation e) (equation f) h = expr_back e f h
driver_back (register i e) (register j f) h = (sym h.0, expr_back e f h.1)
driver_back _ _ h = absurd h

is_input_same : (d e : Driver) → SameDriver d e → IsInput d → IsInput e
is_input_same input input h i = tt
is_input_same undriven undriven h i = i
is_input_same (equation e) (equation f) h i = i
is_input_same (register i e) (register j f) h k = k
is_input_same _ _ h i = absurd h

meets_same : (d e : Driver) → SameDriver d e → (v : Values) (x : Bool) → Meets d v x → Meets e v x
meets_same input input h v x m = tt
meets_same undriven undriven h v x m = m
meets_same (equation e) (equation f) h v x m = m ∙ h.value v
meets_same (register i e) (register j f) h v x m = tt
meets_same _ _ h v x m = absurd h

follows_same : (d e : Driver) → SameDriver d e → (v : Values) (x : Bool) → Follows d v x → Follows e v x
follows_same input input h v x m = tt
follows_same undriven undriven h v x m = tt
follows_same (equation e) (equation f) h v x m = tt
follows_same (register i e) (register j f) h v x m = m ∙ h.1.value v
follows_same _ _ h v x m = absurd h

begins_same : (d e : Driver) → SameDriver d e → (x : Bool) → Begins d x → Begins e x
begins_same input input h x m = tt
begins_same undriven undriven h x m = tt
begins_same (equation e) (equation f) h x m = tt
begins_same (register i e) (register j f) h x m = m ∙ h.0
begins_same _ _ h x m = absurd h

reads_same : (d e : Driver) → SameDriver d e → (b : ℕ) → Contains (reads_now d) b → Contains (reads_now e) b
reads_same input input h b c = c
reads_same undriven undriven h b c = c
reads_same (equation e) (equation f) h b c = (h.reads b).0 c
reads_same (register i e) (register j f) h b c = c
reads_same _ _ h b c = absurd h

is_expr_same : (n : ℕ) (e f : Expr) → SameExpr e f → IsExpr n e → IsExpr n f
is_expr_same n e f h is = record {
  bounded = λ b c. is.bounded b ((h.reads b).1 c);
  respects = λ v w agree. sym (h.value v) ∙ is.respects v w (λ b c. agree b ((h.reads b).0 c)) ∙ h.value w;
}

is_driver_same : (n : ℕ) (d e : Driver) → SameDriver d e → IsDriver n d → IsDriver n e
is_driver_same n input input h is = tt
is_driver_same n undriven undriven h is = tt
is_driver_same n (equation e) (equation f) h is = is_expr_same n e f h is
is_driver_same n (register i e) (register j f) h is = is_expr_same n e f h.1 is
is_driver_same n _ _ h is = absurd h

-- one system

pub system_back : (s t : System) → SameSystem s t → SameSystem t s
system_back s t h = record {
  bits = sym h.bits;
  drivers = λ b lt. driver_back (s.driver b) (t.driver b) (h.drivers b (let same = h.bits in omega arith));
}

module _ (s t : System) (same : SameSystem s t) where
  pub within : (b : ℕ) → b < t.bits → b < s.bits
  within b lt = (let e = same.bits in omega arith)

  pub is_system_same : IsSystem s → IsSystem t
  is_system_same is b lt =
      let P : ℕ → Type 0 = λ n. IsDriver n (t.driver b) in
      subst P same.bits (is_driver_same s.bits (s.driver b) (t.driver b) (same.drivers b (within b lt)) (is b (within b lt)))

  pub solves_same : (cut : ℕ → Bool) (n : ℕ) (v : ℕ → Values) → Solves s cut n v → Solves t cut n v
  solves_same cut n v h = record {
    now = λ c b lc lt kept. meets_same (s.driver b) (t.driver b) (same.drivers b (within b lt)) (v c) (v c b) (h.now c b lc (within b lt) kept);
    next = λ c b lc lt kept. follows_same (s.driver b) (t.driver b) (same.drivers b (within b lt)) (v c) (v (suc c) b) (h.next c b lc (within b lt) kept);
  }

  pub initial_same : (cut : ℕ → Bool) (v : Values) → IsInitial s cut v → IsInitial t cut v
  initial_same cut v h b lt kept = begins_same (s.driver b) (t.driver b) (same.drivers b (within b lt)) (v b) (h b (within b lt) kept)

-- a chain of one system's reads is one of the other's, as long as all its bits are bits of the systems
chain_same : (s t : System) → SameSystem s t → IsSystem s → (a : ℕ) (cs : List ℕ) (b : ℕ) → a < s.bits → IsChain s a cs b → IsChain t a cs b
chain_same s t same is a [] b lt h = reads_same (s.driver a) (t.driver a) (same.drivers a lt) b h
chain_same s t same is a (c ∷ cs) b lt h =
    (reads_same (s.driver a) (t.driver a) (same.drivers a lt) c h.0, chain_same s t same is c cs b (reads_bounded s.bits (s.driver a) (is a lt) c h.0) h.1)

pub loop_free_same : (s t : System) → SameSystem s t → IsSystem s → IsLoopFree s → IsLoopFree t
loop_free_same s t same is free b cs lt h =
    free b cs (within s t same b lt) (chain_same t s (system_back s t same) (is_system_same s t same is) b cs b lt h)

one_to_one_same : (s s' h h' : System) → SameSystem s s' → SameSystem h h' → (p : Plan) → IsOneToOne s h p → IsOneToOne s' h' p
one_to_one_same s s' h h' same_s same_h p one =
    let s_bits = same_s.bits in
    let h_bits = same_h.bits in
    record {
      gold_bits = λ i lt. (let le : p.gold i < s.bits = one.gold_bits i lt in omega arith);
      gate_bits = λ i lt. (let le : p.gate i < h.bits = one.gate_bits i lt in omega arith);
      gold_once = one.gold_once;
      gate_once = one.gate_once;
    }

-- one design

pub back : (d e : Design) → SameDesign d e → SameDesign e d
back d e h = record {
  system = system_back d.system e.system h.system;
  nets = sym h.nets;
  ports = sym h.ports;
  clock = sym h.clock;
  copies = λ b lt. sym (h.copies b (within d.system e.system h.system b lt));
}

-- bits have the same names, places and directions
pub key_same : (d e : Design) → SameDesign d e → (b : ℕ) → key d b ≡ key e b
key_same d e same b = ap (λ nets. at_bit {A = Key} ([], 0) (λ n place. (n.name, place)) nets b) same.nets

pub dir_same : (d e : Design) → SameDesign d e → (b : ℕ) → dir d b ≡ dir e b
dir_same d e same b = ap (λ nets. at_bit inner (λ n place. n.dir) nets b) same.nets

module _ (d e : Design) (same : SameDesign d e) where
  below : (b : ℕ) → b < e.bits → b < d.bits
  below b lt = within d.system e.system same.system b lt

  input_back : (b : ℕ) → b < e.bits → IsInput (e.driver b) → IsInput (d.driver b)
  input_back b lt i = is_input_same (e.driver b) (d.driver b) (driver_back (d.driver b) (e.driver b) (same.system.drivers b (below b lt))) i

  input_on : (b : ℕ) → b < e.bits → IsInput (d.driver b) → IsInput (e.driver b)
  input_on b lt i = is_input_same (d.driver b) (e.driver b) (same.system.drivers b (below b lt)) i

  pub is_design_same : IsDesign d → IsDesign e
  is_design_same is = record {
    drivers = is_system_same d.system e.system same.system is.drivers;
    inputs = λ b lt. (
      (λ i. sym (dir_same d e same b) ∙ (is.inputs b (below b lt)).0 (input_back b lt i)),
      (λ f. input_on b lt ((is.inputs b (below b lt)).1 (dir_same d e same b ∙ f))),
    );
    widths = ap total_width (sym same.nets) ∙ is.widths ∙ same.system.bits;
    names = (let P : List Net → Type 0 = λ nets. AllPairs (λ m n. m.name ≢ n.name) nets in subst P same.nets is.names);
    ports_once = (let P : List NetName → Type 0 = λ ports. AllPairs (λ p q. p ≢ q) ports in subst P same.ports is.ports_once);
    ports = λ name. (
        let P : List NetName → Type 0 = λ ports. Contains ports name ↔ HasNet e.nets name (λ n. IsPort n.dir) in
        let Q : List Net → Type 0 = λ nets. Contains d.ports name ↔ HasNet nets name (λ n. IsPort n.dir) in
        subst P same.ports (subst Q same.nets (is.ports name)));
    clocked = (
        let P : Option NetName → Type 0 = λ clock. ForSome clock (λ name. HasNet e.nets name (λ n. (n.dir ≡ is_input) × (net_width n ≡ 1))) in
        let Q : List Net → Type 0 = λ nets. ForSome d.clock (λ name. HasNet nets name (λ n. (n.dir ≡ is_input) × (net_width n ≡ 1))) in
        subst P same.clock (subst Q same.nets is.clocked));
  }

  pub run_same : (given : Given) (n : ℕ) (v : ℕ → Values) → Run d given n v → Run e given n v
  run_same given n v run = record {
    inputs = λ c b lc lt i. run.inputs c b lc (below b lt) (input_back b lt i) ∙ ap (given c) (key_same d e same b);
    begins = λ pos. initial_same d.system e.system same.system nothing (v 0) (run.begins pos);
    solves = solves_same d.system e.system same.system nothing n v run.solves;
  }

has_one_same : (d e : Design) → SameDesign d e → (given : Given) (n : ℕ) → HasOneRun d given n → HasOneRun e given n
has_one_same d e same given n h = record {
  some = (h.some.0, run_same d e same given n h.some.0 h.some.1);
  only = λ v w hv hw c b lc lt. h.only v w (run_same e d (back d e same) given n v hv) (run_same e d (back d e same) given n w hw) c b lc (within d.system e.system same.system b lt);
}

-- two designs

module _ (gold gold' gate gate' : Design) (g : SameDesign gold gold') (h : SameDesign gate gate') where
  ports_same : HasPorts gold gate → HasPorts gold' gate'
  ports_same ports a la port =
      let la' = within gold.system gold'.system g.system a la in
      let P : Dir → Type 0 = λ x. IsPort x in
      let t = ports a la' (subst P (sym (dir_same gold gold' g a)) port) in
      let e = h.system.bits in
      let lb : t.0 < gate.bits = t.1 in
      (t.0, omega arith, sym (dir_same gate gate' h t.0) ∙ t.2 ∙ dir_same gold gold' g a, sym (key_same gate gate' h t.0) ∙ t.3 ∙ key_same gold gold' g a)

  pairs_ports_same : (pairs : ℕ) (here there : ℕ → ℕ) → ((i : ℕ) → i < pairs → there i < gate.bits) → PairsPorts gold gate pairs here there → PairsPorts gold' gate' pairs here there
  pairs_ports_same pairs here there bits ports a la port =
      let la' = within gold.system gold'.system g.system a la in
      let P : Dir → Type 0 = λ x. IsPort x in
      let t = ports a la' (subst P (sym (dir_same gold gold' g a)) port) in
      let lb = bits t.0 t.1 in
      (t.0, t.1, t.2, subst P (dir_same gate gate' h (there t.0)) t.3, sym (key_same gate gate' h (there t.0)) ∙ t.4 ∙ key_same gold gold' g a)

module _ (gold gold' gate gate' : Design) (g : SameDesign gold gold') (h : SameDesign gate gate') where
  outputs : SameOutputs gold gate → SameOutputs gold' gate'
  outputs same given n v w hv hw c i j lc li lj di dj key =
      let li' = within gold.system gold'.system g.system i li in
      let lj' = within gate.system gate'.system h.system j lj in
      same given n v w (run_same gold' gold (back gold gold' g) given n v hv) (run_same gate' gate (back gate gate' h) given n w hw) c i j lc li' lj'
      (dir_same gold gold' g i ∙ di) (dir_same gate gate' h j ∙ dj) (key_same gold gold' g i ∙ key ∙ sym (key_same gate gate' h j))

  pub equivalent_same : Equivalent gold gate → Equivalent gold' gate'
  equivalent_same e = record {
    gold_design = is_design_same gold gold' g e.gold_design;
    gate_design = is_design_same gate gate' h e.gate_design;
    gold_ports = ports_same gold gold' gate gate' g h e.gold_ports;
    gate_ports = ports_same gate gate' gold gold' h g e.gate_ports;
    gold_run = λ given n. has_one_same gold gold' g given n (e.gold_run given n);
    gate_run = λ given n. has_one_same gate gate' h given n (e.gate_run given n);
    outputs = outputs e.outputs;
  }

  pub covers_same : (p : Plan) → Covers gold gate p → Covers gold' gate' p
  covers_same p c =
      let P : Dir → Type 0 = λ x. IsPort x in
      let gold_bits = c.one_to_one.gold_bits in
      let gate_bits = c.one_to_one.gate_bits in
      record {
        one_to_one = one_to_one_same gold.system gold'.system gate.system gate'.system g.system h.system p c.one_to_one;
        gold_ports = pairs_ports_same gold gold' gate gate' g h p.pairs p.gold p.gate gate_bits c.gold_ports;
        gate_ports = pairs_ports_same gate gate' gold gold' h g p.pairs p.gate p.gold gold_bits c.gate_ports;
        plain_ports = λ i lt port. c.plain_ports i lt (subst P (sym (dir_same gold gold' g (p.gold i))) port);
        gold_inputs = λ i lt. (
          (λ e. sym (dir_same gold gold' g (p.gold i)) ∙ (c.gold_inputs i lt).0 e),
          (λ e. (c.gold_inputs i lt).1 (dir_same gold gold' g (p.gold i) ∙ e)),
        );
        gate_inputs = λ i lt. (
          (λ e. sym (dir_same gate gate' h (p.gate i)) ∙ (c.gate_inputs i lt).0 e),
          (λ e. (c.gate_inputs i lt).1 (dir_same gate gate' h (p.gate i) ∙ e)),
        );
        in_one = c.in_one;
        in_pairs = c.in_pairs;
        some_held = c.some_held;
      }

-- two systems and a partition

module _ (p : Plan) (inside : ℕ → Bool) (s s' h h' : System) (same_s : SameSystem s s') (same_h : SameSystem h h') where
  cut_run_same : (n : ℕ) (v w : ℕ → Values) → CutRun s h p inside n v w → CutRun s' h' p inside n v w
  cut_run_same n v w run = record {
    some = run.some;
    gold_solves = solves_same s s' same_s (is_cut p.pairs p.gold inside) n v run.gold_solves;
    gate_solves = solves_same h h' same_h (is_cut p.pairs p.gate inside) n w run.gate_solves;
    equal = run.equal;
  }

  from_initial_same : (v w : ℕ → Values) → IsFromInitial s h p inside v w → IsFromInitial s' h' p inside v w
  from_initial_same v w begins = record {
    gold_begins = initial_same s s' same_s (is_cut p.pairs p.gold inside) (v 0) begins.gold_begins;
    gate_begins = initial_same h h' same_h (is_cut p.pairs p.gate inside) (w 0) begins.gate_begins;
  }

  base_on : (k : ℕ) → Base s h p inside k → Base s' h' p inside k
  base_on k b = record { v = b.v; w = b.w; run = cut_run_same k b.v b.w b.run; initial = from_initial_same b.v b.w b.initial; differ = b.differ }

  step_on : (k : ℕ) → Step s h p inside k → Step s' h' p inside k
  step_on k b = record { v = b.v; w = b.w; run = cut_run_same (suc k) b.v b.w b.run; same = b.same; differ = b.differ }

module _ (s s' h h' : System) (same_s : SameSystem s s') (same_h : SameSystem h h') (p : Plan) (inside : ℕ → Bool) where
  cut_run_back : (n : ℕ) (v w : ℕ → Values) → CutRun s' h' p inside n v w → CutRun s h p inside n v w
  cut_run_back = cut_run_same p inside s' s h' h (system_back s s' same_s) (system_back h h' same_h)

  from_initial_back : (v w : ℕ → Values) → IsFromInitial s' h' p inside v w → IsFromInitial s h p inside v w
  from_initial_back = from_initial_same p inside s' s h' h (system_back s s' same_s) (system_back h h' same_h)

  pub base_same : (k : ℕ) → Base s h p inside k ↔ Base s' h' p inside k
  base_same k = (base_on p inside s s' h h' same_s same_h k, base_on p inside s' s h' h (system_back s s' same_s) (system_back h h' same_h) k)

  pub step_same : (k : ℕ) → Step s h p inside k ↔ Step s' h' p inside k
  step_same k = (step_on p inside s s' h h' same_s same_h k, step_on p inside s' s h' h (system_back s s' same_s) (system_back h h' same_h) k)

  pub never_on : Never s h p inside → Never s' h' p inside
  never_on never n v w run begins = never n v w (cut_run_back n v w run) (from_initial_back v w begins)

  pub denotes_on : (t : Part) → Denotes s h p inside t → Denotes s' h' p inside t
  denotes_on t d = record {
    pinout = d.pinout;
    part_run = λ n v w run. d.part_run n v w (cut_run_back n v w run);
    cut_run = λ n given x pos run.
        (let r = d.cut_run n given x pos run in (r.0, r.1, cut_run_same p inside s s' h h' same_s same_h n r.0 r.1 r.2, r.3));
    part_run_initial = λ n v w run begins. d.part_run_initial n v w (cut_run_back n v w run) (from_initial_back v w begins);
    cut_run_initial = λ n given x pos run begins. (
        let r = d.cut_run_initial n given x pos run begins in
        (r.0, r.1, cut_run_same p inside s s' h h' same_s same_h n r.0 r.1 r.2, from_initial_same p inside s s' h h' same_s same_h r.0 r.1 r.3, r.4));
    trim = d.trim;
  }
