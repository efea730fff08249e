-- Composition: where no partition ever differs, the designs are equivalent.
-- Take a run of gold, and for a test of pairs the one trace of gate in which each paired bit outside has gold's value through
-- the pair's sign and each other bit meets its driver. With gold's run it is a cut run of the partition, so by the premise the
-- pairs inside have gold's values through their signs too. Hence for every partition it is the one trace in which all paired
-- bits have them. Each bit of gate meets its driver in one of these traces, and so in that one, which is gate's run.
use Rattle.std.proofs.Common.{◌≡◌, ℕ, suc, ◌<◌, Bool, true, false, refl, arith, sym, ap, subst, ◌∙◌, ◌⊎◌, inl, inr}
use Rattle.std.proofs.lemmas.Bool.{cases_Bool, false_from_ne_true}
use Rattle.eq_model.specs.System.{Values, Driver, input, undriven, equation, register, IsInput, Meets, Begins, Follows, IsLoopFree, Agree, nothing}
use Rattle.eq_model.specs.Run.{Given, Design, IsDesign, Run, SameOutputs, Equivalent, key, dir}
use Rattle.eq_model.specs.Nets.{Dir, inner, is_input, is_output, IsPort}
use Rattle.eq_model.specs.Plan.{Plan, Covers, signed, gate_value}
use Rattle.eq_model.specs.Cut.{is_cut, CutRun, IsFromInitial, Never}
use Rattle.eq_model.proofs.Bits.{bits_apart}
use Rattle.eq_model.proofs.Induction.{same_from}
use Rattle.eq_model.proofs.Places.{cut_from, cut_some, kept_inside, index_of, index_is}
use Rattle.eq_model.proofs.Signs.{signed_on}
use Rattle.eq_model.proofs.Moves.{meets_move, follows_move, begins_move}
use Rattle.eq_model.proofs.Trace.{InitialTrace, initial_trace, is_initial_trace, one_initial_trace, one_run}

input_meets : (d : Driver) (v : Values) (x : Bool) → IsInput d → Meets d v x
input_meets input v x h = tt
input_meets undriven v x h = absurd h
input_meets (equation f) v x h = absurd h
input_meets (register i f) v x h = absurd h

input_follows : (d : Driver) (v : Values) (x : Bool) → IsInput d → Follows d v x
input_follows input v x h = tt
input_follows undriven v x h = absurd h
input_follows (equation f) v x h = absurd h
input_follows (register i f) v x h = absurd h

input_begins : (d : Driver) (x : Bool) → IsInput d → Begins d x
input_begins input x h = tt
input_begins undriven x h = absurd h
input_begins (equation f) x h = absurd h
input_begins (register i f) x h = absurd h

same_dir : (d e : Dir) → IsPort d → IsPort e → (d ≡ is_input → e ≡ is_input) → (e ≡ is_input → d ≡ is_input) → e ≡ d
same_dir inner e hd he to back = absurd hd
same_dir is_input e hd he to back = to refl
same_dir is_output inner hd he to back = absurd he
same_dir is_output is_input hd he to back = sym (back refl)
same_dir is_output is_output hd he to back = refl

module _ (gold gate : Design) (p : Plan) (gold_sound : IsDesign gold) (gate_sound : IsDesign gate) (gate_free : IsLoopFree gate.system)
    (covers : Covers gold gate p) (never : (q : ℕ) → q < p.parts → Never gold.system gate.system p (p.holds q)) where
  module _ (given : Given) (n : ℕ) (v : ℕ → Values) (run : Run gold given n v) where
    -- gold's values through the pairs' signs, on the paired bits of gate
    abbrev wanted_of : ℕ → ℕ → Bool
    wanted_of c i = signed (p.inverted i) (v c (p.gold i))

    abbrev pub wanted : ℕ → Values
    wanted c b = wanted_of c (index_of p.pairs p.gate b)

    -- gate's bits where the paired bits outside have these values and all others meet their drivers
    abbrev pub mixed : (ℕ → Bool) → ℕ → Values
    mixed inside = initial_trace gate.system (is_cut p.pairs p.gate inside) wanted gate_sound.drivers gate_free

    mixed_trace : (inside : ℕ → Bool) → InitialTrace gate.system (is_cut p.pairs p.gate inside) wanted n (mixed inside)
    mixed_trace inside = is_initial_trace gate.system (is_cut p.pairs p.gate inside) wanted gate_sound.drivers gate_free n

    wanted_at : (c i b : ℕ) → i < p.pairs → p.gate i ≡ b → wanted c b ≡ wanted_of c i
    wanted_at c i b lt e = ap (wanted_of c) (index_is p.pairs p.gate covers.one_to_one.gate_once i b lt e p.pairs (omega arith) lt)

    outside_same : (inside : ℕ → Bool) (c i : ℕ) → c < n → i < p.pairs → inside i ≡ false → v c (p.gold i) ≡ gate_value p i (mixed inside c)
    outside_same inside c i lc li out = signed_on (p.inverted i) (mixed inside c (p.gate i)) (v c (p.gold i))
        ((mixed_trace inside).held c (p.gate i) lc (covers.one_to_one.gate_bits i li) (inl (cut_from p.pairs p.gate inside i (p.gate i) li refl out)) ∙ wanted_at c i (p.gate i) li refl)

    cut_run : (inside : ℕ → Bool) → 0 < n → CutRun gold.system gate.system p inside n v (mixed inside)
    cut_run inside pos = record {
      some = pos;
      gold_solves = record {
        now = λ c b lc lb kept. run.solves.now c b lc lb refl;
        next = λ c b lc lb kept. run.solves.next c b lc lb refl;
      };
      gate_solves = (mixed_trace inside).solves;
      equal = outside_same inside;
    }

    from_initial : (inside : ℕ → Bool) → 0 < n → IsFromInitial gold.system gate.system p inside v (mixed inside)
    from_initial inside pos = record {
      gold_begins = λ b lb kept. run.begins pos b lb refl;
      gate_begins = (mixed_trace inside).begins pos;
    }

    -- by the premise, partition q's own outputs have gold's values too
    inside_same : (q : ℕ) → q < p.parts → (c i : ℕ) → c < n → i < p.pairs → p.holds q i ≡ true → v c (p.gold i) ≡ gate_value p i (mixed (p.holds q) c)
    inside_same q lq c i lc li h =
        let pos : 0 < n = omega arith in
        same_from p (p.holds q) (v c) (mixed (p.holds q) c)
        (λ differ. never q lq n v (mixed (p.holds q)) (cut_run (p.holds q) pos) (from_initial (p.holds q) pos) c lc differ) i li h

    pairs_same : (q : ℕ) → q < p.parts → (c i : ℕ) → c < n → i < p.pairs → v c (p.gold i) ≡ gate_value p i (mixed (p.holds q) c)
    pairs_same q lq c i lc li =
        elim (cases_Bool (p.holds q i)) [
          | inl h ↦ inside_same q lq c i lc li h
          | inr h ↦ outside_same (p.holds q) c i lc li h
        ]

    kept_all : (inside : ℕ → Bool) (b : ℕ) → is_cut p.pairs p.gate nothing b ≡ false → is_cut p.pairs p.gate inside b ≡ false
    kept_all inside b kept = false_from_ne_true (is_cut p.pairs p.gate inside b) (λ h.
        let t = cut_some p.pairs p.gate inside b h in
        let f : is_cut p.pairs p.gate nothing b ≡ true = cut_from p.pairs p.gate nothing t.0 b t.1 t.2 refl in
        cc)

    -- so they are the values that all pairs' gold values determine
    as_all : (q : ℕ) → q < p.parts → InitialTrace gate.system (is_cut p.pairs p.gate nothing) wanted n (mixed (p.holds q))
    as_all q lq =
        let m = mixed_trace (p.holds q) in
        record {
          held = λ c b lc lb why. elim why [
            | inl h ↦ (
                let t = cut_some p.pairs p.gate nothing b h in
                let P : ℕ → Type 0 = λ x. mixed (p.holds q) c x ≡ wanted_of c t.0 in
                subst P t.2 (signed_on (p.inverted t.0) (v c (p.gold t.0)) (mixed (p.holds q) c (p.gate t.0)) (pairs_same q lq c t.0 lc t.1)) ∙ sym (wanted_at c t.0 b t.1 t.2))
            | inr h ↦ m.held c b lc lb (inr h)
          ];
          solves = record {
            now = λ c b lc lb kept. m.solves.now c b lc lb (kept_all (p.holds q) b kept);
            next = λ c b lc lb kept. m.solves.next c b lc lb (kept_all (p.holds q) b kept);
          };
          begins = λ pos b lb kept. m.begins pos b lb (kept_all (p.holds q) b kept);
        }

    all_agree : (q : ℕ) → q < p.parts → Agree gate.system n (mixed (p.holds q)) (mixed nothing)
    all_agree q lq = (one_initial_trace gate.system (is_cut p.pairs p.gate nothing) wanted gate_sound.drivers gate_free n).only
        (mixed (p.holds q)) (mixed nothing) (as_all q lq) (mixed_trace nothing)

    -- each bit of gate is unpaired, an input, or kept in some partition
    Place : ℕ → Type 0
    Place b = ((is_cut p.pairs p.gate nothing b ≡ false) ⊎ IsInput (gate.driver b)) ⊎ ((q : ℕ) × (q < p.parts) × (is_cut p.pairs p.gate (p.holds q) b ≡ false))

    place : (b : ℕ) → b < gate.bits → Place b
    unfolding Place
    place b lb =
        elim (cases_Bool (is_cut p.pairs p.gate nothing b)) [
          | inr kept ↦ inl (inl kept)
          | inl h ↦ (
              let t = cut_some p.pairs p.gate nothing b h in
              elim (cases_Bool (p.input t.0)) [
                | inl is ↦ inl (inr ((gate_sound.inputs b lb).1 (ap (dir gate) (sym t.2) ∙ (covers.gate_inputs t.0 t.1).0 is)))
                | inr is_not ↦ (
                    let one = covers.in_one t.0 t.1 is_not in
                    inr (one.0, one.1, kept_inside p.pairs p.gate covers.one_to_one.gate_once (p.holds one.0) t.0 b t.1 t.2 one.2))
              ])
        ]

    solves_now : (c b : ℕ) → c < n → b < gate.bits → Meets (gate.driver b) (mixed nothing c) (mixed nothing c b)
    unfolding Place
    solves_now c b lc lb =
        elim (place b lb) [
          | inl (inl kept) ↦ (mixed_trace nothing).solves.now c b lc lb kept
          | inl (inr is) ↦ input_meets (gate.driver b) (mixed nothing c) (mixed nothing c b) is
          | inr t ↦ meets_move gate.bits (gate.driver b) (gate_sound.drivers b lb) (mixed (p.holds t.0) c) (mixed nothing c)
              (λ r lr. all_agree t.0 t.1 c r lc lr) (mixed (p.holds t.0) c b) (mixed nothing c b) (all_agree t.0 t.1 c b lc lb)
              ((mixed_trace (p.holds t.0)).solves.now c b lc lb t.2)
        ]

    solves_next : (c b : ℕ) → suc c < n → b < gate.bits → Follows (gate.driver b) (mixed nothing c) (mixed nothing (suc c) b)
    unfolding Place
    solves_next c b lc lb =
        elim (place b lb) [
          | inl (inl kept) ↦ (mixed_trace nothing).solves.next c b lc lb kept
          | inl (inr is) ↦ input_follows (gate.driver b) (mixed nothing c) (mixed nothing (suc c) b) is
          | inr t ↦ follows_move gate.bits (gate.driver b) (gate_sound.drivers b lb) (mixed (p.holds t.0) c) (mixed nothing c)
              (λ r lr. all_agree t.0 t.1 c r (omega arith) lr) (mixed (p.holds t.0) (suc c) b) (mixed nothing (suc c) b) (all_agree t.0 t.1 (suc c) b lc lb)
              ((mixed_trace (p.holds t.0)).solves.next c b lc lb t.2)
        ]

    solves_first : 0 < n → (b : ℕ) → b < gate.bits → Begins (gate.driver b) (mixed nothing 0 b)
    unfolding Place
    solves_first pos b lb =
        elim (place b lb) [
          | inl (inl kept) ↦ (mixed_trace nothing).begins pos b lb kept
          | inl (inr is) ↦ input_begins (gate.driver b) (mixed nothing 0 b) is
          | inr t ↦ begins_move (gate.driver b) (mixed (p.holds t.0) 0 b) (mixed nothing 0 b) (all_agree t.0 t.1 0 b pos lb)
              ((mixed_trace (p.holds t.0)).begins pos b lb t.2)
        ]

    port_of_input : (d : Dir) → d ≡ is_input → IsPort d
    port_of_input d e = let P : Dir → Type 0 = λ x. IsPort x in subst P (sym e) tt

    -- ports are paired by plain pairs
    pub plain_same : (c i : ℕ) → c < n → i < p.pairs → IsPort (dir gold (p.gold i)) → v c (p.gold i) ≡ mixed nothing c (p.gate i)
    plain_same c i lc li port =
        outside_same nothing c i lc li refl ∙ ap (λ s. signed s (mixed nothing c (p.gate i))) (covers.plain_ports i li port)

    gate_input : (c b : ℕ) → c < n → b < gate.bits → IsInput (gate.driver b) → mixed nothing c b ≡ given c (key gate b)
    gate_input c b lc lb is =
        let at = (gate_sound.inputs b lb).0 is in
        let t = covers.gate_ports b lb (port_of_input (dir gate b) at) in
        let gate_in : dir gate (p.gate t.0) ≡ is_input = ap (dir gate) t.2 ∙ at in
        let gold_in : dir gold (p.gold t.0) ≡ is_input = (covers.gold_inputs t.0 t.1).0 ((covers.gate_inputs t.0 t.1).1 gate_in) in
        let lg : p.gold t.0 < gold.bits = covers.one_to_one.gold_bits t.0 t.1 in
        let P : ℕ → Type 0 = λ x. mixed nothing c x ≡ v c (p.gold t.0) in
        subst P t.2 (sym (plain_same c t.0 lc t.1 t.3))
        ∙ run.inputs c (p.gold t.0) lc lg ((gold_sound.inputs (p.gold t.0) lg).1 gold_in) ∙ ap (given c) t.4

    -- so the values that all pairs determine are those of a run of gate
    pub mixed_run : Run gate given n (mixed nothing)
    mixed_run = record {
      inputs = gate_input;
      solves = record {
        now = λ c b lc lb kept. solves_now c b lc lb;
        next = λ c b lc lb kept. solves_next c b lc lb;
      };
      begins = λ pos b lb kept. solves_first pos b lb;
    }

  module _ (gold_free : IsLoopFree gold.system) where
    outputs : SameOutputs gold gate
    outputs given n v w hv hw c a b lc la lb da db same =
        let P : Dir → Type 0 = λ x. IsPort x in
        let t = covers.gold_ports a la (subst P (sym da) tt) in
        let lg : p.gate t.0 < gate.bits = covers.one_to_one.gate_bits t.0 t.1 in
        let here : p.gate t.0 ≡ b = bits_apart gate gate_sound (p.gate t.0) b lg lb (t.4 ∙ same) in
        ap (v c) (sym t.2) ∙ plain_same given n v hv c t.0 lc t.1 (subst (λ x. IsPort (dir gold x)) (sym t.2) (subst P (sym da) tt))
        ∙ (one_run gate gate_sound.drivers gate_free given n).only (mixed given n v hv nothing) w (mixed_run given n v hv) hw c (p.gate t.0) lc lg
        ∙ ap (w c) here

    pub equivalent : Equivalent gold gate
    equivalent = record {
      gold_design = gold_sound;
      gate_design = gate_sound;
      gold_ports = λ a la h. (
          let t = covers.gold_ports a la h in
          let P : ℕ → Type 0 = λ x. IsPort (dir gold x) in (
            p.gate t.0,
            covers.one_to_one.gate_bits t.0 t.1,
            same_dir (dir gold a) (dir gate (p.gate t.0)) h t.3
                (λ e. (covers.gate_inputs t.0 t.1).0 ((covers.gold_inputs t.0 t.1).1 (ap (dir gold) t.2 ∙ e)))
                (λ e. ap (dir gold) (sym t.2) ∙ (covers.gold_inputs t.0 t.1).0 ((covers.gate_inputs t.0 t.1).1 e)),
            t.4,
          ));
      gate_ports = λ a la h. (
          let t = covers.gate_ports a la h in (
            p.gold t.0,
            covers.one_to_one.gold_bits t.0 t.1,
            same_dir (dir gate a) (dir gold (p.gold t.0)) h t.3
                (λ e. (covers.gold_inputs t.0 t.1).0 ((covers.gate_inputs t.0 t.1).1 (ap (dir gate) t.2 ∙ e)))
                (λ e. ap (dir gate) (sym t.2) ∙ (covers.gate_inputs t.0 t.1).0 ((covers.gold_inputs t.0 t.1).1 e)),
            t.4,
          ));
      gold_run = one_run gold gold_sound.drivers gold_free;
      gate_run = one_run gate gate_sound.drivers gate_free;
      outputs = outputs;
    }
