-- Two sides copied into one part: the part denotes the partition.
use Rattle.std.proofs.Common.{◌≡◌, ℕ, zero, suc, ◌<◌, Bool, true, false, not, cond, ◌==◌, ◌&&◌, Contains, refl, arith, sym, ap, subst, ◌∙◌, inl, inr}
use Rattle.std.proofs.lemmas.Bool.{cases_Bool, cond-true, cond-false, and_parts, and_from, false_from_ne_true}
use Rattle.std.proofs.lemmas.Bool.Decides.{Decides-eqb}
use Rattle.eq_model.specs.System.{Values, Driver, input, undriven, equation, register, System, IsSystem, IsDriver, IsHeld, IsInput, Meets, Begins, Follows, reads_now, IsLoopFree, Solves, IsInitial, nothing, is_register}
use Rattle.eq_model.specs.Plan.{Plan, IsOneToOne, signed}
use Rattle.eq_model.specs.Cut.{any_below, is_cut, CutRun, IsFromInitial}
use Rattle.eq_model.specs.Part.{Part, IsPart, PartRun}
use Rattle.eq_model.specs.Denotes.{Fits, Denotes}
use Rattle.eq_model.specs.Copying.{CopiesDriver, Negates, IsSigned, Copies, Copying}
use Rattle.eq_model.proofs.Order.{by_reads, free_from_rank}
use Rattle.eq_model.proofs.Places.{any_from, cut_from, index_of, index_is, find_below, found}
use Rattle.eq_model.proofs.Trace.{Trace, InitialTrace, trace, is_trace, initial_trace, is_initial_trace}
use Rattle.eq_model.proofs.Signs.{signed_on}

-- a copy has its bit's value

copy_now : (n : ℕ) (reached : ℕ → Bool) (node : ℕ → ℕ) (d e : Driver) → CopiesDriver reached node d e → IsDriver n d → (v x : Values) (a y : Bool) →
    Meets d v a → Meets e x y → ((r : ℕ) → r < n → Contains (reads_now d) r → reached r ≡ true → v r ≡ x (node r)) → (IsHeld d → a ≡ y) → a ≡ y
copy_now n reached node undriven undriven h sound v x a y ma my agree held = ma ∙ sym my
copy_now n reached node (equation e) (equation f) h sound v x a y ma my agree held = ma ∙ h.value v x (λ r c. agree r (sound.bounded r c) c (h.reads r c)) ∙ sym my
copy_now n reached node (register i e) (register j f) h sound v x a y ma my agree held = held tt
copy_now n reached node _ _ h sound v x a y ma my agree held = absurd h

copy_next : (n : ℕ) (reached : ℕ → Bool) (node : ℕ → ℕ) (d e : Driver) → CopiesDriver reached node d e → IsDriver n d → (v x : Values) (a y : Bool) →
    Follows d v a → Follows e x y → ((r : ℕ) → r < n → reached r ≡ true → v r ≡ x (node r)) → IsHeld d → a ≡ y
copy_next n reached node undriven undriven h sound v x a y fa fy agree held = absurd held
copy_next n reached node (equation e) (equation f) h sound v x a y fa fy agree held = absurd held
copy_next n reached node (register i e) (register j f) h sound v x a y fa fy agree held = fa ∙ h.1.value v x (λ r c. agree r (sound.bounded r c) (h.1.reads r c)) ∙ sym fy
copy_next n reached node _ _ h sound v x a y fa fy agree held = absurd h

copy_begins : (reached : ℕ → Bool) (node : ℕ → ℕ) (d e : Driver) → CopiesDriver reached node d e → (a y : Bool) → Begins d a → Begins e y → IsHeld d → a ≡ y
copy_begins reached node undriven undriven h a y ba by held = absurd held
copy_begins reached node (equation e) (equation f) h a y ba by held = absurd held
copy_begins reached node (register i e) (register j f) h a y ba by held = ba ∙ h.0 ∙ sym by
copy_begins reached node _ _ h a y ba by held = absurd h

copy_register : (reached : ℕ → Bool) (node : ℕ → ℕ) (d e : Driver) → CopiesDriver reached node d e → IsHeld d → is_register e ≡ true
copy_register reached node undriven undriven h held = absurd held
copy_register reached node (equation e) (equation f) h held = absurd held
copy_register reached node (register i e) (register j f) h held = refl
copy_register reached node _ _ h held = absurd h

module _ (s : System) (pairs : ℕ) (side : ℕ → ℕ) (sign : ℕ → Bool) (inside : ℕ → Bool) (t : Part) (input_pair : ℕ → ℕ) (copies : Copies s pairs side sign inside t input_pair)
    (sound : IsSystem s) (loop_free : IsLoopFree s) (n : ℕ) (v x : ℕ → Values)
    (solves : Solves s (is_cut pairs side inside) n v) (part_solves : Solves t.system nothing n x)
    (at_cut : (c b : ℕ) → c < n → b < s.bits → copies.reached b ≡ true → is_cut pairs side inside b ≡ true → v c b ≡ x c (copies.node b))
    (start : 0 < n → (b : ℕ) → b < s.bits → copies.reached b ≡ true → is_cut pairs side inside b ≡ false → IsHeld (s.driver b) → v 0 b ≡ x 0 (copies.node b)) where
  -- in one cycle, where the registers have the same values
  in_cycle : (c : ℕ) → c < n → ((b : ℕ) → b < s.bits → copies.reached b ≡ true → is_cut pairs side inside b ≡ false → IsHeld (s.driver b) → v c b ≡ x c (copies.node b)) →
      (b : ℕ) → b < s.bits → copies.reached b ≡ true → v c b ≡ x c (copies.node b)
  in_cycle c lc held = by_reads s sound loop_free (λ b. copies.reached b ≡ true → v c b ≡ x c (copies.node b)) (λ b lt rest is.
      elim (cases_Bool (is_cut pairs side inside b)) [
        | inl out ↦ at_cut c b lc lt is out
        | inr kept ↦ copy_now s.bits copies.reached copies.node (s.driver b) (t.driver (copies.node b)) (copies.kept b lt is kept) (sound b lt) (v c) (x c) (v c b) (x c (copies.node b))
            (solves.now c b lc lt kept) (part_solves.now c (copies.node b) lc (copies.nodes b lt is) refl) (λ r lr reads. rest r lr reads) (held b lt is kept)
      ])

  pub copied : (c : ℕ) → c < n → (b : ℕ) → b < s.bits → copies.reached b ≡ true → v c b ≡ x c (copies.node b)
  copied zero lc = in_cycle 0 lc (start lc)
  copied (suc c) lc = in_cycle (suc c) lc (λ b lt is kept held.
      copy_next s.bits copies.reached copies.node (s.driver b) (t.driver (copies.node b)) (copies.kept b lt is kept) (sound b lt) (v c) (x c) (v (suc c) b) (x (suc c) (copies.node b))
      (solves.next c b lc lt kept) (part_solves.next c (copies.node b) lc (copies.nodes b lt is) refl) (copied c (omega arith)) held)

-- a node through a sign has the value through it
negated : (d : Driver) (m : ℕ) → Negates d m → (x : Values) (y : Bool) → Meets d x y → y ≡ not (x m)
negated input m h x y met = absurd h
negated undriven m h x y met = absurd h
negated (equation e) m h x y met = met ∙ h x
negated (register i e) m h x y met = absurd h

through_sign : (t : Part) (sign : Bool) (m k : ℕ) → IsSigned t sign m k → (x : Values) → Meets (t.driver k) x (x k) → x k ≡ signed sign (x m)
through_sign t false m k h x met = ap x h
through_sign t true m k h x met = negated (t.driver k) m h x (x k) met

pick : Driver → Bool → Bool → Bool
pick input given state = given
pick undriven given state = state
pick (equation e) given state = state
pick (register i e) given state = state

pick_input : (d : Driver) (given state : Bool) → IsInput d → pick d given state ≡ given
unfolding pick
pick_input input given state h = refl
pick_input undriven given state h = absurd h
pick_input (equation e) given state h = absurd h
pick_input (register i e) given state h = absurd h

pick_register : (d : Driver) (given state : Bool) → is_register d ≡ true → pick d given state ≡ state
unfolding pick
pick_register input given state h = absurd (cc)
pick_register undriven given state h = refl
pick_register (equation e) given state h = refl
pick_register (register i e) given state h = refl

register_held : (d : Driver) → is_register d ≡ true → IsHeld d
register_held input h = tt
register_held undriven h = absurd (cc)
register_held (equation e) h = absurd (cc)
register_held (register i e) h = tt

module _ (s h : System) (p : Plan) (inside : ℕ → Bool) (t : Part) (copying : Copying s h p inside t) (part : IsPart t)
    (s_sound : IsSystem s) (h_sound : IsSystem h) (s_free : IsLoopFree s) (h_free : IsLoopFree h)
    (one : IsOneToOne s h p) where
  abbrev gold_cut : ℕ → Bool
  gold_cut = is_cut p.pairs p.gold inside

  abbrev gate_cut : ℕ → Bool
  gate_cut = is_cut p.pairs p.gate inside

  part_free : IsLoopFree t.system
  part_free = free_from_rank t.system part.drivers (λ b. b) part.ordered

  -- runs that have the same inputs and begin alike fit
  fits_from : (n : ℕ) (given : ℕ → ℕ → Bool) (x v w : ℕ → Values) → CutRun s h p inside n v w → PartRun t given n x →
      ((c k : ℕ) → c < n → k < t.inputs → given c k ≡ v c (p.gold (copying.pinout.input_pair k))) →
      ((b : ℕ) → b < s.bits → copying.gold.reached b ≡ true → gold_cut b ≡ false → IsHeld (s.driver b) → v 0 b ≡ x 0 (copying.gold.node b)) →
      ((b : ℕ) → b < h.bits → copying.gate.reached b ≡ true → gate_cut b ≡ false → IsHeld (h.driver b) → w 0 b ≡ x 0 (copying.gate.node b)) →
      Fits p inside t copying.pinout n given x v w
  fits_from n given x v w run part_run inputs gold_start gate_start =
      let gold_at : (c b : ℕ) → c < n → b < s.bits → copying.gold.reached b ≡ true → gold_cut b ≡ true → v c b ≡ x c (copying.gold.node b) = λ c b lc lt is out.
      (let a = copying.gold.at_cut b lt is out in
      let lk = part.numbers a.0 a.1 a.2 in
      ap (v c) (sym a.3) ∙ sym (inputs c (t.number a.0) lc lk) ∙ sym (part_run.inputs c a.0 lc a.1 a.2) ∙ ap (x c) (sym a.4)) in
      let gate_at : (c b : ℕ) → c < n → b < h.bits → copying.gate.reached b ≡ true → gate_cut b ≡ true → w c b ≡ x c (copying.gate.node b) = λ c b lc lt is out.
      (let a = copying.gate.at_cut b lt is out in
      let lk = part.numbers a.0 a.1 a.2 in
      let i = copying.pinout.input_pair (t.number a.0) in
      let o = copying.pinout.outside (t.number a.0) lk in
      let gold_value : x c a.0 ≡ signed (p.inverted i) (w c (p.gate i)) =
      part_run.inputs c a.0 lc a.1 a.2 ∙ inputs c (t.number a.0) lc lk ∙ run.equal c i lc o.0 o.1 in
      ap (w c) (sym a.3) ∙ signed_on (p.inverted i) (x c a.0) (w c (p.gate i)) gold_value
      ∙ sym (through_sign t (p.inverted i) a.0 (copying.gate.node b) a.4 (x c) (part_run.solves.now c (copying.gate.node b) lc (copying.gate.nodes b lt is) refl))) in
      record {
        inputs = inputs;
        gold_outputs = λ c o lc lo.
            (let out = copying.gold_outputs o lo in
            let within = copying.pinout.within o lo in
            ap (x c) (sym out.1) ∙ sym (copied s p.pairs p.gold (λ i. false) inside t copying.pinout.input_pair copying.gold s_sound s_free n v x run.gold_solves part_run.solves
            gold_at (λ pos. gold_start) c lc (p.gold (copying.pinout.output_pair o)) (one.gold_bits (copying.pinout.output_pair o) within.0) out.0));
        gate_outputs = λ c o lc lo.
            (let out = copying.gate_outputs o lo in
            let within = copying.pinout.within o lo in
            let j = copying.pinout.output_pair o in
            through_sign t (p.inverted j) (copying.gate.node (p.gate j)) (t.gate o) out.1 (x c) (part_run.solves.now c (t.gate o) lc (part.gate_nodes o lo) refl)
            ∙ ap (signed (p.inverted j)) (sym (copied h p.pairs p.gate p.inverted inside t copying.pinout.input_pair copying.gate h_sound h_free n w x run.gate_solves part_run.solves
            gate_at (λ pos. gate_start) c lc (p.gate j) (one.gate_bits j within.0) out.0)));
      }

  -- from a cut run to a run of the part

  module _ (n : ℕ) (v w : ℕ → Values) (run : CutRun s h p inside n v w) where
    abbrev part_given : ℕ → ℕ → Bool
    part_given c k = v c (p.gold (copying.pinout.input_pair k))

    abbrev from_gold : ℕ → ℕ → Bool
    from_gold m b = copying.gold.reached b && (copying.gold.node b == m)

    abbrev from_gate : ℕ → ℕ → Bool
    from_gate m b = copying.gate.reached b && (copying.gate.node b == m)

    -- the first value of the register whose copy a node is
    part_state : ℕ → Bool
    part_state m = cond (any_below s.bits (from_gold m)) (v 0 (find_below s.bits (from_gold m))) (w 0 (find_below h.bits (from_gate m)))

    state_gold : (b : ℕ) → b < s.bits → copying.gold.reached b ≡ true → is_register (t.driver (copying.gold.node b)) ≡ true → part_state (copying.gold.node b) ≡ v 0 b
    unfolding part_state
    state_gold b lt is reg =
        let m = copying.gold.node b in
        let here : any_below s.bits (from_gold m) ≡ true = any_from s.bits (from_gold m) b lt (and_from (copying.gold.reached b) (copying.gold.node b == m) is ((Decides-eqb m m).1 refl)) in
        let f = found s.bits (from_gold m) here in
        let a = find_below s.bits (from_gold m) in
        let parts = and_parts (copying.gold.reached a) (copying.gold.node a == m) f.1 in
        let same : b ≡ a = copying.gold.registers b a lt f.0 is parts.0 reg (sym ((Decides-eqb (copying.gold.node a) m).0 parts.1)) in
        cond-true (any_below s.bits (from_gold m)) (v 0 a) (w 0 (find_below h.bits (from_gate m))) here ∙ ap (v 0) (sym same)

    state_gate : (b : ℕ) → b < h.bits → copying.gate.reached b ≡ true → is_register (t.driver (copying.gate.node b)) ≡ true → part_state (copying.gate.node b) ≡ w 0 b
    unfolding part_state
    state_gate b lt is reg =
        let m = copying.gate.node b in
        let here : any_below h.bits (from_gate m) ≡ true = any_from h.bits (from_gate m) b lt (and_from (copying.gate.reached b) (copying.gate.node b == m) is ((Decides-eqb m m).1 refl)) in
        let f = found h.bits (from_gate m) here in
        let a = find_below h.bits (from_gate m) in
        let parts = and_parts (copying.gate.reached a) (copying.gate.node a == m) f.1 in
        let same : b ≡ a = copying.gate.registers b a lt f.0 is parts.0 reg (sym ((Decides-eqb (copying.gate.node a) m).0 parts.1)) in
        let none : any_below s.bits (from_gold m) ≡ false = false_from_ne_true (any_below s.bits (from_gold m)) (λ some.
        let g = found s.bits (from_gold m) some in
        let o = find_below s.bits (from_gold m) in
        let q = and_parts (copying.gold.reached o) (copying.gold.node o == m) g.1 in
        let at : copying.gold.node o ≡ m = (Decides-eqb (copying.gold.node o) m).0 q.1 in
        let P : ℕ → Type 0 = λ z. is_register (t.driver z) ≡ true in
        copying.apart o b g.0 lt q.0 is (subst P (sym at) reg) at) in
        cond-false (any_below s.bits (from_gold m)) (v 0 (find_below s.bits (from_gold m))) (w 0 a) none ∙ ap (w 0) (sym same)

    abbrev part_u : ℕ → Values
    part_u c b = pick (t.driver b) (part_given c (t.number b)) (part_state b)

    abbrev part_x : ℕ → Values
    part_x = trace t.system nothing part_u

    part_trace : Trace t.system nothing part_u n part_x
    part_trace = is_trace t.system nothing part_u part.drivers part_free n

    to_part : PartRun t part_given n part_x
    to_part = record {
      inputs = λ c b lc lt is. part_trace.held c b lc lt (inr is) ∙ pick_input (t.driver b) (part_given c (t.number b)) (part_state b) is;
      solves = part_trace.solves;
    }

    part_start : (m : ℕ) → m < t.bits → is_register (t.driver m) ≡ true → part_x 0 m ≡ part_state m
    part_start m lt reg = part_trace.state run.some m lt refl (register_held (t.driver m) reg) ∙ pick_register (t.driver m) (part_given 0 (t.number m)) (part_state m) reg

    to_part_fits : Fits p inside t copying.pinout n part_given part_x v w
    to_part_fits = fits_from n part_given part_x v w run to_part (λ c k lc lk. refl)
        (λ b lt is kept held.
        let reg = copy_register copying.gold.reached copying.gold.node (s.driver b) (t.driver (copying.gold.node b)) (copying.gold.kept b lt is kept) held in
        sym (part_start (copying.gold.node b) (copying.gold.nodes b lt is) reg ∙ state_gold b lt is reg))
        (λ b lt is kept held.
        let reg = copy_register copying.gate.reached copying.gate.node (h.driver b) (t.driver (copying.gate.node b)) (copying.gate.kept b lt is kept) held in
        sym (part_start (copying.gate.node b) (copying.gate.nodes b lt is) reg ∙ state_gate b lt is reg))

    -- the same from the initial values

    abbrev part_v : ℕ → Values
    part_v c b = part_given c (t.number b)

    abbrev part_y : ℕ → Values
    part_y = initial_trace t.system nothing part_v part.drivers part_free

    part_initial : InitialTrace t.system nothing part_v n part_y
    part_initial = is_initial_trace t.system nothing part_v part.drivers part_free n

    to_part_initial : PartRun t part_given n part_y
    to_part_initial = record { inputs = λ c b lc lt is. part_initial.held c b lc lt (inr is); solves = part_initial.solves }

    to_part_initial_fits : IsFromInitial s h p inside v w → Fits p inside t copying.pinout n part_given part_y v w
    to_part_initial_fits begins = fits_from n part_given part_y v w run to_part_initial (λ c k lc lk. refl)
        (λ b lt is kept held. copy_begins copying.gold.reached copying.gold.node (s.driver b) (t.driver (copying.gold.node b)) (copying.gold.kept b lt is kept) (v 0 b) (part_y 0 (copying.gold.node b))
        (begins.gold_begins b lt kept) (part_initial.begins run.some (copying.gold.node b) (copying.gold.nodes b lt is) refl) held)
        (λ b lt is kept held. copy_begins copying.gate.reached copying.gate.node (h.driver b) (t.driver (copying.gate.node b)) (copying.gate.kept b lt is kept) (w 0 b) (part_y 0 (copying.gate.node b))
        (begins.gate_begins b lt kept) (part_initial.begins run.some (copying.gate.node b) (copying.gate.nodes b lt is) refl) held)

  -- from a run of the part to a cut run

  module _ (n : ℕ) (pos : 0 < n) (given : ℕ → ℕ → Bool) (x : ℕ → Values) (run : PartRun t given n x) where
    abbrev has_pair : ℕ → ℕ → Bool
    has_pair i k = copying.pinout.input_pair k == i

    -- gold's value of a pair outside, 0 where the part doesn't name it
    abbrev paired : ℕ → ℕ → Bool
    paired c i = cond (any_below t.inputs (has_pair i)) (given c (find_below t.inputs (has_pair i))) false

    paired_at : (c k : ℕ) → k < t.inputs → paired c (copying.pinout.input_pair k) ≡ given c k
    paired_at c k lk =
        let i = copying.pinout.input_pair k in
        let here : any_below t.inputs (has_pair i) ≡ true = any_from t.inputs (has_pair i) k lk ((Decides-eqb i i).1 refl) in
        let f = found t.inputs (has_pair i) here in
        let j = find_below t.inputs (has_pair i) in
        let same : j ≡ k = copying.pinout.apart j k f.0 lk ((Decides-eqb (copying.pinout.input_pair j) i).0 f.1) in
        cond-true (any_below t.inputs (has_pair i)) (given c j) false here ∙ ap (given c) same

    -- gate's value of a pair outside
    abbrev gate_paired : ℕ → ℕ → Bool
    gate_paired c i = signed (p.inverted i) (paired c i)

    abbrev gold_u : ℕ → Values
    gold_u c b = cond (gold_cut b) (paired c (index_of p.pairs p.gold b)) (x 0 (copying.gold.node b))

    abbrev gate_u : ℕ → Values
    gate_u c b = cond (gate_cut b) (gate_paired c (index_of p.pairs p.gate b)) (x 0 (copying.gate.node b))

    gold_u-pair : (c i : ℕ) → i < p.pairs → inside i ≡ false → gold_u c (p.gold i) ≡ paired c i
    gold_u-pair c i li out =
        cond-true (gold_cut (p.gold i)) (paired c (index_of p.pairs p.gold (p.gold i))) (x 0 (copying.gold.node (p.gold i))) (cut_from p.pairs p.gold inside i (p.gold i) li refl out)
        ∙ ap (paired c) (index_is p.pairs p.gold one.gold_once i (p.gold i) li refl p.pairs (omega arith) li)

    gate_u-pair : (c i : ℕ) → i < p.pairs → inside i ≡ false → gate_u c (p.gate i) ≡ gate_paired c i
    gate_u-pair c i li out =
        cond-true (gate_cut (p.gate i)) (gate_paired c (index_of p.pairs p.gate (p.gate i))) (x 0 (copying.gate.node (p.gate i))) (cut_from p.pairs p.gate inside i (p.gate i) li refl out)
        ∙ ap (gate_paired c) (index_is p.pairs p.gate one.gate_once i (p.gate i) li refl p.pairs (omega arith) li)

    abbrev gold_v : ℕ → Values
    gold_v = trace s gold_cut gold_u

    abbrev gate_w : ℕ → Values
    gate_w = trace h gate_cut gate_u

    gold_trace : Trace s gold_cut gold_u n gold_v
    gold_trace = is_trace s gold_cut gold_u s_sound s_free n

    gate_trace : Trace h gate_cut gate_u n gate_w
    gate_trace = is_trace h gate_cut gate_u h_sound h_free n

    gold_pair : (c i : ℕ) → c < n → i < p.pairs → inside i ≡ false → gold_v c (p.gold i) ≡ paired c i
    gold_pair c i lc li out = gold_trace.held c (p.gold i) lc (one.gold_bits i li) (inl (cut_from p.pairs p.gold inside i (p.gold i) li refl out)) ∙ gold_u-pair c i li out

    gate_pair : (c i : ℕ) → c < n → i < p.pairs → inside i ≡ false → gate_w c (p.gate i) ≡ gate_paired c i
    gate_pair c i lc li out = gate_trace.held c (p.gate i) lc (one.gate_bits i li) (inl (cut_from p.pairs p.gate inside i (p.gate i) li refl out)) ∙ gate_u-pair c i li out

    to_cut : CutRun s h p inside n gold_v gate_w
    to_cut = record {
      some = pos;
      gold_solves = gold_trace.solves;
      gate_solves = gate_trace.solves;
      equal = λ c i lc li out. gold_pair c i lc li out ∙ signed_on (p.inverted i) (gate_w c (p.gate i)) (paired c i) (gate_pair c i lc li out);
    }

    to_cut_fits : Fits p inside t copying.pinout n given x gold_v gate_w
    to_cut_fits = fits_from n given x gold_v gate_w to_cut run
        (λ c k lc lk. let o = copying.pinout.outside k lk in sym (gold_pair c (copying.pinout.input_pair k) lc o.0 o.1 ∙ paired_at c k lk))
        (λ b lt is kept held. gold_trace.state pos b lt kept held ∙ cond-false (gold_cut b) (paired 0 (index_of p.pairs p.gold b)) (x 0 (copying.gold.node b)) kept)
        (λ b lt is kept held. gate_trace.state pos b lt kept held ∙ cond-false (gate_cut b) (gate_paired 0 (index_of p.pairs p.gate b)) (x 0 (copying.gate.node b)) kept)

    -- the same from the initial values

    abbrev gold_y : ℕ → Values
    gold_y = initial_trace s gold_cut gold_u s_sound s_free

    abbrev gate_z : ℕ → Values
    gate_z = initial_trace h gate_cut gate_u h_sound h_free

    gold_initial : InitialTrace s gold_cut gold_u n gold_y
    gold_initial = is_initial_trace s gold_cut gold_u s_sound s_free n

    gate_initial : InitialTrace h gate_cut gate_u n gate_z
    gate_initial = is_initial_trace h gate_cut gate_u h_sound h_free n

    gold_pair_initial : (c i : ℕ) → c < n → i < p.pairs → inside i ≡ false → gold_y c (p.gold i) ≡ paired c i
    gold_pair_initial c i lc li out = gold_initial.held c (p.gold i) lc (one.gold_bits i li) (inl (cut_from p.pairs p.gold inside i (p.gold i) li refl out)) ∙ gold_u-pair c i li out

    gate_pair_initial : (c i : ℕ) → c < n → i < p.pairs → inside i ≡ false → gate_z c (p.gate i) ≡ gate_paired c i
    gate_pair_initial c i lc li out = gate_initial.held c (p.gate i) lc (one.gate_bits i li) (inl (cut_from p.pairs p.gate inside i (p.gate i) li refl out)) ∙ gate_u-pair c i li out

    to_cut_initial : CutRun s h p inside n gold_y gate_z
    to_cut_initial = record {
      some = pos;
      gold_solves = gold_initial.solves;
      gate_solves = gate_initial.solves;
      equal = λ c i lc li out. gold_pair_initial c i lc li out ∙ signed_on (p.inverted i) (gate_z c (p.gate i)) (paired c i) (gate_pair_initial c i lc li out);
    }

    to_cut_begins : IsFromInitial s h p inside gold_y gate_z
    to_cut_begins = record { gold_begins = gold_initial.begins pos; gate_begins = gate_initial.begins pos }

    to_cut_initial_fits : IsInitial t.system nothing (x 0) → Fits p inside t copying.pinout n given x gold_y gate_z
    to_cut_initial_fits begins = fits_from n given x gold_y gate_z to_cut_initial run
        (λ c k lc lk. let o = copying.pinout.outside k lk in sym (gold_pair_initial c (copying.pinout.input_pair k) lc o.0 o.1 ∙ paired_at c k lk))
        (λ b lt is kept held. copy_begins copying.gold.reached copying.gold.node (s.driver b) (t.driver (copying.gold.node b)) (copying.gold.kept b lt is kept) (gold_y 0 b) (x 0 (copying.gold.node b))
        (gold_initial.begins pos b lt kept) (begins (copying.gold.node b) (copying.gold.nodes b lt is) refl) held)
        (λ b lt is kept held. copy_begins copying.gate.reached copying.gate.node (h.driver b) (t.driver (copying.gate.node b)) (copying.gate.kept b lt is kept) (gate_z 0 b) (x 0 (copying.gate.node b))
        (gate_initial.begins pos b lt kept) (begins (copying.gate.node b) (copying.gate.nodes b lt is) refl) held)

  pub copying_denotes : Denotes s h p inside t
  copying_denotes = record {
    pinout = copying.pinout;
    part_run = λ n v w run. (part_given n v w run, part_x n v w run, to_part n v w run, to_part_fits n v w run);
    cut_run = λ n given x pos run. (gold_v n pos given x run, gate_w n pos given x run, to_cut n pos given x run, to_cut_fits n pos given x run);
    part_run_initial = λ n v w run begins. (part_given n v w run, part_y n v w run, to_part_initial n v w run, part_initial_begins n v w run, to_part_initial_fits n v w run begins);
    cut_run_initial = λ n given x pos run begins. (gold_y n pos given x run, gate_z n pos given x run, to_cut_initial n pos given x run, to_cut_begins n pos given x run, to_cut_initial_fits n pos given x run begins);
    trim = copying.trim;
  }
    where
      part_initial_begins : (n : ℕ) (v w : ℕ → Values) (run : CutRun s h p inside n v w) → IsInitial t.system nothing (part_y n v w run 0)
      part_initial_begins n v w run = (part_initial n v w run).begins run.some
