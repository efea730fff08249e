-- What is found of the parts of a netlist is so of a design that has the same nets, drivers and copies.
use Rattle.std.proofs.Common.{◌≡◌, ℕ, suc, ◌+◌, ◌-◌, ◌<◌, List, [], ◌∷◌, Bool, true, false, cond, ◌&&◌, ◌||◌, ◌==◌, nat_lt, map, length, All, Contains, Option, Some, None, refl, arith, sym, ap, subst, ◌∙◌}
use Rattle.std.specs.Prelude.{is_some, if◌then◌else◌}
use Rattle.std.specs.List.{list_any}
use Rattle.std.specs.Option.{option_or}
use Rattle.std.proofs.lemmas.Bool.{false≢true}
use Rattle.std.proofs.lemmas.List.Elements.{All-head, All-tail}
use Rattle.std.proofs.lemmas.List.Folds.{list_any_at}
use Rattle.eq_model.specs.Agreement.{SameDriver}
use Rattle.eq_model.specs.Nets.{at_bit, inner, Net, net_width}
use Rattle.eq_model.specs.System.{Driver, input, undriven, equation, register, reads_ever, IsDriver, IsSystem}
use Rattle.eq_net.specs.Meaning.{if_there}
use Rattle.eq_net.specs.Net.{bits_of, design_of, net_at, nets_of, offset, system_of as system_by, Parts}
use Rattle.eq_net.specs.Nets.{width_of}
use Rattle.eq_verilog.specs.BitRefusals as refusals
use Rattle.eq_verilog.specs.BitRefusals.{is_undriven, two_clocks}
use Rattle.eq_verilog.specs.Clocks.{end_of, is_bit, leads_to, takes_as_data}
use Rattle.eq_verilog.specs.Costs.{has_bit}
use Rattle.eq_verilog.specs.Declarations.{goes_out}
use Rattle.eq_verilog.specs.Designs.{clock_bit, copy_of, driver_of, ends, event_bit, event_end, first_end as first_end_of, is_output_bit, size, system_of, Flat}
use Rattle.eq_verilog.specs.Firsts.{first_below, first_found, one_below}
use Rattle.eq_verilog.specs.Registers.{Process}
use Rattle.eq_marks.specs.Events.{end_in, first_astray, first_end, is_event, may_be_clock, IsThere}
use Rattle.eq_marks.specs.Missing.{is_missed}
use Rattle.eq_marks.specs.Ports.{is_output_of, takes}
use Rattle.eq_marks.specs.Told.{AreOf}
use Rattle.eq_marks.proofs.TakingLemmas.{any_among, copy_below, ends_same, first_same}

-- ---- drivers

undriven_same : (d e : Driver) → SameDriver d e → is_undriven d ≡ is_undriven e
undriven_same input input h = refl
undriven_same undriven undriven h = refl
undriven_same (equation x) (equation y) h = refl
undriven_same (register i x) (register j y) h = refl
undriven_same _ _ h = absurd h

-- what a driver reads are bits
ever_bounded : (bits : ℕ) (d : Driver) → IsDriver bits d → (b : ℕ) → Contains (reads_ever d) b → b < bits
ever_bounded bits input h b c = absurd (let lt = c.1 in omega (arith, lt))
ever_bounded bits undriven h b c = absurd (let lt = c.1 in omega (arith, lt))
ever_bounded bits (equation e) h b c = h.bounded b c
ever_bounded bits (register i e) h b c = h.bounded b c

same_truth : (a b : Bool) → (a ≡ true → b ≡ true) → (b ≡ true → a ≡ true) → a ≡ b
same_truth true b to back = sym (to refl)
same_truth false true to back = back refl
same_truth false false to back = refl

either_true : (a b : Bool) (G : Type 0) → (a || b) ≡ true → (a ≡ true → G) → (b ≡ true → G) → G
either_true true b G h k l = k refl
either_true false b G h k l = l h

module _ (p : ℕ → Bool) where
  one_in : (ys : List ℕ) (x : ℕ) → Contains ys x → p x ≡ true → list_any p ys ≡ true
  one_in ys x c h = list_any_at p ys c.0 x c.1 (ap p c.2 ∙ h)

  some_also : (xs ys : List ℕ) → ((b : ℕ) → Contains xs b → Contains ys b) → list_any p xs ≡ true →
      list_any p ys ≡ true
  some_also [] ys to h = absurd (false≢true h)
  some_also (x ∷ xs) ys to h =
      either_true (p x) (list_any p xs) (list_any p ys ≡ true) h (one_in ys x (to x (0, omega arith, refl)))
      (some_also xs ys (λ b c. to b (suc c.0, (let lt = c.1 in omega (arith, lt)), c.2)))

  -- lists of the same numbers pass alike
  any_same_set : (xs ys : List ℕ) → ((b : ℕ) → Contains xs b → Contains ys b) →
      ((b : ℕ) → Contains ys b → Contains xs b) → list_any p xs ≡ list_any p ys
  any_same_set xs ys to back =
      same_truth (list_any p xs) (list_any p ys) (some_also xs ys to) (some_also ys xs back)

  reads_same : (d e : Driver) → SameDriver d e → list_any p (reads_ever d) ≡ list_any p (reads_ever e)
  reads_same input input h = refl
  reads_same undriven undriven h = refl
  reads_same (equation x) (equation y) h =
      any_same_set x.reads y.reads (λ b. (h.reads b).0) (λ b. (h.reads b).1)
  reads_same (register i x) (register j y) h =
      any_same_set x.reads y.reads (λ b. (h.1.reads b).0) (λ b. (h.1.reads b).1)
  reads_same _ _ h = absurd h

-- ---- nets

through_test : {A B : Type 0} (g : A → B) (t : Bool) (x y : A) (z : B) → g y ≡ z →
    g (if t then x else y) ≡ (if t then g x else z)
through_test g true x y z h = refl
through_test g false x y z h = h

at_bit_of : {A B : Type 0} (g : A → B) (o : A) (h : Net → ℕ → A) (nets : List Net) (b : ℕ) →
    g (at_bit o h nets b) ≡ at_bit (g o) (λ n p. g (h n p)) nets b
at_bit_of g o h [] b = refl
at_bit_of g o h (n ∷ ns) b =
    through_test g (nat_lt b (net_width n)) (h n b) (at_bit o h ns (b - net_width n))
    (at_bit (g o) (λ m p. g (h m p)) ns (b - net_width n)) (at_bit_of g o h ns (b - net_width n))

-- ---- one design

module _ (n : Parts) (f : Flat) (are : AreOf n f) (system : IsSystem (system_by n))
    (bound : (k j : ℕ) → k < length n.nets → j < width_of (net_at n.nets k) → offset n.nets k + j < bits_of n.nets) where
  output_same : (b : ℕ) → is_output_of (design_of n) b ≡ is_output_bit f b
  output_same b =
      at_bit_of goes_out inner (λ m p. m.dir) (nets_of n.nets) b
      ∙ ap (λ ms. at_bit false (λ m p. goes_out m.dir) ms b) are.nets

  -- ---- bits without driver

  missed_same : (b : ℕ) → b < bits_of n.nets → is_missed (design_of n) b ≡ refusals.is_missed f b
  missed_same b lt =
      let p : ℕ → Bool = λ c. has_bit (reads_ever ((system_by n).driver c)) b in
      let q : ℕ → Bool = λ c. has_bit (reads_ever (driver_of f c)) b in
      let read : one_below (bits_of n.nets) p ≡ one_below (size f) q =
      ap (λ (o : Option ℕ). is_some o) (first_same (bits_of n.nets) p q
      (λ c lc. reads_same (λ x. x == b) ((system_by n).driver c) (driver_of f c) (are.system.drivers c lc))
      ∙ ap (λ k. first_below k q) are.system.bits) in
      ap (λ t. t && (is_output_of (design_of n) b || one_below (bits_of n.nets) p))
      (undriven_same ((system_by n).driver b) (driver_of f b) (are.system.drivers b lt))
      ∙ ap (λ t. is_undriven (driver_of f b) && (t || one_below (bits_of n.nets) p)) (output_same b)
      ∙ ap (λ t. is_undriven (driver_of f b) && (is_output_bit f b || t)) read

  pub first_missed_same : first_below (bits_of n.nets) (is_missed (design_of n)) ≡ first_below (size f) (refusals.is_missed f)
  first_missed_same =
      first_same (bits_of n.nets) (is_missed (design_of n)) (refusals.is_missed f) missed_same
      ∙ ap (λ k. first_below k (refusals.is_missed f)) are.system.bits

  -- ---- clocks

  end_same : (b : ℕ) → b < bits_of n.nets → end_of (design_of n).copy_of (bits_of n.nets) b ≡ ends f b
  end_same b lt =
      ends_same (design_of n).copy_of (copy_of f) (bits_of n.nets) are.copies
      (λ x d lx e. copy_below n bound are.words are.size x d e) (bits_of n.nets) b lt
      ∙ ap (λ k. end_of (copy_of f) k b) are.system.bits

  leads_alike : (c b : ℕ) → b < bits_of n.nets →
      leads_to (design_of n).copy_of (bits_of n.nets) c b ≡ leads_to (copy_of f) (size f) c b
  leads_alike c b lt = ap (is_bit c) (end_same b lt)

  takes_same : (c b : ℕ) → b < bits_of n.nets →
      takes (design_of n) c b ≡ takes_as_data (system_of f) (copy_of f) (is_output_bit f) c b
  takes_same c b lt =
      let p = leads_to (design_of n).copy_of (bits_of n.nets) c in
      let q = leads_to (copy_of f) (size f) c in
      let d = (system_by n).driver b in
      let inside = ever_bounded (bits_of n.nets) d (system b lt) in
      let read : list_any p (reads_ever d) ≡ list_any q (reads_ever (driver_of f b)) =
      any_among p q (bits_of n.nets) (reads_ever d) inside (leads_alike c)
      ∙ reads_same q d (driver_of f b) (are.system.drivers b lt) in
      ap (λ t. cond t (is_output_of (design_of n) b) (list_any p (reads_ever d))) (leads_alike c b lt)
      ∙ ap (λ t. cond (q b) t (list_any p (reads_ever d))) (output_same b)
      ∙ ap (λ t. cond (q b) (is_output_bit f b) t) read

  pub first_taken_same : (c : ℕ) → first_below (bits_of n.nets) (takes (design_of n) c)
      ≡ first_below (size f) (takes_as_data (system_of f) (copy_of f) (is_output_bit f) c)
  first_taken_same c =
      first_same (bits_of n.nets) (takes (design_of n) c)
      (takes_as_data (system_of f) (copy_of f) (is_output_bit f) c) (takes_same c)
      ∙ ap (λ k. first_below k (takes_as_data (system_of f) (copy_of f) (is_output_bit f) c)) are.system.bits

  -- ---- events

  event_same : (e : Option ℕ) → IsThere (bits_of n.nets) e → end_in (design_of n) e ≡ if_there None (ends f) e
  event_same None h = refl
  event_same (Some b) h = end_same b h

  ends_from : (ps : List Process) → All (IsThere (bits_of n.nets)) (map event_bit ps) →
      first_end (design_of n) (map event_bit ps) ≡ first_end_of f ps
  ends_from [] h = refl
  ends_from (p ∷ ps) h =
      event_same (event_bit p) (All-head (IsThere (bits_of n.nets)) (event_bit p) (map event_bit ps) h)

  is_event_same : (clock : Option ℕ) → clock ≡ clock_bit f → (p : Process) → IsThere (bits_of n.nets) (event_bit p) →
      is_event (design_of n) clock (event_bit p) ≡ refusals.is_event f p
  is_event_same clock is p h =
      ap (λ o. if_there false (λ b. may_be_clock (nets_of n.nets) b && is_bit b clock) o) (event_same (event_bit p) h)
      ∙ ap (λ ms. if_there false (λ b. may_be_clock ms b && is_bit b clock) (event_end f p)) are.nets
      ∙ ap (λ c. if_there false (λ b. may_be_clock f.nets b && is_bit b c) (event_end f p)) is

  astray_from : (clock : Option ℕ) → clock ≡ clock_bit f → (ps : List Process) →
      All (IsThere (bits_of n.nets)) (map event_bit ps) →
      first_found (λ e. if is_event (design_of n) clock e then None else e) (map event_bit ps)
      ≡ first_found (λ p. if refusals.is_event f p then None else event_bit p) ps
  astray_from clock is [] h = refl
  astray_from clock is (p ∷ ps) h =
      let here = All-head (IsThere (bits_of n.nets)) (event_bit p) (map event_bit ps) h in
      let rest = All-tail (IsThere (bits_of n.nets)) (event_bit p) (map event_bit ps) h in
      ap (λ t. option_or (cond {A = Option ℕ} t None (event_bit p))
      (first_found (λ e. if is_event (design_of n) clock e then None else e) (map event_bit ps)))
      (is_event_same clock is p here)
      ∙ ap (λ o. option_or (cond {A = Option ℕ} (refusals.is_event f p) None (event_bit p)) o)
      (astray_from clock is ps rest)

  module _ (es : List (Option ℕ)) (there : All (IsThere (bits_of n.nets)) es) (events : es ≡ map event_bit f.processes)
    where
      all_there : All (IsThere (bits_of n.nets)) (map event_bit f.processes)
      all_there = subst (λ (xs : List (Option ℕ)). All (IsThere (bits_of n.nets)) xs) events there

      pub first_end_same : first_end (design_of n) es ≡ clock_bit f
      first_end_same =
          ap (λ (xs : List (Option ℕ)). first_end (design_of n) xs) events ∙ ends_from f.processes all_there

      pub first_astray_same : first_astray (design_of n) es
          ≡ first_found (λ p. if refusals.is_event f p then None else event_bit p) f.processes
      first_astray_same =
          ap (λ (xs : List (Option ℕ)). first_found (λ e. if is_event (design_of n) (first_end (design_of n) es) e then None
          else e) xs) events
          ∙ astray_from (first_end (design_of n) es) first_end_same f.processes all_there
