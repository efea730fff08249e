-- Where nothing is wrong with the ports, both netlists have the same.
use Rattle.std.proofs.Common.{◌≡◌, ◌≢◌, ℕ, ◌<◌, ◌==◌, List, [], ◌∷◌, Bool, true, false, not, length, slice_index_or, Option, Some, None, refl, arith, sym, ap, subst, ◌∙◌}
use Rattle.std.specs.Prelude.{bytes_eq, find, option_map}
use Rattle.std.proofs.lemmas.Bool.{eqb-true, false≢true}
use Rattle.std.proofs.lemmas.List.{length-map}
use Rattle.eq_model.specs.Nets.{Net, NetName}
use Rattle.eq_net.specs.declared.types.Dir.{Dir}
use Rattle.eq_net.specs.declared.types.Dir.TheVariants.{Inner, Input, Output}
use Rattle.eq_net.specs.Meaning.{if_there}
use Rattle.eq_net.specs.Nets.{net_of, width_of}
use Rattle.eq_net.specs.Net.{IsNet, Parts, design_of, name_at, net_at, nets_of}
use Rattle.eq_net.specs.Numbers.{differ}
use Rattle.eq_verilog.specs.Declarations.{has}
use Rattle.eq_verilog.specs.Firsts.{first_of}
use Rattle.eq_marks.specs.declared.ports.PortErr.{PortErr}
use Rattle.eq_marks.specs.declared.ports.PortErr.TheVariants.{Missing, Direction, Width, Clock}
use Rattle.eq_marks.specs.Ports.{HasEachPortOf, clock_clash, first_port, is_input_of, port_fault, port_width}
use Rattle.eq_marks.specs.inner.Headers.{differs_in_direction, differs_in_width, is_input_net, is_missing}
use Rattle.eq_marks.proofs.HeaderLemmas.{any_at, found_net, has_other, has_port, is_input_there, none_at, port_named, width_there}

none_of_map : {A B : Type 0} (f : A → B) (o : Option A) → option_map f o ≡ None → o ≡ None
none_of_map f None e = refl
none_of_map f (Some a) e = absurd (cc)

-- of several there is none: there isn't the first, nor one of the others
first_none : {A : Type 0} (o : Option A) (os : List (Option A)) → first_of (o ∷ os) ≡ None → (o ≡ None) × (first_of os
    ≡ None)
first_none None os e = (refl, e)
first_none (Some a) os e = absurd (cc)

alike : (x y : Bool) → differ x y ≡ false → x ≡ y
alike true true e = refl
alike true false e = absurd (false≢true (sym e))
alike false true e = absurd (false≢true (sym e))
alike false false e = refl

is_so : (b : Bool) → not b ≡ false → b ≡ true
is_so true e = refl
is_so false e = absurd (false≢true (sym e))

one_side : (a b : Dir) → a ≢ Inner → b ≢ Inner → is_input_net a ≡ is_input_net b → b ≡ a
one_side Inner b p q e = absurd (p refl)
one_side Input Inner p q e = absurd (q refl)
one_side Input Input p q e = refl
one_side Input Output p q e = absurd (false≢true (sym e))
one_side Output Inner p q e = absurd (q refl)
one_side Output Input p q e = absurd (false≢true e)
one_side Output Output p q e = refl

-- the net of a port of a name
net_of_port : (n : Parts) → IsNet n → (name : NetName) → has (design_of n).ports name ≡ true →
    (h : ℕ) × (h < length n.nets) × ((net_at n.nets h).name ≡ name) × ((net_at n.nets h).dir ≢ Inner)
net_of_port n net name any =
    let at = any_at (design_of n).ports name any in
    let lt : at.0 < length n.ports = (let e = length-map n.ports (name_at n.nets) in let l = at.1 in omega arith) in
    let is = net.ports_are at.0 0 lt in
    (slice_index_or n.ports at.0 0, is.0, sym (port_named n at.0 lt) ∙ at.2, is.1)

record Fits (gold gate : Parts) : Type 0 where
  in_gate : first_port (is_missing (design_of gate).ports) (design_of gold).ports ≡ None
  in_gold : first_port (is_missing (design_of gold).ports) (design_of gate).ports ≡ None
  directions : first_port (differs_in_direction (design_of gold) (design_of gate)) (design_of gold).ports ≡ None
  widths : first_port (differs_in_width (design_of gold) (design_of gate)) (design_of gold).ports ≡ None

fits_of : (gold gate : Parts) → port_fault (design_of gold) (design_of gate) ≡ None → Fits gold gate
fits_of gold gate none =
    let d = design_of gold in
    let e = design_of gate in
    let a : Option PortErr = option_map (λ p. Missing true p) (first_port (is_missing e.ports) d.ports) in
    let b : Option PortErr = option_map (λ p. Missing false p) (first_port (is_missing d.ports) e.ports) in
    let c : Option PortErr = option_map Direction (first_port (differs_in_direction d e) d.ports) in
    let w : Option PortErr = option_map Width (first_port (differs_in_width d e) d.ports) in
    let k : Option PortErr =
    if_there None (λ n. option_map Clock (first_port (bytes_eq n) d.ports)) (clock_clash d e d.clock e.clock) in
    let one = first_none a (b ∷ c ∷ w ∷ k ∷ []) none in
    let two = first_none b (c ∷ w ∷ k ∷ []) one.1 in
    let three = first_none c (w ∷ k ∷ []) two.1 in
    let four = first_none w (k ∷ []) three.1 in
    record {
      in_gate = none_of_map (λ p. Missing true p) (first_port (is_missing e.ports) d.ports) one.0;
      in_gold = none_of_map (λ p. Missing false p) (first_port (is_missing d.ports) e.ports) two.0;
      directions = none_of_map Direction (first_port (differs_in_direction d e) d.ports) three.0;
      widths = none_of_map Width (first_port (differs_in_width d e) d.ports) four.0;
    }

module _ (gold gate : Parts) (gold_net : IsNet gold) (gate_net : IsNet gate) (fits : Fits gold gate) where
  -- nets of one name that are ports
  twins : (k h : ℕ) → k < length gold.nets → h < length gate.nets → (net_at gate.nets h).name ≡ (net_at gold.nets
      k).name →
      (net_at gold.nets k).dir ≢ Inner → (net_at gate.nets h).dir ≢ Inner →
      ((net_at gate.nets h).dir ≡ (net_at gold.nets k).dir) × (width_of (net_at gold.nets k) ≡ width_of (net_at
      gate.nets h))
  twins k h lk lh named pk ph =
      let n = name_at gold.nets k in
      let d = design_of gold in
      let e = design_of gate in
      let at = any_at d.ports n (has_port gold gold_net k (lk, pk)) in
      let here = sym (found_net gold.nets gold_net.names k lk) in
      let there = subst (λ m. Some (net_of (net_at gate.nets h)) ≡ find (λ (x : Net). bytes_eq m x.name) (nets_of
      gate.nets)) named (sym (found_net gate.nets gate_net.names h lh)) in
      let direction : differ (is_input_of d n) (is_input_of e n) ≡ false =
      ap (differs_in_direction d e) (sym at.2) ∙ none_at (differs_in_direction d e) d.ports at.0 fits.directions at.1 in
      let width : not (port_width d n == port_width e n) ≡ false =
      ap (differs_in_width d e) (sym at.2) ∙ none_at (differs_in_width d e) d.ports at.0 fits.widths at.1 in (
        one_side (net_at gold.nets k).dir (net_at gate.nets h).dir pk ph
            (is_input_there d n (net_at gold.nets k) here ∙ alike (is_input_of d n) (is_input_of e n) direction ∙ sym
            (is_input_there e n (net_at gate.nets h) there)),
        width_there d n (net_at gold.nets k) here ∙ eqb-true (port_width d n) (port_width e n) (is_so (port_width d n
            == port_width e n) width)
            ∙ sym (width_there e n (net_at gate.nets h) there),
      )

  gold_has : HasEachPortOf gold gate
  gold_has k lk pk =
      let n = name_at gold.nets k in
      let other = net_of_port gate gate_net n (has_other (design_of gate).ports (design_of gold).ports n fits.in_gate
      (has_port gold gold_net k (lk, pk))) in
      let t = twins k other.0 lk other.1 other.2 pk other.3 in
      (other.0, other.1, other.2, t.0, t.1)

  gate_has : HasEachPortOf gate gold
  gate_has h lh ph =
      let n = name_at gate.nets h in
      let other = net_of_port gold gold_net n (has_other (design_of gold).ports (design_of gate).ports n fits.in_gold
      (has_port gate gate_net h (lh, ph))) in
      let t = twins other.0 h other.1 lh (sym other.2) other.3 ph in
      (other.0, other.1, other.2, sym t.0, sym t.1)

pub gold_ports : (gold gate : Parts) → IsNet gold → IsNet gate → port_fault (design_of gold) (design_of gate) ≡ None →
    HasEachPortOf gold gate
gold_ports gold gate gold_net gate_net none = gold_has gold gate gold_net gate_net (fits_of gold gate none)

pub gate_ports : (gold gate : Parts) → IsNet gold → IsNet gate → port_fault (design_of gold) (design_of gate) ≡ None →
    HasEachPortOf gate gold
gate_ports gold gate gold_net gate_net none = gate_has gold gate gold_net gate_net (fits_of gold gate none)
