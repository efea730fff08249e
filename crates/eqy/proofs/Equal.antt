-- Two designs of the first form are equivalent exactly where their expressions have equal values.
use Rattle.std.proofs.Common.{◌≡◌, ◌≢◌, ℕ, zero, suc, ◌+◌, ◌-◌, ◌<◌, ◌≤◌, List, [], ◌∷◌, Bool, true, false, cond, map, length, slice_index_or, AllPairs, ◌↔◌, inl, inr, refl, arith, sym, ap, subst, ◌∙◌}
use Rattle.std.specs.Str.{bytes_eq}
use Rattle.std.proofs.lemmas.Slice.Eq.{bytes_eq-Decides}
use Rattle.std.proofs.lemmas.Bool.{cases_lt, le-ltb, false_from_ne_true}
use Rattle.eq_model.specs.System.{Values, System, IsSystem, IsLoopFree, HasOneCycle, Reads, nothing}
use Rattle.eq_model.specs.Nets.{Key, at_bit, is_output as output_side}
use Rattle.eq_model.specs.Run.{Design, IsDesign, HasPorts, Equivalent}
use Rattle.eq_model.specs.Combinational.{IsCombinational, IsPlain, SameValues}
use Rattle.eq_first.specs.declared.module.Direction.{Direction}
use Rattle.eq_first.specs.declared.module.Direction.TheVariants.{Input, Output}
use Rattle.eq_first.specs.declared.module.Port.{Port}
use Rattle.eq_first.specs.declared.module.Module.{Module}
use Rattle.eq_first.specs.Value.{value}
use Rattle.eq_first.specs.Well.{Goes, IsWellFormed}
use Rattle.eq_net.specs.declared.types.Driver.{Driver}
use Rattle.eq_net.specs.declared.types.NetInfo.{NetInfo}
use Rattle.eq_net.specs.Nets.{side_of}
use Rattle.eq_net.specs.Net.{AreWords, IsNet, Parts, nets_of, source_of, system_of, design_of}
use Rattle.eqy.specs.Designs.{first_design, DesignsAre}
use Rattle.eqy.specs.Netlist.{first_parts, net_of, driven_by, dir_of, word_of}
use Rattle.eqy.specs.Command.{most_inputs}
use Rattle.eqy.specs.Inputs.{inputs_of}
use Rattle.eqy.specs.declared.report.Verdict.{Verdict}
use Rattle.eqy.specs.declared.report.Verdict.TheVariants.{Proved, Fail}
use Rattle.eqy.specs.Verdicts.{AreEqual, Differ, IsVerdict}
use Rattle.eqy.proofs.Listed.{system, output_value, value_of_inputs}
use Rattle.eqy.proofs.Made.{rank, ranks, word_reads, made as netlist}
use Rattle.eqy.proofs.Ports.{bits_of-ports, goes_somewhere, goes_below, driver_at, side_at, side_at-ports, one_output}

ways_clash : (ps : List Port) (n : ℕ) → Goes ps Input n → Goes ps Output n → ⊥
ways_clash [] n i o = i
ways_clash (p ∷ ps) zero i o = (let e : Input ≡ Output = sym i ∙ o in cc)
ways_clash (p ∷ ps) (suc n) i o = ways_clash ps n i o

is_one : (a b : ℕ) → (a ≢ b → ⊥) → a ≡ b
is_one a b same = elim (cases_lt a b) [
  | inl less ↦ absurd (same (λ e. absurd (omega arith)))
  | inr ge ↦ (elim (cases_lt b a) [
    | inl less ↦ absurd (same (λ e. absurd (omega arith)))
    | inr le ↦ omega arith
  ])
]

output_way : (d : Direction) → side_of (dir_of d) ≡ output_side → d ≡ Output
output_way Input e = absurd (cc)
output_way Output e = refl

-- the name and place of bit b
abbrev key_at : List NetInfo → ℕ → Key
key_at nets b = at_bit ([], 0) (λ n place. (n.name, place)) (nets_of nets) b

-- the output port is the only bit of an output
the_output : (m : Module) → IsWellFormed m → (a : ℕ) → a < length m.ports → side_at (map net_of m.ports) a ≡ output_side → a ≡ m.output
the_output m well a lt side =
    let way = goes_somewhere m.ports a lt in
    let out = output_way way.0 (sym (side_at-ports m.ports way.0 a way.1) ∙ side) in
    let P : Direction → Type 0 = λ d. Goes m.ports d a in
    is_one a m.output (λ ne. ways_clash m.ports a (well.inputs a lt ne) (subst P out way.1))

plain : (m : Module) (d : Direction) → IsPlain (source_of (map net_of m.ports) (word_of m.expr ∷ []) (driven_by d))
plain m Input = tt
plain m Output = tt

combinational_design : (m : Module) → IsCombinational (first_design m)
combinational_design m b lt =
    let way = goes_somewhere m.ports b (let bits = bits_of-ports m.ports in omega arith) in
    let P : Driver → Type 0 = λ d. IsPlain (source_of (map net_of m.ports) (word_of m.expr ∷ []) d) in
    subst P (sym (driver_at m.ports way.0 b way.1)) (plain m way.0)

has_ports : (m n : Module) → m.ports ≡ n.ports → HasPorts (first_design m) (first_design n)
has_ports m n e a lt port =
    let size = ap length e in
    let here = bits_of-ports m.ports in
    let there = bits_of-ports n.ports in
    (a, omega arith, ap (λ (ps : List Port). side_at (map net_of ps) a) (sym e), ap (λ (ps : List Port). key_at (map net_of ps) a) (sym e))

-- the values of a module's ports, by their names
abbrev named : Module → (Key → Bool) → ℕ → Bool
named m given b = given (key_at (map net_of m.ports) b)

same_named : (m n : Module) → m.ports ≡ n.ports → (given : Key → Bool) → value n.expr (named m given) ≡ value n.expr (named n given)
same_named m n e given = ap (λ (ps : List Port). value n.expr (λ b. given (key_at (map net_of ps) b))) e

same_values : (m n : Module) → IsWellFormed m → IsWellFormed n → m.ports ≡ n.ports → AreEqual m n → SameValues (first_design m) (first_design n)
same_values m n wm wn e equal given v w cv cw a b la lb da db keys =
    let am = the_output m wm a (let bits = bits_of-ports m.ports in omega arith) da in
    let bn = the_output n wn b (let bits = bits_of-ports n.ports in omega arith) db in
    ap v am ∙ output_value m wm (named m given) v cv ∙ equal (named m given) ∙ same_named m n e given ∙ sym (output_value n wn (named n given) w cw) ∙ ap w (sym bn)

same_bytes : (a b : List ℕ) → a ≡ b → bytes_eq a b ≡ true
same_bytes a b e = (bytes_eq-Decides a b).1 e

other_bytes : (a b : List ℕ) → a ≢ b → bytes_eq a b ≡ false
other_bytes a b ne = false_from_ne_true (bytes_eq a b) (λ t. ne ((bytes_eq-Decides a b).0 t))

-- values of the ports by name, from their values by number

abbrev find : List Port → List ℕ → (ℕ → Bool) → Bool
find [] name v = false
find (p ∷ ps) name v = cond (bytes_eq p.name name) (v 0) (find ps name (λ k. v (suc k)))

key_name : (ps : List Port) (k : ℕ) (d : Port) → k < length ps → (key_at (map net_of ps) k).0 ≡ (slice_index_or ps k d).name
key_name [] k d lt = absurd (omega arith)
key_name (p ∷ ps) zero d lt = refl
key_name (p ∷ ps) (suc k) d lt =
    let later = le-ltb (suc k) 1 (omega arith) in
    let e : suc k - 1 ≡ k = omega arith in
    ap (λ b. (cond {A = Key} b (p.name, suc k) (key_at (map net_of ps) (suc k - 1))).0) later ∙ ap (λ i. (key_at (map net_of ps) i).0) e ∙ key_name ps k d (omega arith)

rest_apart : (p : Port) (ps : List Port) → AllPairs (λ a b. a.name ≢ b.name) (p ∷ ps) → AllPairs (λ a b. a.name ≢ b.name) ps
rest_apart p ps h i j d lt lj = h (suc i) (suc j) d (omega arith) (omega arith)

find_named : (ps : List Port) → AllPairs (λ a b. a.name ≢ b.name) ps → (v : ℕ → Bool) (k : ℕ) (d : Port) → k < length ps → find ps (slice_index_or ps k d).name v ≡ v k
find_named [] apart v k d lt = absurd (omega arith)
find_named (p ∷ ps) apart v zero d lt = ap (λ b. cond b (v 0) (find ps p.name (λ k. v (suc k)))) (same_bytes p.name p.name refl)
find_named (p ∷ ps) apart v (suc k) d lt =
    let name = (slice_index_or ps k d).name in
    ap (λ b. cond b (v 0) (find ps name (λ i. v (suc i)))) (other_bytes p.name name (apart 0 (suc k) d (omega arith) (omega arith)))
    ∙ find_named ps (rest_apart p ps apart) (λ i. v (suc i)) k d (omega arith)

some_port : (ps : List Port) → 0 < length ps → Port
some_port [] lt = absurd (omega arith)
some_port (p ∷ ps) lt = p

found : (m : Module) → IsWellFormed m → (v : ℕ → Bool) (k : ℕ) → k < length m.ports → named m (λ key. find m.ports key.0 v) k ≡ v k
found m well v k lt =
    let d = some_port m.ports (omega arith) in
    ap (λ name. find m.ports name v) (key_name m.ports k d lt) ∙ find_named m.ports well.distinct v k d lt

-- all ports but one are inputs
ports_few : (m : Module) → IsWellFormed m → inputs_of m.ports ≤ most_inputs → length m.ports ≤ most_inputs + 1
ports_few m well narrow = (let one = one_output m.ports m.output well.inputs in omega arith)

module _ (ranked : (s : System) → IsSystem s → (rank : ℕ → ℕ) → ((a b : ℕ) → a < s.bits → Reads s a b → rank b < rank a) → IsLoopFree s)
    (made : (n : Parts) → AreWords n.nets n.words → IsSystem (system_of n)) (net_design : (n : Parts) → IsNet n → IsDesign (design_of n)) where
  is_system : (m : Module) → IsWellFormed m → IsSystem (system m)
  is_system m well = made (first_parts m) (word_reads m well.reads)

  is_free : (m : Module) → IsWellFormed m → IsLoopFree (system m)
  is_free m well = ranked (system m) (is_system m well) (rank m.ports) (λ a b lt reads. ranks m well.reads a b (let bits = bits_of-ports m.ports in omega arith) reads)

  -- the netlist of a module keeps what a net keeps, so it is a design
  is_design : (m : Module) → IsWellFormed m → length m.ports ≤ most_inputs + 1 → IsDesign (first_design m)
  is_design m well few = net_design (first_parts m) (netlist m well (omega arith) (is_free m well))

  module _ (combinational : (gold gate : Design) → IsCombinational gold → IsCombinational gate → IsDesign gold → IsDesign gate →
      IsLoopFree gold.system → IsLoopFree gate.system → HasPorts gold gate → HasPorts gate gold → (Equivalent gold gate ↔ SameValues gold gate)) where
    by_values : (m n : Module) → IsWellFormed m → IsWellFormed n → m.ports ≡ n.ports → length m.ports ≤ most_inputs + 1 → (Equivalent (first_design m) (first_design n) ↔ SameValues (first_design m) (first_design n))
    by_values m n wm wn e few =
        combinational (first_design m) (first_design n) (combinational_design m) (combinational_design n)
        (is_design m wm few) (is_design n wn (let same = ap length e in omega arith)) (is_free m wm) (is_free n wn)
        (has_ports m n e) (has_ports n m (sym e))

    equal_equivalent : (m n : Module) → IsWellFormed m → IsWellFormed n → m.ports ≡ n.ports → length m.ports ≤ most_inputs + 1 → AreEqual m n → Equivalent (first_design m) (first_design n)
    equal_equivalent m n wm wn e few equal = (by_values m n wm wn e few).1 (same_values m n wm wn e equal)

    differ_not_equivalent : ((s : System) → IsSystem s → IsLoopFree s → (cut : ℕ → Bool) (u : Values) → HasOneCycle s cut u) →
        (m n : Module) → IsWellFormed m → IsWellFormed n → m.ports ≡ n.ports → length m.ports ≤ most_inputs + 1 → Differ m n → Equivalent (first_design m) (first_design n) → ⊥
    differ_not_equivalent one_cycle m n wm wn e few differ equivalent =
        let v = differ.0 in
        let given : Key → Bool = λ key. find m.ports key.0 v in
        let same = (by_values m n wm wn e few).0 equivalent in
        let gold = (one_cycle (system m) (is_system m wm) (is_free m wm) nothing (named m given)).some in
        let gate = (one_cycle (system n) (is_system n wn) (is_free n wn) nothing (named n given)).some in
        let lm = goes_below m.ports Output m.output wm.output in
        let ln = goes_below n.ports Output n.output wn.output in
        let bm = bits_of-ports m.ports in
        let bn = bits_of-ports n.ports in
        let size = ap length e in
        let out_m = side_at-ports m.ports Output m.output wm.output in
        let out_n = side_at-ports n.ports Output n.output wn.output in
        let at : m.output ≡ n.output = the_output n wn m.output (omega arith) (ap (λ (ps : List Port). side_at (map net_of ps) m.output) (sym e) ∙ out_m) in
        let keys = ap (λ (ps : List Port). key_at (map net_of ps) m.output) e ∙ ap (key_at (map net_of n.ports)) at in
        let out = same given gold.0 gate.0 gold.1 gate.1 m.output n.output (omega arith) (omega arith) out_m out_n keys in
        differ.1 (
        value_of_inputs m wm v (named m given) (λ p goes. sym (found m wm v p (goes_below m.ports Input p goes)))
        ∙ sym (output_value m wm (named m given) gold.0 gold.1) ∙ out ∙ output_value n wn (named n given) gate.0 gate.1
        ∙ sym (same_named m n e given)
        ∙ value_of_inputs n wn (named m given) v (λ p goes. found m wm v p (let below = goes_below n.ports Input p goes in omega arith)))

    pub designs_are : ((s : System) → IsSystem s → IsLoopFree s → (cut : ℕ → Bool) (u : Values) → HasOneCycle s cut u) →
        (verdict : Verdict) (m n : Module) → IsWellFormed m → IsWellFormed n → m.ports ≡ n.ports → inputs_of m.ports ≤ most_inputs → IsVerdict verdict m n → DesignsAre verdict m n
    designs_are one_cycle Proved m n wm wn e narrow is = equal_equivalent m n wm wn e (ports_few m wm narrow) is
    designs_are one_cycle Fail m n wm wn e narrow is = differ_not_equivalent one_cycle m n wm wn e (ports_few m wm narrow) is
