-- The netlist of a design of the first form is a net.
use Rattle.std.proofs.Common.{◌≡◌, ℕ, zero, suc, ◌+◌, ◌<◌, ◌≤◌, List, [], ◌∷◌, map, length, slice_index_or, All, Contains, None, ◌↔◌, refl, arith, sym, ap, subst, ◌∙◌}
use Rattle.eq_model.specs.System.{IsLoopFree, Reads, reads_now}
use Rattle.eq_model.specs.Nets.{is_input as input_side}
use Rattle.eq_first.specs.declared.module.Direction.{Direction}
use Rattle.eq_first.specs.declared.module.Direction.TheVariants.{Input, Output}
use Rattle.eq_first.specs.declared.module.Port.{Port}
use Rattle.eq_first.specs.declared.module.Expr.{Expr}
use Rattle.eq_first.specs.declared.module.Module.{Module}
use Rattle.eq_first.specs.Value.{reads_of}
use Rattle.eq_first.specs.Well.{Goes, IsWellFormed}
use Rattle.eq_net.specs.declared.types.Driver.{Driver}
use Rattle.eq_net.specs.declared.types.Driver.TheVariants.{Input as Outside, Undriven, Expr as WordBit, Reg}
use Rattle.eq_net.specs.declared.types.NetInfo.{NetInfo}
use Rattle.eq_net.specs.Tree.{Tree}
use Rattle.eq_net.specs.Meaning.{cost_of, reads_of as bits_read}
use Rattle.eq_net.specs.Nets.{side_of}
use Rattle.eq_net.specs.Net.{AreWords, HasBit, IsNet, IsPortNet, NamesWord, number_of, source_of, system_of}
use Rattle.eqy.specs.Netlist.{first_parts, net_of, driver_of, driven_by, dir_of, word_of, numbers_from}
use Rattle.eqy.proofs.Mirrored.{bit_of_port, mirrored}
use Rattle.eqy.proofs.Ports.{bits_of-ports, length-nets, length-drivers, goes_somewhere, goes_below, driver_at, driver_there, side_at-ports, dir_at-ports, width_at-ports, number_of-port, inner_nowhere, names_apart, numbers_apart, numbers_below, number_there}

-- a port's bit is there
bit_there : (ps : List Port) (n : ℕ) → n < length ps → HasBit (map net_of ps) (bit_of_port n)
bit_there ps n lt = (let size = length-nets ps in let wide = width_at-ports ps n lt in (omega arith, omega arith))

map_at : (f : ℕ → ℕ) (xs : List ℕ) (k d : ℕ) → k < length (map f xs) → (k < length xs) × (slice_index_or (map f xs) k d ≡ f (slice_index_or xs k 0))
map_at f [] k d lt = absurd (omega arith)
map_at f (x ∷ xs) zero d lt = (omega arith, refl)
map_at f (x ∷ xs) (suc k) d lt = (let r = map_at f xs k d (omega arith) in (omega arith, r.1))

-- an input is below what is computed
abbrev level : Driver → ℕ
level Outside = 0
level Undriven = 0
level (WordBit w j) = 1
level (Reg i w j) = 1

input_source : (d : Direction) → (driven_by d ≡ Outside) ↔ (side_of (dir_of d) ≡ input_side)
input_source Input = ((λ e. refl), (λ e. refl))
input_source Output = ((λ e. absurd (cc)), (λ e. absurd (cc)))

names_word : (e : Expr) (d : Direction) → NamesWord (word_of e ∷ []) (driven_by d)
names_word e Input = tt
names_word e Output = (let one = (mirrored e).one in (omega arith, omega arith))

module _ (m : Module) (read : All (Goes m.ports Input) (reads_of m.expr)) where
  -- the word reads bits of the ports
  pub word_reads : AreWords (map net_of m.ports) (word_of m.expr ∷ [])
  word_reads zero lt =
      (mirrored m.expr).word (map net_of m.ports) (word_of m.expr ∷ []) 0
      (λ k d lk. bit_there m.ports (slice_index_or (reads_of m.expr) k d) (goes_below m.ports Input (slice_index_or (reads_of m.expr) k d) (read k d lk)))
  word_reads (suc k) lt = absurd (omega arith)

  -- what the word reads comes from outside
  reads_outside : (b : ℕ) → Contains (bits_read (number_of (map net_of m.ports)) (λ w i. []) (word_of m.expr) 0) b → slice_index_or (map driver_of m.ports) b Undriven ≡ Outside
  reads_outside b c =
      let number : ℕ → ℕ = λ p. number_of (map net_of m.ports) (bit_of_port p) in
      let P : List ℕ → Type 0 = λ rs. Contains rs b in
      let there = subst P ((mirrored m.expr).reads (number_of (map net_of m.ports)) (λ w i. [])) c in
      let at = map_at number (reads_of m.expr) there.0 b there.1 in
      let port = slice_index_or (reads_of m.expr) there.0 0 in
      let goes = read there.0 0 at.0 in
      let same : port ≡ b = sym (number_of-port m.ports port (goes_below m.ports Input port goes)) ∙ sym at.1 ∙ there.2 in
      let Q : ℕ → Type 0 = λ n. slice_index_or (map driver_of m.ports) n Undriven ≡ Outside in
      subst Q same (driver_at m.ports Input port goes)

  falls : (d : Direction) (b : ℕ) → Contains (reads_now (source_of (map net_of m.ports) (word_of m.expr ∷ []) (driven_by d))) b →
      level (slice_index_or (map driver_of m.ports) b Undriven) < level (driven_by d)
  falls Input b c = (let lt : c.0 < 0 = c.1 in absurd (omega arith))
  falls Output b c = (let e = ap level (reads_outside b c) in omega arith)

  pub ranks : (a b : ℕ) → a < length m.ports → Reads (system_of (first_parts m)) a b →
      level (slice_index_or (map driver_of m.ports) b Undriven) < level (slice_index_or (map driver_of m.ports) a Undriven)
  ranks a b lt reads =
      let way = goes_somewhere m.ports a lt in
      let at = driver_at m.ports way.0 a way.1 in
      let P : Driver → Type 0 = λ x. Contains (reads_now (source_of (map net_of m.ports) (word_of m.expr ∷ []) x)) b in
      let Q : Driver → Type 0 = λ x. level (slice_index_or (map driver_of m.ports) b Undriven) < level x in
      subst Q (sym at) (falls way.0 b (subst P at reads))

abbrev pub rank : List Port → ℕ → ℕ
rank ps b = level (slice_index_or (map driver_of ps) b Undriven)

pub made : (m : Module) → IsWellFormed m → length m.ports ≤ 13 → IsLoopFree (system_of (first_parts m)) → IsNet (first_parts m)
made m well few free = record {
  names = names_apart m.ports well.distinct;
  one_driver = length-drivers m.ports ∙ sym (bits_of-ports m.ports);
  words_read = word_reads m well.reads;
  drivers_named = λ b d lt.
      let way = goes_somewhere m.ports b (let size = length-drivers m.ports in omega arith) in
      let P : Driver → Type 0 = λ x. NamesWord (word_of m.expr ∷ []) x in
      subst P (sym (driver_there m.ports way.0 b d way.1)) (names_word m.expr way.0);
  inputs = λ b lt.
      let way = goes_somewhere m.ports b (let size = bits_of-ports m.ports in omega arith) in
      let at = driver_at m.ports way.0 b way.1 in
      let side = side_at-ports m.ports way.0 b way.1 in
      let is = input_source way.0 in
      ((λ h. side ∙ is.0 (sym at ∙ h)), (λ h. at ∙ is.1 (sym side ∙ h)));
  ports_apart = numbers_apart (length m.ports);
  ports_are = numbers_below (IsPortNet (map net_of m.ports)) (length m.ports) (λ k lt.
      let way = goes_somewhere m.ports k lt in
      let size = length-nets m.ports in
      ((omega arith), (λ h. inner_nowhere way.0 (sym (dir_at-ports m.ports way.0 k way.1) ∙ h))));
  all_ports = λ k port. number_there (length m.ports) k (let size = length-nets m.ports in let lt = port.0 in omega arith);
  clocked = λ k e. absurd (cc);
  loop_free = free;
  covered = (let bits = bits_of-ports m.ports in omega arith);
  limited = (let cheap = (mirrored m.expr).cheap in let small = well.small in omega arith);
}

-- parts that equal these, one by one
pub same_parts : (m : Module) (nets : List NetInfo) (words : List Tree) (drivers : List Driver) (ports : List ℕ) (cost : ℕ) →
    nets ≡ map net_of m.ports → words ≡ word_of m.expr ∷ [] → drivers ≡ map driver_of m.ports → ports ≡ numbers_from 0 (length m.ports) →
    cost ≡ (2 + length m.ports) + cost_of (word_of m.expr) →
    record { nets = nets; words = words; drivers = drivers; ports = ports; clock = None; cost = cost } ≡ first_parts m
same_parts m nets words drivers ports cost en ew ed ep ec = rw (en, ew, ed, ep, ec) refl
