-- What is put together is a netlist.
use Rattle.std.proofs.Common.{◌≡◌, ◌≢◌, ℕ, ◌+◌, ◌<◌, ◌≤◌, false, true, List, [], ◌∷◌, ◌++◌, map, AllPairs, Option, Some, None, refl, sym, ap, subst, ◌∙◌}
use Rattle.std.specs.Prelude.{◌↔◌, sum_by, option_map, IfSome}
use Rattle.std.specs.Option.{ForSome}
use Rattle.eq_model.specs.Nets.{at_bit, inner, is_input, Net}
use Rattle.eq_model.specs.System.{IsLoopFree}
use Rattle.eq_net.specs.declared.types.Driver.{Driver}
use Rattle.eq_net.specs.declared.types.Driver.TheVariants.{Input}
use Rattle.eq_net.specs.declared.types.NetInfo.{NetInfo}
use Rattle.eq_net.specs.Meaning.{cost_of, if_there}
use Rattle.eq_net.specs.Net.{bits_of, driver_at, most_cost, name_at, system_of, AreWords, IsClock, IsNet}
use Rattle.eq_net.specs.Nets.{net_of}
use Rattle.eq_net.specs.Tree.{Tree}
use Rattle.eq_verilog.specs.Trees.{Name, ModuleTree}
use Rattle.eq_verilog.specs.Declarations.{nets_in}
use Rattle.eq_verilog.specs.Designs.{may_be_clock, name_at as name_of_bit, Flat}
use Rattle.eq_verilog.specs.Firsts.{again_after, first_again}
use Rattle.eq_verilog.specs.Hierarchy.{module_named, paths, Path}
use Rattle.eq_verilog.specs.Nets.{alone, full_names, nets_at, nets_of, regs_of}
use Rattle.eq_flatten.specs.Paths.{Link, end_of, link_of, path_of}
use Rattle.eq_reads.specs.Graph.{bare}
use Rattle.eq_layout.specs.declared.layout.Layout.{Layout}
use Rattle.eq_layout.specs.Layout.{design_in, trees_of, AreSound, IsLaidOut}
use Rattle.eq_drivers.specs.Wiring.{AreTold}
use Rattle.eq_assembly.specs.inner.Numbers.{AreNumbers, IsNetOfMaybe}
use Rattle.eq_assembly.proofs.ClockNet.{asked_of, bit_there, clock_net, clocks}
use Rattle.eq_assembly.proofs.Inputs.{design_fine, input_driver, AreFine}
use Rattle.eq_assembly.proofs.NamesApart.{apart_by}
use Rattle.eq_assembly.proofs.PortNumbers.{all_sided, port_names, ports_apart, ports_sided}
use Rattle.eq_assembly.proofs.TopFaults.{top_fine, IsTopFine}
use Rattle.eq_assembly.proofs.TopNets.{inner_links}

pub the_module : (o : Option ModuleTree) → (o ≡ None → ⊥) → (m : ModuleTree) × (o ≡ Some m)
the_module None h = absurd (h refl)
the_module (Some m) h = (m, refl)

names_are : (nets : List NetInfo) → full_names (map net_of nets) ≡ map (λ (x : NetInfo). x.name) nets
names_are [] = refl
names_are (x ∷ xs) = ap (λ (ns : List Name). x.name ∷ ns) (names_are xs)

-- the nets of a netlist by the module of its top
pub record IsTopOf (l : Layout) (top : Name) (m : ModuleTree) : Type 0 where
  pub links : List Link
  pub paths_are : paths (trees_of l) top ≡ alone m ∷ map end_of links
  pub nets_are : map net_of l.flat.nets.items ≡ nets_at (alone m) ++ nets_of (map end_of links)
  pub fine : IsTopFine m

pub top_of : (l : Layout) (top : Name) → IsLaidOut top l → AreSound top l → (m : ModuleTree) →
    module_named (trees_of l) top ≡ Some m → IsTopOf l top m
top_of l top laid sound m is =
    let has_paths = laid.paths m is in
    let ls = map (link_of (map path_of l.found.paths.items)) l.found.links.items in
    let same : paths (trees_of l) top ≡ alone m ∷ map end_of ls = sym laid.paths_are ∙ has_paths.ends in
    record {
      links = ls;
      paths_are = same;
      nets_are = laid.nets ∙ ap (λ (ps : List Path). nets_of ps) same;
      fine = top_fine (trees_of l) top m is sound.faultless;
    }

module _ (l : Layout) (top : Name) (laid : IsLaidOut top l) (sound : AreSound top l) where
  abbrev nets : List NetInfo
  nets = l.flat.nets.items

  abbrev f : Flat
  f = design_in l top

  names_apart : AllPairs (λ (a b : NetInfo). a.name ≢ b.name) nets
  names_apart =
      apart_by (λ (x : NetInfo). x.name) nets []
      (ap (λ (ns : List Name). again_after [] ns) (sym (names_are nets)) ∙ sound.apart)

  inputs_fine : (m : ModuleTree) → IsTopOf l top m → AreFine f.regs f.nets
  inputs_fine m t =
      subst (λ (ps : List Path). AreFine (regs_of ps) (nets_of ps)) (sym t.paths_are)
      (design_fine m t.links t.fine
      (ap (λ (ns : List Net). first_again (full_names ns)) (sym t.nets_are) ∙ sound.apart))

  -- bits of the clock
  clock_of : (c k : Option ℕ) → IfSome c (λ b. may_be_clock f b ≡ true) → IsNetOfMaybe nets c k →
      ForSome k (IsClock nets)
  clock_of None None h is x e = absurd (cc)
  clock_of None (Some k) h is x e = absurd is
  clock_of (Some b) None h is x e = absurd is
  clock_of (Some b) (Some k) h is x e =
      let same : k ≡ x = ap (λ (o : Option ℕ). if_there k (λ (i : ℕ). i) o) e in
      subst (λ (i : ℕ). IsClock nets i) same
      (clock_net nets b k is (ap (λ (ns : List Net). at_bit false (λ n p. clocks n) ns b) laid.nets ∙ h))

  pub clock_there : (c : Option ℕ) → IfSome c (λ b. may_be_clock f b ≡ true) → IfSome c (λ b. b < bits_of nets)
  clock_there None h = tt
  clock_there (Some b) h =
      bit_there clocks (map net_of nets) b (ap (λ (ns : List Net). at_bit false (λ n p. clocks n) ns b) laid.nets ∙ h)

  -- the clock has the name of its bit
  pub clock_name : (c k : Option ℕ) → IsNetOfMaybe nets c k →
      option_map (λ (i : ℕ). name_at nets i) k ≡ option_map (λ (b : ℕ). name_of_bit f b) c
  clock_name None None is = refl
  clock_name None (Some k) is = absurd is
  clock_name (Some b) None is = absurd is
  clock_name (Some b) (Some k) is =
      ap (λ (n : Name). Some n)
      (sym (asked_of [] (λ (n : Net). n.name) nets b k is)
      ∙ ap (λ (ns : List Net). at_bit [] (λ n p. n.name) ns b) laid.nets)

  -- and the ports those of the header
  pub ports_named : (m : ModuleTree) → module_named (trees_of l) top ≡ Some m → (ks : List ℕ) →
      AreNumbers (nets_in m) ks m.ports →
      map (name_at nets) ks ≡ if_there [] (λ (x : ModuleTree). x.ports) (module_named (trees_of l) top)
  ports_named m is ks h =
      let t = top_of l top laid sound m is in
      port_names m (nets_of (map end_of t.links)) nets t.nets_are ks m.ports h.are
      ∙ sym (ap (λ (o : Option ModuleTree). if_there [] (λ (x : ModuleTree). x.ports) o) is)

  module _ (words : List Tree) (drivers : List Driver) (told : AreTold nets words f drivers) where
    pub is_net : (ks : List ℕ) (c k : Option ℕ) (cost : ℕ) →
        ((m : ModuleTree) → module_named (trees_of l) top ≡ Some m → AreNumbers (nets_in m) ks m.ports) →
        AreWords nets words → IsLoopFree (system_of (bare nets words drivers)) →
        IfSome c (λ b. may_be_clock f b ≡ true) → IsNetOfMaybe nets c k →
        (2 + bits_of nets) + sum_by cost_of words ≤ cost → cost ≤ most_cost →
        IsNet (record { nets = nets; words = words; drivers = drivers; ports = ks; clock = k; cost = cost })
    is_net ks c k cost numbers are free may is covered limited =
        let one = the_module (module_named (trees_of l) top) laid.there in
        let m = one.0 in
        let t = top_of l top laid sound m one.1 in
        let others = nets_of (map end_of t.links) in
        let ports = (numbers m one.1).are in
        let fine = inputs_fine m t in
        record {
          names = names_apart;
          one_driver = told.size;
          words_read = are;
          drivers_named = told.named;
          inputs = λ b lt.
              let d = driver_at (bare nets words drivers) b in
              subst (λ (ns : List Net). (d ≡ Input) ↔ (at_bit inner (λ n p. n.dir) ns b ≡ is_input)) (sym laid.nets)
              (input_driver nets words f d b fine (told.system.drivers b lt));
          ports_apart = ports_apart m others nets t.nets_are ks m.ports ports t.fine.once;
          ports_are = ports_sided m others nets t.nets_are ks m.ports ports t.fine.directed;
          all_ports = all_sided m others nets t.nets_are names_apart ks (inner_links t.links) ports t.fine;
          clocked = clock_of c k may is;
          loop_free = free;
          covered = covered;
          limited = limited;
        }
