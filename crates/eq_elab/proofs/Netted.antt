-- The last step: a loop is refused, and without one the netlist agrees with the design.
use Rattle.std.proofs.Common.{◌≡◌, ℕ, ◌<◌, List, [], ◌∷◌, Option, Some, IfSome, Ok, map, sym, ap, subst, ◌∙◌}
use Rattle.std.specs.Prelude.{option_map}
use Rattle.eq_model.specs.Agreement.{SameSystem}
use Rattle.eq_model.specs.Nets.{Net}
use Rattle.eq_model.specs.System.{IsLoopFree, IsSystem, System}
use Rattle.eq_names.specs.declared.BitName.{BitName}
use Rattle.eq_net.specs.declared.net.Net.{Net as Netlist}
use Rattle.eq_net.specs.declared.types.Driver.{Driver}
use Rattle.eq_net.specs.declared.types.NetInfo.{NetInfo}
use Rattle.eq_net.specs.Net.{bits_of, copy_of as copy_by, driver_at, system_of as system_by}
use Rattle.eq_net.specs.Nets.{net_of}
use Rattle.eq_net.specs.Tree.{trees_of as words_of, Tree}
use Rattle.eq_verilog.specs.declared.refusal.ElabErr.TheVariants as err
use Rattle.eq_verilog.specs.Trees.{Name}
use Rattle.eq_verilog.specs.Costs.{design_cost}
use Rattle.eq_verilog.specs.Designs.{clock_bit, copy_of, name_at, system_of}
use Rattle.eq_verilog.specs.Nets.{bit_name}
use Rattle.eq_assembly.specs.Assembled.{AreParts}
use Rattle.eq_layout.specs.declared.layout.Layout.{Layout}
use Rattle.eq_layout.specs.Layout.{design_in, trees_of, IsLaidOut}
use Rattle.eq_loops.specs.Cycle.{IsCycle}
use Rattle.eq_reads.specs.Graph.{bare}
use Rattle.eq_elab.specs.Answers.{IsLoop, Refuses}
use Rattle.eq_elab.specs.inner.Elaborating.{AreLeft, Elaborates, IsWired}
use Rattle.eq_elab.specs.inner.Looping.{IsNamed}
use Rattle.eq_elab.proofs.Looped.{first_to, free_to, loop_is}

-- three lists in the place of three others
pub subst_all : {A B C : Type 0} (P : A → B → C → Type 0) {a x : A} {b y : B} {c z : C} → a ≡ x → b ≡ y → c ≡ z →
    P a b c → P x y z
subst_all P {a} {x} {b} {y} {c} {z} e f g h =
    subst (λ v. P v y z) e (subst (λ v. P a v z) f (subst (λ v. P a b v) g h))

-- what is there is what is told of it
pub some_told : {A : Type 0} (P : A → Type 0) (o : Option A) (x : A) → o ≡ Some x → IfSome o P → P x
some_told {A} P o x is h = subst (λ (p : Option A). IfSome p P) is h

module _ (l : Layout) (top : Name) (words : List Tree) (drivers : List Driver) (laid : IsLaidOut top l)
    (wired : IsWired l top words drivers) (left : AreLeft (trees_of l) top [])
    (system : IsSystem (system_by (bare l.flat.nets.items words drivers))) where
  abbrev parts : System
  parts = system_by (bare l.flat.nets.items words drivers)

  abbrev whole : System
  whole = system_of (design_in l top)

  -- a loop of the parts is one of the design, which is refused for it
  pub refused : (bits : List ℕ) (cycle : List BitName) (name : Name) → IsCycle parts bits →
      IsNamed l.flat.nets.items bits cycle name → Refuses (trees_of l) top (err.Loop cycle name)
  refused [] cycle name is named = absurd is
  refused (b ∷ bits) cycle name is named = (
    (
      left,
      (
        b,
        first_to parts whole wired.told.system system b is.first,
        named.first ∙ ap (λ (ns : List Net). bit_name ns b) laid.nets,
      ),
    ),
    subst (λ (ns : List Net). IsLoop whole ns cycle name) laid.nets
        (loop_is parts whole wired.told.system system l.flat.nets.items name (b ∷ bits) cycle is named),
  )

  -- the netlist of the parts agrees with the design
  pub agrees : (clock : Option ℕ) (cost : ℕ) → IsLoopFree parts → clock ≡ clock_bit (design_in l top) →
      cost ≡ design_cost (trees_of l) top → (net : Netlist) → AreParts l top words drivers clock cost net →
      Elaborates (trees_of l) top (Ok net)
  agrees clock cost free timed costs net are =
      let f = design_in l top in
      let ns = net.nets in
      let ws = words_of net.words in
      let same : SameSystem (system_by (bare ns ws net.drivers)) whole =
      subst (λ (xs : List NetInfo). SameSystem (system_by (bare xs ws net.drivers)) whole) (sym are.nets)
      (subst (λ (xs : List Tree). SameSystem (system_by (bare l.flat.nets.items xs net.drivers)) whole) (sym are.words)
      (subst (λ (xs : List Driver). SameSystem (system_by (bare l.flat.nets.items words xs)) whole) (sym are.drivers)
      wired.told.system)) in
      let copies : (b : ℕ) → b < bits_of ns → copy_by ns ws (driver_at (bare ns ws net.drivers) b) ≡ copy_of f b =
      subst (λ (xs : List NetInfo). (b : ℕ) → b < bits_of xs → copy_by xs ws (driver_at (bare xs ws net.drivers) b)
      ≡ copy_of f b) (sym are.nets)
      (subst (λ (xs : List Tree). (b : ℕ) → b < bits_of l.flat.nets.items →
      copy_by l.flat.nets.items xs (driver_at (bare l.flat.nets.items xs net.drivers) b) ≡ copy_of f b) (sym are.words)
      (subst (λ (xs : List Driver). (b : ℕ) → b < bits_of l.flat.nets.items →
      copy_by l.flat.nets.items words (driver_at (bare l.flat.nets.items words xs) b) ≡ copy_of f b) (sym are.drivers)
      wired.told.copies)) in (
        record { faultless = left; loop_free = free_to parts whole wired.told.system system free },
        record {
          system = same;
          nets = ap (λ (xs : List NetInfo). map net_of xs) are.nets ∙ laid.nets;
          ports = are.ports;
          clock = are.clock ∙ ap (λ (o : Option ℕ). option_map (name_at f) o) timed;
          copies = copies;
        },
        are.cost ∙ costs,
      )
