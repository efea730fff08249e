-- Drivers that were chosen by the slots of a design are those of the design.
use Rattle.std.proofs.Common.{◌≡◌, ℕ, ◌<◌, Bool, true, false, ◌||◌, cond, List, length, slice_index_or, Option, None, refl, arith, sym, ap, subst, ◌∙◌}
use Rattle.std.specs.Prelude.{unwrap_or}
use Rattle.std.proofs.lemmas.List.{get_or_default}
use Rattle.eq_vlex.specs.declared.token.Constant.{Constant}
use Rattle.eq_model.specs.Agreement.{SameDriver}
use Rattle.eq_model.specs.Nets.{at_bit, total_width}
use Rattle.eq_model.specs.System.{Driver as Source, Values, input, undriven, equation, register}
use Rattle.eq_net.specs.declared.types.Driver.{Driver}
use Rattle.eq_net.specs.declared.types.Driver.TheVariants.{Undriven}
use Rattle.eq_net.specs.declared.types.NetInfo.{NetInfo}
use Rattle.eq_net.specs.Meaning.{all_copies_of, all_reads_of, if_there, values_of}
use Rattle.eq_net.specs.Net.{bits_of, copy_of as copy_by, equation_of, number_of, source_of, word_at, AreWords, NamesWord}
use Rattle.eq_net.specs.Tree.{Tree}
use Rattle.eq_verilog.specs.BitRefusals.{has_two_drivers}
use Rattle.eq_verilog.specs.Declarations.{comes_in}
use Rattle.eq_verilog.specs.Designs.{copy_of, driver_of, is_input_bit, is_reg_bit, Flat}
use Rattle.eq_verilog.specs.Equations.{copied, driving, formula, Equation}
use Rattle.eq_verilog.specs.Expressions.{reads, value, wire}
use Rattle.eq_verilog.specs.Firsts.{first_below}
use Rattle.eq_verilog.specs.Registers.{begins, following}
use Rattle.eq_verilog.specs.Scopes.{Scope}
use Rattle.eq_verilog.specs.Sizes.{own}
use Rattle.eq_verilog.specs.Trees.{ExprTree}
use Rattle.eq_flatten.specs.declared.driving.Slot.{Slot}
use Rattle.eq_flatten.specs.declared.driving.Slot.TheVariants.{Free, Once, Twice}
use Rattle.eq_flatten.specs.Beginning.{SlotBegins}
use Rattle.eq_flatten.specs.Driving.{slot_at}
use Rattle.eq_flatten.specs.Equating.{width_of, IsDriver, SlotSays}
use Rattle.eq_flatten.specs.Rendering.{Renders}
use Rattle.eq_registers.proofs.Stood.{same_lists}
use Rattle.eq_sequential.specs.Setting.{SlotFollows}
use Rattle.eq_drivers.specs.declared.slots.Slots.{Slots}
use Rattle.eq_drivers.specs.Telling.{AreRegs, Tell}
use Rattle.eq_drivers.specs.Wiring.{AreTold}
use Rattle.eq_drivers.specs.inner.Choosing.{comes_from_outside, driver_by, AreChosen, IsChosen, IsChosenBy}
use Rattle.eq_drivers.specs.inner.Doubling.{is_twice}
use Rattle.eq_drivers.proofs.Chosen.{initial_told, next_told, none_first, one_first, place_inside}
use Rattle.eq_drivers.proofs.Doubled.{as_many, never_doubled}

-- what is said of a driver: its word is there, it is this driver, and a plain copy of this bit
record IsToldBy (nets : List NetInfo) (words : List Tree) (d : Driver) (s : Source) (copy : Option ℕ) : Type 0 where
  named : NamesWord words d
  same : SameDriver (source_of nets words d) s
  copies : copy_by nets words d ≡ copy

-- of the words of a netlist what words_render says
module _
    (values : (nets : List NetInfo) (words : List Tree) (s : Scope) (e : ExprTree) (w k : ℕ) → AreWords nets words →
    k < length words → Renders nets words s e w (word_at words k) → (v : Values) (j : ℕ) →
    values_of v (number_of nets) words k j ≡ value s v e w j)
    (reading : (nets : List NetInfo) (words : List Tree) (s : Scope) (e : ExprTree) (w k : ℕ) → AreWords nets words →
    k < length words → Renders nets words s e w (word_at words k) → (j : ℕ) →
    all_reads_of (number_of nets) words k j ≡ reads s e w j)
    (copying : (nets : List NetInfo) (words : List Tree) (s : Scope) (e : ExprTree) (w k : ℕ) → AreWords nets words →
    k < length words → Renders nets words s e w (word_at words k) → (j : ℕ) →
    all_copies_of (number_of nets) words k j ≡ wire s e j)
    (nets : List NetInfo) (words : List Tree) (are : AreWords nets words)
  where
    -- by the equations
    driver_told : (es : List Equation) (b : ℕ) (s : Slot) → SlotSays nets words es b s → is_twice s ≡ false →
        IsToldBy nets words (driver_by s) (if_there undriven equation (driving es b)) (copied es b)
    driver_told es b Free says once = record {
      named = tt;
      same = subst (λ o. SameDriver undriven (if_there undriven equation o))
          (sym (none_first (λ e j. formula e.target_scope e.target e.source_scope e.source j) es b says)) tt;
      copies = sym (ap (λ o. if_there None (λ x. x) o)
          (none_first (λ e j. wire e.source_scope e.source j) es b says));
    }
    driver_told es b (Once w) says once =
        let e = says.1.0 in
        let h : IsDriver nets words e b w.word w.bit = says.1.2 in
        let inside = place_inside (own e.target_scope e.target) (wire e.target_scope e.target) b w.bit h.place in
        record {
          named = (h.there, (let size = h.renders.size in omega (arith, inside, size)));
          same = subst (λ o. SameDriver (equation (equation_of nets words w.word w.bit)) (if_there undriven equation o))
              (sym (one_first (λ x j. formula x.target_scope x.target x.source_scope x.source j) es b e w.bit says.1.1
              h.place says.0))
              (record {
                reads = same_lists (all_reads_of (number_of nets) words w.word w.bit)
                    (reads e.source_scope e.source (width_of e) w.bit)
                    (reading nets words e.source_scope e.source (width_of e) w.word are h.there h.renders w.bit);
                value = λ v. values nets words e.source_scope e.source (width_of e) w.word are h.there h.renders v w.bit;
              });
          copies =
              copying nets words e.source_scope e.source (width_of e) w.word are h.there h.renders w.bit
              ∙ sym (ap (λ o. if_there None (λ x. x) o)
              (one_first (λ x j. wire x.source_scope x.source j) es b e w.bit says.1.1 h.place says.0));
        }
    driver_told es b Twice says once = absurd (cc)

    module _ (f : Flat) (constants : List Constant) (b : ℕ) (x y z : Slot)
        (driven : SlotSays nets words f.equations b x) (followed : SlotFollows nets words f.processes b y)
        (begun : SlotBegins constants f.initials b z) (one : is_twice x ≡ false) (two : is_twice y ≡ false)
        (three : is_twice z ≡ false) where
      -- as it is one of a reg or not, and comes from outside or not
      chosen_told : (t o : Bool) (d : Driver) → IsChosenBy nets words b t o constants x y z d →
          IsToldBy nets words d
          (cond t (register (unwrap_or (begins f.initials b) false) (following f.processes b))
          (cond o input (if_there undriven equation (driving f.equations b))))
          (cond (t || o) None (copied f.equations b))
      chosen_told true o d h =
          let w = h.0 in
          let stands = next_told nets words f.processes b y w followed two h.1 in
          subst (λ c. IsToldBy nets words c
          (register (unwrap_or (begins f.initials b) false) (following f.processes b)) None) (sym h.2)
          (record {
            named = stands.there;
            same = (initial_told constants f.initials b z begun three, stands.same);
            copies = refl;
          })
      chosen_told false true d h =
          subst (λ c. IsToldBy nets words c input None) (sym h) (record { named = tt; same = tt; copies = refl })
      chosen_told false false d h =
          subst (λ c. IsToldBy nets words c (if_there undriven equation (driving f.equations b)) (copied f.equations b))
          (sym h) (driver_told f.equations b x driven one)

    module _ (f : Flat) (s : Slots) (flags : List Bool) (tell : Tell nets words f s) (regs : AreRegs f flags)
        (single : first_below (bits_of nets) (has_two_drivers f) ≡ None) where
      told_at : (b : ℕ) → b < bits_of nets → (d : Driver) → IsChosen nets words flags s b d →
          IsToldBy nets words d (driver_of f b) (copy_of f b)
      told_at b lt d h =
          let ds = tell.driven_size in
          let fs = tell.followed_size in
          let bs = tell.begun_size in
          let size = as_many nets words f s tell flags regs in
          let never = never_doubled nets words f s tell single b lt in
          let reg : slice_index_or flags b false ≡ is_reg_bit f b = regs.are b (omega (arith, lt, size)) in
          let outside : comes_from_outside nets b ≡ is_input_bit f b =
          ap (λ ns. at_bit false (λ n p. comes_in n.dir) ns b) tell.nets_are in
          let x = slot_at s.driven.items b in
          let y = slot_at s.followed.items b in
          let z = slot_at s.begun.items b in
          let constants = s.constants.items in
          chosen_told f constants b x y z (tell.driven b (omega (arith, lt, ds))) (tell.followed b (omega (arith, lt, fs)))
          (tell.begun b (omega (arith, lt, bs))) never.0 never.1 never.2 (is_reg_bit f b) (is_input_bit f b) d
          (subst (λ o. IsChosenBy nets words b (is_reg_bit f b) o constants x y z d) outside
          (subst (λ t. IsChosenBy nets words b t (comes_from_outside nets b) constants x y z d) reg h))

      -- drivers that were chosen for all bits are those of the design
      pub all_told : (ds : List Driver) → length ds ≡ bits_of nets → AreChosen nets words flags s ds →
          AreTold nets words f ds
      all_told ds size chosen = record {
        size = size;
        named = λ k d lt. subst (NamesWord words) (get_or_default ds k Undriven d lt)
            (at k (omega (arith, lt, size))).named;
        system = record {
          bits = ap (λ ns. total_width ns) tell.nets_are;
          drivers = λ b lt. (at b lt).same;
        };
        copies = λ b lt. (at b lt).copies;
      }
        where
          at : (b : ℕ) → b < bits_of nets → IsToldBy nets words (slice_index_or ds b Undriven) (driver_of f b) (copy_of f b)
          at b lt = told_at b lt (slice_index_or ds b Undriven) (chosen.are b (omega (arith, lt, size)))
