-- What tables of slots say of bits with two drivers, and of registers without initial value.
use Rattle.std.proofs.Common.{◌≡◌, ℕ, ◌<◌, Bool, true, false, ◌&&◌, ◌||◌, nat_lt, List, [], ◌∷◌, length, Option, Some, None, refl, arith, sym, ap, ap₂, ◌∙◌}
use Rattle.std.specs.Prelude.{is_none, is_some}
use Rattle.std.proofs.lemmas.Bool.{le-ltb, lt-ltb}
use Rattle.eq_vlex.specs.declared.token.Constant.{Constant}
use Rattle.eq_model.specs.Nets.{total_width}
use Rattle.eq_net.specs.declared.types.NetInfo.{NetInfo}
use Rattle.eq_net.specs.Meaning.{if_there}
use Rattle.eq_net.specs.Net.{bits_of}
use Rattle.eq_net.specs.Numbers.{digit}
use Rattle.eq_net.specs.Tree.{Tree}
use Rattle.eq_verilog.specs.BitRefusals.{has_two_drivers}
use Rattle.eq_verilog.specs.Designs.{Flat, is_reg_bit}
use Rattle.eq_verilog.specs.Equations.{Equation, place_in}
use Rattle.eq_verilog.specs.Firsts.{first_below}
use Rattle.eq_verilog.specs.Registers.{Initial, Process, begins}
use Rattle.eq_flatten.specs.declared.driving.Slot.{Slot}
use Rattle.eq_flatten.specs.declared.driving.Slot.TheVariants.{Free, Once, Twice}
use Rattle.eq_flatten.specs.Beginning.{begins_bit, beginnings_of, SlotBegins}
use Rattle.eq_flatten.specs.Driving.{slot_at}
use Rattle.eq_flatten.specs.Equating.{drivers_of, SlotSays}
use Rattle.eq_sequential.specs.Setting.{setters_of, SlotFollows}
use Rattle.eq_drivers.specs.declared.slots.Slots.{Slots}
use Rattle.eq_drivers.specs.Telling.{AreRegs, Tell}
use Rattle.eq_drivers.specs.inner.Doubling.{is_doubled, is_free, is_twice, lacks_initial}
use Rattle.eq_drivers.proofs.Counts.{counted}
use Rattle.eq_drivers.proofs.Firsts.{first_same, none_passes}

-- ---- one slot

twice_driven : (nets : List NetInfo) (words : List Tree) (es : List Equation) (b : ℕ) (s : Slot) →
    SlotSays nets words es b s → is_twice s ≡ nat_lt 1 (drivers_of es b)
twice_driven nets words es b Free says = sym (ap (λ n. nat_lt 1 n) says)
twice_driven nets words es b (Once w) says = sym (ap (λ n. nat_lt 1 n) says.0)
twice_driven nets words es b Twice says = sym (lt-ltb 1 (drivers_of es b) says)

twice_followed : (nets : List NetInfo) (words : List Tree) (ps : List Process) (b : ℕ) (s : Slot) →
    SlotFollows nets words ps b s → is_twice s ≡ nat_lt 1 (setters_of ps b)
twice_followed nets words ps b Free says = sym (ap (λ n. nat_lt 1 n) says)
twice_followed nets words ps b (Once w) says = sym (ap (λ n. nat_lt 1 n) says.0)
twice_followed nets words ps b Twice says = sym (lt-ltb 1 (setters_of ps b) says)

twice_begun : (constants : List Constant) (is : List Initial) (b : ℕ) (s : Slot) →
    SlotBegins constants is b s → is_twice s ≡ nat_lt 1 (beginnings_of is b)
twice_begun constants is b Free says = sym (ap (λ n. nat_lt 1 n) says)
twice_begun constants is b (Once w) says = sym (ap (λ n. nat_lt 1 n) says.0)
twice_begun constants is b Twice says = sym (lt-ltb 1 (beginnings_of is b) says)

begun_with : (i : Initial) (is : List Initial) (b : ℕ) (o : Option ℕ) → place_in i.scope i.target b ≡ o →
    is_none (begins is b) ≡ nat_lt (beginnings_of is b) 1 →
    is_none (begins (i ∷ is) b) ≡ nat_lt (beginnings_of (i ∷ is) b) 1
begun_with i is b None none rest =
    let c = counted (begins_bit b) i is false (ap (λ p. is_some p) none) in
    let same : beginnings_of (i ∷ is) b ≡ beginnings_of is b = omega (arith, c) in
    ap (λ p. is_none (if_there (begins is b) (λ j. Some (digit i.value.value j)) p)) none
    ∙ rest ∙ ap (λ n. nat_lt n 1) (sym same)
begun_with i is b (Some j) here rest =
    let c = counted (begins_bit b) i is true (ap (λ p. is_some p) here) in
    ap (λ p. is_none (if_there (begins is b) (λ k. Some (digit i.value.value k)) p)) here
    ∙ sym (le-ltb (beginnings_of (i ∷ is) b) 1 (omega (arith, c)))

-- a bit is begun just where some initial value has it
begun_by : (is : List Initial) (b : ℕ) → is_none (begins is b) ≡ nat_lt (beginnings_of is b) 1
begun_by [] b = refl
begun_by (i ∷ is) b = begun_with i is b (place_in i.scope i.target b) refl (begun_by is b)

free_begun : (constants : List Constant) (is : List Initial) (b : ℕ) (s : Slot) →
    SlotBegins constants is b s → is_free s ≡ nat_lt (beginnings_of is b) 1
free_begun constants is b Free says = sym (ap (λ n. nat_lt n 1) says)
free_begun constants is b (Once w) says = sym (ap (λ n. nat_lt n 1) says.0)
free_begun constants is b Twice says = sym (le-ltb (beginnings_of is b) 1 (omega (arith, says)))

-- ---- all bits

neither : (a b c : Bool) → (a || (b || c)) ≡ false → (a ≡ false) × (b ≡ false) × (c ≡ false)
neither true b c e = absurd (cc)
neither false true c e = absurd (cc)
neither false false c e = (refl, refl, e)

module _ (nets : List NetInfo) (words : List Tree) (f : Flat) (s : Slots) (tell : Tell nets words f s) where
  doubled_same : (b : ℕ) → b < bits_of nets →
      is_doubled s.driven.items s.followed.items s.begun.items b ≡ has_two_drivers f b
  doubled_same b lt =
      let ds = tell.driven_size in
      let fs = tell.followed_size in
      let bs = tell.begun_size in
      ap₂ (λ p q. p || q)
      (twice_driven nets words f.equations b (slot_at s.driven.items b) (tell.driven b (omega (arith, lt, ds))))
      (ap₂ (λ p q. p || q)
      (twice_followed nets words f.processes b (slot_at s.followed.items b) (tell.followed b (omega (arith, lt, fs))))
      (twice_begun s.constants.items f.initials b (slot_at s.begun.items b) (tell.begun b (omega (arith, lt, bs)))))

  -- the first bit with two in a table is the first with two drivers
  pub doubled_first : first_below (length s.driven.items) (is_doubled s.driven.items s.followed.items s.begun.items)
      ≡ first_below (bits_of nets) (has_two_drivers f)
  doubled_first =
      ap (λ n. first_below n (is_doubled s.driven.items s.followed.items s.begun.items)) tell.driven_size
      ∙ first_same (bits_of nets) (is_doubled s.driven.items s.followed.items s.begun.items) (has_two_drivers f)
      doubled_same

  -- where there is no such bit, no slot has two
  pub never_doubled : first_below (bits_of nets) (has_two_drivers f) ≡ None → (b : ℕ) → b < bits_of nets →
      (is_twice (slot_at s.driven.items b) ≡ false) × (is_twice (slot_at s.followed.items b) ≡ false) ×
      (is_twice (slot_at s.begun.items b) ≡ false)
  never_doubled single b lt =
      neither (is_twice (slot_at s.driven.items b)) (is_twice (slot_at s.followed.items b))
      (is_twice (slot_at s.begun.items b))
      (doubled_same b lt ∙ none_passes (bits_of nets) (has_two_drivers f) single b lt)

  module _ (flags : List Bool) (regs : AreRegs f flags) where
    -- as many flags as bits
    pub as_many : length flags ≡ bits_of nets
    as_many = regs.size ∙ ap (λ ns. total_width ns) (sym tell.nets_are)

    lacks_same : (b : ℕ) → b < bits_of nets →
        lacks_initial flags s.begun.items b ≡ (is_reg_bit f b && is_none (begins f.initials b))
    lacks_same b lt =
        let size = as_many in
        let bs = tell.begun_size in
        ap₂ (λ p q. p && q) (regs.are b (omega (arith, lt, size)))
        (free_begun s.constants.items f.initials b (slot_at s.begun.items b) (tell.begun b (omega (arith, lt, bs)))
        ∙ sym (begun_by f.initials b))

    -- the first flagged bit without a slot of its own is the first register without initial value
    pub lacking_first : first_below (length flags) (lacks_initial flags s.begun.items)
        ≡ first_below (bits_of nets) (λ b. is_reg_bit f b && is_none (begins f.initials b))
    lacking_first =
        ap (λ n. first_below n (lacks_initial flags s.begun.items)) as_many
        ∙ first_same (bits_of nets) (lacks_initial flags s.begun.items)
        (λ b. is_reg_bit f b && is_none (begins f.initials b)) lacks_same
