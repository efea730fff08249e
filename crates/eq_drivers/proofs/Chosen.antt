-- The definitions' initial value, next value and equation of a bit, by its slots.
use Rattle.std.proofs.Common.{◌≡◌, ℕ, zero, suc, ◌<◌, Bool, true, false, cond, List, [], ◌∷◌, Contains, Option, Some, None, refl, arith, sym, ap, subst, ◌∙◌}
use Rattle.std.specs.Prelude.{find, is_some, unwrap_or}
use Rattle.eq_vlex.specs.declared.token.Constant.{Constant}
use Rattle.eq_net.specs.declared.types.NetInfo.{NetInfo}
use Rattle.eq_net.specs.declared.types.WordBit.{WordBit}
use Rattle.eq_net.specs.Meaning.{if_there}
use Rattle.eq_net.specs.Numbers.{digit}
use Rattle.eq_net.specs.Tree.{Tree}
use Rattle.eq_verilog.specs.Clocks.{is_bit}
use Rattle.eq_verilog.specs.Equations.{first_equation, place_below, place_in, Equation}
use Rattle.eq_verilog.specs.Registers.{begins, following, itself, run, Initial, Process}
use Rattle.eq_flatten.specs.declared.driving.Slot.{Slot}
use Rattle.eq_flatten.specs.declared.driving.Slot.TheVariants.{Free, Once, Twice}
use Rattle.eq_flatten.specs.Beginning.{SlotBegins}
use Rattle.eq_flatten.specs.Equating.{drives, drivers_of}
use Rattle.eq_flatten.proofs.BeginningLemmas.{none_begins, one_begins}
use Rattle.eq_registers.specs.Standing.{StandsFor}
use Rattle.eq_sequential.specs.Setting.{sets_bit, SlotFollows}
use Rattle.eq_drivers.specs.inner.Choosing.{initial_by, IsNextBy}
use Rattle.eq_drivers.specs.inner.Doubling.{is_twice}
use Rattle.eq_drivers.proofs.Counts.{none_found, one_found}

-- ---- registers

-- the initial value by the slot, where no bit is begun twice
pub initial_told : (constants : List Constant) (is : List Initial) (b : ℕ) (s : Slot) → SlotBegins constants is b s →
    is_twice s ≡ false → initial_by constants s ≡ unwrap_or (begins is b) false
initial_told constants is b Free says once = sym (ap (λ o. unwrap_or o false) (none_begins b is says))
initial_told constants is b (Once w) says once =
    ap (λ o. if_there false (λ (c : Constant). digit c.value w.bit) o) says.1.2.value
    ∙ sym (ap (λ o. unwrap_or o false) (one_begins b is says.1.0 w.bit says.1.1 says.1.2.place says.0))
initial_told constants is b Twice says once = absurd (cc)

module _ (nets : List NetInfo) (words : List Tree) (ps : List Process) (b : ℕ) where
  followed_by : (o : Option Process) → find (sets_bit b) ps ≡ o →
      following ps b ≡ if_there (itself b) (λ (p : Process). run p.scope p.body itself b) o
  followed_by o is = ap (λ x. if_there (itself b) (λ (p : Process). run p.scope p.body itself b) x) is

  -- the next value by the slot, where no bit is set twice
  pub next_told : (s : Slot) (w : WordBit) → SlotFollows nets words ps b s → is_twice s ≡ false →
      IsNextBy nets words b s w → StandsFor nets words w (following ps b)
  next_told Free w says once next =
      subst (StandsFor nets words w) (sym (followed_by None (none_found (sets_bit b) ps says))) next
  next_told (Once v) w says once next =
      let p = says.1.0 in
      let found = one_found (sets_bit b) ps p says.1.1 says.1.2.sets_it says.0 in
      subst (λ u. StandsFor nets words u (following ps b)) (sym next)
      (subst (StandsFor nets words v) (sym (followed_by (Some p) found)) says.1.2.stands)
  next_told Twice w says once next = absurd (cc)

-- ---- equations

one_step : {A : Type 0} (g : ℕ → A) (h : Equation → Option A) (e : Equation) (o : Option ℕ) (rest : Option A)
    (found : Option Equation) → h e ≡ if_there None (λ j. Some (g j)) o → rest ≡ if_there None h found →
    if_there rest (λ j. Some (g j)) o ≡ if_there None h (cond (is_some o) (Some e) found)
one_step g h e None rest found is same = same
one_step g h e (Some j) rest found is same = sym is

-- the first equation is the first that has the bit
first_found : {A : Type 0} (g : Equation → ℕ → A) (es : List Equation) (b : ℕ) → first_equation g es b ≡
    if_there None (λ (e : Equation). if_there None (λ j. Some (g e j)) (place_in e.target_scope e.target b))
    (find (drives b) es)
first_found g [] b = refl
first_found g (e ∷ es) b =
    one_step (g e) (λ (x : Equation). if_there None (λ j. Some (g x j)) (place_in x.target_scope x.target b)) e
    (place_in e.target_scope e.target b) (first_equation g es b) (find (drives b) es) refl (first_found g es b)

-- no equation has the bit
pub none_first : {A : Type 0} (g : Equation → ℕ → A) (es : List Equation) (b : ℕ) → drivers_of es b ≡ 0 →
    first_equation g es b ≡ None
none_first g es b none =
    first_found g es b
    ∙ ap (λ o. if_there None (λ (e : Equation). if_there None (λ j. Some (g e j)) (place_in e.target_scope e.target b)) o)
    (none_found (drives b) es none)

-- one equation has it
pub one_first : {A : Type 0} (g : Equation → ℕ → A) (es : List Equation) (b : ℕ) (e : Equation) (j : ℕ) →
    Contains es e → place_in e.target_scope e.target b ≡ Some j → drivers_of es b ≡ 1 →
    first_equation g es b ≡ Some (g e j)
one_first g es b e j has place one =
    first_found g es b
    ∙ ap (λ o. if_there None (λ (x : Equation). if_there None (λ i. Some (g x i)) (place_in x.target_scope x.target b)) o)
    (one_found (drives b) es e has (ap (λ o. is_some o) place) one)
    ∙ ap (λ o. if_there None (λ i. Some (g e i)) o) place

place_with : (n : ℕ) (t : Bool) (o : Option ℕ) (j : ℕ) → (o ≡ Some j → j < n) → cond t (Some n) o ≡ Some j → j < suc n
place_with n true o j rest is = (let e = same_number n j is in omega (arith, e))
  where
    same_number : (a c : ℕ) → Some a ≡ Some c → a ≡ c
    same_number a c e = cc
place_with n false o j rest is = (let lt = rest is in omega (arith, lt))

-- a position of a target is one of its bits
pub place_inside : (n : ℕ) (f : ℕ → Option ℕ) (b j : ℕ) → place_below n f b ≡ Some j → j < n
place_inside zero f b j is = absurd (cc)
place_inside (suc n) f b j is =
    place_with n (is_bit b (f n)) (place_below n f b) j (λ e. place_inside n f b j e) is
