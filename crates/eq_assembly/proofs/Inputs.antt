-- A bit of a netlist comes from outside exactly where its net is an input, since no input is a reg.
use Rattle.std.proofs.Common.{◌≡◌, ℕ, ◌-◌, nat_lt, Bool, true, false, ◌||◌, cond, List, [], ◌∷◌, ◌++◌, map, Option, Some, None, bytes_eq, refl, sym, ap, subst, ◌∙◌, inl, inr}
use Rattle.std.specs.Prelude.{filter, unwrap_or, ◌↔◌}
use Rattle.std.proofs.lemmas.Bool.{cases_Bool}
use Rattle.std.proofs.lemmas.List.{map-append}
use Rattle.std.proofs.lemmas.List.Folds.{list_any-append}
use Rattle.std.proofs.lemmas.Slice.Eq.{bytes_eq-Decides}
use Rattle.eq_model.specs.Agreement.{SameDriver}
use Rattle.eq_model.specs.Nets.{at_bit, inner, is_input, is_output, net_width, Dir, Net}
use Rattle.eq_model.specs.System.{Driver as Source, Expr, equation, input, register, undriven}
use Rattle.eq_net.specs.declared.types.Driver.{Driver}
use Rattle.eq_net.specs.declared.types.Driver.TheVariants.{Input, Undriven, Expr as WordOf, Reg}
use Rattle.eq_net.specs.declared.types.NetInfo.{NetInfo}
use Rattle.eq_net.specs.Meaning.{if_there}
use Rattle.eq_net.specs.Net.{source_of}
use Rattle.eq_net.specs.Tree.{Tree}
use Rattle.eq_verilog.specs.Trees.{Name, ModuleTree}
use Rattle.eq_verilog.specs.Declarations.{comes_in, dir_of, has, is_reg, nets_in, regs_in}
use Rattle.eq_verilog.specs.Designs.{driver_of, is_input_bit, is_reg_bit, Flat}
use Rattle.eq_verilog.specs.Equations.{driving}
use Rattle.eq_verilog.specs.Firsts.{first_again}
use Rattle.eq_verilog.specs.Hierarchy.{Path}
use Rattle.eq_verilog.specs.Nets.{alone, full_names, net_at, nets_at, nets_of, regs_at, regs_of}
use Rattle.eq_verilog.specs.Registers.{begins, following}
use Rattle.eq_flatten.specs.Paths.{Link, end_of}
use Rattle.eq_flatten.proofs.Truths.{or_false, true_false}
use Rattle.eq_assembly.proofs.NamesApart.{not_behind}
use Rattle.eq_assembly.proofs.TopFaults.{IsTopFine}
use Rattle.eq_assembly.proofs.TopNets.{inner_links, AllInner}

both_false : (a b : Bool) → a ≡ false → b ≡ false → (a || b) ≡ false
both_false true b e f = e
both_false false b e f = f

-- ---- names of regs

module _ (n : Name) where
  -- names that pass a test which n fails
  not_kept : (p : Name → Bool) (ns : List Name) → p n ≡ false → has (filter p ns) n ≡ false
  not_kept p [] h = refl
  not_kept p (x ∷ xs) h = elim (cases_Bool (p x)) [
    | inl t ↦
        let other : bytes_eq n x ≡ false = elim (cases_Bool (bytes_eq n x)) [
          | inl here ↦
              let same : n ≡ x = (bytes_eq-Decides n x).0 here in
              absurd (true_false (p n) (ap (λ (y : Name). p y) same ∙ t) h)
          | inr f ↦ f
        ] in
        ap (λ (b : Bool). has (cond b (x ∷ filter p xs) (filter p xs)) n) t
        ∙ both_false (bytes_eq n x) (has (filter p xs) n) other (not_kept p xs h)
    | inr f ↦ ap (λ (b : Bool). has (cond b (x ∷ filter p xs) (filter p xs)) n) f ∙ not_kept p xs h
  ]

  bare_names : (ns : List Name) → has (map (λ (k : Name). [] ++ k) ns) n ≡ has ns n
  bare_names [] = refl
  bare_names (x ∷ xs) = ap (λ (b : Bool). bytes_eq n x || b) (bare_names xs)

  -- a name of no net of a path is one of no reg of it
  no_reg_name : (q : Path) (ns : List Name) → has (full_names (map (net_at q) ns)) n ≡ false →
      has (map (λ (k : Name). q.prefix ++ k) (filter (is_reg q.of) ns)) n ≡ false
  no_reg_name q [] h = refl
  no_reg_name q (x ∷ xs) h =
      let parts = or_false (bytes_eq n (q.prefix ++ x)) (has (full_names (map (net_at q) xs)) n) h in
      let rest = no_reg_name q xs parts.1 in
      let kept = filter (is_reg q.of) xs in
      elim (cases_Bool (is_reg q.of x)) [
        | inl t ↦
            ap (λ (b : Bool). has (map (λ (k : Name). q.prefix ++ k) (cond b (x ∷ kept) kept)) n) t
            ∙ both_false (bytes_eq n (q.prefix ++ x)) (has (map (λ (k : Name). q.prefix ++ k) kept) n) parts.0 rest
        | inr f ↦ ap (λ (b : Bool). has (map (λ (k : Name). q.prefix ++ k) (cond b (x ∷ kept) kept)) n) f ∙ rest
      ]

  pub no_reg_names : (qs : List Path) → has (full_names (nets_of qs)) n ≡ false → has (regs_of qs) n ≡ false
  no_reg_names [] h = refl
  no_reg_names (q ∷ qs) h =
      let parts = or_false (has (full_names (nets_at q)) n) (has (full_names (nets_of qs)) n)
      (sym (list_any-append (bytes_eq n) (full_names (nets_at q)) (full_names (nets_of qs)))
      ∙ sym (ap (λ (ns : List Name). has ns n) (map-append (λ (x : Net). x.name) (nets_at q) (nets_of qs))) ∙ h) in
      list_any-append (bytes_eq n) (regs_at q) (regs_of qs)
      ∙ both_false (has (regs_at q) n) (has (regs_of qs) n) (no_reg_name q (nets_in q.of) parts.0)
      (no_reg_names qs parts.1)

-- ---- inputs are no regs

-- no input has the name of a reg
abbrev pub AreFine : List Name → List Net → Type 0
AreFine regs [] = Unit {0}
AreFine regs (n ∷ ns) = (comes_in n.dir ≡ true → has regs n.name ≡ false) × AreFine regs ns

fine_append : (regs : List Name) (xs ys : List Net) → AreFine regs xs → AreFine regs ys → AreFine regs (xs ++ ys)
fine_append regs [] ys h g = g
fine_append regs (x ∷ xs) ys h g = (h.0, fine_append regs xs ys h.1 g)

fine_inner : (regs : List Name) (ns : List Net) → AllInner ns → AreFine regs ns
fine_inner regs [] h = tt
fine_inner regs (n ∷ ns) h =
    ((λ e. absurd (true_false (comes_in n.dir) e (ap (λ (d : Dir). comes_in d) h.0))), fine_inner regs ns h.1)

fine_own : (regs : List Name) (m : ModuleTree) (ns : List Name) →
    ((n : Name) → has ns n ≡ true → comes_in (dir_of m n) ≡ true → has regs n ≡ false) →
    AreFine regs (map (net_at (alone m)) ns)
fine_own regs m [] h = tt
fine_own regs m (n ∷ ns) h = (
  h n (ap (λ (b : Bool). b || has ns n) ((bytes_eq-Decides n n).1 refl)),
  fine_own regs m ns (λ k inside. h k (behind (bytes_eq k n) (has ns k) inside)),
)
  where
    behind : (a b : Bool) → b ≡ true → (a || b) ≡ true
    behind true b e = refl
    behind false b e = e

own_names : (m : ModuleTree) (ns : List Name) → full_names (map (net_at (alone m)) ns) ≡ ns
own_names m [] = refl
own_names m (n ∷ ns) = ap (λ (xs : List Name). n ∷ xs) (own_names m ns)

-- of a design by the module of its top and its links
pub design_fine : (m : ModuleTree) (ls : List Link) → IsTopFine m →
    first_again (full_names (nets_of (alone m ∷ map end_of ls))) ≡ None →
    AreFine (regs_of (alone m ∷ map end_of ls)) (nets_of (alone m ∷ map end_of ls))
design_fine m ls fine apart =
    let qs = map end_of ls in
    let regs = regs_of (alone m ∷ qs) in
    let names = full_names (nets_of qs) in
    let whole : full_names (nets_of (alone m ∷ qs)) ≡ nets_in m ++ names =
    map-append (λ (x : Net). x.name) (nets_at (alone m)) (nets_of qs)
    ∙ ap (λ (xs : List Name). xs ++ names) (own_names m (nets_in m)) in
    fine_append regs (nets_at (alone m)) (nets_of qs)
    (fine_own regs m (nets_in m) (λ n inside comes.
    list_any-append (bytes_eq n) (regs_at (alone m)) (regs_of qs)
    ∙ both_false (has (regs_at (alone m)) n) (has (regs_of qs) n)
    (bare_names n (regs_in m) ∙ not_kept n (is_reg m) (nets_in m) (fine.inputs n comes))
    (no_reg_names n qs
    (not_behind n (nets_in m) names [] (sym (ap first_again whole) ∙ apart) inside))))
    (fine_inner regs (nets_of qs) (inner_links ls))

-- ---- bits

pub no_reg_bit : (regs : List Name) (nets : List Net) → AreFine regs nets → (b : ℕ) →
    at_bit false (λ n p. comes_in n.dir) nets b ≡ true → at_bit false (λ n p. has regs n.name) nets b ≡ false
no_reg_bit regs [] fine b h = refl
no_reg_bit regs (n ∷ ns) fine b h =
    let after : ℕ = b - net_width n in
    let ins = at_bit false (λ n p. comes_in n.dir) ns after in
    let kept = at_bit false (λ n p. has regs n.name) ns after in
    elim (cases_Bool (nat_lt b (net_width n))) [
      | inl t ↦
          ap (λ (c : Bool). cond c (has regs n.name) kept) t
          ∙ fine.0 (sym (ap (λ (c : Bool). cond c (comes_in n.dir) ins) t) ∙ h)
      | inr f ↦
          ap (λ (c : Bool). cond c (has regs n.name) kept) f
          ∙ no_reg_bit regs ns fine.1 after (sym (ap (λ (c : Bool). cond c (comes_in n.dir) ins) f) ∙ h)
    ]

-- what is asked of a direction, bit by bit
pub comes_at : (nets : List Net) (b : ℕ) →
    at_bit false (λ n p. comes_in n.dir) nets b ≡ comes_in (at_bit inner (λ n p. n.dir) nets b)
comes_at [] b = refl
comes_at (n ∷ ns) b =
    let after : ℕ = b - net_width n in
    let ins = at_bit false (λ n p. comes_in n.dir) ns after in
    let dirs = at_bit inner (λ n p. n.dir) ns after in
    elim (cases_Bool (nat_lt b (net_width n))) [
      | inl t ↦
          ap (λ (c : Bool). cond c (comes_in n.dir) ins) t
          ∙ sym (ap (λ (c : Bool). comes_in (cond c n.dir dirs)) t)
      | inr f ↦
          ap (λ (c : Bool). cond c (comes_in n.dir) ins) f ∙ comes_at ns after
          ∙ sym (ap (λ (c : Bool). comes_in (cond c n.dir dirs)) f)
    ]

pub only_input : (d : Dir) → comes_in d ≡ true → d ≡ is_input
only_input inner e = absurd (cc)
only_input is_input e = refl
only_input is_output e = absurd (cc)

-- ---- drivers

from_input : (s : Source) → SameDriver input s → s ≡ input
from_input input h = refl
from_input undriven h = absurd h
from_input (equation e) h = absurd h
from_input (register i e) h = absurd h

to_input : (nets : List NetInfo) (words : List Tree) (d : Driver) → SameDriver (source_of nets words d) input → d ≡ Input
to_input nets words Input h = refl
to_input nets words Undriven h = absurd h
to_input nets words (WordOf w j) h = absurd h
to_input nets words (Reg i w j) h = absurd h

chosen : (r i : Bool) (e : Source) (o : Option Expr) → (e ≡ input → ⊥) →
    cond r e (cond i input (if_there undriven equation o)) ≡ input → i ≡ true
chosen true i e o never h = absurd (never h)
chosen false true e o never h = refl
chosen false false e None never h = absurd (cc)
chosen false false e (Some x) never h = absurd (cc)

no_register : (i : Bool) (e : Expr) → register i e ≡ input → ⊥
no_register i e h = absurd (cc)

-- a driver is the input exactly of the bits of inputs
pub input_driver : (nets : List NetInfo) (words : List Tree) (f : Flat) (d : Driver) (b : ℕ) → AreFine f.regs f.nets →
    SameDriver (source_of nets words d) (driver_of f b) →
    (d ≡ Input) ↔ (at_bit inner (λ n p. n.dir) f.nets b ≡ is_input)
input_driver nets words f d b fine same = (
  (λ is.
      let driven : driver_of f b ≡ input =
      from_input (driver_of f b) (subst (λ (x : Driver). SameDriver (source_of nets words x) (driver_of f b)) is same) in
      let comes = chosen (is_reg_bit f b) (is_input_bit f b) (register (unwrap_or (begins f.initials b) false) (following f.processes b))
      (driving f.equations b) (no_register (unwrap_or (begins f.initials b) false) (following f.processes b)) driven in
      only_input (at_bit inner (λ n p. n.dir) f.nets b) (sym (comes_at f.nets b) ∙ comes)),
  (λ is.
      let comes : is_input_bit f b ≡ true = comes_at f.nets b ∙ ap (λ (x : Dir). comes_in x) is in
      let kept : is_reg_bit f b ≡ false = no_reg_bit f.regs f.nets fine b comes in
      let rest = if_there undriven equation (driving f.equations b) in
      let e = register (unwrap_or (begins f.initials b) false) (following f.processes b) in
      let driven : driver_of f b ≡ input =
      ap (λ (c : Bool). cond c e (cond (is_input_bit f b) input rest)) kept ∙ ap (λ (c : Bool). cond c input rest) comes in
      to_input nets words d (subst (λ (x : Source). SameDriver (source_of nets words d) x) driven same)),
)
