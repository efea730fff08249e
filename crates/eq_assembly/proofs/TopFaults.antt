-- What isn't wrong with the module of the top, where no module that is reached is refused.
use Rattle.std.proofs.Common.{◌≡◌, ℕ, zero, suc, Bool, true, false, not, ◌&&◌, ◌||◌, cond, List, [], ◌∷◌, Option, Some, None, slice_index_or, bytes_eq, refl, sym, ap, ◌∙◌, inl, inr}
use Rattle.std.specs.Prelude.{filter_map, find}
use Rattle.std.specs.List.{list_any}
use Rattle.std.proofs.lemmas.Bool.{cases_Bool}
use Rattle.std.proofs.lemmas.Slice.Eq.{bytes_eq-Decides}
use Rattle.eq_model.specs.Nets.{Dir, inner}
use Rattle.eq_net.specs.Meaning.{if_there}
use Rattle.eq_vparse.specs.declared.tree.DeclKind.{DeclKind}
use Rattle.eq_vparse.specs.declared.tree.DeclKind.TheVariants as decl
use Rattle.eq_verilog.specs.declared.refusal.ElabKind.{ElabKind}
use Rattle.eq_verilog.specs.declared.refusal.ElabKind.TheVariants as kind
use Rattle.eq_verilog.specs.Trees.{Name, ItemTree, declared, ModuleTree}
use Rattle.eq_verilog.specs.Declarations.{comes_in, declaration_in, dir_of, has, has_direction, is_direction, is_reg, is_variable, side_of, Declaration}
use Rattle.eq_verilog.specs.Firsts.{first_again, first_found, first_of, unless}
use Rattle.eq_verilog.specs.Hierarchy.{module_named, reached}
use Rattle.eq_verilog.specs.ModuleRefusals.{duplicate_from, duplicate_name, unknown_at, unknown_name}
use Rattle.eq_verilog.specs.Refusals.{module_faults, named}
use Rattle.eq_verilog.specs.TargetRefusals.{bad_target, bad_target_at}
use Rattle.eq_flatten.proofs.Ending.{fine_at, reached_named, top_met}
use Rattle.eq_flatten.proofs.Truths.{and_true, not_true, or_none, true_false, unless_none}

-- the header of a module, its directions and its inputs are right
pub record IsTopFine (m : ModuleTree) : Type 0 where
  -- no port stands twice in the header
  pub once : first_again m.ports ≡ None
  -- each has a direction
  pub directed : (n : Name) → has m.ports n ≡ true → dir_of m n ≡ inner → ⊥
  -- and nothing else has
  pub header : (n : Name) → (dir_of m n ≡ inner → ⊥) → has m.ports n ≡ true
  -- no input is a reg
  pub inputs : (n : Name) → comes_in (dir_of m n) ≡ true → is_reg m n ≡ false

-- ---- what isn't refused

unnamed : (k : ElabKind) (o : Option Name) → named k o ≡ None → o ≡ None
unnamed k None h = refl
unnamed k (Some n) h = absurd (cc)

-- of options none of which is there, none is
none_at : {A : Type 0} (os : List (Option A)) (k : ℕ) → first_of os ≡ None → slice_index_or os k None ≡ None
none_at [] k h = refl
none_at (o ∷ os) zero h = (or_none o (first_of os) h).0
none_at (o ∷ os) (suc k) h = none_at os k (or_none o (first_of os) h).1

-- ---- directions

abbrev faces : Name → Declaration → Bool
faces n d = bytes_eq n d.name && is_direction d.kind

abbrev side : Option Declaration → Dir
side o = if_there inner (λ (d : Declaration). side_of d.kind) o

some_side : (k : DeclKind) → is_direction k ≡ true → side_of k ≡ inner → ⊥
some_side decl.Input h e = absurd (cc)
some_side decl.Output h e = absurd (cc)
some_side decl.Wire h e = absurd (cc)
some_side decl.Reg h e = absurd (cc)

not_inner : (n : Name) (ds : List Declaration) → list_any (faces n) ds ≡ true → side (find (faces n) ds) ≡ inner → ⊥
not_inner n [] h e = absurd (cc)
not_inner n (d ∷ ds) h e = elim (cases_Bool (faces n d)) [
  | inl t ↦
      some_side d.kind (and_true (bytes_eq n d.name) (is_direction d.kind) t).1
      (sym (ap (λ (b : Bool). side (cond b (Some d) (find (faces n) ds))) t) ∙ e)
  | inr f ↦
      not_inner n ds (sym (ap (λ (b : Bool). b || list_any (faces n) ds) f) ∙ h)
      (sym (ap (λ (b : Bool). side (cond b (Some d) (find (faces n) ds))) f) ∙ e)
]

module _ (m : ModuleTree) (n : Name) where
  port_directed : (ps : List Name) → first_found (λ k. unless (has_direction m k) k) ps ≡ None → has ps n ≡ true →
      has_direction m n ≡ true
  port_directed [] none h = absurd (cc)
  port_directed (p ∷ ps) none h =
      let parts = or_none (unless (has_direction m p) p) (first_found (λ k. unless (has_direction m k) k) ps) none in
      elim (cases_Bool (bytes_eq n p)) [
        | inl here ↦
            let same : n ≡ p = (bytes_eq-Decides n p).0 here in
            ap (λ (k : Name). has_direction m k) same ∙ unless_none (has_direction m p) p parts.0
        | inr other ↦ port_directed ps parts.1 (sym (ap (λ (b : Bool). b || has ps n) other) ∙ h)
      ]

  in_header : (is : List ItemTree) → first_found (unknown_at m) is ≡ None →
      (side (find (faces n) (filter_map declaration_in is)) ≡ inner → ⊥) → has m.ports n ≡ true
  in_header [] none some = absurd (some refl)
  in_header (declared k r x ∷ is) none some =
      let parts = or_none (unknown_at m (declared k r x)) (first_found (unknown_at m) is) none in
      let d : Declaration = record { kind = k; range = r; name = x } in
      elim (cases_Bool (faces n d)) [
        | inl t ↦
            let both = and_true (bytes_eq n x) (is_direction k) t in
            let same : n ≡ x = (bytes_eq-Decides n x).0 both.0 in
            ap (λ (y : Name). has m.ports y) same ∙ sym (ap (λ (b : Bool). not b || has m.ports x) both.1)
            ∙ unless_none (not (is_direction k) || has m.ports x) x parts.0
        | inr f ↦
            in_header is parts.1
            (λ e. some (ap (λ (b : Bool). side (cond b (Some d) (find (faces n) (filter_map declaration_in is)))) f ∙ e))
      ]
  in_header (i ∷ is) none some = in_header is (or_none (unknown_at m i) (first_found (unknown_at m) is) none).1 some

  -- ---- regs

  abbrev stores : Declaration → Bool
  stores d = bytes_eq n d.name && is_variable d.kind

  not_both : (a b : Bool) → not (a && b) ≡ true → b ≡ true → a ≡ false
  not_both true b e h = absurd (true_false b h (not_true b e))
  not_both false b e h = refl

  and_false : (a b : Bool) → (a ≡ true → b ≡ false) → (a && b) ≡ false
  and_false true b h = h refl
  and_false false b h = refl

  no_reg : (all : List ModuleTree) → comes_in (dir_of m n) ≡ true → (is : List ItemTree) →
      first_found (bad_target_at all m) is ≡ None → list_any stores (filter_map declaration_in is) ≡ false
  no_reg all h [] none = refl
  no_reg all h (declared k r x ∷ is) none =
      let parts = or_none (bad_target_at all m (declared k r x)) (first_found (bad_target_at all m) is) none in
      let here : (bytes_eq n x && is_variable k) ≡ false =
      and_false (bytes_eq n x) (is_variable k) (λ e.
      let same : n ≡ x = (bytes_eq-Decides n x).0 e in
      not_both (is_variable k) (comes_in (dir_of m x))
      (unless_none (not (is_variable k && comes_in (dir_of m x))) x parts.0)
      (ap (λ (y : Name). comes_in (dir_of m y)) (sym same) ∙ h)) in
      ap (λ (b : Bool). b || list_any stores (filter_map declaration_in is)) here ∙ no_reg all h is parts.1
  no_reg all h (i ∷ is) none =
      no_reg all h is (or_none (bad_target_at all m i) (first_found (bad_target_at all m) is) none).1

-- the module of the top is fine
pub top_fine : (all : List ModuleTree) (top : Name) (m : ModuleTree) → module_named all top ≡ Some m →
    first_of (module_faults all top (reached all top)) ≡ None → IsTopFine m
top_fine all top m is h =
    let ms = reached all top in
    let faults = module_faults all top ms in
    let fine = λ (f : ModuleTree → Option Name) (none : first_found f ms ≡ None).
    fine_at all f ms (reached_named all top) none top m (top_met all top m is) is in
    let twice = fine duplicate_name (unnamed kind.DuplicateName (first_found duplicate_name ms) (none_at faults 4 h)) in
    let unknown = fine unknown_name (unnamed kind.UnknownName (first_found unknown_name ms) (none_at faults 5 h)) in
    let target =
    fine (bad_target all) (unnamed kind.BadTarget (first_found (bad_target all) ms) (none_at faults 7 h)) in
    let parts = or_none (first_found (λ n. unless (has_direction m n) n) m.ports) (first_found (unknown_at m) m.items)
    unknown in
    record {
      once = (or_none (first_again m.ports) (duplicate_from m [] m.items) twice).0;
      directed = λ n inside. not_inner n (filter_map declaration_in m.items) (port_directed m n m.ports parts.0 inside);
      header = λ n some. in_header m n m.items parts.1 some;
      inputs = λ n comes. no_reg m n all comes m.items target;
    }
