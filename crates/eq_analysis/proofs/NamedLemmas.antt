-- What is reached from a module is found by its name.
use Rattle.std.proofs.Common.{◌≡◌, ℕ, zero, suc, ◌<◌, List, [], ◌∷◌, ◌++◌, Bool, true, false, cond, Option, Some, None, Bor, length, get_or, map, refl, subst, arith}
use Rattle.std.specs.Prelude.{fold}
use Rattle.std.specs.Str.{bytes_eq}
use Rattle.eq_net.specs.Meaning.{if_there}
use Rattle.eq_vparse.specs.declared.tree.Module.{Module}
use Rattle.eq_verilog.specs.Trees.{Name, ModuleTree, module_tree}
use Rattle.eq_verilog.specs.Declarations.{has}
use Rattle.eq_verilog.specs.Hierarchy.{Instance, instances, module_names, module_named, visit, reached}
use Rattle.eq_analysis.specs.Tabling.{AreNamed}
use Rattle.eq_analysis.proofs.BesideLemmas.{one_name}

has_its_name : (n : Name) (x m : ModuleTree) (b : Bool) (o : Option ModuleTree) → bytes_eq n x.name ≡ b →
    (o ≡ Some m → bytes_eq n m.name ≡ true) → cond b (Some x) o ≡ Some m → bytes_eq n m.name ≡ true
has_its_name n x m true o e behind h =
    let same : x ≡ m = cc in
    subst (λ (k : ModuleTree). bytes_eq n k.name ≡ true) same e
has_its_name n x m false o e behind h = behind h

none_some : (m : ModuleTree) → ◌≡◌ {A = Option ModuleTree} None (Some m) → ⊥
none_some m h = absurd (cc)

found_name : (ms : List ModuleTree) (n : Name) (m : ModuleTree) → module_named ms n ≡ Some m →
    bytes_eq n m.name ≡ true
found_name [] n m h = absurd (none_some m h)
found_name (x ∷ ms) n m h =
    has_its_name n x m (bytes_eq n x.name) (module_named ms n) refl (found_name ms n m) h

-- what is found by a name is found by its own
named_itself : (all : List ModuleTree) (n : Name) (m : ModuleTree) → module_named all n ≡ Some m →
    module_named all m.name ≡ Some m
named_itself all n m h =
    subst (λ (k : Name). module_named all k ≡ Some m) (one_name n m.name (found_name all n m h)) h

module _ (all : List ModuleTree) where
  named_behind : (ms : List ModuleTree) (m : ModuleTree) → AreNamed all ms → module_named all m.name ≡ Some m →
      AreNamed all (ms ++ m ∷ [])
  named_behind [] m are is = (is, tt)
  named_behind (x ∷ ms) m are is = (are.0, named_behind ms m are.1 is)

  either_named : (b : Bool) (xs ys : List ModuleTree) → AreNamed all xs → AreNamed all ys → AreNamed all (cond b xs ys)
  either_named true xs ys a b = a
  either_named false xs ys a b = b

  maybe_named : (seen : List ModuleTree) (f : ModuleTree → List ModuleTree) (o : Option ModuleTree) →
      AreNamed all seen → ((m : ModuleTree) → o ≡ Some m → AreNamed all (f m)) → AreNamed all (if_there seen f o)
  maybe_named seen f None a h = a
  maybe_named seen f (Some m) a h = h m refl

  all_named : (k : ℕ) →
      ((seen : List ModuleTree) (n : Name) → AreNamed all seen → AreNamed all (visit all k seen n)) →
      (is : List Instance) (seen : List ModuleTree) → AreNamed all seen →
      AreNamed all (fold (λ more (i : Instance). visit all k more i.module_name) seen is)
  all_named k f [] seen a = a
  all_named k f (i ∷ is) seen a = all_named k f is (visit all k seen i.module_name) (f seen i.module_name a)

  visit_named : (k : ℕ) (seen : List ModuleTree) (n : Name) → AreNamed all seen → AreNamed all (visit all k seen n)
  visit_named zero seen n a = a
  visit_named (suc k) seen n a =
      either_named (has (module_names seen) n) seen
      (if_there seen (λ m. fold (λ more (i : Instance). visit all k more i.module_name) (seen ++ m ∷ []) (instances m))
      (module_named all n)) a
      (maybe_named seen
      (λ m. fold (λ more (i : Instance). visit all k more i.module_name) (seen ++ m ∷ []) (instances m))
      (module_named all n) a
      (λ m h. all_named k (visit_named k) (instances m) (seen ++ m ∷ [])
      (named_behind seen m a (named_itself all n m h))))

pub reached_named : (all : List ModuleTree) (top : Name) → AreNamed all (reached all top)
reached_named all top = visit_named all (length all) [] top tt

-- each of them is
pub named_at : (all : List ModuleTree) (ms : List (Bor Module)) (k : ℕ) (d x : Bor Module) → k < length ms →
    get_or ms k d ≡ x → AreNamed all (map (λ m. module_tree m.now) ms) →
    module_named all x.now.name ≡ Some (module_tree x.now)
named_at all [] k d x lt e are = absurd (omega arith)
named_at all (y ∷ ms) zero d x lt e are =
    subst (λ (m : Bor Module). module_named all m.now.name ≡ Some (module_tree m.now)) e are.0
named_at all (y ∷ ms) (suc k) d x lt e are = named_at all ms k d x (omega arith) e are.1
