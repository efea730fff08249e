-- A visit: to what was seen, to what isn't there, and to a module that is new.
use Rattle.std.proofs.Common.{◌≡◌, ℕ, zero, suc, ◌+◌, ◌-◌, ◌<◌, List, [], ◌∷◌, ◌++◌, Bool, true, false, cond, Option, Some, None, Bor, ◌||◌, ◌≤◌, refl, sym, ap, subst, ◌∙◌, arith, inl, inr}
use Rattle.std.specs.Prelude.{option_map, IfNone}
use Rattle.std.specs.Str.{bytes_eq}
use Rattle.std.proofs.lemmas.Bool.{cases_Bool}
use Rattle.std.proofs.lemmas.List.Folds.{list_any-append}
use Rattle.std.proofs.lemmas.Slice.Eq.{bytes_eq-Decides}
use Rattle.eq_net.specs.Meaning.{if_there}
use Rattle.eq_vparse.specs.declared.tree.Module.{Module}
use Rattle.eq_verilog.specs.Trees.{Name, ModuleTree, module_tree}
use Rattle.eq_verilog.specs.Declarations.{has}
use Rattle.eq_verilog.specs.Hierarchy.{module_names, module_named, instances, visit}
use Rattle.eq_analysis.specs.declared.visiting.Visit.{Visit}
use Rattle.eq_analysis.specs.inner.Visiting.{after, with_all, IsFirst, IsIdle, Enters}
use Rattle.eq_names.specs.Tables.{with_name}
use Rattle.eq_analysis.proofs.AgainLemmas.{with_new}
use Rattle.eq_analysis.proofs.StackLemmas.{after_append}

module _ (all : List ModuleTree) (n : Name) where
  pub visit_seen : (k : ℕ) (order : List ModuleTree) → has (module_names order) n ≡ true → visit all k order n ≡ order
  visit_seen zero order h = refl
  visit_seen (suc k) order h = ap (λ (b : Bool). cond b order (if_there order (λ m. with_all all k (order ++ m ∷ [])
      (instances m)) (module_named all n))) h

  same_both : {A : Type 0} (b : Bool) (a : A) → cond b a a ≡ a
  same_both true a = refl
  same_both false a = refl

  pub visit_missing : (k : ℕ) (order : List ModuleTree) → module_named all n ≡ None → visit all k order n ≡ order
  visit_missing zero order h = refl
  visit_missing (suc k) order h =
      ap (λ (o : Option ModuleTree). cond (has (module_names order) n) order (if_there order (λ m.
      with_all all k (order ++ m ∷ []) (instances m)) o)) h
      ∙ same_both (has (module_names order) n) order

  pub visit_first : (k : ℕ) (order : List ModuleTree) (m : ModuleTree) → 0 < k → has (module_names order) n ≡ false
      → module_named all n ≡ Some m
      → visit all k order n ≡ with_all all (k - 1) (order ++ m ∷ []) (instances m)
  visit_first zero order m some new is = absurd (omega (arith, some))
  visit_first (suc k) order m some new is =
      let back : suc k - 1 ≡ k = omega arith in
      ap (λ (b : Bool). cond b order (if_there order (λ x. with_all all k (order ++ x ∷ []) (instances x))
      (module_named all n))) new
      ∙ ap (λ (o : Option ModuleTree). if_there order (λ x. with_all all k (order ++ x ∷ []) (instances x)) o) is
      ∙ ap (λ (j : ℕ). with_all all j (order ++ m ∷ []) (instances m)) (sym back)

-- the module of a name has the name
pub named_is : (all : List ModuleTree) (n : Name) (m : ModuleTree) → module_named all n ≡ Some m → m.name ≡ n
named_is [] n m h = absurd (cc)
named_is (x ∷ xs) n m h = elim (cases_Bool (bytes_eq n x.name)) [
  | inl here ↦
      let first : Some x ≡ Some m = sym (ap (λ (b : Bool). cond b (Some x) (module_named xs n)) here) ∙ h in
      ap (λ (y : ModuleTree). y.name)
      (sym (ap (λ (o : Option ModuleTree). if_there x (λ y. y) o) first)) ∙ sym ((bytes_eq-Decides n x.name).0 here)
  | inr other ↦ named_is xs n m (sym (ap (λ (b : Bool). cond b (Some x) (module_named xs n)) other) ∙ h)
]

-- a name that has no module
pub none_named : (all : List ModuleTree) (seen : List Name) (v : Visit) (o : Option (Bor Module)) →
    option_map (λ m. module_tree m.now) o ≡ module_named all v.name.now → IfNone o (IsIdle all seen v)
none_named all seen v None h = λ order is. visit_missing all v.name.now v.left order (sym h)
none_named all seen v (Some m) h = tt

-- a visit that sees nothing new
pub idle_popped : (all : List ModuleTree) (seen : List Name) (v : Visit) (old new start : List Visit)
    → IsIdle all seen v
    → old ≡ new ++ v ∷ []
    → ((order : List ModuleTree) → seen ≡ module_names order → after all order start ≡ after all order old)
    → (order : List ModuleTree) → seen ≡ module_names order → after all order start ≡ after all order new
idle_popped all seen v old new start idle popped so_far order is =
    so_far order is
    ∙ ap (λ (vs : List Visit). after all order vs) popped
    ∙ after_append all order new (v ∷ [])
    ∙ ap (λ (s : List ModuleTree). after all s new) (idle order is)

-- a visit that comes to a module for the first time
pub first_popped : (all : List ModuleTree) (seen : List Name) (v : Visit) (m : ModuleTree) (old new start : List Visit)
    → IsFirst all seen v m → old ≡ new ++ v ∷ []
    → ((order : List ModuleTree) → seen ≡ module_names order → after all order start ≡ after all order old)
    → Enters all seen start new m (v.left - 1)
first_popped all seen v m old new start first popped so_far =
    let same = named_is all v.name.now m first.there in
    record {
      unseen = ap (λ (n : Name). has seen n) same ∙ first.unseen;
      there = ap (λ (n : Name). module_named all n) same ∙ first.there;
      goes_on = λ order is.
          so_far order is
          ∙ ap (λ (vs : List Visit). after all order vs) popped
          ∙ after_append all order new (v ∷ [])
          ∙ ap (λ (s : List ModuleTree). after all s new) (visit_first all v.name.now v.left order m first.room
          (ap (λ (ns : List Name). has ns v.name.now) (sym is) ∙ first.unseen) first.there);
    }

-- ---- how many modules were not seen

head_less : (b c : Bool) (p q : ℕ) → b ≡ false → c ≡ true → p ≤ q → cond c p (1 + p) < cond b q (1 + q)
head_less true c p q new old h = absurd (cc)
head_less false true p q new old h = omega (arith, h)
head_less false false p q new old h = absurd (cc)

tail_less : (b e c : Bool) (p q : ℕ) → c ≡ (b || e) → p < q → cond c p (1 + p) < cond b q (1 + q)
tail_less true e true p q same h = h
tail_less true e false p q same h = absurd (cc)
tail_less false e true p q same h = omega (arith, h)
tail_less false e false p q same h = omega (arith, h)

tail_most : (b e c : Bool) (p q : ℕ) → c ≡ (b || e) → p ≤ q → cond c p (1 + p) ≤ cond b q (1 + q)
tail_most true e true p q same h = h
tail_most true e false p q same h = absurd (cc)
tail_most false e true p q same h = omega (arith, h)
tail_most false e false p q same h = omega (arith, h)

or_true : (b : Bool) → (b || true) ≡ true
or_true true = refl
or_true false = refl

-- how many modules have a name that was not seen
abbrev pub unseen : List Name → List ModuleTree → ℕ
unseen seen [] = 0
unseen seen (m ∷ ms) = cond (has seen m.name) (unseen seen ms) (1 + unseen seen ms)

module _ (seen : List Name) (n : Name) where
  no_more : (ms : List ModuleTree) → unseen (seen ++ n ∷ []) ms ≤ unseen seen ms
  no_more [] = omega arith
  no_more (m ∷ ms) =
      tail_most (has seen m.name) (has (n ∷ []) m.name) (has (seen ++ n ∷ []) m.name) (unseen (seen ++ n ∷ []) ms)
      (unseen seen ms) (list_any-append (bytes_eq m.name) seen (n ∷ [])) (no_more ms)

  -- a module more was seen
  pub fewer : (ms : List ModuleTree) (m : ModuleTree) → has seen n ≡ false → module_named ms n ≡ Some m →
      unseen (seen ++ n ∷ []) ms < unseen seen ms
  fewer [] m new there = absurd (cc)
  fewer (x ∷ ms) m new there = elim (cases_Bool (bytes_eq n x.name)) [
    | inl here ↦
        let same : n ≡ x.name = (bytes_eq-Decides n x.name).0 here in
        head_less (has seen x.name) (has (seen ++ n ∷ []) x.name) (unseen (seen ++ n ∷ []) ms) (unseen seen ms)
        (ap (λ (k : Name). has seen k) (sym same) ∙ new)
        (list_any-append (bytes_eq x.name) seen (n ∷ [])
        ∙ ap (λ (b : Bool). has seen x.name || (b || false)) ((bytes_eq-Decides x.name n).1 (sym same))
        ∙ or_true (has seen x.name))
        (no_more ms)
    | inr other ↦
        tail_less (has seen x.name) (has (n ∷ []) x.name) (has (seen ++ n ∷ []) x.name) (unseen (seen ++ n ∷ []) ms)
        (unseen seen ms) (list_any-append (bytes_eq x.name) seen (n ∷ []))
        (fewer ms m new (sym (ap (λ (b : Bool). cond b (Some x) (module_named ms n)) other) ∙ there))
  ]

-- the next module is one that was not seen
pub entered_fewer : (all : List ModuleTree) (seen new : List Name) (m : ModuleTree) → has seen m.name ≡ false
    → module_named all m.name ≡ Some m → new ≡ with_name seen m.name → unseen new all < unseen seen all
entered_fewer all seen new m fresh there grown =
    subst (λ (names : List Name). unseen names all < unseen seen all) (sym (grown ∙ with_new seen m.name fresh))
    (fewer seen m.name all m fresh there)
