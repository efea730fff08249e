-- A visit reaches all that stands in what it reaches: modules are seen once, and none is left out for want of depth, since
-- each step down sees a module more. What was seen before may have instances that are still to be visited.
use Rattle.std.proofs.Common.{◌≡◌, ℕ, zero, suc, ◌+◌, ◌<◌, ◌≤◌, Bool, true, false, ◌||◌, cond, List, [], ◌∷◌, ◌++◌, length, Option, Some, None, bytes_eq, refl, arith, sym, ap, subst, ◌∙◌, inl, inr}
use Rattle.std.specs.Prelude.{Contains, fold}
use Rattle.std.proofs.lemmas.Bool.{cases_Bool}
use Rattle.std.proofs.lemmas.List.{map-append}
use Rattle.std.proofs.lemmas.List.Elements.{Contains-append_cases}
use Rattle.std.proofs.lemmas.List.Folds.{list_any-append}
use Rattle.std.proofs.lemmas.Slice.Eq.{bytes_eq-Decides}
use Rattle.eq_net.specs.Meaning.{if_there}
use Rattle.eq_verilog.specs.Trees.{Name, ModuleTree}
use Rattle.eq_verilog.specs.Declarations.{has}
use Rattle.eq_verilog.specs.Hierarchy.{Instance, instances, module_named, module_names, visit}
use Rattle.eq_analysis.specs.Tabling.{AreNamed}
use Rattle.eq_flatten.proofs.Listing.{only}
use Rattle.eq_flatten.proofs.Truths.{or_left, or_right, true_false, or_no}

-- ---- names and modules

pub some_same : (m k : ModuleTree) → Some m ≡ Some k → m ≡ k
some_same m k e = ap (λ (o : Option ModuleTree). if_there m (λ (x : ModuleTree). x) o) e

pub none_found : (m : ModuleTree) → None ≡ Some m → ⊥
none_found m e = absurd (cc)

-- what is found by a name has it
pub found_name : (ms : List ModuleTree) (n : Name) (m : ModuleTree) → module_named ms n ≡ Some m → n ≡ m.name
found_name [] n m h = absurd (cc)
found_name (x ∷ xs) n m h = elim (cases_Bool (bytes_eq n x.name)) [
  | inl here ↦
      let is = sym (ap (λ (b : Bool). cond b (Some x) (module_named xs n)) here) ∙ h in
      (bytes_eq-Decides n x.name).0 here ∙ ap (λ (k : ModuleTree). k.name) (some_same x m is)
  | inr other ↦
      found_name xs n m (sym (ap (λ (b : Bool). cond b (Some x) (module_named xs n)) other) ∙ h)
]

-- a name is among others or is the one behind them
pub has_push : (ns : List Name) (x n : Name) → has (ns ++ x ∷ []) n ≡ (has ns n || (bytes_eq n x || false))
has_push ns x n = list_any-append (bytes_eq n) ns (x ∷ [])

Keeps : List Name → List Name → Type 0
Keeps a b = (n : Name) → has a n ≡ true → has b n ≡ true

-- ---- how many modules' names a list lacks

abbrev pub lacking : List Name → List ModuleTree → ℕ
lacking ns [] = 0
lacking ns (m ∷ ms) = cond {A = ℕ} (has ns m.name) 0 1 + lacking ns ms

one_most : (b : Bool) → cond {A = ℕ} b 0 1 ≤ 1
one_most true = omega arith
one_most false = omega arith

pub lacking_most : (ns : List Name) (ms : List ModuleTree) → lacking ns ms ≤ length ms
lacking_most ns [] = omega arith
lacking_most ns (m ∷ ms) =
    let one = one_most (has ns m.name) in
    let rest = lacking_most ns ms in
    omega (arith, one, rest)

module _ (a b : List Name) (keeps : (n : Name) → has a n ≡ true → has b n ≡ true) where
  one_fewer : (n : Name) → cond {A = ℕ} (has b n) 0 1 ≤ cond {A = ℕ} (has a n) 0 1
  one_fewer n = elim (cases_Bool (has a n)) [
    | inl t ↦
        let x : cond {A = ℕ} (has b n) 0 1 ≡ 0 = ap (λ (c : Bool). cond {A = ℕ} c 0 1) (keeps n t) in
        omega (arith, x)
    | inr f ↦
        let x : cond {A = ℕ} (has a n) 0 1 ≡ 1 = ap (λ (c : Bool). cond {A = ℕ} c 0 1) f in
        let y = one_most (has b n) in
        omega (arith, x, y)
  ]

  pub fewer : (ms : List ModuleTree) → lacking b ms ≤ lacking a ms
  fewer [] = omega arith
  fewer (m ∷ ms) =
      let one = one_fewer m.name in
      let rest = fewer ms in
      omega (arith, one, rest)

  -- a module that is new
  pub one_less : (ms : List ModuleTree) (n : Name) (m : ModuleTree) → module_named ms n ≡ Some m →
      has a n ≡ false → has b n ≡ true → lacking b ms < lacking a ms
  one_less [] n m is new old = absurd (cc)
  one_less (x ∷ xs) n m is new old = elim (cases_Bool (bytes_eq n x.name)) [
    | inl here ↦
        let same : n ≡ x.name = (bytes_eq-Decides n x.name).0 here in
        let p : cond {A = ℕ} (has a x.name) 0 1 ≡ 1 =
        ap (λ (k : Name). cond {A = ℕ} (has a k) 0 1) (sym same) ∙ ap (λ (c : Bool). cond {A = ℕ} c 0 1) new in
        let q : cond {A = ℕ} (has b x.name) 0 1 ≡ 0 =
        ap (λ (k : Name). cond {A = ℕ} (has b k) 0 1) (sym same) ∙ ap (λ (c : Bool). cond {A = ℕ} c 0 1) old in
        let rest = fewer xs in
        omega (arith, p, q, rest)
    | inr other ↦
        let one = one_fewer x.name in
        let rest = one_less xs n m
        (sym (ap (λ (c : Bool). cond c (Some x) (module_named xs n)) other) ∙ is) new old in
        omega (arith, one, rest)
  ]

no_instance : (k : ℕ) → k < 0 → ⊥
no_instance k h = absurd (omega (arith, h))

module _ (all : List ModuleTree) where
  -- the module of a name, where there is one, was seen
  abbrev pub IsMet : List ModuleTree → Name → Type 0
  IsMet seen n = (m : ModuleTree) → module_named all n ≡ Some m → has (module_names seen) n ≡ true

  -- and so were those of all its instances
  abbrev pub IsDone : List ModuleTree → Name → Type 0
  IsDone seen n =
      (m : ModuleTree) → module_named all n ≡ Some m → (i : Instance) → Contains (instances m) i → IsMet seen i.module_name

  -- what was seen before is among what is seen, and what is new is done
  pub record IsVisited (seen more : List ModuleTree) : Type 0 where
    pub keeps : (n : Name) → has (module_names seen) n ≡ true → has (module_names more) n ≡ true
    pub done : (n : Name) → has (module_names more) n ≡ true → has (module_names seen) n ≡ false → IsDone more n
    pub named : AreNamed all seen → AreNamed all more

  nothing : (seen : List ModuleTree) → IsVisited seen seen
  nothing seen = record {
    keeps = λ n h. h;
    done = λ n h g. absurd (true_false (has (module_names seen) n) h g);
    named = λ h. h;
  }

  one_then : (a b c : List ModuleTree) → IsVisited a b → IsVisited b c → IsVisited a c
  one_then a b c p q = record {
    keeps = λ n h. q.keeps n (p.keeps n h);
    done = λ n h new. elim (cases_Bool (has (module_names b) n)) [
      | inl t ↦ (λ m is i in_m k found. q.keeps i.module_name (p.done n t new m is i in_m k found))
      | inr f ↦ q.done n h f
    ];
    named = λ h. q.named (p.named h);
  }

  named_push : (seen : List ModuleTree) (m : ModuleTree) → AreNamed all seen → module_named all m.name ≡ Some m →
      AreNamed all (seen ++ m ∷ [])
  named_push [] m h is = (is, tt)
  named_push (x ∷ xs) m h is = (h.0, named_push xs m h.1 is)

  abbrev pub visit_all : ℕ → List ModuleTree → List Instance → List ModuleTree
  visit_all k seen is = fold (λ more (i : Instance). visit all k more i.module_name) seen is

  abbrev Visits : ℕ → Type 0
  Visits k = (seen : List ModuleTree) (n : Name) → lacking (module_names seen) all ≤ k →
      IsVisited seen (visit all k seen n) × IsMet (visit all k seen n) n

  -- instances one after the other
  pub each_visited : (k : ℕ) → Visits k → (is : List Instance) (seen : List ModuleTree) →
      lacking (module_names seen) all ≤ k →
      IsVisited seen (visit_all k seen is)
      × ((i : Instance) → Contains is i → IsMet (visit_all k seen is) i.module_name)
  each_visited k one [] seen few = (nothing seen, λ i h. absurd (no_instance h.0 h.1))
  each_visited k one (i ∷ is) seen few =
      let next = visit all k seen i.module_name in
      let first = one seen i.module_name few in
      let less = fewer (module_names seen) (module_names next) first.0.keeps all in
      let rest = each_visited k one is next (omega (arith, few, less)) in (
        one_then seen next (visit_all k next is) first.0 rest.0,
        λ j h. elim (Contains-append_cases (i ∷ []) is j h) [
          | inl here ↦
              let same : i ≡ j = only i j here.0 here.1 here.2 in
              subst (λ (x : Instance). IsMet (visit_all k next is) x.module_name) same
              (λ m found. rest.0.keeps i.module_name (first.1 m found))
          | inr there ↦ rest.1 j there
        ],
      )

  abbrev entered : ℕ → List ModuleTree → Option ModuleTree → List ModuleTree
  entered k seen o = if_there seen (λ m. visit_all k (seen ++ m ∷ []) (instances m)) o

  -- a module that is new, and its instances
  module _ (k : ℕ) (seen : List ModuleTree) (n : Name) (m : ModuleTree) (found : module_named all n ≡ Some m)
      (new : has (module_names seen) n ≡ false) (few : lacking (module_names seen) all ≤ suc k) (one : Visits k) where
    abbrev begun : List ModuleTree
    begun = seen ++ m ∷ []

    abbrev final : List ModuleTree
    final = visit_all k begun (instances m)

    named_so : n ≡ m.name
    named_so = found_name all n m found

    begun_names : (x : Name) → has (module_names begun) x ≡ (has (module_names seen) x || (bytes_eq x m.name || false))
    begun_names x =
        ap (λ (ns : List Name). has ns x) (map-append (λ (y : ModuleTree). y.name) seen (m ∷ []))
        ∙ has_push (module_names seen) m.name x

    begun_keeps : (x : Name) → has (module_names seen) x ≡ true → has (module_names begun) x ≡ true
    begun_keeps x h = begun_names x ∙ or_left (has (module_names seen) x) (bytes_eq x m.name || false) h

    begun_here : has (module_names begun) n ≡ true
    begun_here =
        begun_names n
        ∙ or_right (has (module_names seen) n) (bytes_eq n m.name || false)
        (or_left (bytes_eq n m.name) false ((bytes_eq-Decides n m.name).1 named_so))

    inside : IsVisited begun final × ((i : Instance) → Contains (instances m) i → IsMet final i.module_name)
    inside =
        let less = one_less (module_names seen) (module_names begun) begun_keeps all n m found new begun_here in
        each_visited k one (instances m) begun (omega (arith, few, less))

    own_done : (x : Name) → n ≡ x → IsDone final x
    own_done x same other is i h =
        let here = some_same m other (sym found ∙ ap (λ (y : Name). module_named all y) same ∙ is) in
        inside.1 i (subst (λ (y : ModuleTree). Contains (instances y) i) (sym here) h)

    one_done : (x : Name) → has (module_names final) x ≡ true → has (module_names seen) x ≡ false → IsDone final x
    one_done x h before = elim (cases_Bool (has (module_names begun) x)) [
      | inl t ↦
          let other = sym (ap (λ (b : Bool). b || (bytes_eq x m.name || false)) before) ∙ sym (begun_names x) ∙ t in
          let same = (bytes_eq-Decides x m.name).0 (or_no (bytes_eq x m.name) other) in
          own_done x (named_so ∙ sym same)
      | inr f ↦ inside.0.done x h f
    ]

    new_visited : IsVisited seen final × IsMet final n
    new_visited = (
      record {
        keeps = λ x h. inside.0.keeps x (begun_keeps x h);
        done = one_done;
        named = λ h. inside.0.named (named_push seen m h (ap (λ (y : Name). module_named all y) (sym named_so) ∙ found));
      },
      λ x is. inside.0.keeps n begun_here,
    )

  any_visited : (k : ℕ) (seen : List ModuleTree) (n : Name) (o : Option ModuleTree) → module_named all n ≡ o →
      has (module_names seen) n ≡ false → lacking (module_names seen) all ≤ suc k → Visits k →
      IsVisited seen (entered k seen o) × IsMet (entered k seen o) n
  any_visited k seen n None is new few one = (nothing seen, λ m found. absurd (none_found m (sym is ∙ found)))
  any_visited k seen n (Some m) is new few one = new_visited k seen n m is new few one

  -- each visit with as much depth as modules are lacking
  pub visited : (k : ℕ) → Visits k
  visited zero seen n few = (
    nothing seen,
    λ m found. elim (cases_Bool (has (module_names seen) n)) [
      | inl t ↦ t
      | inr f ↦
          let names = module_names seen in
          let less = one_less names (names ++ n ∷ []) (λ x h. has_push names n x ∙ or_left (has names x) (bytes_eq x n || false) h)
          all n m found f
          (has_push names n n ∙ or_right (has names n) (bytes_eq n n || false)
          (or_left (bytes_eq n n) false ((bytes_eq-Decides n n).1 refl))) in
          absurd (omega (arith, few, less))
    ],
  )
  visited (suc k) seen n few = elim (cases_Bool (has (module_names seen) n)) [
    | inl t ↦
        subst (λ (b : Bool). IsVisited seen (cond b seen (entered k seen (module_named all n)))
        × IsMet (cond b seen (entered k seen (module_named all n))) n) (sym t) (nothing seen, λ m found. t)
    | inr f ↦
        subst (λ (b : Bool). IsVisited seen (cond b seen (entered k seen (module_named all n)))
        × IsMet (cond b seen (entered k seen (module_named all n))) n) (sym f)
        (any_visited k seen n (module_named all n) refl f few (visited k))
  ]
