-- Where full names are distinct, a net is a reg of the design just where its name is one of its module.
use Rattle.std.proofs.Common.{◌≡◌, ℕ, ◌+◌, ◌<◌, length, slice_index_or, take, Bool, true, false, ◌||◌, cond, List, [], ◌∷◌, ◌++◌, map, bytes_eq, Option, Some, None, refl, sym, ap, ap₂, subst, ◌∙◌, inl, inr}
use Rattle.std.specs.Prelude.{filter, flat_map}
use Rattle.std.proofs.lemmas.Bool.{cases_Bool}
use Rattle.std.proofs.lemmas.List.{append-nil, map-append, take_more}
use Rattle.std.proofs.lemmas.List.Concat.{flat_map-append}
use Rattle.std.proofs.lemmas.List.Elements.{filter-append}
use Rattle.std.proofs.lemmas.Slice.Eq.{bytes_eq-Decides}
use Rattle.eq_model.specs.Nets.{Net}
use Rattle.eq_verilog.specs.Trees.{Name}
use Rattle.eq_verilog.specs.Declarations.{has, is_reg, nets_in}
use Rattle.eq_verilog.specs.Firsts.{again_after, first_again}
use Rattle.eq_verilog.specs.Hierarchy.{Path}
use Rattle.eq_verilog.specs.Nets.{full_names, net_at, nets_of, regs_of}
use Rattle.eq_flatten.specs.declared.paths.Path.{Path as PathValue}
use Rattle.eq_flatten.specs.Paths.{path_of}
use Rattle.eq_drivers.specs.inner.Flagging.{path_flags}

-- ---- names that don't come again

abbrev AreOnce : List Name → Type 0
AreOnce [] = Unit {0}
AreOnce (x ∷ xs) = (has xs x ≡ false) × AreOnce xs

passed : (t : Bool) (n : Name) (o : Option Name) → cond t (Some n) o ≡ None → (t ≡ false) × (o ≡ None)
passed true n o e = absurd (cc)
passed false n o e = (refl, e)

in_rest : (a b : Bool) → b ≡ true → (a || b) ≡ true
in_rest true b h = refl
in_rest false b h = h

neither : (a b : Bool) → (a || b) ≡ false → (a ≡ false) × (b ≡ false)
neither true b e = absurd (cc)
neither false b e = (refl, e)

itself : (x : Name) → bytes_eq x x ≡ true
itself x = (bytes_eq-Decides x x).1 refl

other : (x y : Name) → bytes_eq x y ≡ false → bytes_eq y x ≡ false
other x y e = elim (cases_Bool (bytes_eq y x)) [
  | inl t ↦ absurd (
      let same : x ≡ y = sym ((bytes_eq-Decides y x).0 t) in
      let is : bytes_eq x y ≡ true = (bytes_eq-Decides x y).1 same in
      cc)
  | inr f ↦ f
]

-- a name that was seen isn't among the others
not_again : (seen xs : List Name) (x : Name) → again_after seen xs ≡ None → has seen x ≡ true → has xs x ≡ false
not_again seen [] x none there = refl
not_again seen (y ∷ ys) x none there =
    let step = passed (has seen y) y (again_after (y ∷ seen) ys) none in
    elim (cases_Bool (bytes_eq x y)) [
      | inl t ↦ absurd (
          let same : x ≡ y = (bytes_eq-Decides x y).0 t in
          let is = ap (λ z. has seen z) (sym same) ∙ there in
          let isnt = step.0 in
          cc)
      | inr f ↦
          ap (λ b. b || has ys x) f
          ∙ not_again (y ∷ seen) ys x step.1 (in_rest (bytes_eq x y) (has seen x) there)
    ]

all_once : (seen xs : List Name) → again_after seen xs ≡ None → AreOnce xs
all_once seen [] none = tt
all_once seen (y ∷ ys) none =
    let step = passed (has seen y) y (again_after (y ∷ seen) ys) none in
    (not_again (y ∷ seen) ys y step.1 (ap (λ b. b || has seen y) (itself y)), all_once (y ∷ seen) ys step.1)

-- ---- names with flags

abbrev Flagged : Type 0
Flagged = Name × Bool

abbrev names : List Flagged → List Name
names xs = map (λ (x : Flagged). x.0) xs

abbrev flags : List Flagged → List Bool
flags xs = map (λ (x : Flagged). x.1) xs

abbrev those : List Flagged → List Name
those xs = names (filter (λ (x : Flagged). x.1) xs)

names_cond : (t : Bool) (x : Flagged) (xs : List Flagged) → names (cond t (x ∷ xs) xs) ≡ cond t (x.0 ∷ names xs) (names xs)
names_cond true x xs = refl
names_cond false x xs = refl

-- of a name that isn't there it isn't said either
fewer : (xs : List Flagged) (n : Name) → has (names xs) n ≡ false → has (those xs) n ≡ false
fewer [] n none = refl
fewer (x ∷ xs) n none =
    let parts = neither (bytes_eq n x.0) (has (names xs) n) none in
    ap (λ ns. has ns n) (names_cond x.1 x (filter (λ (x : Flagged). x.1) xs))
    ∙ by x.1 parts.0 (fewer xs n parts.1)
  where
    by : (t : Bool) → bytes_eq n x.0 ≡ false → has (those xs) n ≡ false →
        has (cond t (x.0 ∷ those xs) (those xs)) n ≡ false
    by true e h = ap (λ b. b || has (those xs) n) e ∙ h
    by false e h = h

head_flag : (x : Name) (t : Bool) (ns : List Name) → has ns x ≡ false → t ≡ has (cond t (x ∷ ns) ns) x
head_flag x true ns none = sym (ap (λ b. b || has ns x) (itself x))
head_flag x false ns none = sym none

without : (x y : Name) (t : Bool) (ns : List Name) → bytes_eq x y ≡ false → has (cond t (x ∷ ns) ns) y ≡ has ns y
without x y true ns e = ap (λ b. b || has ns y) (other x y e)
without x y false ns e = refl

-- one more name that isn't among some changes nothing of these
rest_flags : (x : Name) (t : Bool) (ns ys : List Name) → has ys x ≡ false →
    map (has ns) ys ≡ map (has (cond t (x ∷ ns) ns)) ys
rest_flags x t ns [] none = refl
rest_flags x t ns (y ∷ ys) none =
    let parts = neither (bytes_eq x y) (has ys x) none in
    ap₂ (λ b bs. b ∷ bs) (sym (without x y t ns parts.0)) (rest_flags x t ns ys parts.1)

-- where no name comes again, a name is flagged just where it is among those that are
flags_told : (xs : List Flagged) → AreOnce (names xs) → flags xs ≡ map (has (those xs)) (names xs)
flags_told [] once = refl
flags_told (x ∷ xs) once =
    let told : flags (x ∷ xs) ≡ map (has (cond x.1 (x.0 ∷ those xs) (those xs))) (x.0 ∷ names xs) =
    ap₂ (λ b bs. b ∷ bs) (head_flag x.0 x.1 (those xs) (fewer xs x.0 once.0))
    (flags_told xs once.1 ∙ rest_flags x.0 x.1 (those xs) (names xs) once.0) in
    told ∙ ap (λ ns. map (has ns) (x.0 ∷ names xs)) (sym (names_cond x.1 x (filter (λ (x : Flagged). x.1) xs)))

-- ---- the nets of paths

abbrev net_flags : Path → List Name → List Flagged
net_flags p ns = map (λ n. (p.prefix ++ n, is_reg p.of n)) ns

abbrev all_flags : List Path → List Flagged
all_flags ps = flat_map (λ (p : Path). net_flags p (nets_in p.of)) ps

names_of : (p : Path) (ns : List Name) → names (net_flags p ns) ≡ full_names (map (net_at p) ns)
names_of p [] = refl
names_of p (n ∷ ns) = ap (λ xs. (p.prefix ++ n) ∷ xs) (names_of p ns)

flags_of : (p : Path) (ns : List Name) → flags (net_flags p ns) ≡ map (is_reg p.of) ns
flags_of p [] = refl
flags_of p (n ∷ ns) = ap (λ bs. is_reg p.of n ∷ bs) (flags_of p ns)

within : (p : Path) (t : Bool) (n : Name) (ns : List Name) →
    cond t ((p.prefix ++ n) ∷ map (λ k. p.prefix ++ k) ns) (map (λ k. p.prefix ++ k) ns) ≡
    map (λ k. p.prefix ++ k) (cond t (n ∷ ns) ns)
within p true n ns = refl
within p false n ns = refl

those_of : (p : Path) (ns : List Name) →
    those (net_flags p ns) ≡ map (λ k. p.prefix ++ k) (filter (is_reg p.of) ns)
those_of p [] = refl
those_of p (n ∷ ns) =
    let x : Flagged = (p.prefix ++ n, is_reg p.of n) in
    names_cond (is_reg p.of n) x (filter (λ (y : Flagged). y.1) (net_flags p ns))
    ∙ ap (λ ks. cond (is_reg p.of n) ((p.prefix ++ n) ∷ ks) ks) (those_of p ns)
    ∙ within p (is_reg p.of n) n (filter (is_reg p.of) ns)

all_names : (ps : List Path) → names (all_flags ps) ≡ full_names (nets_of ps)
all_names [] = refl
all_names (p ∷ ps) =
    map-append (λ (x : Flagged). x.0) (net_flags p (nets_in p.of)) (all_flags ps)
    ∙ ap₂ (λ xs ys. xs ++ ys) (names_of p (nets_in p.of)) (all_names ps)
    ∙ sym (map-append (λ (n : Net). n.name) (map (net_at p) (nets_in p.of)) (nets_of ps))

all_told : (ps : List Path) → flags (all_flags ps) ≡ flat_map path_flags ps
all_told [] = refl
all_told (p ∷ ps) =
    map-append (λ (x : Flagged). x.1) (net_flags p (nets_in p.of)) (all_flags ps)
    ∙ ap₂ (λ xs ys. xs ++ ys) (flags_of p (nets_in p.of)) (all_told ps)

all_those : (ps : List Path) → those (all_flags ps) ≡ regs_of ps
all_those [] = refl
all_those (p ∷ ps) =
    let own = net_flags p (nets_in p.of) in
    let test = λ (x : Flagged). x.1 in
    ap names (filter-append test own (all_flags ps))
    ∙ map-append (λ (x : Flagged). x.0) (filter test own) (filter test (all_flags ps))
    ∙ ap₂ (λ xs ys. xs ++ ys) (those_of p (nets_in p.of)) (all_those ps)

by_nets : (test : Name → Bool) (nets : List Net) → map test (full_names nets) ≡ map (λ (n : Net). test n.name) nets
by_nets test [] = refl
by_nets test (n ∷ ns) = ap (λ bs. test n.name ∷ bs) (by_nets test ns)

-- the flags of all paths' nets say which are regs of the design
pub regs_told : (ps : List Path) → first_again (full_names (nets_of ps)) ≡ None →
    flat_map path_flags ps ≡ map (λ (n : Net). has (regs_of ps) n.name) (nets_of ps)
regs_told ps none =
    let once : AreOnce (names (all_flags ps)) =
    subst AreOnce (sym (all_names ps)) (all_once [] (full_names (nets_of ps)) none) in
    sym (all_told ps) ∙ flags_told (all_flags ps) once
    ∙ ap (λ rs. map (has rs) (names (all_flags ps))) (all_those ps)
    ∙ ap (λ ns. map (has (regs_of ps)) ns) (all_names ps)
    ∙ by_nets (has (regs_of ps)) (nets_of ps)

-- ---- paths as the code has them

-- the flags of the first paths, and of one more
pub one_path : (paths : List PathValue) (k : ℕ) (p : PathValue) → k < length paths → p ≡ slice_index_or paths k p →
    flat_map path_flags (map path_of (take k paths)) ++ path_flags (path_of p) ≡
    flat_map path_flags (map path_of (take (k + 1) paths))
one_path paths k p lt is =
    let own = path_flags (path_of p) in
    let more : map path_of (take (k + 1) paths) ≡ map path_of (take k paths) ++ path_of p ∷ [] =
    ap (λ (ps : List PathValue). map path_of ps) (take_more paths k p lt)
    ∙ map-append path_of (take k paths) (slice_index_or paths k p ∷ [])
    ∙ ap (λ x. map path_of (take k paths) ++ path_of x ∷ []) (sym is) in
    sym (ap (λ ps. flat_map path_flags ps) more ∙ flat_map-append path_flags (map path_of (take k paths)) (path_of p ∷ [])
    ∙ ap (λ xs. flat_map path_flags (map path_of (take k paths)) ++ xs) (append-nil own))
