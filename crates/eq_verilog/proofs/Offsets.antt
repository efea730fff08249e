-- From full names to numbers: where full names are distinct, a net is found where its path begins, and there where its
-- module has it. So one table for each module and one number for each path are enough.
use Rattle.std.proofs.Common.{◌≡◌, ℕ, ◌+◌, Bool, true, false, nat_eq, ◌&&◌, ◌||◌, cond, List, [], ◌∷◌, ◌++◌, map, Option, Some, None, bytes_eq, refl, arith, sym, ap, ◌∙◌, inl, inr}
use Rattle.std.proofs.lemmas.Bool.{cases_Bool}
use Rattle.std.proofs.lemmas.Bool.Decides.{Decides-eqb}
use Rattle.std.proofs.lemmas.Slice.Eq.{bytes_eq-Decides}
use Rattle.std.proofs.lemmas.List.{map-append, append_assoc}
use Rattle.std.proofs.lemmas.List.Concat.{flat_map-append}
use Rattle.eq_model.specs.Nets.{Net, net_width, range_width, total_width}
use Rattle.eq_verilog.specs.Trees.{Name, ModuleTree}
use Rattle.eq_verilog.specs.Declarations.{has, nets_in, range_of}
use Rattle.eq_verilog.specs.Hierarchy.{Path}
use Rattle.eq_verilog.specs.Nets.{net_at, nets_at, nets_of, full_names, alone, offset}
use Rattle.eq_verilog.specs.Firsts.{again_after, first_again}

none_or : (a b : Bool) → (a || b) ≡ false → (a ≡ false) × (b ≡ false)
none_or true b e = absurd (cc)
none_or false b e = (refl, e)

both_none : (a b : Bool) → a ≡ false → b ≡ false → (a || b) ≡ false
both_none a b e f = rw (e, f) refl

-- ---- names that aren't among those before

passed : (t : Bool) (n : Name) (o : Option Name) → cond t (Some n) o ≡ None → (t ≡ false) × (o ≡ None)
passed true n o e = absurd (cc)
passed false n o e = (refl, e)

fresh_from : (xs seen : List Name) (y : Name) (ys : List Name) → again_after seen (xs ++ y ∷ ys) ≡ None →
    (has seen y ≡ false) × (has xs y ≡ false)
fresh_from [] seen y ys e = ((passed (has seen y) y (again_after (y ∷ seen) ys) e).0, refl)
fresh_from (x ∷ xs) seen y ys e =
    let step = passed (has seen x) x (again_after (x ∷ seen) (xs ++ y ∷ ys)) e in
    let rest = fresh_from xs (x ∷ seen) y ys step.1 in
    let parts = none_or (bytes_eq y x) (has seen y) rest.0 in
    (parts.1, both_none (bytes_eq y x) (has xs y) parts.0 rest.1)

-- ---- offsets

-- what stands before a net of another name is passed over
offset_skip : (before after : List Net) (n : Name) → has (map (λ (m : Net). m.name) before) n ≡ false →
    offset (before ++ after) n ≡ total_width before + offset after n
offset_skip [] after n e = (let h : offset after n ≡ 0 + offset after n = omega arith in h)
offset_skip (m ∷ ms) after n e =
    let parts = none_or (bytes_eq n m.name) (has (map (λ (m : Net). m.name) ms) n) e in
    let h = offset_skip ms after n parts.1 in
    let s : net_width m + (total_width ms + offset after n) ≡ (net_width m + total_width ms) + offset after n =
    omega arith in
    ap (λ (b : Bool). cond {A = ℕ} b 0 (net_width m + offset (ms ++ after) n)) parts.0 ∙ ap (λ x. net_width m + x) h ∙ s

same_number : (x : ℕ) → nat_eq x x ≡ true
same_number x = (Decides-eqb x x).1 refl

-- names with one prefix are compared without it
behind_prefix : (p a b : Name) → bytes_eq (p ++ a) (p ++ b) ≡ bytes_eq a b
behind_prefix [] a b = refl
behind_prefix (c ∷ p) a b = ap (λ (t : Bool). t && bytes_eq (p ++ a) (p ++ b)) (same_number c) ∙ behind_prefix p a b

-- a module's own table serves all its paths
pub offset_local : (prefix : Name) (m : ModuleTree) (ns : List Name) (n : Name) →
    offset (map (net_at (record {
      prefix =
          prefix;
      of = m;
    })) ns) (prefix ++ n) ≡ offset (map (net_at (record { prefix = []; of = m })) ns) n
offset_local prefix m [] n = refl
offset_local prefix m (k ∷ ns) n =
    let h = offset_local prefix m ns n in
    let e = behind_prefix prefix n k in
    ap (λ (t : Bool). cond {A =
    ℕ} t 0 (range_width (range_of m k) + offset (map (net_at (record {
      prefix =
          prefix;
      of = m;
    })) ns) (prefix ++ n))) e
    ∙ ap (λ x. cond {A = ℕ} (bytes_eq n k) 0 (range_width (range_of m k) + x)) h

-- ---- where a path begins

-- what is found in front is found without what follows
offset_front : (front after : List Net) (n : Name) → has (map (λ (m : Net). m.name) front) n ≡ true →
    offset (front ++ after) n ≡ offset front n
offset_front [] after n e = absurd (cc)
offset_front (m ∷ ms) after n e = at_first (bytes_eq n m.name) e (offset_front ms after n)
  where
    at_first : (b : Bool) → (b || has (map (λ (m : Net). m.name) ms) n) ≡ true →
        (has (map (λ (m : Net). m.name) ms) n ≡ true → offset (ms ++ after) n ≡ offset ms n) →
        cond {A = ℕ} b 0 (net_width m + offset (ms ++ after) n) ≡ cond {A = ℕ} b 0 (net_width m + offset ms n)
    at_first true h k = refl
    at_first false h k = ap (λ x. net_width m + x) (k h)

record Split (ns : List Name) (n : Name) : Type 0 where
  before : List Name
  after : List Name
  is : ns ≡ before ++ n ∷ after

split_at : (ns : List Name) (n : Name) → has ns n ≡ true → Split ns n
split_at [] n e = absurd (cc)
split_at (k ∷ ns) n e = elim (cases_Bool (bytes_eq n k)) [
  | inl t ↦ (
      let same : n ≡ k = (bytes_eq-Decides n k).0 t in
      record { before = []; after = ns; is = ap (λ x. x ∷ ns) (sym same) })
  | inr f ↦ (
      let rest : has ns n ≡ true = sym (ap (λ (b : Bool). b || has ns n) f) ∙ e in
      let s = split_at ns n rest in
      record { before = k ∷ s.before; after = s.after; is = ap (λ x. k ∷ x) s.is })
]

names_at : (prefix : Name) (m : ModuleTree) (ns : List Name) →
    map (λ (k : Net). k.name) (map (net_at (record { prefix = prefix; of = m })) ns) ≡ map (λ n. prefix ++ n) ns
names_at prefix m [] = refl
names_at prefix m (n ∷ ns) = ap (λ x. (prefix ++ n) ∷ x) (names_at prefix m ns)

has_prefixed : (prefix : Name) (ns : List Name) (n : Name) → has (map (λ k. prefix ++ k) ns) (prefix ++ n) ≡ has ns n
has_prefixed prefix [] n = refl
has_prefixed prefix (k ∷ ns) n =
    ap (λ (b : Bool). b || has (map (λ k. prefix ++ k) ns) (prefix ++ n)) (behind_prefix prefix n k)
    ∙ ap (λ (b : Bool). bytes_eq n k || b) (has_prefixed prefix ns n)

has_before : (xs ys : List Name) (n : Name) → has (xs ++ ys) n ≡ false → has xs n ≡ false
has_before [] ys n e = refl
has_before (x ∷ xs) ys n e =
    let parts = none_or (bytes_eq n x) (has (xs ++ ys) n) e in
    both_none (bytes_eq n x) (has xs n) parts.0 (has_before xs ys n parts.1)

-- the net n of a path's module has the number of the path's first bit and its own in the module
pub offset_path : (before after : List Path) (prefix : Name) (m : ModuleTree) (n : Name) →
    first_again (full_names (nets_of (before ++ record { prefix = prefix; of = m } ∷ after))) ≡ None →
    has (nets_in m) n ≡ true →
    offset (nets_of (before ++ record { prefix = prefix; of = m } ∷ after)) (prefix ++ n)
    ≡ total_width (nets_of before) + offset (nets_at (alone m)) n
offset_path before after prefix m n distinct member =
    let p : Path = record { prefix = prefix; of = m } in
    let name : Net → Name = λ k. k.name in
    let full : Name → Name = λ k. prefix ++ k in
    let front : List Name = map name (nets_of before) in
    let back : List Name = map name (nets_of after) in
    let joined : nets_of (before ++ p ∷ after) ≡ nets_of before ++ (nets_at p ++ nets_of after) =
    flat_map-append nets_at before (p ∷ after) in
    let s = split_at (nets_in m) n member in
    let own : map name (nets_at p) ≡ map full s.before ++ (prefix ++ n) ∷ map full s.after =
    names_at prefix m (nets_in m) ∙ ap (λ ns. map full ns) s.is ∙ map-append full s.before (n ∷ s.after) in
    let whole : map name (nets_of (before ++ p ∷ after))
    ≡ (front ++ map full s.before) ++ (prefix ++ n) ∷ (map full s.after ++ back) =
    ap (λ ns. map name ns) joined ∙ map-append name (nets_of before) (nets_at p ++ nets_of after)
    ∙ ap (λ x. front ++ x) (map-append name (nets_at p) (nets_of after))
    ∙ ap (λ x. front ++ (x ++ back)) own
    ∙ ap (λ x. front ++ x) (append_assoc (map full s.before) ((prefix ++ n) ∷ map full s.after) back)
    ∙ sym (append_assoc front (map full s.before) ((prefix ++ n) ∷ (map full s.after ++ back))) in
    let fresh = fresh_from (front ++ map full s.before) [] (prefix ++ n) (map full s.after ++ back)
    (sym (ap first_again whole) ∙ distinct) in
    let new : has front (prefix ++ n) ≡ false = has_before front (map full s.before) (prefix ++ n) fresh.1 in
    let there : has (map name (nets_at p)) (prefix ++ n) ≡ true =
    ap (λ ns. has ns (prefix ++ n)) (names_at prefix m (nets_in m)) ∙ has_prefixed prefix (nets_in m) n ∙ member in
    ap (λ ns. offset ns (prefix ++ n)) joined
    ∙ offset_skip (nets_of before) (nets_at p ++ nets_of after) (prefix ++ n) new
    ∙ ap (λ x. total_width (nets_of before) + x)
    (offset_front (nets_at p) (nets_of after) (prefix ++ n) there ∙ offset_local prefix m (nets_in m) n)
