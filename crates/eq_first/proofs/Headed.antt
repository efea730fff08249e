-- Reading a header port by port, and finding a port by its name.
use Rattle.std.proofs.Common.{◌≡◌, ℕ, suc, ◌+◌, ◌-◌, ◌^◌, ◌<◌, Bool, true, false, cond, not, ltb, List, [], ◌∷◌, ◌++◌, length, Option, Some, None, refl, sym, ap, subst, ◌∙◌, inl, inr, arith, length-append}
use Rattle.std.specs.Prelude.{Contains, is_none, bytes_eq}
use Rattle.std.specs.List.{list_any}
use Rattle.std.specs.Bool.{Decides}
use Rattle.std.specs.BTreeMap.{BTreeMap, UpdatesBy}
use Rattle.std.specs.Cmp.Lexicographic.{slice_cmp}
use Rattle.std.specs.Ordering.{nat_cmp}
use Rattle.std.proofs.lemmas.Bool.{and_parts, ltb-true, lt-ltb, cases_Bool}
use Rattle.std.proofs.lemmas.Bool.Decides.{Decides-by_or}
use Rattle.std.proofs.lemmas.List.Elements.{Decides-contains}
use Rattle.std.proofs.lemmas.Map.Text.{btree_map_updates_str}
use Rattle.std.proofs.lemmas.Option.{some_pair_parts, none-some}
use Rattle.std.proofs.lemmas.Slice.Eq.{bytes_eq-Decides}
use denote.Ref.{Bor}
use Rattle.eq_first.specs.declared.module.Direction.{Direction}
use Rattle.eq_first.specs.declared.module.Port.{Port}
use Rattle.eq_first.specs.Lines.{◌>>=◌, is_short}
use Rattle.eq_first.specs.Reserved.{is_reserved}
use Rattle.eq_first.specs.Design.{reserved, IsPlain}
use Rattle.eq_first.specs.Header.{place_from, place_of, Knows, Head, direction_of, is_plain, new_name, output_with, next_at}
use Rattle.eq_first.proofs.Texts.{bind_some}
use Rattle.eq_first.proofs.Jobs.{short_is, is_short_from, not_true, guarded}
use Rattle.eq_first.proofs.Lexed.{false_from_not, not_from_false, chosen}

-- ---- names

abbrev any_like : List ℕ → List (List ℕ) → Bool
any_like w rs = list_any (λ r. bytes_eq r w) rs

among-Decides : (w : List ℕ) (rs : List (List ℕ)) → Decides (any_like w rs) (Contains rs w)
among-Decides w rs = Decides-contains rs w (any_like w rs) (Decides-by_or (λ r. bytes_eq r w) (λ r. r ≡ w) (any_like w) (λ r. bytes_eq-Decides r w) refl (λ _ _. refl) rs)

reserved-Decides : (w : List ℕ) → Decides (is_reserved w) (Contains reserved w)
unfolding is_reserved
reserved-Decides w = among-Decides w reserved

pub plain_is : (name : List ℕ) → is_plain name ≡ true → IsPlain name
unfolding is_plain
plain_is name e =
    let p = and_parts (is_short name) (not (is_reserved name)) e in
    record { short = short_is name p.0; free = λ among. not_from_false (is_reserved name) (not_true (is_reserved name) p.1) ((reserved-Decides name).1 among) }

pub is_plain_from : (name : List ℕ) → IsPlain name → is_plain name ≡ true
unfolding is_plain
is_plain_from name h = rw (is_short_from name h.short, false_from_not (is_reserved name) (λ e. h.free ((reserved-Decides name).0 e))) refl

-- ---- places

-- the place of a name in a header with one port more
place_more : (n : ℕ) (ps : List Port) (p : Port) (name : List ℕ) → place_from n ps p.name ≡ None
    → place_from n (ps ++ p ∷ []) name ≡ cond (bytes_eq p.name name) (Some (n + length ps)) (place_from n ps name)
place_more n [] p name fresh =
    elim (cases_Bool (bytes_eq p.name name)) [
      | inl e ↦ rw (turned p.name name true e, e) (ap Some (omega arith))
      | inr e ↦ rw (turned p.name name false e, e) refl
    ]
  where
    turned : (a b : List ℕ) (t : Bool) → bytes_eq a b ≡ t → bytes_eq b a ≡ t
    turned a b true e = (bytes_eq-Decides b a).1 (sym ((bytes_eq-Decides a b).0 e))
    turned a b false e = false_from_not (bytes_eq b a) (λ f. not_from_false (bytes_eq a b) e ((bytes_eq-Decides a b).1 (sym ((bytes_eq-Decides b a).0 f))))
place_more n (x ∷ ps) p name fresh =
    elim (chosen (bytes_eq p.name x.name) (Some n) (place_from (suc n) ps p.name) None fresh) [
      | inl q ↦ absurd (none-some n (sym q.1))
      | inr q ↦
          let more = place_more (suc n) ps p name q.1 in
          elim (cases_Bool (bytes_eq name x.name)) [
            | inl e ↦
                let same : name ≡ x.name = (bytes_eq-Decides name x.name).0 e in
                let other : bytes_eq p.name name ≡ false = rw same q.0 in
                rw (e, other) refl
            | inr e ↦ let place : suc n + length ps ≡ n + suc (length ps) = omega arith in rw e (more ∙ ap (λ (k : ℕ). cond (bytes_eq p.name name) (Some k) (place_from (suc n) ps name)) place)
          ]
    ]

pub known_more : (places new : BTreeMap (Bor (List ℕ)) ℕ) (ports : List Port) (p : Port) → Knows places ports → place_of ports p.name ≡ None
    → UpdatesBy (λ x y. slice_cmp nat_cmp x.now y.now) (λ k. slice_cmp nat_cmp p.name k.now) places new (Some (length ports)) → Knows new (ports ++ p ∷ [])
unfolding place_of
known_more places new ports p known fresh updates = λ name.
    btree_map_updates_str p.name places new (Some (length ports)) updates name
    ∙ ap (λ (o : Option ℕ). cond (bytes_eq p.name name) (Some (length ports)) o) (known name)
    ∙ sym (place_more 0 ports p name fresh ∙ ap (λ (k : ℕ). cond (bytes_eq p.name name) (Some k) (place_from 0 ports name)) (omega arith))

-- ---- a port that comes next

pub record IsNew (ports : List Port) (name : List ℕ) : Type 0 where
  pub plain : is_plain name ≡ true
  pub room : length ports < 2 ^ 32 - 1
  pub fresh : place_of ports name ≡ None

none_is : {A : Type 0} (o : Option A) → is_none o ≡ true → o ≡ None
none_is None e = refl
none_is (Some x) e = absurd cc

pub new_is : (ports : List Port) (name x : List ℕ) → new_name ports name ≡ Some x → IsNew ports name
unfolding new_name
new_is ports name x e =
    let a = guarded (is_plain name) (cond (ltb (length ports) (2 ^ 32 - 1)) (cond (is_none (place_of ports name)) (Some name) None) None) x e in
    let b = guarded (ltb (length ports) (2 ^ 32 - 1)) (cond (is_none (place_of ports name)) (Some name) None) x a.1 in
    let c = guarded (is_none (place_of ports name)) (Some name) x b.1 in
    record { plain = a.0; room = ltb-true _ _ b.0; fresh = none_is (place_of ports name) c.0 }

pub new_again : (ports : List Port) (name : List ℕ) → IsNew ports name → new_name ports name ≡ Some name
unfolding new_name
new_again ports name h = rw (h.plain, lt-ltb (length ports) (2 ^ 32 - 1) h.room, h.fresh) refl

-- what a port that may come next tells
pub record Next (h : Head) (keyword name : List ℕ) (d : Direction) (output : Option ℕ) : Type 0 where
  pub way : direction_of keyword ≡ Some d
  pub after : output_with h d ≡ Some output
  pub new : IsNew h.ports name

pub next_is : (h : Head) (keyword name : List ℕ) (d : Direction) (output : Option ℕ) → next_at h keyword name ≡ Some (d, output) → Next h keyword name d output
unfolding next_at
next_is h keyword name d output e =
    let a = bind_some (direction_of keyword) (λ d. output_with h d >>= λ output. new_name h.ports name >>= λ fresh. Some (d, output)) (d, output) e in
    let b = bind_some (output_with h a.0) (λ output. new_name h.ports name >>= λ fresh. Some (a.0, output)) (d, output) a.2 in
    let c = bind_some (new_name h.ports name) (λ fresh. Some (a.0, b.0)) (d, output) b.2 in
    let same = some_pair_parts a.0 d b.0 output c.2 in
    record { way = a.1 ∙ ap Some same.0; after = rw (← same.0) (b.1 ∙ ap Some same.1); new = new_is h.ports name c.0 c.1 }

-- the header with this port
pub known_after : (places new : BTreeMap (Bor (List ℕ)) ℕ) (h : Head) (all : List Port) (keyword name : List ℕ) (d : Direction) (output : Option ℕ) (at : ℕ) (own : List ℕ)
    → Knows places h.ports → Next h keyword name d output → own ≡ name → at ≡ length h.ports
    → UpdatesBy (λ x y. slice_cmp nat_cmp x.now y.now) (λ k. slice_cmp nat_cmp name k.now) places new (Some at) → all ≡ h.ports ++ record { direction = d; name = own } ∷ [] → Knows new all
known_after places new h all keyword name d output at own known next own_is at_is updates all_is =
    let p : Port = record { direction = d; name = name } in
    let U : ℕ → Type 0 = λ n. UpdatesBy (λ (x y : Bor (List ℕ)). slice_cmp nat_cmp x.now y.now) (λ k. slice_cmp nat_cmp name k.now) places new (Some n) in
    let more = known_more places new h.ports p known next.new.fresh (subst U at_is updates) in
    let K : List Port → Type 0 = λ ps. Knows new ps in
    let shape : all ≡ h.ports ++ p ∷ [] = all_is ∙ ap (λ (n : List ℕ). h.ports ++ record { direction = d; name = n } ∷ []) own_is in
    subst K (sym shape) more

pub few_after : (h : Head) (all : List Port) (keyword name : List ℕ) (d : Direction) (output : Option ℕ) (p : Port) → Next h keyword name d output → all ≡ h.ports ++ p ∷ [] → length all < 2 ^ 32
few_after h all keyword name d output p next all_is = let room = next.new.room in omega (arith, ap length all_is, length-append h.ports (p ∷ []))
