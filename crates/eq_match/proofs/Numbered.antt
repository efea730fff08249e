-- The number of a name among distinct names.
use Rattle.std.proofs.Common.{◌≡◌, ◌≢◌, ℕ, zero, suc, ◌+◌, ◌<◌, ◌≤◌, Bool, true, false, not, ◌||◌, cond, List, [], ◌∷◌, ◌++◌, map, take, length, AllPairs, slice_index_or, Option, Some, None, refl, sym, ap, subst, ◌∙◌, arith, inl, inr}
use Rattle.std.specs.Str.{bytes_eq}
use Rattle.std.specs.List.{list_any, position_or_len}
use Rattle.std.specs.Cmp.Lexicographic.{bytes_decides}
use Rattle.std.proofs.lemmas.Bool.{cases_Bool, cases_lt, false≢true, lt-ltb, le-ltb}
use Rattle.std.proofs.lemmas.List.{get_or_default, get_or-take, length-map, map_push, take_more}
use Rattle.std.proofs.Math.Seq.{length-take-le}
use Rattle.eq_names.specs.Tables.{number_of, with_name}
use Rattle.eq_net.specs.declared.types.NetInfo.{NetInfo}
use Rattle.eq_net.specs.Net.{name_at, no_net}

abbrev pub names_of : List NetInfo → List (List ℕ)
names_of nets = map (λ n. n.name) nets

abbrev pub place : List NetInfo → List ℕ → ℕ
place nets text = position_or_len (λ n. bytes_eq text n) (names_of nets)

-- the place of a text is that of a net with the name
place_named : (nets : List NetInfo) (text : List ℕ) → place nets text < length nets → name_at nets (place nets text) ≡
    text
place_named [] text lt = absurd (omega arith)
place_named (x ∷ xs) text lt =
    let P : Bool → Type 0 = λ b. name_at (x ∷ xs) (cond (not b) (1 + place xs text) 0) ≡ text in
    let Q : Bool → Type 0 = λ b. cond (not b) (1 + place xs text) 0 < suc (length xs) in
    elim (cases_Bool (bytes_eq text x.name)) [
      | inl here ↦ subst P (sym here) (sym ((bytes_decides text x.name).0 here))
      | inr other ↦
          let less : 1 + place xs text < suc (length xs) = subst Q other lt in
          let e = place_named xs text (omega arith) in
          let i : suc (place xs text) ≡ 1 + place xs text = omega arith in
          let N : ℕ → Type 0 = λ j. name_at (x ∷ xs) j ≡ text in
          subst P (sym other) (subst N i e)
    ]

-- a name stands at its net's place at the latest
place_of_net : (nets : List NetInfo) (k : ℕ) → k < length nets → place nets (name_at nets k) ≤ k
place_of_net [] k lt = absurd (omega arith)
place_of_net (x ∷ xs) zero lt =
    let Q : Bool → Type 0 = λ b. cond (not b) (1 + place xs x.name) 0 ≤ 0 in
    subst Q (sym ((bytes_decides x.name x.name).1 refl)) (omega arith)
place_of_net (x ∷ xs) (suc k) lt =
    let text = name_at xs k in
    let Q : Bool → Type 0 = λ b. cond (not b) (1 + place xs text) 0 ≤ suc k in
    let less = place_of_net xs k (omega arith) in
    elim (cases_Bool (bytes_eq text x.name)) [
      | inl here ↦ subst Q (sym here) (omega arith)
      | inr other ↦ subst Q (sym other) (omega arith)
    ]

-- nets of one name are one net
pub same_net : (nets : List NetInfo) → AllPairs (λ a b. a.name ≢ b.name) nets → (i k : ℕ) → i < length nets →
    k < length nets → name_at nets i ≡ name_at nets k → i ≡ k
same_net nets apart i k li lk e = elim (cases_lt i k) [
  | inl less ↦ absurd (apart i k no_net less lk e)
  | inr ge ↦ (elim (cases_lt k i) [
    | inl less ↦ absurd (apart k i no_net less li (sym e))
    | inr le ↦ omega arith
  ])
]

number_is : (nets : List NetInfo) (text : List ℕ) → place nets text < length nets → number_of (names_of nets) text ≡
    Some (place nets text)
number_is nets text lt = ap (λ (b : Bool). cond b (Some (place nets text)) None)
    (lt-ltb _ _ (let size = length-map nets (λ n. n.name) in omega arith))

-- the number of a net's name is the net's
pub number_found : (nets : List NetInfo) → AllPairs (λ a b. a.name ≢ b.name) nets → (k : ℕ) → k < length nets →
    number_of (names_of nets) (name_at nets k) ≡ Some k
number_found nets apart k lt =
    let le = place_of_net nets k lt in
    let there : place nets (name_at nets k) < length nets = omega arith in
    number_is nets (name_at nets k) there ∙ ap (λ (n : ℕ). Some n)
    (same_net nets apart (place nets (name_at nets k)) k there lt (place_named nets (name_at nets k) there))

number_within : (nets : List NetInfo) (text : List ℕ) (k : ℕ) → number_of (names_of nets) text ≡ Some k →
    (place nets text < length nets) × (place nets text ≡ k)
number_within nets text k is = elim (cases_lt (place nets text) (length nets)) [
  | inl less ↦ (less, (let two = sym (number_is nets text less) ∙ is in cc))
  | inr past ↦
      let size = length-map nets (λ n. n.name) in
      let none : number_of (names_of nets) text ≡ None = ap (λ (b : Bool). cond b (Some (place nets text)) None)
      (le-ltb _ _ (omega arith)) in
      let two : ◌≡◌ {A = Option ℕ} (Some k) None = sym is ∙ none in
      absurd (cc)
]

-- a text with a number names the net of the number
pub number_there : (nets : List NetInfo) (text : List ℕ) (k : ℕ) → number_of (names_of nets) text ≡ Some k → k < length
    nets
number_there nets text k is = (let both = number_within nets text k is in let a = both.0 in let b = both.1 in omega
    arith)

pub number_named : (nets : List NetInfo) (text : List ℕ) (k : ℕ) → number_of (names_of nets) text ≡ Some k → name_at
    nets k ≡ text
number_named nets text k is =
    let both = number_within nets text k is in
    ap (λ (n : ℕ). name_at nets n) (sym both.1) ∙ place_named nets text both.0

any_named : (xs : List NetInfo) (text : List ℕ) → list_any (λ n. bytes_eq text n) (names_of xs) ≡ true →
    (j : ℕ) × (j < length xs) × (name_at xs j ≡ text)
any_named [] text any = absurd (false≢true any)
any_named (x ∷ xs) text any = elim (cases_Bool (bytes_eq text x.name)) [
  | inl here ↦ (0, omega arith, sym ((bytes_decides text x.name).0 here))
  | inr other ↦
      let Q : Bool → Type 0 = λ b. (b || list_any (λ n. bytes_eq text n) (names_of xs)) ≡ true in
      let later = any_named xs text (subst Q other any) in
      (suc later.0, (let lt = later.1 in omega arith), later.2)
]

-- one more name comes behind the others
pub next_name : (nets : List NetInfo) → AllPairs (λ a b. a.name ≢ b.name) nets → (i : ℕ) (x : NetInfo)
    (old new : List (List ℕ)) → i < length nets → x ≡ slice_index_or nets i x →
    old ≡ map (λ n. n.name) (take i nets) → new ≡ with_name old x.name →
    new ≡ map (λ n. n.name) (take (i + 1) nets)
next_name nets apart i x old new lt is before after =
    let name : name_at nets i ≡ x.name = ap (λ (n : NetInfo). n.name) (get_or_default nets i no_net x lt ∙ sym is) in
    let grown : take (i + 1) nets ≡ take i nets ++ x ∷ [] = take_more nets i x lt ∙ ap (λ (n : NetInfo). take i nets ++
    n ∷ []) (sym is) in
    let fresh : list_any (λ n. bytes_eq x.name n) (names_of (take i nets)) ≡ false =
    elim (cases_Bool (list_any (λ n. bytes_eq x.name n) (names_of (take i nets)))) [
      | inl any ↦ (let at = any_named (take i nets) x.name any in
          let size = length-take-le i nets (omega arith) in
          let within = at.1 in
          let less : at.0 < i = omega arith in
          absurd (apart at.0 i no_net less lt
          (sym (ap (λ (n : NetInfo). n.name) (get_or-take i nets at.0 no_net less)) ∙ at.2 ∙ sym name)))
      | inr none ↦ none
    ] in
    after ∙ ap (λ (names : List (List ℕ)). with_name names x.name) before
    ∙ ap (λ (b : Bool). cond b (names_of (take i nets)) (names_of (take i nets) ++ x.name ∷ [])) fresh
    ∙ sym (ap names_of grown ∙ map_push (λ n. n.name) (take i nets) x)
