-- The bits of nets: which net and place a bit has, and that no two bits have the same.
use Rattle.std.proofs.Common.{◌≡◌, ◌≢◌, ℕ, zero, suc, ◌+◌, ◌-◌, ◌<◌, ◌≤◌, nat_lt, false, List, [], ◌∷◌, None, length, slice_index_or, AllPairs, arith, sym, ap, subst, ◌∙◌, inl, inr}
use Rattle.std.proofs.lemmas.Bool.{cases_lt, cond-true, cond-false, lt-ltb, le-ltb}
use Rattle.std.proofs.lemmas.List.{get_or_default}
use Rattle.eq_model.specs.Nets.{inner, Net, Key, net_width, total_width, first_bit, at_bit}
use Rattle.eq_model.specs.Run.{Design, IsDesign, IsPlaceOf, key}

here : {A : Type 0} (o : A) (f : Net → ℕ → A) (n : Net) (ns : List Net) (b : ℕ) → b < net_width n →
    at_bit o f (n ∷ ns) b ≡ f n b
here o f n ns b lt = cond-true (nat_lt b (net_width n)) (f n b) (at_bit o f ns (b - net_width n)) (lt-ltb b (net_width n) lt)

pub later : {A : Type 0} (o : A) (f : Net → ℕ → A) (n : Net) (ns : List Net) (b : ℕ) → net_width n ≤ b →
    at_bit o f (n ∷ ns) b ≡ at_bit o f ns (b - net_width n)
later o f n ns b le = cond-false (nat_lt b (net_width n)) (f n b) (at_bit o f ns (b - net_width n)) (le-ltb b (net_width n) le)

-- place j of net k is the bit j after the net's first, and at_bit finds both
pub at_place : {A : Type 0} (o : A) (f : Net → ℕ → A) (nets : List Net) (k j : ℕ) (d : Net) → k < length nets →
    j < net_width (slice_index_or nets k d) →
    (first_bit nets k + j < total_width nets) × (at_bit o f nets (first_bit nets k + j) ≡ f (slice_index_or nets k d) j)
at_place o f [] k j d lk lj = absurd (omega arith)
at_place o f (n ∷ ns) zero j d lk lj =
    let e : 0 + j ≡ j = omega arith in
    (omega arith, ap (at_bit o f (n ∷ ns)) e ∙ here o f n ns j lj)
at_place o f (n ∷ ns) (suc k) j d lk lj =
    let t = at_place o f ns k j d (omega arith) lj in
    let b : ℕ = net_width n + first_bit ns k + j in
    let e : b - net_width n ≡ first_bit ns k + j = omega arith in
    (let lt = t.0 in omega arith, later o f n ns b (omega arith) ∙ ap (at_bit o f ns) e ∙ t.1)

-- each bit is a place of some net
pub place_of : (nets : List Net) (b : ℕ) → b < total_width nets →
    (k : ℕ) × (j : ℕ) × (k < length nets) × ((d : Net) → j < net_width (slice_index_or nets k d)) ×
    (b ≡ first_bit nets k + j)
place_of [] b lt = absurd (omega arith)
place_of (n ∷ ns) b lt = elim (cases_lt b (net_width n)) [
  | inl less ↦ (0, b, omega arith, (λ d. less), omega arith)
  | inr more ↦ (
      let t = place_of ns (b - net_width n) (omega arith) in
      let e = t.4 in
      (suc t.0, t.1, omega arith, t.3, omega arith))
]

-- what stands at two numbers is different, so what is the same stands at one
same_number : (nets : List Net) → AllPairs (λ m n. m.name ≢ n.name) nets → (i k : ℕ) (d : Net) → i < length nets →
    k < length nets →
    (slice_index_or nets i d).name ≡ (slice_index_or nets k d).name → i ≡ k
same_number nets apart i k d li lk e = elim (cases_lt i k) [
  | inl less ↦ absurd (apart i k d less lk e)
  | inr ge ↦ (elim (cases_lt k i) [
    | inl less ↦ absurd (apart k i d less li (sym e))
    | inr le ↦ omega arith
  ])
]

some_net : (nets : List Net) (k : ℕ) → k < length nets → Net
some_net [] k lt = absurd (omega arith)
some_net (n ∷ ns) k lt = n

pub keys_apart : (nets : List Net) → AllPairs (λ m n. m.name ≢ n.name) nets → (a b : ℕ) → a < total_width nets →
    b < total_width nets →
    at_bit {A = Key} ([], 0) (λ n place. (n.name, place)) nets a ≡ at_bit ([], 0) (λ n place. (n.name, place)) nets b →
    a ≡ b
keys_apart nets apart a b la lb e =
    let s = place_of nets a la in
    let t = place_of nets b lb in
    let d = some_net nets s.0 s.2 in
    let f : Net → ℕ → Key = λ n place. (n.name, place) in
    let at : ℕ → Key = at_bit ([], 0) f nets in
    let x : f (slice_index_or nets s.0 d) s.1 ≡ f (slice_index_or nets t.0 d) t.1 =
    sym (at_place {A = Key} ([], 0) f nets s.0 s.1 d s.2 (s.3 d)).1 ∙ ap at (sym s.4) ∙ e ∙ ap at t.4
    ∙ (at_place {A = Key} ([], 0) f nets t.0 t.1 d t.2 (t.3 d)).1 in
    let k : s.0 ≡ t.0 = same_number nets apart s.0 t.0 d s.2 t.2 (ap (λ (p : Key). p.0) x) in
    let j : s.1 ≡ t.1 = ap (λ (p : Key). p.1) x in
    s.4 ∙ ap (λ i. first_bit nets i + s.1) k ∙ ap (λ i. first_bit nets t.0 + i) j ∙ sym t.4

pub is_place : (d : Design) → IsDesign d → (k j : ℕ) (n : Net) → k < length d.nets → slice_index_or d.nets k n ≡ n →
    j < net_width n →
    IsPlaceOf d n j (first_bit d.nets k + j)
is_place d is k j n lk at lj =
    let P : Net → Type 0 = λ m. j < net_width m in
    let lt : j < net_width (slice_index_or d.nets k n) = subst P (sym at) lj in
    record {
      there = (let w = is.widths in let t = (at_place {A = ℕ} 0 (λ n place. 0) d.nets k j n lk lt).0 in omega arith);
      named = (at_place {A = Key} ([], 0) (λ n place. (n.name, place)) d.nets k j n lk lt).1
          ∙ (let f : Net → Key = λ m. (m.name, j) in ap f at);
      directed = (at_place inner (λ n place. n.dir) d.nets k j n lk lt).1 ∙ ap (λ (m : Net). m.dir) at;
      ranged = (at_place None (λ n place. n.range) d.nets k j n lk lt).1 ∙ ap (λ (m : Net). m.range) at;
      made_up = (at_place false (λ n place. n.automatic) d.nets k j n lk lt).1 ∙ ap (λ (m : Net). m.automatic) at;
    }

pub is_some_place : (d : Design) → IsDesign d → (b : ℕ) → b < d.bits → (n : Net) × (k : ℕ) × (j : ℕ) ×
    (k < length d.nets) × (slice_index_or d.nets k n ≡ n) × (j < net_width n) × (b ≡ first_bit d.nets k + j)
is_some_place d is b lt =
    let w = is.widths in
    let t = place_of d.nets b (omega arith) in
    let m = some_net d.nets t.0 t.2 in
    let n = slice_index_or d.nets t.0 m in
    (n, t.0, t.1, t.2, get_or_default d.nets t.0 n m t.2, t.3 m, t.4)

-- no two bits of a design have one name and place
pub bits_apart : (d : Design) → IsDesign d → (a b : ℕ) → a < d.bits → b < d.bits → key d a ≡ key d b → a ≡ b
bits_apart d is a b la lb e = (let w = is.widths in keys_apart d.nets is.names a b (omega arith) (omega arith) e)
