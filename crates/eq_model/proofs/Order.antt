-- In a loop-free system each bit settles: the bits that it reads, the bits that these read and so on come to an end.
use Rattle.std.proofs.Common.{◌≡◌, ℕ, zero, suc, ◌<◌, ◌≤◌, ◌+◌, Bool, true, false, cond, List, [], ◌∷◌, ◌++◌, length, get_or, Contains, eqb, refl, arith, sym, subst, ap, inl, inr}
use Rattle.std.specs.List.{list_all, list_any, IsDistinct, AllByRecursion}
use Rattle.std.proofs.lemmas.Bool.{and_parts, and_cases, or_cases, or_parts, eqb-true, cases_Bool}
use Rattle.std.proofs.lemmas.Map.Steps.{length-le_from_distinct_below}
use Rattle.eq_model.specs.System.{Driver, input, undriven, equation, register, System, IsSystem, IsDriver, reads_now, Reads, IsChain, IsLoopFree}

pub contains_head : (x : ℕ) (xs : List ℕ) → Contains (x ∷ xs) x
contains_head x xs = (0, omega arith, refl)

pub contains_tail : (y : ℕ) (xs : List ℕ) (x : ℕ) → Contains xs x → Contains (y ∷ xs) x
contains_tail y xs x c = (suc c.0, omega arith, c.2)

at_index : (p : ℕ → Bool) (xs : List ℕ) → list_all p xs ≡ true → (k d : ℕ) → k < length xs → p (get_or xs k d) ≡ true
at_index p [] h k d lt = absurd (omega arith)
at_index p (x ∷ xs) h zero d lt = (and_parts (p x) (list_all p xs) h).0
at_index p (x ∷ xs) h (suc k) d lt = at_index p xs (and_parts (p x) (list_all p xs) h).1 k d (omega arith)

-- a test that each element passes
pub passes : (p : ℕ → Bool) (xs : List ℕ) → list_all p xs ≡ true → (x : ℕ) → Contains xs x → p x ≡ true
passes p xs h x c = let P : ℕ → Type 0 = λ y. p y ≡ true in subst P c.2 (at_index p xs h c.0 x c.1)

-- a test that some element doesn't pass
pub some_fails : (p : ℕ → Bool) (xs : List ℕ) → list_all p xs ≡ false → (x : ℕ) × Contains xs x × (p x ≡ false)
some_fails p [] h = absurd (cc)
some_fails p (x ∷ xs) h =
    elim (and_cases (p x) (list_all p xs) h) [
      | inl e ↦ (x, contains_head x xs, e)
      | inr e ↦ (let t : (y : ℕ) × Contains xs y × (p y ≡ false) = some_fails p xs e in (t.0, contains_tail x xs t.0 t.1, t.2))
    ]

-- b is settled after k steps: the longest chain of reads from it has fewer than k
abbrev pub settled : System → ℕ → ℕ → Bool
settled s zero b = false
settled s (suc k) b = list_all (settled s k) (reads_now (s.driver b))

pub extend : (s : System) (a : ℕ) (cs : List ℕ) (b r : ℕ) → IsChain s a cs b → Contains (reads_now (s.driver b)) r → IsChain s a (cs ++ b ∷ []) r
extend s a [] b r h c = (h, c)
extend s a (x ∷ xs) b r h c = (h.0, extend s x xs b r h.1 c)

absent : (b : ℕ) (xs : List ℕ) → list_any (eqb b) xs ≡ false → AllByRecursion (λ y. eqb b y ≡ false) xs
absent b [] h = tt
absent b (x ∷ xs) h = ((or_parts (eqb b x) (list_any (eqb b) xs) h).0, absent b xs (or_parts (eqb b x) (list_any (eqb b) xs) h).1)

pub reads_bounded : (n : ℕ) (d : Driver) → IsDriver n d → (r : ℕ) → Contains (reads_now d) r → r < n
reads_bounded n input h r c = absurd (let lt : c.0 < 0 = c.1 in omega arith)
reads_bounded n undriven h r c = absurd (let lt : c.0 < 0 = c.1 in omega arith)
reads_bounded n (equation e) h r c = h.bounded r c
reads_bounded n (register i e) h r c = absurd (let lt : c.0 < 0 = c.1 in omega arith)

module _ (s : System) (sound : IsSystem s) (loop_free : IsLoopFree s) where
  -- what is known of the bits on the way to b
  Way : ℕ → List ℕ → Type 0
  Way b xs = (q : ℕ) → list_any (eqb q) xs ≡ true → (q < s.bits) × ((cs : List ℕ) × IsChain s q cs b)

  way_on : (b r : ℕ) (xs : List ℕ) → b < s.bits → Contains (reads_now (s.driver b)) r → Way b xs → Way r (b ∷ xs)
  unfolding Way
  way_on b r xs lt c way q h =
      elim (or_cases (eqb q b) (list_any (eqb q) xs) h) [
        | inl e ↦ (let P : ℕ → Type 0 = λ x. (x < s.bits) × ((cs : List ℕ) × IsChain s x cs r) in subst P (sym (eqb-true q b e)) (lt, ([], c)))
        | inr e ↦ (let t = way q e in (t.0, (t.1.0 ++ b ∷ [], extend s q t.1.0 b r t.1.1 c)))
      ]

  fresh : (b : ℕ) (xs : List ℕ) → b < s.bits → Way b xs → list_any (eqb b) xs ≡ false
  unfolding Way
  fresh b xs lt way =
      elim (cases_Bool (list_any (eqb b) xs)) [
        | inl e ↦ absurd (let t = way b e in loop_free b t.1.0 lt t.1.1)
        | inr e ↦ e
      ]

  distinct_on : (b : ℕ) (xs : List ℕ) → b < s.bits → Way b xs → IsDistinct eqb xs → IsDistinct eqb (b ∷ xs)
  unfolding IsDistinct
  distinct_on b xs lt way d = (absent b xs (fresh b xs lt way), d)

  short : (b : ℕ) (xs : List ℕ) → b < s.bits → Way b xs → IsDistinct eqb xs → length xs < s.bits
  unfolding Way
  short b xs lt way d = length-le_from_distinct_below (b ∷ xs) s.bits (distinct_on b xs lt way d) (λ q h.
      elim (or_cases (eqb q b) (list_any (eqb q) xs) h) [
        | inl e ↦ (let f : q ≡ b = eqb-true q b e in omega arith)
        | inr e ↦ (way q e).0
      ])

  walk : (k b : ℕ) → b < s.bits → settled s k b ≡ false → (xs : List ℕ) → Way b xs → IsDistinct eqb xs → s.bits ≤ length xs + k → ⊥
  walk zero b lt h xs way d le = (let f = short b xs lt way d in omega arith)
  walk (suc k) b lt h xs way d le =
      let t = some_fails (settled s k) (reads_now (s.driver b)) h in
      let le' : s.bits ≤ length (b ∷ xs) + k = omega arith in
      walk k t.0 (reads_bounded s.bits (s.driver b) (sound b lt) t.0 t.1) t.2 (b ∷ xs)
      (way_on b t.0 xs lt t.1 way) (distinct_on b xs lt way d) le'

  none_yet : (b : ℕ) → Way b []
  unfolding Way
  none_yet b q h = absurd (cc)

  distinct_none : IsDistinct eqb []
  unfolding IsDistinct
  distinct_none = tt

  pub all_settled : (b : ℕ) → b < s.bits → settled s s.bits b ≡ true
  all_settled b lt =
      elim (cases_Bool (settled s s.bits b)) [
        | inl e ↦ e
        | inr e ↦ absurd (let le : s.bits ≤ length {A = ℕ} [] + s.bits = omega arith in walk s.bits b lt e [] (none_yet b) distinct_none le)
      ]

  -- what holds of a bit where it holds of the bits that it reads holds of every bit
  module _ (P : ℕ → Type 0) (each : (b : ℕ) → b < s.bits → ((r : ℕ) → r < s.bits → Reads s b r → P r) → P b) where
    by_steps : (k b : ℕ) → b < s.bits → settled s k b ≡ true → P b
    by_steps zero b lt h = absurd (cc)
    by_steps (suc k) b lt h = each b lt (λ r lr c. by_steps k r lr (passes (settled s k) (reads_now (s.driver b)) h r c))

    pub by_reads : (b : ℕ) → b < s.bits → P b
    by_reads b lt = by_steps s.bits b lt (all_settled b lt)

-- how many of the first n steps leave b unsettled
abbrev pub unsettled : System → ℕ → ℕ → ℕ
unsettled s zero b = 0
unsettled s (suc n) b = cond (settled s n b) 0 1 + unsettled s n b

-- the height of a bit: more than those of the bits that it reads
pub height : System → ℕ → ℕ
height s b = unsettled s (suc s.bits) b

ticks : (x y : Bool) → (x ≡ true → y ≡ true) → cond y 0 1 ≤ cond x 0 1
ticks true true h = omega arith
ticks true false h = absurd (let e : false ≡ true = h refl in cc)
ticks false true h = omega arith
ticks false false h = omega arith

one_behind : (s : System) (a b : ℕ) → Reads s a b → (n : ℕ) → unsettled s n b + 1 ≤ unsettled s (suc n) a
one_behind s a b c zero = omega arith
one_behind s a b c (suc n) =
    let before : unsettled s n b + 1 ≤ unsettled s (suc n) a = one_behind s a b c n in
    let t : cond (settled s n b) 0 1 ≤ cond (settled s (suc n) a) 0 1 =
    ticks (settled s (suc n) a) (settled s n b) (λ h. passes (settled s n) (reads_now (s.driver a)) h b c) in
    omega arith

unsettled_most : (s : System) (n b : ℕ) → unsettled s n b ≤ n
unsettled_most s zero b = omega arith
unsettled_most s (suc n) b =
    let before : unsettled s n b ≤ n = unsettled_most s n b in
    let t : cond (settled s n b) 0 1 ≤ 1 = elim (settled s n b) as (λ x. cond x 0 1 ≤ 1) [ true ↦ omega arith | false ↦ omega arith ] in
    omega arith

module _ (s : System) (sound : IsSystem s) (loop_free : IsLoopFree s) where
  pub height-down : (a b : ℕ) → a < s.bits → Reads s a b → height s b < height s a
  unfolding height
  height-down a b lt c =
      let lb : b < s.bits = reads_bounded s.bits (s.driver a) (sound a lt) b c in
      let at : cond {A = ℕ} (settled s s.bits b) 0 1 ≡ 0 = (let f : Bool → ℕ = λ x. cond x 0 1 in ap f (all_settled s sound loop_free b lb)) in
      let e : unsettled s s.bits b + 1 ≤ unsettled s (suc s.bits) a = one_behind s a b c s.bits in
      omega arith

  pub height-le : (b : ℕ) → b < s.bits → height s b ≤ s.bits
  unfolding height
  height-le b lb =
      let at : cond {A = ℕ} (settled s s.bits b) 0 1 ≡ 0 = (let f : Bool → ℕ = λ x. cond x 0 1 in ap f (all_settled s sound loop_free b lb)) in
      let most : unsettled s s.bits b ≤ s.bits = unsettled_most s s.bits b in
      omega arith

-- a system in which each bit reads bits of lower rank alone has no loop
module _ (s : System) (sound : IsSystem s) (rank : ℕ → ℕ) (down : (a b : ℕ) → a < s.bits → Reads s a b → rank b < rank a) where
  falls : (a : ℕ) (cs : List ℕ) (b : ℕ) → a < s.bits → IsChain s a cs b → rank b < rank a
  falls a [] b lt h = down a b lt h
  falls a (c ∷ cs) b lt h =
      let lc : c < s.bits = reads_bounded s.bits (s.driver a) (sound a lt) c h.0 in
      let first : rank c < rank a = down a c lt h.0 in
      let rest : rank b < rank c = falls c cs b lc h.1 in
      omega arith

  pub free_from_rank : IsLoopFree s
  free_from_rank b cs lt h = (let f : rank b < rank b = falls b cs b lt h in omega arith)
