-- The least mark that is carried from the bits without drivers is the first of them that is missed. What is under each
-- threshold is told of marks and of reads alike, so no order of marks has to be followed.
use Rattle.std.proofs.Common.{◌≡◌, ℕ, zero, suc, ◌<◌, List, [], ◌∷◌, Bool, true, false, cond, ◌&&◌, ◌||◌, ◌==◌, length, slice_index_or, All, Contains, Option, Some, None, refl, arith, sym, ap, ◌∙◌, inl, inr}
use Rattle.std.specs.Option.{option_or}
use Rattle.std.specs.List.{list_any}
use Rattle.std.proofs.lemmas.Bool.{cases_Bool, cases_lt, false≢true, ltb-true}
use Rattle.std.proofs.lemmas.Bool.Decides.{Decides-eqb}
use Rattle.std.proofs.lemmas.List.Elements.{Contains-append_right}
use Rattle.eq_model.specs.System.{IsDriver, IsSystem, reads_ever}
use Rattle.eq_net.specs.declared.types.Driver.{Driver}
use Rattle.eq_net.specs.declared.types.Driver.TheVariants.{Input, Undriven, Expr as WordOf, Reg}
use Rattle.eq_net.specs.Meaning.{table, reads_of, width}
use Rattle.eq_net.specs.Net.{NamesWord, Parts, bits_of, design_of, driver_at, number_of, source_of, system_of, word_at}
use Rattle.eq_net.specs.Numbers.{some_one}
use Rattle.eq_verilog.specs.BitRefusals.{is_undriven}
use Rattle.eq_verilog.specs.Costs.{has_bit}
use Rattle.eq_verilog.specs.Firsts.{first_below, one_below}
use Rattle.eq_marks.specs.Missing.{is_missed}
use Rattle.eq_marks.specs.Ports.{is_output_of}
use Rattle.eq_marks.specs.declared.marks.Way.TheVariants.{Reads}
use Rattle.eq_marks.specs.inner.Carrying.{HasRows, mark_of, rows_mark}
use Rattle.eq_marks.specs.inner.Marks.{is_under, least, mixed_all}
use Rattle.eq_marks.specs.inner.Missing.{missed_at, own_mark, AreUndriven}
use Rattle.eq_marks.specs.inner.Taking.{output_flags, read_mark}
use Rattle.eq_marks.proofs.MarkMeaning.{all_read, lt_true, marked_all, place_of, some_at, under_mark}
use Rattle.eq_marks.proofs.TakingLemmas.{flag_at, one_is_some}

-- ---- truth values

and_left : (a b : Bool) → (a && b) ≡ true → a ≡ true
and_left true b h = refl
and_left false b h = h

and_right : (a b : Bool) → (a && b) ≡ true → b ≡ true
and_right true b h = h
and_right false b h = absurd (false≢true h)

both_true : (a b : Bool) → a ≡ true → b ≡ true → (a && b) ≡ true
both_true true b h k = k
both_true false b h k = h

or_left : (a b : Bool) → a ≡ true → (a || b) ≡ true
or_left true b h = refl
or_left false b h = absurd (false≢true h)

or_right : (a b : Bool) → b ≡ true → (a || b) ≡ true
or_right true b h = refl
or_right false b h = h

-- ---- the first number that passes

none_first : (n : ℕ) (test : ℕ → Bool) → ((m : ℕ) → m < n → test m ≡ false) → first_below n test ≡ None
none_first zero test never = refl
none_first (suc n) test never =
    ap (λ o. option_or o (cond {A = Option ℕ} (test n) (Some n) None)) (none_first n test (λ m lt. never m (omega (arith, lt))))
    ∙ ap (λ t. cond {A = Option ℕ} t (Some n) None) (never n (omega arith))

is_first : (n : ℕ) (test : ℕ → Bool) (a : ℕ) → a < n → test a ≡ true → ((m : ℕ) → m < a → test m ≡ false) →
    first_below n test ≡ Some a
is_first zero test a lt here never = absurd (omega (arith, lt))
is_first (suc n) test a lt here never = elim (cases_lt a n) [
  | inl less ↦
      ap (λ o. option_or o (cond {A = Option ℕ} (test n) (Some n) None)) (is_first n test a less here never)
  | inr more ↦
      let same : a ≡ n = omega (arith, lt, more) in
      ap (λ o. option_or o (cond {A = Option ℕ} (test n) (Some n) None))
      (none_first n test (λ m less. never m (omega (arith, less, same))))
      ∙ ap (λ t. cond {A = Option ℕ} t (Some n) None) (ap test (sym same) ∙ here)
      ∙ ap (λ k. Some k) (sym same)
]

under_more : (t a : ℕ) → is_under t (Some a) ≡ true → a < t
under_more t a h = ltb-true a t h

-- a number that is under each threshold just where one that passes is
pub by_thresholds : (n : ℕ) (test : ℕ → Bool) (o : Option ℕ)
    → ((t : ℕ) → is_under t o ≡ true → (m : ℕ) × (m < n) × (m < t) × (test m ≡ true))
    → ((m : ℕ) → m < n → test m ≡ true → is_under (suc m) o ≡ true)
    → o ≡ first_below n test
by_thresholds n test None sound full = sym (none_first n test (λ m lt. fails m lt (test m) refl))
  where
    fails : (m : ℕ) → m < n → (b : Bool) → test m ≡ b → test m ≡ false
    fails m lt true is = absurd (false≢true (full m lt is))
    fails m lt false is = is
by_thresholds n test (Some a) sound full =
    let found = sound (suc a) (lt_true a (suc a) (omega arith)) in
    let below = found.1 in
    let most = found.2 in
    let here = found.3 in
    let least_one : a < suc found.0 = under_more (suc found.0) a (full found.0 below here) in
    let same : found.0 ≡ a = omega (arith, most, least_one) in
    sym (is_first n test a (omega (arith, below, same)) (ap test (sym same) ∙ here)
    (λ m less. fails m less (omega (arith, less, below, same)) (test m) refl))
  where
    fails : (m : ℕ) → m < a → m < n → (b : Bool) → test m ≡ b → test m ≡ false
    fails m less lt true is = (let more = under_more (suc m) a (full m lt is) in absurd (omega (arith, more, less)))
    fails m less lt false is = is

-- ---- lists of reads

record HasPlace (p : ℕ → Bool) (xs : List ℕ) : Type 0 where
  at : ℕ
  passes : p at ≡ true
  listed : has_bit xs at ≡ true
  inside : Contains xs at

some_place : (p : ℕ → Bool) (xs : List ℕ) → list_any p xs ≡ true → HasPlace p xs
some_place p [] h = absurd (false≢true h)
some_place p (x ∷ xs) h = elim (cases_Bool (p x)) [
  | inl here ↦ record {
    at = x;
    passes = here;
    listed = or_left (x == x) (has_bit xs x) ((Decides-eqb x x).1 refl);
    inside = (0, omega arith, refl);
  }
  | inr other ↦
      let rest = some_place p xs (sym (ap (λ b. b || list_any p xs) other) ∙ h) in
      record {
        at = rest.at;
        passes = rest.passes;
        listed = or_right (x == rest.at) (has_bit xs rest.at) rest.listed;
        inside = Contains-append_right (x ∷ []) xs rest.at rest.inside;
      }
]

any_of_listed : (p : ℕ → Bool) (xs : List ℕ) (m : ℕ) → has_bit xs m ≡ true → p m ≡ true → list_any p xs ≡ true
any_of_listed p [] m listed here = absurd (false≢true listed)
any_of_listed p (x ∷ xs) m listed here = elim (cases_Bool (x == m)) [
  | inl same ↦ or_left (p x) (list_any p xs) (ap p ((Decides-eqb x m).0 same) ∙ here)
  | inr other ↦
      or_right (p x) (list_any p xs)
      (any_of_listed p xs m (sym (ap (λ b. b || has_bit xs m) other) ∙ listed) here)
]

-- ---- the marks of a netlist's parts

module _ (n : Parts) (system : IsSystem (system_of n)) (size : length n.drivers ≡ bits_of n.nets)
    (names : All (NamesWord n.words) n.drivers) (marks : List (Option ℕ)) (are : AreUndriven n.drivers (length n.drivers) marks)
    (rows : List (List (Option ℕ)))
    (has : HasRows Reads (λ m. mark_of marks (number_of n.nets m)) n.words (length n.words) rows)
    (outputs : List Bool) (flags : outputs ≡ output_flags n.nets) where
  abbrev pub asks : ℕ → ℕ → Bool
  asks t b = is_under t (mark_of marks b)

  row_under : (t w j : ℕ) → w < length n.words → j < width (word_at n.words w) →
      is_under t (rows_mark rows w j) ≡ list_any (asks t) (table [] (reads_of (number_of n.nets)) n.words (length n.words) w j)
  row_under t w j lw lj =
      ap (λ (o : Option ℕ). is_under t o) (has.each w j lw lj)
      ∙ all_read (is_under t) refl (under_mark t) (asks t) (λ m. mark_of marks (number_of n.nets m)) (number_of n.nets)
      (λ m. refl) n.words (length n.words) w j

  driver_under : (t : ℕ) (d : Driver) → NamesWord n.words d →
      is_under t (read_mark (rows_mark rows) d) ≡ list_any (asks t) (reads_ever (source_of n.nets n.words d))
  driver_under t Input there = refl
  driver_under t Undriven there = refl
  driver_under t (WordOf w j) there = row_under t w j there.0 there.1
  driver_under t (Reg init w j) there = row_under t w j there.0 there.1

  reads_inside : (d : Driver) → IsDriver (bits_of n.nets) (source_of n.nets n.words d) → (b : ℕ) →
      Contains (reads_ever (source_of n.nets n.words d)) b → b < bits_of n.nets
  reads_inside Input is b in_list = absurd (let e = in_list.1 in omega (arith, e))
  reads_inside Undriven is b in_list = absurd (let e = in_list.1 in omega (arith, e))
  reads_inside (WordOf w j) is b in_list = is.bounded b in_list
  reads_inside (Reg init w j) is b in_list = is.bounded b in_list

  -- a mark says that a bit has no driver
  asked_of : (t b : ℕ) (d : Driver) → is_under t (own_mark d b) ≡ true → (is_undriven (source_of n.nets n.words d) ≡ true) × (b < t)
  asked_of t b Input h = absurd (false≢true h)
  asked_of t b Undriven h = (refl, ltb-true b t h)
  asked_of t b (WordOf w j) h = absurd (false≢true h)
  asked_of t b (Reg init w j) h = absurd (false≢true h)

  asked_back : (t b : ℕ) (d : Driver) → is_undriven (source_of n.nets n.words d) ≡ true → b < t → is_under t (own_mark d b) ≡ true
  asked_back t b Input h less = absurd (false≢true h)
  asked_back t b Undriven h less = lt_true b t less
  asked_back t b (WordOf w j) h less = absurd (false≢true h)
  asked_back t b (Reg init w j) h less = absurd (false≢true h)

  undriven_under : (t b : ℕ) → b < bits_of n.nets → asks t b ≡ true →
      (is_undriven ((system_of n).driver b) ≡ true) × (b < t)
  undriven_under t b lt h =
      asked_of t b (driver_at n b) (sym (ap (λ (o : Option ℕ). is_under t o) (are.each b (omega (arith, lt, size)))) ∙ h)

  under_undriven : (t b : ℕ) → b < bits_of n.nets → is_undriven ((system_of n).driver b) ≡ true → b < t →
      asks t b ≡ true
  under_undriven t b lt h less =
      ap (λ (o : Option ℕ). is_under t o) (are.each b (omega (arith, lt, size)))
      ∙ asked_back t b (driver_at n b) h less

  abbrev pub found : ℕ → Option ℕ
  found = missed_at n.drivers outputs marks (rows_mark rows)

  abbrev pub is_out : ℕ → Bool
  is_out b = slice_index_or outputs b false

  out_same : (b : ℕ) → b < bits_of n.nets → is_out b ≡ is_output_of (design_of n) b
  out_same b lt = ap (λ (os : List Bool). slice_index_or os b false) flags ∙ flag_at n.nets b lt

  abbrev pub missed : ℕ → Bool
  missed = is_missed (design_of n)

  abbrev pub reads_at : ℕ → List ℕ
  reads_at c = reads_ever ((system_of n).driver c)

  abbrev pub Missed : ℕ → Type 0
  Missed t = (m : ℕ) × (m < bits_of n.nets) × (m < t) × (missed m ≡ true)

  -- what is read is missed
  read_missed : (t c : ℕ) → c < bits_of n.nets → is_under t (read_mark (rows_mark rows) (driver_at n c)) ≡ true → Missed t
  read_missed t c lt h =
      let inside : c < length n.drivers = omega (arith, lt, size) in
      let place = some_place (asks t) (reads_at c)
      (sym (driver_under t (driver_at n c) (names c Undriven inside)) ∙ h) in
      let m = place.at in
      let below = reads_inside (driver_at n c) (system c lt) m place.inside in
      let un = undriven_under t m below place.passes in (
        m,
        below,
        un.1,
        both_true (is_undriven ((system_of n).driver m)) _ un.0
            (or_right (is_output_of (design_of n) m) _
            (sym (one_is_some (bits_of n.nets) (λ k. has_bit (reads_at k) m))
            ∙ some_at (bits_of n.nets) (λ k. has_bit (reads_at k) m) c lt place.listed)),
      )

  least_under : (t : ℕ) (x y : Option ℕ) → is_under t (least x y) ≡ true → (is_under t x || is_under t y) ≡ true
  least_under t x y h = sym (under_mark t x y) ∙ h

  found_missed : (t c : ℕ) → c < bits_of n.nets → is_under t (found c) ≡ true → Missed t
  found_missed t c lt h = elim (cases_Bool (is_out c)) [
    | inl out ↦
        let read = read_mark (rows_mark rows) (driver_at n c) in
        let either = least_under t (mark_of marks c) read
        (sym (ap (λ b. is_under t (cond {A = Option ℕ} b (least (mark_of marks c) read) read)) out) ∙ h) in
        elim (cases_Bool (asks t c)) [
          | inl own ↦
              let un = undriven_under t c lt own in (
                c,
                lt,
                un.1,
                both_true (is_undriven ((system_of n).driver c)) _ un.0
                    (or_left (is_output_of (design_of n) c) _ (sym (out_same c lt) ∙ out)),
              )
          | inr other ↦ read_missed t c lt (sym (ap (λ b. b || is_under t read) other) ∙ either)
        ]
    | inr inner ↦
        let read = read_mark (rows_mark rows) (driver_at n c) in
        read_missed t c lt
        (sym (ap (λ b. is_under t (cond {A = Option ℕ} b (least (mark_of marks c) read) read)) inner) ∙ h)
  ]

  -- what is missed is found
  read_found : (t c : ℕ) → c < bits_of n.nets → is_under t (read_mark (rows_mark rows) (driver_at n c)) ≡ true →
      is_under t (found c) ≡ true
  read_found t c lt h = elim (cases_Bool (is_out c)) [
    | inl out ↦
        let read = read_mark (rows_mark rows) (driver_at n c) in
        ap (λ b. is_under t (cond {A = Option ℕ} b (least (mark_of marks c) read) read)) out
        ∙ under_mark t (mark_of marks c) read ∙ or_right (asks t c) (is_under t read) h
    | inr inner ↦
        let read = read_mark (rows_mark rows) (driver_at n c) in
        ap (λ b. is_under t (cond {A = Option ℕ} b (least (mark_of marks c) read) read)) inner ∙ h
  ]

  out_found : (t c : ℕ) → is_out c ≡ true → asks t c ≡ true → is_under t (found c) ≡ true
  out_found t c out h =
      let read = read_mark (rows_mark rows) (driver_at n c) in
      ap (λ b. is_under t (cond {A = Option ℕ} b (least (mark_of marks c) read) read)) out
      ∙ under_mark t (mark_of marks c) read ∙ or_left (asks t c) (is_under t read) h

  some_found : (m : ℕ) → m < bits_of n.nets → missed m ≡ true →
      some_one (length n.drivers) (λ c. is_under (suc m) (found c)) ≡ true
  some_found m lt h =
      let un = and_left (is_undriven ((system_of n).driver m)) _ h in
      let needed = and_right (is_undriven ((system_of n).driver m)) _ h in
      let own = under_undriven (suc m) m lt un (omega arith) in
      elim (cases_Bool (is_output_of (design_of n) m)) [
        | inl out ↦
            some_at (length n.drivers) (λ c. is_under (suc m) (found c)) m (omega (arith, lt, size))
            (out_found (suc m) m (out_same m lt ∙ out) own)
        | inr inner ↦
            let read = sym (ap (λ b. b || one_below (bits_of n.nets) (λ k. has_bit (reads_at k) m)) inner) ∙ needed in
            let place = place_of (bits_of n.nets) (λ k. has_bit (reads_at k) m)
            (one_is_some (bits_of n.nets) (λ k. has_bit (reads_at k) m) ∙ read) in
            let c = place.0 in
            let lc = place.1 in
            let inside : c < length n.drivers = omega (arith, lc, size) in
            some_at (length n.drivers) (λ k. is_under (suc m) (found k)) c inside
            (read_found (suc m) c lc
            (driver_under (suc m) (driver_at n c) (names c Undriven inside)
            ∙ any_of_listed (asks (suc m)) (reads_at c) m place.2 own))
      ]

  pub first_is_missed : mixed_all Reads (length n.drivers) found ≡ first_below (bits_of n.nets) missed
  first_is_missed =
      by_thresholds (bits_of n.nets) missed (mixed_all Reads (length n.drivers) found)
      (λ t h.
      let place = place_of (length n.drivers) (λ c. is_under t (found c))
      (sym (marked_all (is_under t) refl (under_mark t) (length n.drivers) found) ∙ h) in
      let lc = place.1 in
      found_missed t place.0 (omega (arith, lc, size)) place.2)
      (λ m lt h.
      marked_all (is_under (suc m)) refl (under_mark (suc m)) (length n.drivers) found ∙ some_found m lt h)
