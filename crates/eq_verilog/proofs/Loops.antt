-- What is on a loop and what isn't, seen by computing.
use Rattle.std.proofs.Common.{◌≡◌, ℕ, zero, suc, ◌<◌, Bool, true, false, not, nat_lt, ◌&&◌, ◌==◌, List, [], ◌∷◌, Contains, arith, sym, ap, subst, ◌∙◌, inl, inr}
use Rattle.std.specs.List.{list_all}
use Rattle.std.proofs.lemmas.Bool.{and_parts, or_cases, cases_lt, ltb-true}
use Rattle.std.proofs.lemmas.Bool.Decides.{Decides-eqb}
use Rattle.std.proofs.lemmas.List.Sums.{AllPass-from_list_all}
use Rattle.eq_model.specs.System.{System, reads_now, Reads, IsChain, IsLoopFree}
use Rattle.eq_verilog.specs.Costs.{has_bit}
use Rattle.eq_verilog.specs.Refusals.{IsOnLoop, IsFirstOnLoop}

-- each number below n passes
abbrev pub all_below : ℕ → (ℕ → Bool) → Bool
all_below zero test = true
all_below (suc n) test = test n && all_below n test

at_all : (n : ℕ) (test : ℕ → Bool) → all_below n test ≡ true → (b : ℕ) → b < n → test b ≡ true
at_all zero test h b lt = absurd (omega arith)
at_all (suc n) test h b lt =
    let parts = and_parts (test n) (all_below n test) h in
    elim (cases_lt b n) [
      | inl less ↦ at_all n test parts.1 b less
      | inr more ↦ (let e : n ≡ b = omega arith in let P : ℕ → Type 0 = λ k. test k ≡ true in subst P e parts.0)
    ]

passes : (p : ℕ → Bool) (xs : List ℕ) (x : ℕ) → list_all p xs ≡ true → Contains xs x → p x ≡ true
passes p xs x h c = (let P : ℕ → Type 0 = λ y. p y ≡ true in subst P c.2 (AllPass-from_list_all p xs h c.0 x c.1))

at_member : (p : ℕ → Bool) (xs : List ℕ) (x : ℕ) → list_all p xs ≡ true → has_bit xs x ≡ true → p x ≡ true
at_member p [] x h e = absurd (cc)
at_member p (y ∷ ys) x h e =
    let parts = and_parts (p y) (list_all p ys) h in
    elim (or_cases (y == x) (has_bit ys x) e) [
      | inl same ↦ (
          let k : y ≡ x = (Decides-eqb y x).0 same in
          let P : ℕ → Type 0 = λ z. p z ≡ true in
          subst P k parts.0)
      | inr rest ↦ at_member p ys x parts.1 rest
    ]

-- bit b reads bits of the list alone
abbrev pub reads_in : System → List ℕ → ℕ → Bool
reads_in s bs b = list_all (has_bit bs) (reads_now (s.driver b))

module _ (s : System) (bs : List ℕ) (closed : list_all (reads_in s bs) bs ≡ true) where
  stays : (cs : List ℕ) (a b : ℕ) → reads_in s bs a ≡ true → IsChain s a cs b → has_bit bs b ≡ true
  stays [] a b r chain = passes (has_bit bs) (reads_now (s.driver a)) b r chain
  stays (c ∷ cs) a b r chain =
      let inside : has_bit bs c ≡ true = passes (has_bit bs) (reads_now (s.driver a)) c r chain.0 in
      stays cs c b (at_member (reads_in s bs) bs c closed inside) chain.1

  -- what leads to the list, and isn't in it, is on no loop
  off_loop : (b : ℕ) → (reads_in s bs b && not (has_bit bs b)) ≡ true → IsOnLoop s b → ⊥
  off_loop b h loop =
      let parts = and_parts (reads_in s bs b) (not (has_bit bs b)) h in
      let inside : has_bit bs b ≡ true = stays loop.0 b b parts.0 loop.1 in
      let out : not (has_bit bs b) ≡ true = parts.1 in
      let clash : false ≡ true = ap not (sym inside) ∙ out in
      absurd (cc)

  -- b is on a loop, and all bits before it lead to the list without being in it
  pub first_on_loop : (b : ℕ) → b < s.bits → IsOnLoop s b →
      all_below b (λ c. reads_in s bs c && not (has_bit bs c)) ≡ true → IsFirstOnLoop s b
  first_on_loop b lt loop before = record {
    bound = lt;
    loop = loop;
    first = λ c less. off_loop c (at_all b (λ c. reads_in s bs c && not (has_bit bs c)) before c less);
  }

-- each bit reads bits of the system with smaller ranks
abbrev pub falls_to : System → (ℕ → ℕ) → ℕ → ℕ → Bool
falls_to s rank b r = nat_lt r s.bits && nat_lt (rank r) (rank b)

abbrev pub falls_at : System → (ℕ → ℕ) → ℕ → Bool
falls_at s rank b = list_all (falls_to s rank b) (reads_now (s.driver b))

abbrev pub ranked : System → (ℕ → ℕ) → Bool
ranked s rank = all_below s.bits (falls_at s rank)

module _ (s : System) (rank : ℕ → ℕ) (falling : ranked s rank ≡ true) where
  step : (b r : ℕ) → b < s.bits → Reads s b r → (r < s.bits) × (rank r < rank b)
  step b r lt c =
      let all = at_all s.bits (falls_at s rank) falling b lt in
      let one = passes (falls_to s rank b) (reads_now (s.driver b)) r all c in
      let parts = and_parts (nat_lt r s.bits) (nat_lt (rank r) (rank b)) one in
      (ltb-true r s.bits parts.0, ltb-true (rank r) (rank b) parts.1)

  falls : (cs : List ℕ) (a b : ℕ) → a < s.bits → IsChain s a cs b → rank b < rank a
  falls [] a b lt chain = (step a b lt chain).1
  falls (c ∷ cs) a b lt chain =
      let one = step a c lt chain.0 in
      let less : rank c < rank a = one.1 in
      let rest : rank b < rank c = falls cs c b one.0 chain.1 in
      omega arith

  -- so no chain of reads returns
  pub free : IsLoopFree s
  free b cs lt chain = (let less : rank b < rank b = falls cs b b lt chain in omega arith)
