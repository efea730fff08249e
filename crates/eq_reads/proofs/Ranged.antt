-- What ranges of positions of a word read, from what ranges of its operands read.
use Rattle.std.proofs.Common.{◌≡◌, ℕ, zero, suc, ◌+◌, ◌-◌, ◌<◌, ◌≤◌, ◌⊎◌, ◌==◌, List, [], ◌++◌, Bool, false, cond, Contains, arith, subst, inl, inr}
use Rattle.std.proofs.lemmas.Bool.{cases_lt}
use Rattle.std.proofs.lemmas.Bool.Decides.{eqb_tells}
use Rattle.std.proofs.lemmas.List.Elements.{Contains-append_cases, Contains-append_left, Contains-append_right}
use Rattle.eq_net.specs.Operators.{Reads, all_reads, one_read, reads_from}
use Rattle.eq_reads.specs.inner.Reading.{ReadIn}

-- no list has less than nothing
pub none_read : (b : ℕ) → ¬ Contains [] b
none_read b (k, lt, e) = absurd (omega arith)

pub wider : (r : Reads) (l h k m b : ℕ) → k ≤ l → h ≤ m → ReadIn r l h b → ReadIn r k m b
wider r l h k m b le he i = (let x = i.from_low in let y = i.to_high in record { position = i.position; from_low = omega arith; to_high = omega arith; reads = i.reads })

-- all that the lowest bits read
pub all_in : (n : ℕ) (r : Reads) (b : ℕ) → Contains (all_reads n r) b → ReadIn r 0 n b
all_in zero r b c = absurd (none_read b c)
all_in (suc n) r b c = elim (Contains-append_cases (all_reads n r) (r n) b c) [
  | inl before ↦ wider r 0 n 0 (suc n) b (omega arith) (omega arith) (all_in n r b before)
  | inr last ↦ record { position = n; from_low = omega arith; to_high = omega arith; reads = last }
]

pub in_all : (n : ℕ) (r : Reads) (b : ℕ) → ReadIn r 0 n b → Contains (all_reads n r) b
in_all zero r b i = (let h = i.to_high in absurd (omega arith))
in_all (suc n) r b i = elim (cases_lt i.position n) [
  | inl less ↦ Contains-append_left (all_reads n r) (r n) b (in_all n r b (record { position = i.position; from_low = omega arith; to_high = less; reads = i.reads }))
  | inr more ↦ (let h = i.to_high in let at : i.position ≡ n = omega arith in
      Contains-append_right (all_reads n r) (r n) b (subst (λ (k : ℕ). Contains (r k) b) at i.reads))
]

-- ---- the same of the two parts of what is read
module _ (r q : Reads) (l h b : ℕ) where
  pub parts_in : ReadIn (λ j. r j ++ q j) l h b → ReadIn r l h b ⊎ ReadIn q l h b
  parts_in i = elim (Contains-append_cases (r i.position) (q i.position) b i.reads) [
    | inl left ↦ inl (record { position = i.position; from_low = i.from_low; to_high = i.to_high; reads = left })
    | inr right ↦ inr (record { position = i.position; from_low = i.from_low; to_high = i.to_high; reads = right })
  ]

  pub in_left : ReadIn r l h b → ReadIn (λ j. r j ++ q j) l h b
  in_left i = record { position = i.position; from_low = i.from_low; to_high = i.to_high; reads = Contains-append_left (r i.position) (q i.position) b i.reads }

  pub in_right : ReadIn q l h b → ReadIn (λ j. r j ++ q j) l h b
  in_right i = record { position = i.position; from_low = i.from_low; to_high = i.to_high; reads = Contains-append_right (r i.position) (q i.position) b i.reads }

-- ---- positions that read all up to themselves, all from themselves, and all
module _ (r : Reads) where
  pub upto_in : (l h b : ℕ) → ReadIn (λ j. all_reads (suc j) r) l h b → ReadIn r 0 h b
  upto_in l h b i = (let t = i.to_high in wider r 0 (suc i.position) 0 h b (omega arith) (omega arith) (all_in (suc i.position) r b i.reads))

  pub in_upto : (l h b : ℕ) → l < h → ReadIn r 0 h b → ReadIn (λ j. all_reads (suc j) r) l h b
  in_upto l zero b lt i = absurd (omega arith)
  in_upto l (suc h) b lt i = record { position = h; from_low = omega arith; to_high = omega arith; reads = in_all (suc h) r b i }

  pub from_in : (m l h b : ℕ) → ReadIn (λ j. reads_from j (m - j) r) l h b → ReadIn r l m b
  from_in m l h b i =
      let d = all_in (m - i.position) (λ k. r (i.position + k)) b i.reads in
      let x = i.from_low in
      let y = d.to_high in
      record { position = i.position + d.position; from_low = omega arith; to_high = omega arith; reads = d.reads }

  pub in_from : (m l h b : ℕ) → l < h → ReadIn r l m b → ReadIn (λ j. reads_from j (m - j) r) l h b
  in_from m l h b lt i =
      let x = i.from_low in
      let y = i.to_high in
      let at : i.position ≡ l + (i.position - l) = omega arith in
      record {
        position = l;
        from_low = omega arith;
        to_high = lt;
        reads = in_all (m - l) (λ k. r (l + k)) b (record {
          position = i.position - l;
          from_low = omega arith;
          to_high = omega arith;
          reads = subst (λ (k : ℕ). Contains (r k) b) at i.reads;
        });
      }

  pub whole_in : (n l h b : ℕ) → ReadIn (λ j. all_reads n r) l h b → ReadIn r 0 n b
  whole_in n l h b i = all_in n r b i.reads

  pub in_whole : (n l h b : ℕ) → l < h → ReadIn r 0 n b → ReadIn (λ j. all_reads n r) l h b
  in_whole n l h b lt i = record { position = l; from_low = omega arith; to_high = lt; reads = in_all n r b i }

-- ---- one bit

pub not_zero : (k : ℕ) → (suc k == 0) ≡ false
not_zero k = elim (eqb_tells (suc k) 0) [
  | inl same ↦ (let e = same.1 in absurd (omega arith))
  | inr other ↦ other.0
]

none_above : (rs : List ℕ) (k b : ℕ) → ¬ Contains (one_read rs (suc k)) b
none_above rs k b c = none_read b (subst (λ (t : Bool). Contains (cond t rs []) b) (not_zero k) c)

above : (rs : List ℕ) (l b k : ℕ) → suc l ≤ k → ¬ Contains (one_read rs k) b
above rs l b zero le c = absurd (omega arith)
above rs l b (suc k) le c = none_above rs k b c

pub one_in : (rs : List ℕ) (l h b : ℕ) → ¬ ReadIn (one_read rs) (suc l) h b
one_in rs l h b i = above rs l b i.position i.from_low i.reads

lowest : (rs : List ℕ) (b k : ℕ) → Contains (one_read rs k) b → Contains rs b
lowest rs b zero c = c
lowest rs b (suc k) c = absurd (none_above rs k b c)

pub lowest_in : (rs : List ℕ) (h b : ℕ) → ReadIn (one_read rs) 0 h b → Contains rs b
lowest_in rs h b i = lowest rs b i.position i.reads

pub in_lowest : (rs : List ℕ) (h b : ℕ) → 0 < h → Contains rs b → ReadIn (one_read rs) 0 h b
in_lowest rs h b lt c = record { position = 0; from_low = omega arith; to_high = lt; reads = c }
