-- Chains of steps, and tables of reads.
use Rattle.std.proofs.Common.{◌≡◌, ℕ, zero, suc, ◌<◌, List, [], ◌∷◌, cond, slice_index_or, All, refl, arith, sym, ap, subst, ◌∙◌, inl, inr}
use Rattle.std.proofs.lemmas.Bool.Decides.{eqb_tells}
use Rattle.std.proofs.lemmas.List.Elements.{All-head, All-tail}
use Rattle.eq_net.specs.Meaning.{table}
use Rattle.eq_net.specs.Net.{word_at}
use Rattle.eq_net.specs.Tree.{Tree}
use Rattle.eq_reads.specs.inner.Chains.{Chain}

-- some chain leads from a to b
abbrev pub Way : (ℕ → ℕ → Type 0) → ℕ → ℕ → Type 0
Way J a b = (n : ℕ) × Chain J n a b

module _ (J : ℕ → ℕ → Type 0) where
  pub way_none : (a : ℕ) → Way J a a
  way_none a = (0, refl)

  way_more : (a b c : ℕ) → Way J a b → J b c → Way J a c
  way_more a b c w j = (suc w.0, (b, w.1, j))

  pub way_one : (a b : ℕ) → J a b → Way J a b
  way_one a b j = way_more a a b (way_none a) j

  chain_then : (n a b c : ℕ) → Way J a b → Chain J n b c → Way J a c
  chain_then zero a b c w is = subst (λ (x : ℕ). Way J a x) is w
  chain_then (suc n) a b c w (d, chain, j) = way_more a d c (chain_then n a b d w chain) j

  pub way_then : (a b c : ℕ) → Way J a b → Way J b c → Way J a c
  way_then a b c w v = chain_then v.0 a b c w v.1

  pub way_from : (a b c : ℕ) → J a b → Way J b c → Way J a c
  way_from a b c j w = way_then a b c (way_one a b j) w

-- a word's entry in a table is what its tree makes of the entries before it
pub table_word : (f : (ℕ → ℕ → List ℕ) → Tree → ℕ → List ℕ) (words : List Tree) (k w j : ℕ) → w < k →
    table {A = List ℕ} [] f words k w j ≡ f (table {A = List ℕ} [] f words w) (word_at words w) j
table_word f words zero w j lt = absurd (omega arith)
table_word f words (suc k) w j lt = elim (eqb_tells w k) [
  | inl same ↦ ap (λ t. cond t (f (table {A = List ℕ} [] f words k) (word_at words k) j)
      (table {A = List ℕ} [] f words k w j)) same.0
      ∙ ap (λ (v : ℕ). f (table {A = List ℕ} [] f words v) (word_at words v) j) (sym same.1)
  | inr other ↦ (let ne = other.1 in ap (λ t. cond t (f (table {A = List ℕ} [] f words k) (word_at words k) j)
      (table {A = List ℕ} [] f words k w j)) other.0
      ∙ table_word f words k w j (omega arith))
]

-- what holds of all and of what stands where there is none holds at each place
pub all_at : {A : Type 0} (P : A → Type 0) (xs : List A) (d : A) → All P xs → P d → (k : ℕ) → P (slice_index_or xs k d)
all_at P [] d all at k = at
all_at P (x ∷ xs) d all at zero = All-head P x xs all
all_at P (x ∷ xs) d all at (suc k) = all_at P xs d (All-tail P x xs all) at k
