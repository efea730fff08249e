-- Where the bits of nets begin.
use Rattle.std.proofs.Common.{◌≡◌, ℕ, zero, suc, ◌+◌, ◌<◌, ◌≤◌, List, [], ◌∷◌, ◌++◌, slice_index_or, length, refl, arith, ap, subst, ◌∙◌, inl, inr, add-one}
use Rattle.std.proofs.Math.ListN.{get_or-append}
use Rattle.std.proofs.Math.Seq.{get_or-append_seam}
use Rattle.std.proofs.lemmas.Bool.{cases_lt}
use Rattle.eq_net.specs.declared.types.NetInfo.{NetInfo}
use Rattle.eq_net.specs.Nets.{width_of}
use Rattle.eq_net.specs.Net.{bits_of, net_at, offset}

pub bit_there : (nets : List NetInfo) (k j : ℕ) → k < length nets → j < width_of (net_at nets k) → offset nets k + j < bits_of nets
bit_there [] k j lk lj = absurd (omega arith)
bit_there (n ∷ ns) zero j lk lj = omega arith
bit_there (n ∷ ns) (suc k) j lk lj = (let there : offset ns k + j < bits_of ns = bit_there ns k j (omega arith) lj in omega arith)

pub offset_zero : (nets : List NetInfo) → offset nets 0 ≡ 0
offset_zero [] = refl
offset_zero (n ∷ ns) = refl

offset_suc : (nets : List NetInfo) (k : ℕ) (n : NetInfo) → k < length nets → n ≡ slice_index_or nets k n → offset nets (suc k) ≡ offset nets k + width_of n
offset_suc [] k n lt e = absurd (omega arith)
offset_suc (x ∷ xs) zero n lt e = (let f = offset_zero xs in let g = ap width_of e in omega arith)
offset_suc (x ∷ xs) (suc k) n lt e = (let h = offset_suc xs k n (omega arith) e in omega arith)

-- the next net begins where a net ends
pub offset_next : (nets : List NetInfo) (k : ℕ) (n : NetInfo) → k < length nets → n ≡ slice_index_or nets k n → offset nets (k + 1) ≡ offset nets k + width_of n
offset_next nets k n lt e = rw (add-one k) (offset_suc nets k n lt e)

pub offset_le : (nets : List NetInfo) (k : ℕ) → offset nets k ≤ bits_of nets
offset_le [] k = omega arith
offset_le (x ∷ xs) zero = omega arith
offset_le (x ∷ xs) (suc k) = (let h = offset_le xs k in omega arith)

-- what holds of the numbers so far and of one more holds of all of them
pub one_more : (f : ℕ → ℕ) (xs ys : List ℕ) (x : ℕ) (i : ℕ) → length xs ≡ i → ys ≡ xs ++ x ∷ [] →
    ((k : ℕ) → k < i → slice_index_or xs k 0 ≡ f k) → x ≡ f i → (k : ℕ) → k < i + 1 → slice_index_or ys k 0 ≡ f k
one_more f xs ys x i size is before here k lk =
    ap (λ (zs : List ℕ). slice_index_or zs k 0) is ∙ (elim (cases_lt k i) [
      | inl less ↦ get_or-append xs (x ∷ []) 0 k (omega arith) ∙ before k less
      | inr more ↦ (
          let same : length xs ≡ k = omega arith in
          let P : ℕ → Type 0 = λ n. slice_index_or (xs ++ x ∷ []) n 0 ≡ f n in
          subst P same (get_or-append_seam xs x [] 0 ∙ here ∙ ap f (let s : i ≡ length xs = omega arith in s)))
    ])
