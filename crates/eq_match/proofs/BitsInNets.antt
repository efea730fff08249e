-- Each bit of a netlist is a place of one net, and has the net's direction and name.
use Rattle.std.proofs.Common.{◌≡◌, ℕ, zero, suc, ◌+◌, ◌-◌, ◌<◌, ◌≤◌, Bool, cond, List, [], ◌∷◌, length, sym, ap, subst, ◌∙◌, inl, inr, arith}
use Rattle.std.proofs.lemmas.Bool.{cases_lt, lt-ltb, le-ltb}
use Rattle.eq_model.specs.Nets.{Net, at_bit}
use Rattle.eq_net.specs.declared.types.NetInfo.{NetInfo}
use Rattle.eq_net.specs.Nets.{net_of, width_of}
use Rattle.eq_net.specs.Net.{bits_of, net_at, nets_of, offset}

module _ {A : Type 0} (otherwise : A) (f : Net → ℕ → A) where
  -- what is asked of bit j of net k
  pub at_place : (nets : List NetInfo) (k j : ℕ) → k < length nets → j < width_of (net_at nets k) →
      at_bit otherwise f (nets_of nets) (offset nets k + j) ≡ f (net_of (net_at nets k)) j
  at_place [] k j lk lj = absurd (omega arith)
  at_place (x ∷ xs) zero j lk lj =
      let zero_is : 0 + j ≡ j = omega arith in
      let P : ℕ → Type 0 = λ b. at_bit otherwise f (nets_of (x ∷ xs)) b ≡ f (net_of x) j in
      subst P (sym zero_is) (ap (λ (b : Bool). cond b (f (net_of x) j) (at_bit otherwise f (nets_of xs) (j - width_of
      x)))
      (lt-ltb j (width_of x) lj))
  at_place (x ∷ xs) (suc k) j lk lj =
      let b = offset (x ∷ xs) (suc k) + j in
      let rest : b - width_of x ≡ offset xs k + j = omega arith in
      ap (λ (t : Bool). cond t (f (net_of x) b) (at_bit otherwise f (nets_of xs) (b - width_of x)))
      (le-ltb b (width_of x) (omega arith))
      ∙ ap (λ (i : ℕ). at_bit otherwise f (nets_of xs) i) rest ∙ at_place xs k j (omega arith) lj

-- the place of bit b
pub record IsPlace (nets : List NetInfo) (b : ℕ) : Type 0 where
  pub net : ℕ
  pub bit : ℕ
  pub net_there : net < length nets
  pub bit_there : bit < width_of (net_at nets net)
  pub is : offset nets net + bit ≡ b

pub place_of : (nets : List NetInfo) (b : ℕ) → b < bits_of nets → IsPlace nets b
place_of [] b lt = absurd (omega arith)
place_of (x ∷ xs) b lt = elim (cases_lt b (width_of x)) [
  | inl less ↦ record { net = 0; bit = b; net_there = omega arith; bit_there = less; is = omega arith }
  | inr more ↦
      let p = place_of xs (b - width_of x) (omega arith) in
      let e = p.is in
      record {
        net = suc p.net;
        bit = p.bit;
        net_there = (let l = p.net_there in omega arith);
        bit_there = p.bit_there;
        is = omega arith;
      }
]

-- the bits of a net end where those of a later net begin
pub ends_before : (nets : List NetInfo) (k m : ℕ) → k < m → k < length nets → offset nets k + width_of (net_at nets k)
    ≤ offset nets m
ends_before [] k m lt lk = absurd (omega arith)
ends_before (x ∷ xs) zero zero lt lk = absurd (omega arith)
ends_before (x ∷ xs) zero (suc m) lt lk = omega arith
ends_before (x ∷ xs) (suc k) zero lt lk = absurd (omega arith)
ends_before (x ∷ xs) (suc k) (suc m) lt lk = (let h = ends_before xs k m (omega arith) (omega arith) in omega arith)

-- bits of one number are one bit
pub one_place : (nets : List NetInfo) (k m i j : ℕ) → k < length nets → m < length nets → i < width_of (net_at nets k) →
    j < width_of (net_at nets m) → offset nets k + i ≡ offset nets m + j → (k ≡ m) × (i ≡ j)
one_place nets k m i j lk lm li lj e = elim (cases_lt k m) [
  | inl less ↦ (let h = ends_before nets k m less lk in absurd (omega arith))
  | inr ge ↦ (elim (cases_lt m k) [
    | inl less ↦ (let h = ends_before nets m k less lm in absurd (omega arith))
    | inr le ↦
        let one : k ≡ m = omega arith in
        let o : offset nets k ≡ offset nets m = ap (λ (n : ℕ). offset nets n) one in
        (one, omega arith)
  ])
]

pub bit_there : (nets : List NetInfo) (k j : ℕ) → k < length nets → j < width_of (net_at nets k) → offset nets k + j <
    bits_of nets
bit_there [] k j lk lj = absurd (omega arith)
bit_there (x ∷ xs) zero j lk lj = omega arith
bit_there (x ∷ xs) (suc k) j lk lj = (let there : offset xs k + j < bits_of xs = bit_there xs k j (omega arith) lj in
    omega arith)
