-- Flags of nets, spread over the nets' bits.
use Rattle.std.proofs.Common.{◌≡◌, ℕ, zero, suc, ◌+◌, ◌-◌, ◌<◌, Bool, false, cond, List, [], ◌∷◌, ◌++◌, drop, map, length, length-append, slice_index_or, refl, arith, sym, ap, ◌∙◌, inl, inr}
use Rattle.std.specs.Prelude.{replicate}
use Rattle.std.proofs.Math.ListN.{get_or-append}
use Rattle.std.proofs.lemmas.Bool.{cases_lt, le-ltb, lt-ltb}
use Rattle.std.proofs.lemmas.List.{get_or-append_right, length-map, length-replicate}
use Rattle.eq_model.specs.Nets.{Net, at_bit, net_width, total_width}
use Rattle.eq_net.specs.declared.types.NetInfo.{NetInfo}
use Rattle.eq_net.specs.Nets.{net_of, width_of}
use Rattle.eq_drivers.specs.inner.Flagging.{spread}
use Rattle.eq_drivers.proofs.Placed.{mapped_at}

pub spread_length : (g : Net → Bool) (nets : List Net) → length (spread nets (map g nets)) ≡ total_width nets
spread_length g [] = refl
spread_length g (n ∷ ns) =
    (let a = length-append (replicate (net_width n) (g n)) (spread ns (map g ns)) in
    let r = length-replicate (net_width n) (g n) in
    let rest = spread_length g ns in
    omega (arith, a, r, rest))

replicated : (n b : ℕ) (t : Bool) → b < n → slice_index_or (replicate n t) b false ≡ t
replicated zero b t lt = absurd (omega (arith, lt))
replicated (suc n) zero t lt = refl
replicated (suc n) (suc b) t lt = replicated n b t (omega (arith, lt))

-- the flag of a bit is that of its net
pub spread_at : (g : Net → Bool) (nets : List Net) (b : ℕ) → b < total_width nets →
    slice_index_or (spread nets (map g nets)) b false ≡ at_bit false (λ n p. g n) nets b
spread_at g [] b lt = absurd (omega (arith, lt))
spread_at g (n ∷ ns) b lt =
    let w = net_width n in
    let front = replicate w (g n) in
    let rest = spread ns (map g ns) in
    let size = length-replicate w (g n) in
    let later = at_bit false (λ m p. g m) ns (b - w) in
    elim (cases_lt b w) [
      | inl less ↦
          get_or-append front rest false b (omega (arith, size, less)) ∙ replicated w b (g n) less
          ∙ sym (ap (λ t. cond t (g n) later) (lt-ltb b w less))
      | inr more ↦
          get_or-append_right front rest w b false size more
          ∙ spread_at g ns (b - w) (omega (arith, lt, more))
          ∙ sym (ap (λ t. cond t (g n) later) (le-ltb b w more))
    ]

-- ---- net by net

spread_from : (nets : List Net) (flags : List Bool) (k : ℕ) (n : Net) (t : Bool) → k < length nets → k < length flags →
    slice_index_or nets k n ≡ n → slice_index_or flags k false ≡ t → spread (drop k nets) (drop k flags) ≡
    replicate (net_width n) t ++ spread (drop (suc k) nets) (drop (suc k) flags)
spread_from [] flags k n t a b at is = absurd (omega (arith, a))
spread_from (m ∷ ns) [] k n t a b at is = absurd (omega (arith, b))
spread_from (m ∷ ns) (u ∷ us) zero n t a b at is =
    ap (λ x. replicate (net_width x) u ++ spread ns us) at
    ∙ ap (λ x. replicate (net_width n) x ++ spread ns us) is
spread_from (m ∷ ns) (u ∷ us) (suc k) n t a b at is =
    spread_from ns us k n t (omega (arith, a)) (omega (arith, b)) at is

-- the flags of the nets from a place on are those of one net and of the nets behind it
pub spread_next : (nets : List Net) (flags : List Bool) (k : ℕ) (n : Net) (t : Bool) → k < length nets →
    k < length flags → slice_index_or nets k n ≡ n → slice_index_or flags k false ≡ t →
    spread (drop k nets) (drop k flags) ≡
    replicate (net_width n) t ++ spread (drop (k + 1) nets) (drop (k + 1) flags)
spread_next nets flags k n t a b at is =
    let next : k + 1 ≡ suc k = omega arith in
    spread_from nets flags k n t a b at is
    ∙ ap (λ i. replicate (net_width n) t ++ spread (drop i nets) (drop i flags)) (sym next)

-- the same of nets as the code has them
pub spread_info : (nets : List NetInfo) (flags : List Bool) (k : ℕ) (n : NetInfo) (t : Bool) → k < length nets →
    k < length flags → n ≡ slice_index_or nets k n → slice_index_or flags k false ≡ t →
    spread (drop k (map net_of nets)) (drop k flags) ≡
    replicate (width_of n) t ++ spread (drop (k + 1) (map net_of nets)) (drop (k + 1) flags)
spread_info nets flags k n t a b at is =
    let size = length-map nets net_of in
    spread_next (map net_of nets) flags k (net_of n) t (omega (arith, a, size)) b
    (mapped_at nets k n at) is
