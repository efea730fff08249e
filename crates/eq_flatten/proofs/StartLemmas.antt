-- Where the bits of nets begin, net by net.
use Rattle.std.proofs.Common.{◌≡◌, ℕ, zero, suc, ◌+◌, ◌<◌, List, [], ◌∷◌, ◌++◌, length, map, slice_index_or, refl, arith, sym, ap, subst, ◌∙◌}
use Rattle.eq_model.specs.Nets.{Net, first_bit, total_width}
use Rattle.eq_net.specs.declared.types.NetInfo.{NetInfo}
use Rattle.eq_net.specs.Net.{bits_of, offset}
use Rattle.eq_net.specs.Nets.{net_of, width_of}
use Rattle.eq_flatten.specs.Equating.{AreStarts}
use Rattle.eq_flatten.specs.Forms.{numbered}
use Rattle.eq_flatten.proofs.Listing.{numbered_length, numbered_or}

first_zero : (ns : List Net) → first_bit ns 0 ≡ 0
first_zero [] = refl
first_zero (n ∷ ns) = refl

first_next : (nets : List NetInfo) (k : ℕ) (x : NetInfo) → k < length nets → x ≡ slice_index_or nets k x →
    first_bit (map net_of nets) (suc k) ≡ first_bit (map net_of nets) k + width_of x
first_next [] k x inside is = absurd (omega (arith, inside))
first_next (y ∷ ys) zero x inside is =
    let none = first_zero (map net_of ys) in
    let same : width_of x ≡ width_of y = ap (λ (z : NetInfo). width_of z) is in
    omega (arith, none, same)
first_next (y ∷ ys) (suc k) x inside is =
    let h = first_next ys k x (omega (arith, inside)) is in
    omega (arith, h)

first_end : (nets : List NetInfo) → first_bit (map net_of nets) (length nets) ≡ total_width (map net_of nets)
first_end [] = refl
first_end (x ∷ xs) = ap (λ n. width_of x + n) (first_end xs)

-- those of the first n nets, and the number of the bit behind these
pub record AreBehind (nets : List NetInfo) (n : ℕ) (starts : List ℕ) (bits : ℕ) : Type 0 where
  pub are : starts ≡ numbered (offset nets) n
  pub next : bits ≡ offset nets n

pub none_behind : (nets : List NetInfo) → AreBehind nets 0 [] 0
none_behind nets = record { are = refl; next = sym (first_zero (map net_of nets)) }

pub one_behind : (nets : List NetInfo) (k : ℕ) (x : NetInfo) (starts more : List ℕ) (bits next : ℕ) → k < length nets →
    x ≡ slice_index_or nets k x → AreBehind nets k starts bits → more ≡ starts ++ bits ∷ [] →
    next ≡ bits + width_of x → AreBehind nets (k + 1) more next
one_behind nets k x starts more bits next inside is h pushed added =
    let one : suc k ≡ k + 1 = omega arith in
    subst (λ (n : ℕ). AreBehind nets n more next) one
    (record {
      are = pushed ∙ ap (λ ns. ns ++ bits ∷ []) h.are ∙ ap (λ b. numbered (offset nets) k ++ b ∷ []) h.next;
      next = added ∙ ap (λ b. b + width_of x) h.next ∙ sym (first_next nets k x inside is);
    })

pub all_starts : (nets : List NetInfo) (n : ℕ) (starts : List ℕ) (bits : ℕ) → n ≡ length nets →
    AreBehind nets n starts bits → AreStarts nets starts
all_starts nets n starts bits same h = record {
  size = ap (λ (ns : List ℕ). length ns) h.are ∙ numbered_length (offset nets) n ∙ same;
  are = λ k less.
      ap (λ (ns : List ℕ). slice_index_or ns k 0) h.are ∙ numbered_or (offset nets) 0 n k (omega (arith, less, same));
}

pub all_bits : (nets : List NetInfo) (n : ℕ) (starts : List ℕ) (bits : ℕ) → n ≡ length nets →
    AreBehind nets n starts bits → bits ≡ bits_of nets
all_bits nets n starts bits same h = h.next ∙ ap (λ k. offset nets k) same ∙ first_end nets
