-- Values that are pushed onto a stack, and the parts of a concatenation, the last one first.
use Rattle.std.proofs.Common.{◌≡◌, ℕ, zero, suc, ◌+◌, ◌-◌, ◌<◌, List, [], ◌∷◌, ◌++◌, Bool, false, cond, map, drop, slice_get, slice_index_or, length, length-append, refl, arith, ap, sym, subst, ◌∙◌}
use Rattle.std.proofs.Math.ListN.{get_or-append}
use Rattle.std.proofs.lemmas.Bool.{lt-ltb, lt-leb}
use Rattle.std.proofs.lemmas.List.{get_or-append_right}
use Rattle.eq_model.specs.System.{Values}
use Rattle.eq_names.specs.declared.BitName.{BitName}
use Rattle.eq_net.specs.declared.types.NetInfo.{NetInfo}
use Rattle.eq_net.specs.Tree.{Tree, joined, join_all}
use Rattle.eq_net.specs.Meaning.{if_there, bit_of, width}
use Rattle.eq_net.specs.Net.{word_at}
use Rattle.eq_net.specs.inner.Sized.{IsSized}
use Rattle.eq_net.specs.inner.Stack.{Grows}
use Rattle.eq_net.proofs.Stacked.{stacked, replaced_same}
use Rattle.eq_net.proofs.Trees.{rest_from}

length_map : {A B : Type 0} (f : A → B) (xs : List A) → length (map f xs) ≡ length xs
length_map f [] = refl
length_map f (x ∷ xs) = (let e = length_map f xs in omega arith)

map_at : {A : Type 0} (f : A → Bool) (xs : List A) (j : ℕ) → slice_index_or (map f xs) j false ≡ if_there false f (slice_get xs j)
map_at f [] j = refl
map_at f (x ∷ xs) zero = refl
map_at f (x ∷ xs) (suc j) = map_at f xs j

pub pushed : {A : Type 0} (f : A → Bool) (xs : List A) (old new : List Bool) → new ≡ old ++ map f xs → Grows (λ j. if_there false f (slice_get xs j)) (length xs) old new
pushed f xs old new is = record {
  size = (let e = ap length is in let s = length-append old (map f xs) in let m = length_map f xs in omega arith);
  kept = λ k lt. ap (λ (ys : List Bool). slice_index_or ys k false) is ∙ get_or-append old (map f xs) false k lt;
  put = λ j lt. ap (λ (ys : List Bool). slice_index_or ys (length old + j) false) is
      ∙ get_or-append_right old (map f xs) (length old) (length old + j) false refl (omega arith)
      ∙ ap (λ n. slice_index_or (map f xs) n false) (let e : (length old + j) - length old ≡ j = omega arith in e)
      ∙ map_at f xs j;
}

-- one part more of a concatenation, with the higher bits
pub part_more : (v : Values) (number : BitName → ℕ) (e : ℕ → ℕ → Bool) (t rest : Tree) (s0 s1 s2 : List Bool) →
    Grows (bit_of v number e rest) (width rest) s0 s1 → Grows (bit_of v number e t) (width t) s1 s2 →
    Grows (bit_of v number e (joined t rest)) (width (joined t rest)) s0 s2
part_more v number e t rest s0 s1 s2 gr gt =
    let a = bit_of v number e t in
    let b = bit_of v number e rest in
    let up : (j : ℕ) → (width rest + j) - width rest ≡ j = λ j. omega arith in
    replaced_same (length s0) (bit_of v number e (joined t rest)) (bit_of v number e (joined t rest)) (width rest + width t) (width t + width rest) s0 s0 s2 (omega arith) (λ j lt. refl) (λ k lt. refl)
    (stacked b a (width rest) (width t) s0 s1 s2 gr gt (bit_of v number e (joined t rest))
    (λ j lt. ap (λ q. cond {A = Bool} q (b j) (a (j - width rest))) (lt-ltb j (width rest) lt))
    (λ j lt. ap (λ q. cond {A = Bool} q (b (width rest + j)) (a ((width rest + j) - width rest))) (lt-leb (suc (width rest + j)) (width rest) (omega arith)) ∙ ap a (up j)))

-- the same of the part before those that stand
pub part_before : (v : Values) (number : BitName → ℕ) (e : ℕ → ℕ → Bool) (ts : List Tree) (k : ℕ) (s0 s1 s2 : List Bool) → k < length ts →
    Grows (bit_of v number e (join_all (drop (suc k) ts))) (width (join_all (drop (suc k) ts))) s0 s1 → Grows (bit_of v number e (word_at ts k)) (width (word_at ts k)) s1 s2 →
    Grows (bit_of v number e (join_all (drop k ts))) (width (join_all (drop k ts))) s0 s2
part_before v number e ts k s0 s1 s2 lt gr gt =
    let P : List Tree → Type 0 = λ us. Grows (bit_of v number e (join_all us)) (width (join_all us)) s0 s2 in
    subst P (sym (rest_from ts k lt)) (part_more v number e (word_at ts k) (join_all (drop (suc k) ts)) s0 s1 s2 gr gt)

-- each part of a concatenation has what is asked of the whole
pub part_sized : (nets : List NetInfo) (ts : List Tree) (k : ℕ) → k < length ts → IsSized nets (join_all ts) → IsSized nets (word_at ts k)
part_sized nets [] k lt is = absurd (omega arith)
part_sized nets (t ∷ ts) zero lt is = is.0
part_sized nets (t ∷ ts) (suc k) lt is = part_sized nets ts k (omega arith) is.1
