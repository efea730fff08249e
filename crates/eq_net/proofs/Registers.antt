-- The values that registers begin with and go on with.
use Rattle.std.proofs.Common.{◌≡◌, ℕ, zero, suc, List, [], ◌∷◌, ◌++◌, Bool, false, length, take, drop, slice_index_or, All, Result, Ok, Err, IfOk, refl, arith, ap, sym, subst, ◌∙◌}
use Rattle.std.proofs.lemmas.List.Elements.{All-head, All-tail}
use Rattle.eq_model.specs.Frames.{frames, values}
use Rattle.eq_model.specs.System.{Values, Begins, Follows}
use Rattle.eq_names.specs.declared.BitName.{BitName}
use Rattle.eq_net.specs.declared.types.NetInfo.{NetInfo}
use Rattle.eq_net.specs.declared.types.Word.{Word}
use Rattle.eq_net.specs.declared.types.Driver.{Driver}
use Rattle.eq_net.specs.declared.types.Driver.TheVariants.{Input, Undriven, Expr as WordOf, Reg}
use Rattle.eq_net.specs.Held.{held_bits, initial_bits, next_bits, register_count}
use Rattle.eq_net.specs.Meaning.{bit_of, table, values_of}
use Rattle.eq_net.specs.Net.{NamesWord, number_of, source_of}
use Rattle.eq_net.specs.Tree.{Tree, trees_of}
use Rattle.eq_net.specs.inner.Sized.{HasWords}
use Rattle.eq_net.proofs.Trees.{length-trees_of}

pub if_ok : {T E : Type 0} {P Q : T → Type 0} (r : Result T E) → ((x : T) → P x → Q x) → IfOk r P → IfOk r Q
if_ok (Ok x) f h = f x h
if_ok (Err e) f h = h

-- what holds anyway
pub anyway : {T E : Type 0} {Q : Type 0} (r : Result T E) → Q → IfOk r (λ x. Q)
anyway (Ok x) q = q
anyway (Err e) q = tt

pub length-initial_bits : (ds : List Driver) → length (initial_bits ds) ≡ register_count ds
length-initial_bits [] = refl
length-initial_bits (Input ∷ ds) = length-initial_bits ds
length-initial_bits (Undriven ∷ ds) = length-initial_bits ds
length-initial_bits (WordOf w j ∷ ds) = length-initial_bits ds
length-initial_bits (Reg i w j ∷ ds) = (let e = length-initial_bits ds in omega arith)

pub length-next_bits : (value : ℕ → ℕ → Bool) (ds : List Driver) → length (next_bits value ds) ≡ register_count ds
length-next_bits value [] = refl
length-next_bits value (Input ∷ ds) = length-next_bits value ds
length-next_bits value (Undriven ∷ ds) = length-next_bits value ds
length-next_bits value (WordOf w j ∷ ds) = length-next_bits value ds
length-next_bits value (Reg i w j ∷ ds) = (let e = length-next_bits value ds in omega arith)

pub length-held_bits : (ds : List Driver) (state xs : List Bool) → length (held_bits ds state xs) ≡ length ds
length-held_bits [] state xs = refl
length-held_bits (Input ∷ ds) state [] = (let e = length-held_bits ds state [] in omega arith)
length-held_bits (Input ∷ ds) state (x ∷ xs) = (let e = length-held_bits ds state xs in omega arith)
length-held_bits (Undriven ∷ ds) state xs = (let e = length-held_bits ds state xs in omega arith)
length-held_bits (WordOf w j ∷ ds) state xs = (let e = length-held_bits ds state xs in omega arith)
length-held_bits (Reg i w j ∷ ds) [] xs = (let e = length-held_bits ds [] xs in omega arith)
length-held_bits (Reg i w j ∷ ds) (s ∷ state) xs = (let e = length-held_bits ds state xs in omega arith)

-- registers that name bits of words on which two values agree go on with the same
next_same : (words : List Tree) (f g : ℕ → ℕ → Bool) → ((w j : ℕ) → NamesWord words (WordOf w j) → f w j ≡ g w j) → (ds : List Driver) → All (NamesWord words) ds →
    next_bits f ds ≡ next_bits g ds
next_same words f g same [] all = refl
next_same words f g same (Input ∷ ds) all = next_same words f g same ds (All-tail (NamesWord words) Input ds all)
next_same words f g same (Undriven ∷ ds) all = next_same words f g same ds (All-tail (NamesWord words) Undriven ds all)
next_same words f g same (WordOf w j ∷ ds) all = next_same words f g same ds (All-tail (NamesWord words) (WordOf w j) ds all)
next_same words f g same (Reg i w j ∷ ds) all =
    let here = same w j (All-head (NamesWord words) (Reg i w j) ds all) in
    let rest = next_same words f g same ds (All-tail (NamesWord words) (Reg i w j) ds all) in
    ap (λ b. b ∷ next_bits f ds) here ∙ ap (λ (bs : List Bool). g w j ∷ bs) rest

-- the bits of all words tell the next values
pub next_of_words : (v : Values) (number : BitName → ℕ) (ws : List Word) (all : List (List Bool)) (ds : List Driver) →
    HasWords v number (trees_of ws) (length ws) all → All (NamesWord (trees_of ws)) ds → next_bits (frames all) ds ≡ next_bits (values_of v number (trees_of ws)) ds
next_of_words v number ws all ds has named =
    next_same (trees_of ws) (frames all) (values_of v number (trees_of ws))
    (λ w j there. (let size = length-trees_of ws in has.each w j (omega arith) there.1 ∙ ap (λ n. table false (bit_of v number) (trees_of ws) n w j) (sym size))) ds named

module _ (nets : List NetInfo) (words : List Tree) where
  -- a register begins with its initial value
  pub begins : (ds : List Driver) (xs : List Bool) (b : ℕ) → Begins (source_of nets words (slice_index_or ds b Undriven)) (values (held_bits ds (initial_bits ds) xs) b)
  begins [] xs b = tt
  begins (Input ∷ ds) [] zero = tt
  begins (Input ∷ ds) (x ∷ xs) zero = tt
  begins (Undriven ∷ ds) xs zero = tt
  begins (WordOf w j ∷ ds) xs zero = tt
  begins (Reg i w j ∷ ds) xs zero = refl
  begins (Input ∷ ds) [] (suc b) = begins ds [] b
  begins (Input ∷ ds) (x ∷ xs) (suc b) = begins ds xs b
  begins (Undriven ∷ ds) xs (suc b) = begins ds xs b
  begins (WordOf w j ∷ ds) xs (suc b) = begins ds xs b
  begins (Reg i w j ∷ ds) xs (suc b) = begins ds xs b

  -- and goes on with its next value
  pub follows : (v : Values) (ds : List Driver) (xs : List Bool) (b : ℕ) →
      Follows (source_of nets words (slice_index_or ds b Undriven)) v (values (held_bits ds (next_bits (values_of v (number_of nets) words) ds) xs) b)
  follows v [] xs b = tt
  follows v (Input ∷ ds) [] zero = tt
  follows v (Input ∷ ds) (x ∷ xs) zero = tt
  follows v (Undriven ∷ ds) xs zero = tt
  follows v (WordOf w j ∷ ds) xs zero = tt
  follows v (Reg i w j ∷ ds) xs zero = refl
  follows v (Input ∷ ds) [] (suc b) = follows v ds [] b
  follows v (Input ∷ ds) (x ∷ xs) (suc b) = follows v ds xs b
  follows v (Undriven ∷ ds) xs (suc b) = follows v ds xs b
  follows v (WordOf w j ∷ ds) xs (suc b) = follows v ds xs b
  follows v (Reg i w j ∷ ds) xs (suc b) = follows v ds xs b

-- a list that is written over by another of its length
pub written : (n : ℕ) (front old : List Bool) → length front ≡ n → take n (front ++ drop (length front) old) ≡ front
written n [] old e = (let P : ℕ → Type 0 = λ k. take k old ≡ [] in subst P e refl)
written n (x ∷ xs) old e = (let P : ℕ → Type 0 = λ k. take k ((x ∷ xs) ++ drop (length (x ∷ xs)) old) ≡ x ∷ xs in subst P e (ap (λ (ys : List Bool). x ∷ ys) (written_rest xs (drop (length (x ∷ xs)) old))))
  where
    written_rest : (xs ys : List Bool) → take (length xs) (xs ++ ys) ≡ xs
    written_rest [] ys = refl
    written_rest (x ∷ xs) ys = ap (λ (zs : List Bool). x ∷ zs) (written_rest xs ys)
