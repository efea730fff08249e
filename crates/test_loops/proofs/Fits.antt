-- What is made of a table is fit for the search of a loop.
use Rattle.std.proofs.Common.{◌≡◌, ℕ, zero, suc, ◌+◌, ◌<◌, List, [], ◌∷◌, All, Bool, length, slice_index_or, false, refl, arith, sym, subst, ap, ◌∙◌}
use Rattle.eq_names.specs.declared.BitName.{BitName}
use Rattle.eq_net.specs.declared.types.Driver.{Driver}
use Rattle.eq_net.specs.declared.types.Driver.TheVariants.{Input, Undriven, Expr, Reg}
use Rattle.eq_net.specs.declared.types.NetInfo.{NetInfo}
use Rattle.eq_net.specs.declared.types.WordOp.TheVariants as op
use Rattle.eq_net.specs.Nets.{width_of}
use Rattle.eq_net.specs.Tree.{Tree, read, binary}
use Rattle.eq_net.specs.Net.{AreWords, HasBit, IsWord, NamesWord, bits_of, net_at}
use Rattle.test_loops.specs.Made.{IsDriven, IsNamed}

abbrev pub two : List BitName → List BitName → List BitName → List Tree
two a b c = binary op.And (read a) (read b) ∷ read c ∷ []

there : (n : ℕ) (net : NetInfo) (b : BitName) → width_of net ≡ n → IsNamed n b → HasBit (net ∷ []) b
there n net b wide is =
    let P : ℕ → Type 0 = λ i. (i < 1) × (b.bit < width_of (net_at (net ∷ []) i)) in
    subst P (sym is.net) (omega arith, subst (λ (w : ℕ). b.bit < w) (sym wide) is.bit)

module _ (n : ℕ) (net : NetInfo) (a b c : List BitName) (wide : width_of net ≡ n)
    (firsts : All (IsNamed n) a) (seconds : All (IsNamed n) b) (copies : All (IsNamed n) c)
    (first_size : length a ≡ n) (second_size : length b ≡ n) (copy_size : length c ≡ n) where
  words : AreWords (net ∷ []) (two a b c)
  words zero lt = (
    λ k d l. there n net (slice_index_or a k d) wide (firsts k d l),
    λ k d l. there n net (slice_index_or b k d) wide (seconds k d l),
    λ free. first_size ∙ sym second_size,
  )
  words (suc zero) lt = λ k d l. there n net (slice_index_or c k d) wide (copies k d l)
  words (suc (suc k)) lt = absurd (omega arith)

  driven : (d : Driver) → IsDriven n d → NamesWord (two a b c) d
  driven Input is = tt
  driven Undriven is = tt
  driven (Expr zero j) (lt, le) = (omega arith, subst (λ (w : ℕ). j < w) (sym first_size) le)
  driven (Expr (suc zero) j) (lt, le) = (omega arith, subst (λ (w : ℕ). j < w) (sym copy_size) le)
  driven (Expr (suc (suc w)) j) (lt, le) = absurd (omega arith)
  driven (Reg init zero j) (lt, le) = (omega arith, subst (λ (w : ℕ). j < w) (sym first_size) le)
  driven (Reg init (suc zero) j) (lt, le) = (omega arith, subst (λ (w : ℕ). j < w) (sym copy_size) le)
  driven (Reg init (suc (suc w)) j) (lt, le) = absurd (omega arith)

  -- the words are words over the net
  pub fit_words : (t : Tree) → t ≡ binary op.And (read a) (read b) → AreWords (net ∷ []) (t ∷ read c ∷ [])
  fit_words t is = subst (λ (u : Tree). AreWords (net ∷ []) (u ∷ read c ∷ [])) (sym is) words

  -- the drivers name their bits
  pub fit_drivers : (t : Tree) → t ≡ binary op.And (read a) (read b) → (ds : List Driver) → All (IsDriven n) ds →
      All (NamesWord (t ∷ read c ∷ [])) ds
  fit_drivers t is ds all = subst (λ (u : Tree). All (NamesWord (u ∷ read c ∷ [])) ds) (sym is)
      (λ k d lt. driven (slice_index_or ds k d) (all k d lt))
