-- Named bits, and bits of words that drivers name.
use Rattle.std.proofs.Common.{ℕ, zero, suc, ◌+◌, ◌<◌, ◌≤◌, ◌↔◌, List, [], ◌∷◌, length, slice_index_or, All, Contains, arith, subst, sym}
use Rattle.eq_names.specs.declared.BitName.{BitName}
use Rattle.eq_net.specs.declared.types.Driver.{Driver}
use Rattle.eq_net.specs.declared.types.Driver.TheVariants.{Input, Undriven, Expr as WordOf, Reg}
use Rattle.eq_net.specs.declared.types.NetInfo.{NetInfo}
use Rattle.eq_net.specs.Meaning.{all_reads_of, reads_of}
use Rattle.eq_net.specs.Net.{HasBit, NamesWord, bits_of, net_at, number_of, offset}
use Rattle.eq_net.specs.Nets.{width_of}
use Rattle.eq_net.specs.Tree.{Tree}
use Rattle.eq_reads.specs.declared.graph.Nodes.{Nodes}
use Rattle.eq_reads.specs.Words.{IsReady, LeadsTo, picked_node}
use Rattle.eq_reads.specs.inner.Drawing.{IsPlacedDriver}
use Rattle.eq_reads.proofs.Ways.{all_at, table_word}

bit_there : (nets : List NetInfo) (k j : ℕ) → k < length nets → j < width_of (net_at nets k) → offset nets k + j <
    bits_of nets
bit_there [] k j lk lj = absurd (omega arith)
bit_there (n ∷ ns) zero j lk lj = omega arith
bit_there (n ∷ ns) (suc k) j lk lj = (let there : offset ns k + j < bits_of ns = bit_there ns k j (omega arith) lj in
    omega arith)

-- a named bit has a number
pub named_there : (nets : List NetInfo) (n : BitName) → HasBit nets n → number_of nets n < bits_of nets
named_there nets n h = bit_there nets n.net n.bit h.0 h.1

module _ (nets : List NetInfo) (words : List Tree) (places : List ℕ) (s : Nodes) (row : List ℕ)
    (ready : IsReady nets words places s row) (all : length words ≤ length places) where
  placed : (d : Driver) → NamesWord words d → IsPlacedDriver places row d
  placed Input named = tt
  placed Undriven named = tt
  placed (WordOf w j) named = (let lt = named.0 in (omega arith, (ready.told w j (omega arith) named.1).there))
  placed (Reg init w j) named = (let lt = named.0 in (omega arith, (ready.told w j (omega arith) named.1).there))

  -- the node of what drives a bit is there
  pub placed_driver : (drivers : List Driver) → All (NamesWord words) drivers → (b : ℕ) →
      IsPlacedDriver places row (slice_index_or drivers b Undriven)
  placed_driver drivers named b = placed (slice_index_or drivers b Undriven)
      (all_at (NamesWord words) drivers Undriven named tt b)

  -- the node of a word's bit leads to what the bit reads
  pub word_leads : (w j c : ℕ) → NamesWord words (WordOf w j) →
      LeadsTo s (picked_node places row (record { word = w; bit = j })) c ↔
      Contains (all_reads_of (number_of nets) words w j) c
  word_leads w j c named =
      let lt = named.0 in
      let t = (ready.told w j (omega arith) named.1).leads c in
      let is = table_word (reads_of (number_of nets)) words (length words) w j named.0 in
      let P : List ℕ → Type 0 = λ rs. Contains rs c in
      (λ l. subst P (sym is) (t.0 l), λ h. t.1 (subst P is h))
