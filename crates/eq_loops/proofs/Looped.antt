-- Loops of reads are cycles of edges through bits.
use Rattle.std.proofs.Common.{◌≡◌, ℕ, zero, suc, ◌<◌, List, [], ◌∷◌, arith, sym, subst}
use Rattle.eq_model.specs.System.{System, IsChain, IsLoopFree}
use Rattle.eq_net.specs.declared.types.Driver.{Driver}
use Rattle.eq_net.specs.declared.types.NetInfo.{NetInfo}
use Rattle.eq_net.specs.Net.{bits_of, design_of}
use Rattle.eq_net.specs.Tree.{Tree}
use Rattle.eq_reads.specs.declared.graph.Edge.{Edge}
use Rattle.eq_reads.specs.Graph.{AreReads, LeadsBy, bare}
use Rattle.eq_loops.specs.Cycle.{IsCycle}
use Rattle.eq_loops.specs.inner.Back.{AreClear, IsFirstRound, IsRound, IsSoundFor, Passes}

joined_ways : (edges : List Edge) (m n a b c : ℕ) → Passes edges m a b → Passes edges n b c → (k : ℕ) × Passes edges k a c
joined_ways edges zero n a b c is way = (n, subst (λ (u : ℕ). Passes edges n u c) (sym is) way)
joined_ways edges (suc m) n a b c (d, j, more) way = (let w = joined_ways edges m n d b c more way in (suc w.0, (d, j, w.1)))

leads_pass : (edges : List Edge) (outer n x c : ℕ) → LeadsBy edges outer n x c → Passes edges n x c
leads_pass edges outer zero x c l = l.0
leads_pass edges outer (suc n) x c (y, inner, j, l) = (y, j, leads_pass edges outer n y c l)

leads_end : (edges : List Edge) (outer n x c : ℕ) → LeadsBy edges outer n x c → c < outer
leads_end edges outer zero x c l = l.1
leads_end edges outer (suc n) x c (y, inner, j, l) = leads_end edges outer n y c l

module _ (nets : List NetInfo) (words : List Tree) (drivers : List Driver) (edges : List Edge) (next : ℕ)
    (graph : AreReads nets words drivers edges next) where
  abbrev outer : ℕ
  outer = bits_of nets

  abbrev s : System
  s = (design_of (bare nets words drivers)).system

  pub sound : IsSoundFor s edges outer
  sound a c lt l = (graph.sound a c lt).1 l

  -- a chain of reads is one edge or more
  chain_passes : (cs : List ℕ) (a b : ℕ) → a < outer → IsChain s a cs b → (n : ℕ) × Passes edges (suc n) a b
  chain_passes [] a b lt r =
      let l = (graph.sound a b lt).0 r in
      (l.2.0, (l.0, l.1, leads_pass edges outer l.2.0 l.0 b l.2.1))
  chain_passes (c ∷ cs) a b lt (r, more) =
      let l = (graph.sound a c lt).0 r in
      let w = chain_passes cs c b (leads_end edges outer l.2.0 l.0 c l.2.1) more in
      let k = joined_ways edges l.2.0 (suc w.0) l.0 c b (leads_pass edges outer l.2.0 l.0 c l.2.1) w.1 in
      (k.0, (l.0, l.1, k.1))

  -- where no bit is on a cycle of edges there is no loop
  pub loop_free : AreClear edges outer → IsLoopFree s
  loop_free clear b cs lt chain = (let w = chain_passes cs b b lt chain in clear b lt w.0 w.1)

  cycle_of : (first : ℕ) → first < outer → AreClear edges first → (bits : List ℕ) → IsRound s outer first bits → IsCycle s bits
  cycle_of first lt clear [] r = r
  cycle_of first lt clear (c ∷ cs) r =
      let at : c ≡ first = r.0 in
      let bound : c < outer = subst (λ (u : ℕ). u < outer) (sym at) lt in
      let chain : IsChain s c cs c = subst (λ (u : ℕ). IsChain s u cs u) (sym at) r.3 in
      record {
        first = record {
          bound = bound;
          loop = (cs, chain);
          first = λ d less loop. (let w = chain_passes loop.0 d d (omega arith) loop.1 in clear d (omega arith) w.0 w.1);
        };
        bound = r.1;
        apart = r.2;
        chain = chain;
      }

  -- the round of the first bit that has one is the first loop
  pub cycle : (bits : List ℕ) → IsFirstRound edges outer bits → IsCycle s bits
  cycle bits f = cycle_of f.first f.bound f.clear bits (f.round s sound)

  -- the same of the edges and the count as the code has them
  pub loop_free_at : (es : List Edge) (k : ℕ) → es ≡ edges → k ≡ outer → AreClear es k → IsLoopFree s
  loop_free_at es k same count clear =
      loop_free (subst (λ (n : ℕ). AreClear edges n) count (subst (λ (xs : List Edge). AreClear xs k) same clear))

  pub cycle_at : (es : List Edge) (k : ℕ) → es ≡ edges → k ≡ outer → (bits : List ℕ) → IsFirstRound es k bits → IsCycle s bits
  cycle_at es k same count bits f =
      cycle bits (subst (λ (n : ℕ). IsFirstRound edges n bits) count (subst (λ (xs : List Edge). IsFirstRound xs k bits) same f))
