-- A loop of nets, words and drivers is one of the design; and where there is none, the netlist is the design.
use Rattle.std.proofs.Common.{◌≡◌, ◌≢◌, ℕ, zero, suc, ◌<◌, List, [], ◌∷◌, All, AllPairs, Contains, IfSome, length, map, slice_get, slice_index_or, arith, sym, ap, subst, ◌∙◌}
use Rattle.std.proofs.lemmas.List.{get_or-map, length-map}
use Rattle.std.proofs.lemmas.List.Elements.{All-head, All-tail, All-cons, All-nil}
use Rattle.eq_model.specs.Agreement.{SameDriver, SameSystem}
use Rattle.eq_model.specs.Nets.{net_width}
use Rattle.eq_model.specs.System.{Driver, input, undriven, equation, register, reads_now, IsChain, IsDriver, IsLoopFree, IsSystem, System}
use Rattle.eq_names.specs.declared.BitName.{BitName}
use Rattle.eq_net.specs.declared.types.NetInfo.{NetInfo}
use Rattle.eq_net.specs.Net.{no_net, number_of, HasBit}
use Rattle.eq_net.specs.Nets.{net_of, width_of}
use Rattle.eq_verilog.specs.Trees.{Name}
use Rattle.eq_verilog.specs.Nets.{bit_name}
use Rattle.eq_verilog.specs.Refusals.{IsFirstOnLoop}
use Rattle.eq_loops.specs.Cycle.{IsCycle, IsCycleFrom}
use Rattle.eq_elab.specs.Answers.{IsLoop, IsThere}
use Rattle.eq_elab.specs.inner.Looping.{IsNamed}

abbrev tail_of : List ℕ → List ℕ
tail_of [] = []
tail_of (n ∷ ns) = ns

nothing : {n : ℕ} {ns : List ℕ} → ◌≡◌ {A = List ℕ} [] (n ∷ ns) → ⊥
nothing e = absurd (cc)

-- ---- chains of two systems that agree

reads_to : (d e : Driver) → SameDriver d e → (b : ℕ) → Contains (reads_now d) b → Contains (reads_now e) b
reads_to input input h b c = c
reads_to undriven undriven h b c = c
reads_to (equation x) (equation y) h b c = (h.reads b).0 c
reads_to (register i x) (register j y) h b c = c
reads_to _ _ h b c = absurd h

reads_from : (d e : Driver) → SameDriver d e → (b : ℕ) → Contains (reads_now e) b → Contains (reads_now d) b
reads_from input input h b c = c
reads_from undriven undriven h b c = c
reads_from (equation x) (equation y) h b c = (h.reads b).1 c
reads_from (register i x) (register j y) h b c = c
reads_from _ _ h b c = absurd h

now_bounded : (bits : ℕ) (d : Driver) → IsDriver bits d → (b : ℕ) → Contains (reads_now d) b → b < bits
now_bounded bits input h b c = absurd (let lt = c.1 in omega (arith, lt))
now_bounded bits undriven h b c = absurd (let lt = c.1 in omega (arith, lt))
now_bounded bits (equation e) h b c = h.bounded b c
now_bounded bits (register i e) h b c = absurd (let lt = c.1 in omega (arith, lt))

module _ (s t : System) (same : SameSystem s t) (is : IsSystem s) where
  chain_to : (a : ℕ) (cs : List ℕ) (b : ℕ) → a < s.bits → IsChain s a cs b → IsChain t a cs b
  chain_to a [] b lt h = reads_to (s.driver a) (t.driver a) (same.drivers a lt) b h
  chain_to a (c ∷ cs) b lt h = (
    reads_to (s.driver a) (t.driver a) (same.drivers a lt) c h.0,
    chain_to c cs b (now_bounded s.bits (s.driver a) (is a lt) c h.0) h.1,
  )

  chain_from : (a : ℕ) (cs : List ℕ) (b : ℕ) → a < s.bits → IsChain t a cs b → IsChain s a cs b
  chain_from a [] b lt h = reads_from (s.driver a) (t.driver a) (same.drivers a lt) b h
  chain_from a (c ∷ cs) b lt h =
      let here = reads_from (s.driver a) (t.driver a) (same.drivers a lt) c h.0 in
      (here, chain_from c cs b (now_bounded s.bits (s.driver a) (is a lt) c here) h.1)

  -- without loops in one there are none in the other
  pub free_to : IsLoopFree s → IsLoopFree t
  free_to free b cs lt h =
      let here : b < s.bits = let e = same.bits in omega (arith, lt, e) in
      free b cs here (chain_from b cs b here h)

  -- the first bit on a loop is the same
  pub first_to : (b : ℕ) → IsFirstOnLoop s b → IsFirstOnLoop t b
  first_to b h = record {
    bound = (let e = same.bits in let lt = h.bound in omega (arith, lt, e));
    loop = (h.loop.0, chain_to b h.loop.0 b h.bound h.loop.1);
    first = λ c less on.
        let here : c < s.bits = let lt = h.bound in omega (arith, less, lt) in
        h.first c less (on.0, chain_from c on.0 c here on.1);
  }

  -- ---- the bits of a loop by their names

  module _ (infos : List NetInfo) (name : Name) where
    get_there : (ns : List NetInfo) (k : ℕ) → k < length ns → (w : ℕ) → w < width_of (slice_index_or ns k no_net) →
        IfSome (slice_get (map net_of ns) k) (λ n. w < net_width n)
    get_there [] k lt w h = absurd (omega (arith, lt))
    get_there (x ∷ xs) zero lt w h = h
    get_there (x ∷ xs) (suc k) lt w h = get_there xs k (omega (arith, lt)) w h

    all_there : (bs : List BitName) → All (HasBit infos) bs → All (IsThere (map net_of infos)) bs
    all_there [] h = All-nil (IsThere (map net_of infos))
    all_there (b ∷ bs) h =
        let here = All-head (HasBit infos) b bs h in
        All-cons (IsThere (map net_of infos)) b bs (get_there infos b.net here.0 b.bit here.1)
        (all_there bs (All-tail (HasBit infos) b bs h))

    no_name : BitName
    no_name = record { net = 0; bit = 0 }

    names_apart : (bs : List BitName) → AllPairs (λ c d. c ≢ d) (map (number_of infos) bs) → AllPairs (λ c d. c ≢ d) bs
    names_apart bs apart i j d less lt e =
        let size = length-map bs (number_of infos) in
        apart i j 0 less (omega (arith, lt, size))
        (get_or-map (number_of infos) bs i d 0 (omega (arith, less, lt))
        ∙ ap (number_of infos) e
        ∙ sym (get_or-map (number_of infos) bs j d 0 lt))

    loop_named : (cycle : List BitName) (b : ℕ) (bits : List ℕ) → IsCycleFrom s b bits →
        IsNamed infos (b ∷ bits) cycle name → IsLoop t (map net_of infos) cycle name
    loop_named [] b bits is named = absurd (nothing named.numbers)
    loop_named (x ∷ xs) b bits is named =
        let first : number_of infos x ≡ b = ap (λ (ns : List ℕ). slice_index_or ns 0 0) named.numbers in
        let rest : map (number_of infos) xs ≡ bits = ap (λ (ns : List ℕ). tail_of ns) named.numbers in
        let apart = subst (λ (ns : List ℕ). AllPairs (λ c d. c ≢ d) ns) (sym named.numbers) is.apart in (
          named.first ∙ ap (λ n. bit_name (map net_of infos) n) (sym first),
          all_there (x ∷ xs) named.there,
          names_apart (x ∷ xs) apart,
          subst (λ n. IsChain t n (map (number_of infos) xs) n) (sym first)
              (subst (λ (ns : List ℕ). IsChain t b ns b) (sym rest) (chain_to b bits b is.first.bound is.chain)),
        )

    pub loop_is : (bits : List ℕ) (cycle : List BitName) → IsCycle s bits → IsNamed infos bits cycle name →
        IsLoop t (map net_of infos) cycle name
    loop_is [] cycle is named = absurd is
    loop_is (b ∷ bits) cycle is named = loop_named cycle b bits is named
