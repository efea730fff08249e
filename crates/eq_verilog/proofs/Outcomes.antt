-- A design is accepted, or refused for one thing, and never both.
use Rattle.std.proofs.Common.{◌≡◌, ℕ, List, Option, Some, None, arith, sym, ap, ◌∙◌, inl, inr}
use Rattle.std.proofs.lemmas.Bool.{cases_lt}
use Rattle.eq_model.specs.System.{System}
use Rattle.eq_verilog.specs.Trees.{Name, ModuleTree}
use Rattle.eq_verilog.specs.Nets.{bit_name}
use Rattle.eq_verilog.specs.Designs.{flat_of, design_of}
use Rattle.eq_verilog.specs.Refusals.{Refusal, at, too_large, looped, fault, IsRefusedFor, IsAccepted, IsFirstOnLoop}

some_same : (a b : Refusal) → Some a ≡ Some b → a ≡ b
some_same a b e = ap (λ (o : Option Refusal). get o) e
  where
    get : Option Refusal → Refusal
    get None = a
    get (Some x) = x

first_same : (s : System) (b c : ℕ) → IsFirstOnLoop s b → IsFirstOnLoop s c → b ≡ c
first_same s b c x y =
    elim (cases_lt b c) [
      | inl less ↦ absurd (y.first b less x.loop)
      | inr more ↦ (elim (cases_lt c b) [
        | inl less ↦ absurd (x.first c less y.loop)
        | inr less ↦ (let e : b ≡ c = omega arith in e)
      ])
    ]

no_both : (o : Option Refusal) (r : Refusal) → o ≡ None → o ≡ Some r → ⊥
no_both o r e f = absurd (cc)

-- a design is refused for one thing at most
pub one_refusal : (all : List ModuleTree) (top : Name) (r q : Refusal) → IsRefusedFor all top r →
    IsRefusedFor all top q → r ≡ q
one_refusal all top (at k n) (at l m) h g = some_same (at k n) (at l m) (sym h ∙ g)
one_refusal all top (at k n) (too_large m) h g = some_same (at k n) (too_large m) (sym h ∙ g)
one_refusal all top (at k n) (looped m) h g = absurd (no_both (fault all top) (at k n) g.0 h)
one_refusal all top (too_large n) (at l m) h g = some_same (too_large n) (at l m) (sym h ∙ g)
one_refusal all top (too_large n) (too_large m) h g = some_same (too_large n) (too_large m) (sym h ∙ g)
one_refusal all top (too_large n) (looped m) h g = absurd (no_both (fault all top) (too_large n) g.0 h)
one_refusal all top (looped n) (at l m) h g = absurd (no_both (fault all top) (at l m) h.0 g)
one_refusal all top (looped n) (too_large m) h g = absurd (no_both (fault all top) (too_large m) h.0 g)
one_refusal all top (looped n) (looped m) h g =
    let e : h.1.0 ≡ g.1.0 = first_same (design_of all top).system h.1.0 g.1.0 h.1.1 g.1.1 in
    let f : n ≡ m = h.1.2 ∙ ap (bit_name (flat_of all top).nets) e ∙ sym g.1.2 in
    ap looped f

-- an accepted design isn't refused
pub not_both : (all : List ModuleTree) (top : Name) (r : Refusal) → IsAccepted all top → IsRefusedFor all top r → ⊥
not_both all top (at k n) a h = no_both (fault all top) (at k n) a.faultless h
not_both all top (too_large n) a h = no_both (fault all top) (too_large n) a.faultless h
not_both all top (looped n) a h = (let b = h.1.1 in a.loop_free h.1.0 b.loop.0 b.bound b.loop.1)
