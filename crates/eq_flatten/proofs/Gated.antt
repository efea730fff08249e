-- The word of a gate is the gate's reduction of its inputs, joined.
use Rattle.std.proofs.Common.{◌≡◌, ℕ, zero, suc, ◌+◌, ◌<◌, ◌≤◌, List, [], ◌∷◌, length, map, slice_index_or, Option, Some, None, refl, arith, sym, ap, ap₂, subst, ◌∙◌}
use Rattle.eq_vparse.specs.declared.tree.GateKind.{GateKind}
use Rattle.eq_vparse.specs.declared.tree.GateKind.TheVariants as kind
use Rattle.eq_vparse.specs.declared.tree.UnOp.{UnOp}
use Rattle.eq_vparse.specs.declared.tree.UnOp.TheVariants as un
use Rattle.eq_net.specs.declared.types.NetInfo.{NetInfo}
use Rattle.eq_net.specs.Tree.{Tree}
use Rattle.eq_verilog.specs.Trees.{ExprTree, join_all, unary}
use Rattle.eq_verilog.specs.Scopes.{Scope}
use Rattle.eq_verilog.specs.Sizes.{own, unary_form, inner_size}
use Rattle.eq_verilog.specs.Equations.{gated}
use Rattle.eq_verilog.specs.Expressions.{wire}
use Rattle.eq_flatten.specs.Driving.{IsApart}
use Rattle.eq_flatten.specs.Equating.{AreTargets}
use Rattle.eq_flatten.specs.Forms.{formed}
use Rattle.eq_flatten.specs.Gating.{operator, AreBits, HasInputs}
use Rattle.eq_flatten.specs.Meant.{AreSlim}
use Rattle.eq_flatten.specs.Rendering.{Makes}
use Rattle.eq_flatten.proofs.Composing.{makes_unary}

-- as many bits as parts
pub bits_own : (s : Scope) (es : List ExprTree) → AreBits s es → own s (join_all es) ≡ length es
bits_own s [] h = refl
bits_own s (e ∷ es) h =
    ap₂ (λ a b. a + b) h.0 (bits_own s es h.1)
    ∙ (let next : 1 + length es ≡ length (e ∷ es) = omega arith in next)

some_is : (a b : UnOp) → Some a ≡ Some b → a ≡ b
some_is a b e = ap (λ (o : Option UnOp). or_else o) e
  where
    or_else : Option UnOp → UnOp
    or_else None = a
    or_else (Some x) = x

-- an output has one bit
pub gated_own : (s : Scope) (k : GateKind) (es : List ExprTree) → AreBits s es → HasInputs k (length es) →
    own s (gated k (join_all es)) ≡ 1
gated_own s kind.And es bits h = refl
gated_own s kind.Nand es bits h = refl
gated_own s kind.Or es bits h = refl
gated_own s kind.Nor es bits h = refl
gated_own s kind.Xor es bits h = refl
gated_own s kind.Xnor es bits h = refl
gated_own s kind.Buf es bits h = bits_own s es bits ∙ h
gated_own s kind.Not es bits h = bits_own s es bits ∙ h

-- each of the terminals
pub bits_at : {T : Type 0} (f : T → ExprTree) (s : Scope) (ts : List T) (k : ℕ) (t : T) → k < length ts →
    t ≡ slice_index_or ts k t → AreBits s (map f ts) → own s (f t) ≡ 1
bits_at f s [] k t inside is h = absurd (omega (arith, inside))
bits_at f s (x ∷ xs) zero t inside is h = ap (λ y. own s (f y)) is ∙ h.0
bits_at f s (x ∷ xs) (suc k) t inside is h = bits_at f s xs k t (omega (arith, inside)) is h.1

pub targets_at : {T : Type 0} (f : T → ExprTree) (s : Scope) (ts : List T) (k : ℕ) (t : T) → k < length ts →
    t ≡ slice_index_or ts k t → AreTargets s (map f ts) → AreSlim s (f t) × IsApart (wire s (f t))
targets_at f s [] k t inside is h = absurd (omega (arith, inside))
targets_at f s (x ∷ xs) zero t inside is h = subst (λ y. AreSlim s (f y) × IsApart (wire s (f y))) (sym is) h.0
targets_at f s (x ∷ xs) (suc k) t inside is h = targets_at f s xs k t (omega (arith, inside)) is h.1

module _ (nets : List NetInfo) (s : Scope) (es : List ExprTree) (old new : List Tree) (x : Tree) (bits : AreBits s es)
    (joined : Makes nets s (join_all es) (length es) old new x) where
  abbrev pub a : ExprTree
  a = join_all es

  abbrev pub as_formed : UnOp → ExprTree → Type 0
  as_formed op e = Makes nets s e 1 old new (formed (unary_form op) x 1)

  reduces : (op : UnOp) → inner_size s op a 1 ≡ own s a → own s (unary op a) ≤ 1 → as_formed op (unary op a)
  reduces op size fits = makes_unary nets s op a 1 (length es) old new x (sym (bits_own s es bits) ∙ sym size) fits joined

  inverts : length es ≡ 1 → as_formed un.Not (unary un.Not a)
  inverts one =
      makes_unary nets s un.Not a 1 (length es) old new x one
      (let b = bits_own s es bits in omega (arith, b, one)) joined

  -- of a gate that does something
  pub makes_gate : (k : GateKind) (op : UnOp) → operator k ≡ Some op → HasInputs k (length es) → as_formed op (gated k a)
  makes_gate kind.And op is h = subst (λ o. as_formed o (gated kind.And a)) (some_is un.RedAnd op is) (reduces un.RedAnd refl (omega arith))
  makes_gate kind.Nand op is h = subst (λ o. as_formed o (gated kind.Nand a)) (some_is un.RedNand op is) (reduces un.RedNand refl (omega arith))
  makes_gate kind.Or op is h = subst (λ o. as_formed o (gated kind.Or a)) (some_is un.RedOr op is) (reduces un.RedOr refl (omega arith))
  makes_gate kind.Nor op is h = subst (λ o. as_formed o (gated kind.Nor a)) (some_is un.RedNor op is) (reduces un.RedNor refl (omega arith))
  makes_gate kind.Xor op is h = subst (λ o. as_formed o (gated kind.Xor a)) (some_is un.RedXor op is) (reduces un.RedXor refl (omega arith))
  makes_gate kind.Xnor op is h = subst (λ o. as_formed o (gated kind.Xnor a)) (some_is un.RedXnor op is) (reduces un.RedXnor refl (omega arith))
  makes_gate kind.Buf op is h = absurd (cc)
  makes_gate kind.Not op is h = subst (λ o. as_formed o (gated kind.Not a)) (some_is un.Not op is) (inverts h)

  -- of a buffer
  pub makes_buffer : (k : GateKind) → operator k ≡ None → HasInputs k (length es) → Makes nets s (gated k a) 1 old new x
  makes_buffer kind.And is h = absurd (cc)
  makes_buffer kind.Nand is h = absurd (cc)
  makes_buffer kind.Or is h = absurd (cc)
  makes_buffer kind.Nor is h = absurd (cc)
  makes_buffer kind.Xor is h = absurd (cc)
  makes_buffer kind.Xnor is h = absurd (cc)
  makes_buffer kind.Buf is h = subst (λ n. Makes nets s a n old new x) h joined
  makes_buffer kind.Not is h = absurd (cc)
