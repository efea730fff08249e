-- The conditions one after the other: one that holds is the refusal, and one that doesn't leaves the others.
use Rattle.std.proofs.Common.{◌≡◌, List, ◌∷◌, Option, Some, None, Result, Ok, Err, IfOk, OnOk, refl, sym, ap, subst, ◌∙◌, ◌⊎◌, inl, inr}
use Rattle.std.specs.Prelude.{option_map}
use Rattle.std.specs.Option.{option_or}
use Rattle.eq_net.specs.declared.net.Net.{Net as Netlist}
use Rattle.eq_verilog.specs.declared.refusal.ElabErr.{ElabErr}
use Rattle.eq_verilog.specs.declared.refusal.ElabErr.TheVariants as err
use Rattle.eq_verilog.specs.declared.refusal.ElabKind.{ElabKind}
use Rattle.eq_verilog.specs.Trees.{Name, ModuleTree}
use Rattle.eq_verilog.specs.Firsts.{first_of}
use Rattle.eq_verilog.specs.Refusals.{Refusal, at, looped, named, too_large, IsAccepted, IsRefusedFor}
use Rattle.eq_elab.specs.Answers.{IsRefusalOrNoMemory, Refuses, TellsOf}
use Rattle.eq_elab.specs.inner.Elaborating.{AreLeft, Elaborates}

-- what is said of an answer may be said in other words
pub if_ok : {T E : Type 0} {P Q : T → Type 0} (r : Result T E) → ((x : T) → P x → Q x) → IfOk r P → IfOk r Q
if_ok (Ok x) f h = f x h
if_ok (Err e) f h = h

-- the same, beside what is so of every answer
pub if_ok_on : {T E : Type 0} {A : Type 0} {P Q : T → Type 0} (r : Result T E) → ((x : T) → A → P x → Q x) → OnOk r A →
    IfOk r P → IfOk r Q
if_ok_on (Ok x) f a h = f x a h
if_ok_on (Err e) f a h = h

module _ (all : List ModuleTree) (top : Name) where
  -- a condition that doesn't hold leaves the others
  pub pass : (k : ElabKind) (o : Option Name) (rest : List (Option Refusal)) → AreLeft all top (named k o ∷ rest) →
      o ≡ None → AreLeft all top rest
  pass k o rest left none = left ∙ ap (λ (x : Option Name). option_or (option_map (at k) x) (first_of rest)) none

  -- one that holds is the refusal
  pub refuse : (k : ElabKind) (o : Option Name) (n : Name) (rest : List (Option Refusal)) (a : Result Netlist ElabErr) →
      AreLeft all top (named k o ∷ rest) → o ≡ Some n → a ≡ Err (err.At k n) → Elaborates all top a
  refuse k o n rest a left some is =
      subst (λ (x : Result Netlist ElabErr). Elaborates all top x) (sym is)
      (left ∙ ap (λ (x : Option Name). option_or (option_map (at k) x) (first_of rest)) some)

-- what is refused for a refusal is answered by it
module _ (all : List ModuleTree) (top : Name)
    (one : (r s : Refusal) → IsRefusedFor all top r → IsRefusedFor all top s → r ≡ s)
    (not_both : (r : Refusal) → IsRefusedFor all top r → IsAccepted all top → ⊥) where
  tells : (r : Refusal) (e : ElabErr) → IsRefusedFor all top r → Refuses all top e →
      TellsOf r e ⊎ (e ≡ err.Memory)
  tells r (err.At k n) is said = inl (one r (at k n) is said)
  tells r (err.Loop cycle n) is said = inl (one r (looped n) is said.0)
  tells r (err.TooLarge n) is said = inl (one r (too_large n) is said)
  tells r err.Memory is said = inr refl

  pub answered : (r : Refusal) (a : Result Netlist ElabErr) → IsRefusedFor all top r → Elaborates all top a →
      IsRefusalOrNoMemory r a
  answered r (Ok net) is said = not_both r is said.0
  answered r (Err e) is said = tells r e is said
