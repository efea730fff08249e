-- A text has one configuration or one first fault, and not both.
use Rattle.std.proofs.Common.{◌≡◌, ℕ, suc, zero, ◌+◌, List, Option, Some, None, Result, Ok, Err, refl, sym, ap, subst, ◌∙◌, inl, inr}
use Rattle.std.specs.Prelude.{IfOk, IfErr, unwrap_or}
use Rattle.std.specs.Str.Lines.{lines}
use Rattle.std.proofs.lemmas.Bool.{cases_order}
use Rattle.eq_config.specs.declared.config.Config.{Config}
use Rattle.eq_config.specs.declared.fault.ConfigErr.{ConfigErr}
use Rattle.eq_config.specs.declared.fault.ConfigErr.TheVariants as error
use Rattle.eq_config.specs.declared.fault.ConfigKind.{ConfigKind}
use Rattle.eq_config.specs.declared.fault.ConfigKind.TheVariants.{NotAscii, NoSection, UnknownSection, UnknownLine, BadWord, BadNumber, Twice, TooMany, Missing}
use Rattle.eq_config.specs.declared.said.Said.{Said}
use Rattle.eq_config.specs.Configs.{rank, IsFirstKind, before_at, line_at, HasConfig, HasFaultyLine, MissesAt, HasFault, Explains, IsOrNoMemory}

-- ---- the kinds have different ranks

kind_at : ℕ → ConfigKind
kind_at zero = NotAscii
kind_at (suc zero) = NoSection
kind_at (suc (suc zero)) = UnknownSection
kind_at (suc (suc (suc zero))) = UnknownLine
kind_at (suc (suc (suc (suc zero)))) = BadWord
kind_at (suc (suc (suc (suc (suc zero))))) = BadNumber
kind_at (suc (suc (suc (suc (suc (suc zero)))))) = Twice
kind_at (suc (suc (suc (suc (suc (suc (suc zero))))))) = TooMany
kind_at (suc (suc (suc (suc (suc (suc (suc (suc n)))))))) = Missing

kind_is : (k : ConfigKind) → kind_at (rank k) ≡ k
unfolding kind_at
kind_is NotAscii = refl
kind_is NoSection = refl
kind_is UnknownSection = refl
kind_is UnknownLine = refl
kind_is BadWord = refl
kind_is BadNumber = refl
kind_is Twice = refl
kind_is TooMany = refl
kind_is Missing = refl

one_kind : (before : List Said) (line : List ℕ) (j k : ConfigKind) → IsFirstKind before line j → IsFirstKind before line k → j ≡ k
one_kind before line j k a b = elim (cases_order (rank j) (rank k)) [
  | inl same ↦ sym (kind_is j) ∙ ap kind_at same ∙ kind_is k
  | inr (inl below) ↦ absurd (b.first j below a.holds)
  | inr (inr below) ↦ absurd (a.first k below b.holds)
]

-- ---- faults

one_line : (text : List ℕ) (l m : ℕ) (j k : ConfigKind) → HasFaultyLine text l j → HasFaultyLine text m k → (l ≡ m) × (j ≡ k)
one_line text l m j k a b = elim (cases_order a.at b.at) [
  | inl same ↦
      let there : IsFirstKind (before_at (lines text) b.at) (line_at (lines text) b.at) j =
      subst (λ (n : ℕ). IsFirstKind (before_at (lines text) n) (line_at (lines text) n) j) same a.first in
      (a.number ∙ ap (λ (n : ℕ). n + 1) same ∙ sym b.number, one_kind (before_at (lines text) b.at) (line_at (lines text) b.at) j k there b.first)
  | inr (inl below) ↦ absurd (b.fine a.at below j a.first.holds)
  | inr (inr below) ↦ absurd (a.fine b.at below k b.first.holds)
]

line_or_missing : (text : List ℕ) (l m : ℕ) (j k : ConfigKind) → HasFaultyLine text l j → MissesAt text m k → ⊥
line_or_missing text l m j k a b = b.fine a.at a.within j a.first.holds

one_missing : (text : List ℕ) (l m : ℕ) (j k : ConfigKind) → MissesAt text l j → MissesAt text m k → (l ≡ m) × (j ≡ k)
one_missing text l m j k a b = (ap (λ (o : Option ℕ). unwrap_or o 0) (sym a.line_is ∙ b.line_is), a.missing_is ∙ sym b.missing_is)

pub one_fault : (text : List ℕ) (l m : ℕ) (j k : ConfigKind) → HasFault text l j → HasFault text m k → (l ≡ m) × (j ≡ k)
one_fault text l m j k (inl a) (inl b) = one_line text l m j k a b
one_fault text l m j k (inl a) (inr b) = absurd (line_or_missing text l m j k a b)
one_fault text l m j k (inr a) (inl b) = absurd (line_or_missing text m l k j b a)
one_fault text l m j k (inr a) (inr b) = one_missing text l m j k a b

-- ---- configurations

pub one_config : (text : List ℕ) (c d : Config) → HasConfig text c → HasConfig text d → c ≡ d
one_config text c d a b = a.config_is ∙ sym b.config_is

pub not_both : (text : List ℕ) (c : Config) (line : ℕ) (kind : ConfigKind) → HasConfig text c → HasFault text line kind → ⊥
not_both text c line kind a (inl b) = a.fine b.at b.within kind b.first.holds
not_both text c line kind a (inr b) = let both : None ≡ Some line = sym a.whole ∙ b.line_is in absurd (cc)

-- ---- what a result that is right says the other way round

pub only_config : (text : List ℕ) (r : Result Config ConfigErr) → IfOk r (HasConfig text) → IfErr r (Explains text) → (c : Config) → HasConfig text c → IsOrNoMemory r (Ok c)
only_config text (Ok d) ok err c h = inl (ap (λ (x : Config). Ok x) (one_config text d c ok h))
only_config text (Err (error.At line kind)) ok err c h = absurd (not_both text c line kind h err)
only_config text (Err error.Memory) ok err c h = inr refl

pub only_fault : (text : List ℕ) (r : Result Config ConfigErr) → IfOk r (HasConfig text) → IfErr r (Explains text) → (line : ℕ) (kind : ConfigKind) → HasFault text line kind → IsOrNoMemory r (Err (error.At line kind))
only_fault text (Ok d) ok err line kind h = absurd (not_both text d line kind ok h)
only_fault text (Err (error.At l j)) ok err line kind h =
    let same = one_fault text l line j kind err h in
    inl (λ i. Err (error.At (same.0 i) (same.1 i)))
only_fault text (Err error.Memory) ok err line kind h = inr refl
