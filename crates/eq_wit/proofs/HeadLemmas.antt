-- What is wrong with the first line of a try.
use Rattle.std.proofs.Common.{◌≡◌, ℕ, ◌≤◌, List, [], ◌∷◌, Some, slice_get, get_or, refl, sym, ap, ◌∙◌, subst, arith}
use Rattle.std.specs.Prelude.{codes}
use Rattle.std.specs.Fmt.{decimal}
use Rattle.eq_names.specs.Name.{IsName}
use Rattle.eq_bits.specs.declared.part.Part.{Part}
use Rattle.eq_wit.specs.declared.types.Head.{Head}
use Rattle.eq_wit.specs.declared.state.Stop.{Stop}
use Rattle.eq_wit.specs.Line.{HasForm}
use Rattle.eq_wit.specs.inner.Items.{IsNoItem, IsWrongFrom, headed_line}
use Rattle.eq_wit.specs.inner.Judging.{StopsBy}
use Rattle.eq_wit.specs.inner.Reading.{IsHead}
use Rattle.eq_wit.proofs.ItemLemmas.{HasNumerals, decimal_name, no_number}

numerals : (part : Part) (h : Head × ℕ) → IsHead part h.0 h.1 → HasNumerals (headed_line h)
numerals part h is =
    let limits = is.limits in
    let few = is.few in (
      decimal_name h.0.depth (omega (arith, limits.depth)),
      (decimal_name h.0.conflicts (omega (arith, limits.conflicts)), (decimal_name h.1 (omega (arith, few)), tt)),
    )

word_of : {xs ys : List (List ℕ)} (k : ℕ) → xs ≡ ys → get_or xs k [] ≡ get_or ys k []
word_of k e = ap (λ (zs : List (List ℕ)). get_or zs k []) e

pub wrong_head : (part : Part) (ws : List (List ℕ)) (a b d e : List ℕ) (s : Stop) →
    ws ≡ codes "attempt" ∷ a ∷ b ∷ d ∷ e ∷ [] →
    ((h : Head × ℕ) → IsHead part h.0 h.1 → b ≡ decimal h.0.depth → d ≡ decimal h.0.conflicts → e ≡ decimal h.1 → ⊥) →
    IsWrongFrom 1 ws s → StopsBy (IsNoItem headed_line (λ h. IsHead part h.0 h.1) ws) s
wrong_head part ws a b d e s is none wrong =
    no_number headed_line (λ (h : Head × ℕ). IsHead part h.0 h.1) ws 1 s (numerals part) (λ h fits. (fits.name, tt))
    (λ h fits same. none h fits (word_of 2 (sym is ∙ sym same)) (word_of 3 (sym is ∙ sym same)) (word_of 4 (sym is ∙ sym same)))
    (λ names.
    let at : (k : ℕ) (word : List ℕ) → 1 ≤ k → slice_get (codes "attempt" ∷ a ∷ b ∷ d ∷ e ∷ []) k ≡ Some word → IsName word =
    λ k word some there. names k word some (ap (λ (xs : List (List ℕ)). slice_get xs k) is ∙ there) in
    let head : Head = record { name = a; depth = 1; conflicts = 1 } in (
      (head, 0),
      record {
        name = at 1 a (omega arith) refl;
        limits = record {
          some_depth = omega arith;
          depth = omega arith;
          some_conflicts = omega arith;
          conflicts = omega arith;
        };
        few = omega arith;
        may = tt;
      },
      subst (HasForm (headed_line (head, 0))) (sym is)
          (refl, (refl, (at 2 b (omega arith) refl, (at 3 d (omega arith) refl, (at 4 e (omega arith) refl, tt))))),
    )) wrong
