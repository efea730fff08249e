-- What a read answers, and what a write that failed leaves.
use Rattle.std.proofs.Common.{◌≡◌, ◌≢◌, ℕ, ◌<◌, ◌≤◌, List, length, Option, Some, None, Bool, true, false, cond, refl, sym, ap, subst, ◌∙◌, arith}
use Rattle.std.specs.Prelude.{IsSomeAnd}
use Rattle.std.specs.Ordering.{nat_cmp, is_eq, eq_by_cmp}
use Rattle.std.specs.Cmp.Lexicographic.{slice_cmp, nat_list_cmp_total}
use Rattle.std.specs.FinMap.{get, get-insert, get-remove}
use Rattle.std.proofs.lemmas.Bool.{false_from_ne_true}
use Rattle.std.proofs.lemmas.Slice.Eq.{bytes_eq-Decides}
use Rattle.std.proofs.lemmas.Cmp.{tied_itself}
use Rattle.std.proofs.lemmas.Map.Text.{is_eq-slice_cmp}
use Rattle.eq_io.specs.declared.store.Got.TheVariants.{Absent, TooLong, Held}
use Rattle.eq_io.specs.Files.{Files, with_file, AnswersExactly, ChangesOnlyTheName}

tie : List ℕ → List ℕ → Bool
tie x y = eq_by_cmp (slice_cmp nat_cmp) x y

tie-same : (x : List ℕ) → tie x x ≡ true
unfolding tie
tie-same x = ap is_eq (tied_itself nat_list_cmp_total x)

tie-apart : (x y : List ℕ) → x ≢ y → tie x y ≡ false
unfolding tie
tie-apart x y apart = is_eq-slice_cmp x y ∙ false_from_ne_true _ (λ e. apart ((bytes_eq-Decides x y).0 e))

put_here : (name : List ℕ) (left : Option (List ℕ)) (files : Files) → get (with_file name left files) name ≡ left
unfolding tie
put_here name (Some bytes) files = get-insert nat_list_cmp_total files name bytes name ∙ ap (λ b. cond b (Some bytes) (get files name)) (tie-same name)
put_here name None files = get-remove nat_list_cmp_total files name name ∙ ap (λ b. cond b None (get files name)) (tie-same name)

put_elsewhere : (name other : List ℕ) (left : Option (List ℕ)) (files : Files) → other ≢ name → get (with_file name left files) other ≡ get files other
unfolding tie
put_elsewhere name other (Some bytes) files apart =
    get-insert nat_list_cmp_total files name bytes other ∙ ap (λ b. cond b (Some bytes) (get files other)) (tie-apart other name apart)
put_elsewhere name other None files apart =
    get-remove nat_list_cmp_total files name other ∙ ap (λ b. cond b None (get files other)) (tie-apart other name apart)

pub changes_only_the_name : ChangesOnlyTheName
changes_only_the_name name left files = (put_here name left files, λ other apart. put_elsewhere name other left files apart)

-- held, and more than `most`
abbrev IsLong : ℕ → Option (List ℕ) → Type 0
IsLong most held = IsSomeAnd held (λ bytes. most < length bytes)

is_long : (most : ℕ) (held : Option (List ℕ)) (bytes : List ℕ) → held ≡ Some bytes → most < length bytes → IsLong most held
is_long most held bytes e long = subst (IsLong most) (sym e) long

not_long : (most : ℕ) (held : Option (List ℕ)) (bytes : List ℕ) → held ≡ Some bytes → length bytes ≤ most → IsLong most held → ⊥
not_long most held bytes e le h = let long : most < length bytes = subst (IsLong most) e h in omega arith

none_long : (most : ℕ) (held : Option (List ℕ)) → held ≡ None → IsLong most held → ⊥
none_long most held e h = subst (IsLong most) e h

pub answers_exactly : AnswersExactly
answers_exactly most held Absent e _ = ((λ _. e, λ _. refl), (λ (f : Absent ≡ TooLong). absurd (cc), λ h. absurd (none_long most held e h)))
answers_exactly most held TooLong (bytes, e, long) _ =
    ((λ (f : TooLong ≡ Absent). absurd (cc), λ (f : held ≡ None). absurd (cc)), (λ _. is_long most held bytes e long, λ _. refl))
answers_exactly most held (Held bytes) e le =
    ((λ (f : Held bytes ≡ Absent). absurd (cc), λ (f : held ≡ None). absurd (cc)), (λ (f : Held bytes ≡ TooLong). absurd (cc), λ h. absurd (not_long most held bytes e le h)))
