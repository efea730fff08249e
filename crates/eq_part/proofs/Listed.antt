-- Classes are lists of positions, none of which is empty.
use Rattle.std.proofs.Common.{ℕ, inl, inr, List, [], Bool, length, get_or, arith, sym, ap, subst, ◌∙◌}
use Rattle.std.specs.List.{All}
use Rattle.std.proofs.lemmas.Bool.{cases_lt}
use Rattle.std.proofs.lemmas.List.{get_or_default, nil_from_length}
use Rattle.eq_match.specs.Classes.{Together}
use Rattle.eq_match.specs.Divided.{AreDivided, has, list_at}
use Rattle.eq_part.specs.inner.Named.{IsList}
use Rattle.eq_part.proofs.GroupStart.{has_at}

pub divided_lists : (n : ℕ) (held : ℕ → Bool) (together : Together) (lists : List (List ℕ)) →
    AreDivided n held together lists → All (IsList n) lists
divided_lists n held together lists is g d h =
    let one = is.some g h in
    subst (IsList n) (get_or_default lists g [] d h) (record {
      some = elim (cases_lt 0 (length (list_at lists g))) [
        | inl some ↦ some
        | inr none ↦ absurd (let t = sym one.1 ∙ ap (has one.0) (nil_from_length (list_at lists g) (omega arith)) in cc)
      ];
      inside = λ k e l. (is.inside g (get_or (list_at lists g) k e) (has_at (list_at lists g) k e l)).0;
    })
