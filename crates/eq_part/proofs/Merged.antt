-- What a `merge` line touches fills partitions, and a union depends on the marks alone.
use Rattle.std.proofs.Common.{◌≡◌, ℕ, ◌<◌, List, None, Bool, not, ◌&&◌, ◌||◌, cond, eqb, length, sym, ap, ◌∙◌}
use Rattle.std.proofs.lemmas.Bool.{and_parts, eqb-true}
use Rattle.eq_model.specs.Cut.{any_below}
use Rattle.eq_match.specs.declared.types.Pair.{Pair}
use Rattle.eq_match.specs.Classes.{touches}
use Rattle.eq_match.specs.Groups.{is_held}
use Rattle.eq_match.specs.Leaders.{leader_at, one_leader}
use Rattle.eq_part.specs.declared.state.State.{State}
use Rattle.eq_part.specs.Partitions.{Division, SameDivision, are_several, union}
use Rattle.eq_part.specs.inner.States.{AreFilled, IsState}
use Rattle.eq_part.proofs.AnyBelow.{found_below, same_below}

module _ (pairs : List Pair) (s : State) (is : IsState pairs s) (hit marks : ℕ → Bool)
    (touched : (i : ℕ) → i < length pairs → marks i ≡ touches (length pairs) (is_held pairs) hit (one_leader s.classes) i) where
  pub touched_filled : AreFilled pairs s marks
  touched_filled = record {
    filled = λ i j h k e. touched i h ∙
        same_below (length pairs) (λ m. is_held pairs m && hit m && one_leader s.classes i m)
        (λ m. is_held pairs m && hit m && one_leader s.classes j m)
        (λ m l. ap (λ x. is_held pairs m && hit m && eqb x (leader_at s.classes m)) e) ∙ sym (touched j k);
    held = λ i h e.
        let f = found_below (length pairs) (λ m. is_held pairs m && hit m && one_leader s.classes i m) (sym (touched i h) ∙ e) in
        let p = and_parts (is_held pairs f.0 && hit f.0) (one_leader s.classes i f.0) f.2 in
        is.alike i f.0 h f.1 (eqb-true (leader_at s.classes i) (leader_at s.classes f.0) p.1) ∙
        (and_parts (is_held pairs f.0) (hit f.0) p.0).0;
  }

module _ (pairs : List Pair) (s t : ℕ → Bool) (d : Division) (same : (i : ℕ) → i < length pairs → s i ≡ t i) where
  same_several : are_several pairs s d.together ≡ are_several pairs t d.together
  same_several = same_below (length pairs)
      (λ i. is_held pairs i && s i && any_below (length pairs) (λ j. is_held pairs j && s j && not (d.together i j)))
      (λ i. is_held pairs i && t i && any_below (length pairs) (λ j. is_held pairs j && t j && not (d.together i j)))
      (λ i h. ap (λ x. is_held pairs i && x && any_below (length pairs) (λ j. is_held pairs j && s j && not (d.together i j))) (same i h) ∙
      ap (λ x. is_held pairs i && t i && x) (same_below (length pairs) (λ j. is_held pairs j && s j && not (d.together i j))
      (λ j. is_held pairs j && t j && not (d.together i j)) (λ j k. ap (λ x. is_held pairs j && x && not (d.together i j)) (same j k))))

  pub same_union : SameDivision (length pairs) (union pairs s d) (union pairs t d)
  same_union = record {
    together = λ i j h k. ap (λ x. d.together i j || (x && s j)) (same i h) ∙ ap (λ x. d.together i j || (t i && x)) (same j k);
    called = λ i h. ap (λ x. cond (x && s i) None (d.called i)) same_several ∙
        ap (λ x. cond (are_several pairs t d.together && x) None (d.called i)) (same i h);
  }

pub same_division : (n : ℕ) (a b c : Division) → SameDivision n a b → SameDivision n b c → SameDivision n a c
same_division n a b c e f = record {
  together = λ i j h k. e.together i j h k ∙ f.together i j h k;
  called = λ i h. e.called i h ∙ f.called i h;
}
