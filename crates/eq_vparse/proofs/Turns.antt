-- One turn of a loop in code: how the reading of the whole list goes on.
use Rattle.std.proofs.Common.{◌≡◌, ◌<◌, Bool, true, false, cond, List, length, drop, refl, ap, subst, ◌∙◌, inl, inr}
use Rattle.std.proofs.lemmas.Bool.{cases_Bool}
use Rattle.eq_vlex.specs.declared.mark.Mark.{Mark}
use Rattle.eq_vlex.specs.declared.mark.Mark.TheVariants.{Comma}
use Rattle.eq_vlex.specs.declared.token.TokenKind.{TokenKind}
use Rattle.eq_vparse.specs.declared.stop.Stop.{Stop}
use Rattle.eq_vparse.specs.Tests.{is_mark}
use Rattle.eq_vparse.specs.Reading.{Reading, read, stopped, takes}
use Rattle.eq_vparse.specs.Looping.{again, comma_turn, comma_list, turn_until, repeat_until}
use Rattle.eq_vparse.proofs.Agreement.{same_value, same_left}
use Rattle.eq_vparse.proofs.Looping.{Progresses, loop-is}

-- a comma that was looked for
pub took : (m : Mark) (ts left : List TokenKind) (found : Bool) → takes m ts ≡ read found left → (is_mark m ts ≡ found) × (cond found (drop 1 ts) ts ≡ left)
unfolding takes
took m ts left found e = elim (cases_Bool (is_mark m ts)) [
  | inl y ↦
      let e' : read true (drop 1 ts) ≡ read found left = subst (λ b. cond b (read true (drop 1 ts)) (read false ts) ≡ read found left) y e in
      let P : Bool → Type 0 = λ b. (is_mark m ts ≡ b) × (cond b (drop 1 ts) ts ≡ left) in
      subst P (same_value true found _ left e') (y, same_left true found (drop 1 ts) left e')
  | inr n ↦
      let e' : read false ts ≡ read found left = subst (λ b. cond b (read true (drop 1 ts)) (read false ts) ≡ read found left) n e in
      let P : Bool → Type 0 = λ b. (is_mark m ts ≡ b) × (cond b (drop 1 ts) ts ≡ left) in
      subst P (same_value false found _ left e') (n, same_left false found ts left e')
]

module _ {S : Type 0} (p : S → List TokenKind → Reading S) where
  pub comma_stops : Progresses (comma_turn p) → (s : S) (ts : List TokenKind) (e : Stop) → p s ts ≡ stopped e → comma_list p s ts ≡ stopped e
  comma_stops progress s ts e is = loop-is (comma_turn p) progress s ts ∙ rw is refl

  pub comma_ends : Progresses (comma_turn p) → (s : S) (ts : List TokenKind) (more : S) (left rest : List TokenKind) → p s ts ≡ read more left → takes Comma left ≡ read false rest → comma_list p s ts ≡ read more rest
  comma_ends progress s ts more left rest is comma =
      let t = took Comma left rest false comma in
      loop-is (comma_turn p) progress s ts ∙ rw (is, t.0) (ap (read more) t.1)

  pub comma_goes : Progresses (comma_turn p) → (s : S) (ts : List TokenKind) (more : S) (left rest : List TokenKind) → p s ts ≡ read more left → takes Comma left ≡ read true rest → comma_list p s ts ≡ comma_list p more rest
  comma_goes progress s ts more left rest is comma =
      let t = took Comma left rest true comma in
      loop-is (comma_turn p) progress s ts ∙ rw (is, t.0) (ap (comma_list p more) t.1)

  pub comma_less : Progresses (comma_turn p) → (s : S) (ts : List TokenKind) (more : S) (left rest : List TokenKind) → p s ts ≡ read more left → takes Comma left ≡ read true rest → length rest < length ts
  comma_less progress s ts more left rest is comma =
      let t = took Comma left rest true comma in
      let turn : comma_turn p s ts ≡ again more (drop 1 left) = rw (is, t.0) refl in
      let less : length (drop 1 left) < length ts = progress s ts more (drop 1 left) turn in
      subst (λ (x : List TokenKind). length x < length ts) t.1 less

  pub until_ends : (stops : List TokenKind → Bool) → Progresses (turn_until stops p) → (s : S) (ts : List TokenKind) → stops ts ≡ true → repeat_until stops p s ts ≡ read s ts
  until_ends stops progress s ts y = loop-is (turn_until stops p) progress s ts ∙ rw y refl

  pub until_stops : (stops : List TokenKind → Bool) → Progresses (turn_until stops p) → (s : S) (ts : List TokenKind) (e : Stop) → stops ts ≡ false → p s ts ≡ stopped e → repeat_until stops p s ts ≡ stopped e
  until_stops stops progress s ts e n is = loop-is (turn_until stops p) progress s ts ∙ rw (n, is) refl

  pub until_goes : (stops : List TokenKind → Bool) → Progresses (turn_until stops p) → (s : S) (ts : List TokenKind) (more : S) (left : List TokenKind) → stops ts ≡ false → p s ts ≡ read more left → repeat_until stops p s ts ≡ repeat_until stops p more left
  until_goes stops progress s ts more left n is = loop-is (turn_until stops p) progress s ts ∙ rw (n, is) refl

  pub until_less : (stops : List TokenKind → Bool) → Progresses (turn_until stops p) → (s : S) (ts : List TokenKind) (more : S) (left : List TokenKind) → stops ts ≡ false → p s ts ≡ read more left → length left < length ts
  until_less stops progress s ts more left n is =
      let turn : turn_until stops p s ts ≡ again more left = rw (n, is) refl in
      progress s ts more left turn
