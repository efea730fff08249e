use Rattle.std.proofs.Common.{◌≡◌, ◌-◌, ◌^◌, ℕ, List, [], ◌∷◌, ◌++◌, length, take, Some, slice_get, refl, sym, ap, ◌∙◌, append_assoc, subst}
use Rattle.std.proofs.lemmas.List.Elements.{All-more}
use Rattle.std.proofs.lemmas.Option.{slice_get_read}
use Rattle.eq_proof.specs.Literal.{Literal}
use Rattle.eq_proof.specs.Text.{words, literal_word, IsUpTo}
use Rattle.eq_proof.proofs.Lines.{flat_map_at}
use Rattle.eq_proof.proofs.words.push_clause.Goals as goal

pub loop-l-preserved : goal.loop-l-preserved
loop-l-preserved c =
    let inv = c.loop-l.invariant in
    let clause : List Literal = c.args.clause.now in
    let place = c.loop-l.l-index in
    let l : Literal = c.l-item.result in
    let out : List ℕ = c.args.out.now.items in
    let before : List ℕ = words literal_word (take place clause) in
    let blank : List ℕ = 32 ∷ [] in
    let at : slice_get clause place ≡ Some l = slice_get_read clause (length clause) place l refl c.loop-l-test.true c.l-item.is in
    let pushed : c.push.new.self.items ≡ ((out ++ before) ++ literal_word l) ++ blank =
    c.in_ok-push.ensures.items ∙ ap (λ (t : List ℕ). t ++ blank) (c.in_ok-push_literal.ensures.text ∙ ap (λ (t : List ℕ). t ++ literal_word l) inv.text) in
    let P : Literal → Type 0 = IsUpTo (2 ^ 31 - 1) in
    record {
      text =
          pushed ∙ append_assoc (out ++ before) (literal_word l) blank ∙ append_assoc out before (literal_word l ++ blank)
          ∙ ap (λ (t : List ℕ). out ++ t) (sym (flat_map_at (λ (x : Literal). literal_word x ++ 32 ∷ []) clause place l at));
      range = All-more P clause place l c.loop-l-test.true inv.range (subst P c.l-item.is c.in_ok-push_literal.ensures.range);
    }
