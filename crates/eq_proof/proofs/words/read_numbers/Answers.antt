use Rattle.std.proofs.Common.{◌≡◌, ℕ, List, [], ◌∷◌, ◌++◌, sym, ap, ◌∙◌, subst}
use Rattle.std.specs.Prelude.{All}
use Rattle.std.specs.Fmt.{decimal}
use Rattle.std.proofs.lemmas.List.Elements.{All-push}
use Rattle.eq_proof.specs.Text.{words, IsNumber}
use Rattle.eq_proof.proofs.WordLists.{no_list, numbers, words_push, from_one}
use Rattle.eq_proof.proofs.words.read_numbers.Goals as goal

pub returns-in_default-number_before-clause-none : goal.returns-in_default-number_before-clause-none
returns-in_default-number_before-clause-none c = λ ns more fits e.
    let inv = c.loop-after.invariant in
    no_list decimal IsNumber numbers c.loop-after.numbers.items ns c.args.text.now c.loop-after.rest.now more inv.fits fits inv.read c.in_default.ensures (λ n zs bytes fits' parts. c.in_default-number_before.ensures.none n bytes fits'.1) e

pub loop-after-preserved : goal.loop-after-preserved
loop-after-preserved c =
    let inv = c.loop-after.invariant in
    let ns = c.loop-after.numbers.items in
    let n = c.in-Some-number_before.number in
    let after : List ℕ = c.in-Some-number_before.after.now in
    let pushed : c.push.new.self.items ≡ ns ++ n ∷ [] = c.in_ok-push.ensures.items in
    let fits : IsNumber n = (from_one c.loop-after.rest.now n (32 ∷ after) c.in_default.ensures c.in-Some-number_before.ensures.some, c.in-Some-number_before.ensures.fits) in
    let P : List ℕ → Type 0 = All IsNumber in
    record {
      read = inv.read ∙ ap (λ (t : List ℕ). words decimal ns ++ t) c.in-Some-number_before.ensures.some ∙ sym (words_push decimal ns n after) ∙ ap (λ (xs : List ℕ). words decimal xs ++ after) (sym pushed);
      fits = subst P (sym pushed) (All-push IsNumber ns n inv.fits fits);
    }
