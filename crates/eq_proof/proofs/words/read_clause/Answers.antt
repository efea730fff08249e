use Rattle.std.proofs.Common.{◌≡◌, ℕ, List, [], ◌∷◌, ◌++◌, arith, sym, ap, ◌∙◌, subst}
use Rattle.std.proofs.lemmas.List.Elements.{All-push}
use Rattle.eq_proof.specs.Literal.{Literal, literal_is}
use Rattle.eq_proof.specs.Clause.{IsClause}
use Rattle.eq_proof.specs.Text.{words, literal_word, IsUpTo, IsClauseUpTo}
use Rattle.eq_proof.proofs.WordLists.{no_list, literals, one_literal, IsClause-front, words_push}
use Rattle.eq_proof.proofs.words.read_clause.Goals as goal

pub returns-in_default-literal-clause-none : goal.returns-in_default-literal-clause-none
returns-in_default-literal-clause-none c = λ clause more fits e.
    let inv = c.loop-after.invariant in
    no_list literal_word (IsUpTo c.args.most) (literals c.args.most c.requires) c.loop-after.lits.items clause c.args.text.now c.loop-after.rest.now more inv.clause.within fits.within inv.read c.in_default.ensures
    (λ x zs bytes fits' parts. c.in_default-literal.ensures.none x bytes fits') e

pub returns-then-not-goes_on-clause-none : goal.returns-then-not-goes_on-clause-none
returns-then-not-goes_on-clause-none c = λ clause more fits e.
    let inv = c.loop-after.invariant in
    let lits = c.loop-after.lits.items in
    let found : Literal = record { var = c.in-Some-literal.var; positive = c.in-Some-literal.positive } in
    let l : Literal = c.new-l.result in
    let is : l ≡ found = literal_is l found c.new-l.ensures.var c.new-l.ensures.positive in
    no_list literal_word (IsUpTo c.args.most) (literals c.args.most c.requires) lits clause c.args.text.now c.loop-after.rest.now more inv.clause.within fits.within inv.read c.in_default.ensures
    (λ x zs bytes fits' parts e'.
    let same : found ≡ x = (one_literal found x c.in-Some-literal.after.now bytes (omega (arith, c.in-Some-literal.ensures.fits)) (omega (arith, fits'.1)) (sym c.in-Some-literal.ensures.some ∙ e')).0 in
    let ordered = IsClause-front lits x zs (subst IsClause parts fits.ordered) in
    let P : Literal → Type 0 = λ m. IsClause (lits ++ m ∷ []) in
    let Q : List Literal → Type 0 = λ xs. IsClause (xs ++ l ∷ []) in
    let yes' = c.goes_on.ensures.1 (subst Q (sym c.as_slice.ensures.value) (subst P (sym (is ∙ same)) ordered)) in
    absurd (cc (yes', c.if-not-goes_on.true)))
    e

pub loop-after-preserved : goal.loop-after-preserved
loop-after-preserved c =
    let inv = c.loop-after.invariant in
    let lits = c.loop-after.lits.items in
    let found : Literal = record { var = c.in-Some-literal.var; positive = c.in-Some-literal.positive } in
    let l : Literal = c.new-l.result in
    let is : l ≡ found = literal_is l found c.new-l.ensures.var c.new-l.ensures.positive in
    let after : List ℕ = c.in-Some-literal.after.now in
    let items : c.push.new.self.items ≡ lits ++ l ∷ [] = c.in_ok-push.ensures.items in
    let Q : List Literal → Type 0 = λ xs. IsClause (xs ++ l ∷ []) in
    let ordered : IsClause (lits ++ l ∷ []) = subst Q c.as_slice.ensures.value (c.goes_on.ensures.0 c.if-not-goes_on.false) in
    let within : IsUpTo c.args.most l = (omega (arith, c.in-Some-literal.ensures.fits), omega (arith, c.in-Some-literal.ensures.fits)) in
    record {
      read = inv.read ∙ ap (λ (t : List ℕ). words literal_word lits ++ t) (c.in-Some-literal.ensures.some ∙ ap (λ (m : Literal). literal_word m ++ 32 ∷ after) (sym is)) ∙ sym (words_push literal_word lits l after) ∙ ap (λ (xs : List Literal). words literal_word xs ++ after) (sym items);
      clause = subst (IsClauseUpTo c.args.most) (sym items) (record { ordered = ordered; within = All-push (IsUpTo c.args.most) lits l inv.clause.within within });
    }
