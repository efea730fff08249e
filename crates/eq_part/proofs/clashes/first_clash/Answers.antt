use Rattle.std.proofs.Common.{◌≡◌, ℕ, ◌++◌, ◌∷◌, [], List, slice_index_or, Option, Some, None, IfSome, IfNone, ap, subst, sym, ◌∙◌}
use Rattle.std.proofs.lemmas.List.{get_or_default}
use Rattle.eq_names.specs.Tables.{number_of}
use Rattle.eq_part.specs.declared.types.Partition.{Partition}
use Rattle.eq_part.specs.Tables.{no_part}
use Rattle.eq_part.proofs.NamesApart.{first_two, names_more, one_more}
use Rattle.eq_part.proofs.clashes.first_clash.Goals as goal

pub returns-in-Some-clause-some : goal.returns-in-Some-clause-some
returns-in-Some-clause-some c =
    let parts = c.args.parts.now in
    let q = c.loop-q.q in
    let name = (slice_index_or parts q c.index-parts-q.result).name in
    let is = ap (λ (p : Partition). p.name)
    (get_or_default parts q c.index-parts-q.result no_part c.loop-q-test.true) in
    let P : Option ℕ → Type 0 = λ o. IfSome o (λ p. number_of c.loop-q.table name ≡ Some p) in
    let known = subst P c.in-Some.is c.in_ok-p.ensures.some in
    first_two parts q c.in-Some.p name c.loop-q-test.true is c.loop-q.invariant.1
    (ap (λ (ns : List (List ℕ)). number_of ns name) (sym c.loop-q.invariant.0) ∙ known)

pub loop-q-preserved : goal.loop-q-preserved
loop-q-preserved c =
    let parts = c.args.parts.now in
    let q = c.loop-q.q in
    let name = (slice_index_or parts q c.index-parts-q.result).name in
    let is = ap (λ (p : Partition). p.name)
    (get_or_default parts q c.index-parts-q.result no_part c.loop-q-test.true) in
    let P : Option ℕ → Type 0 = λ o. IfNone o (number_of c.loop-q.table name ≡ None) in
    let Q : Option ℕ → Type 0 = λ o. IfNone o (c.known.new.table ≡ c.loop-q.table ++ name ∷ []) in
    let unknown = subst P c.in_default.is c.in_ok-p.ensures.new in (
      names_more parts q name c.loop-q.table c.known.new.table c.loop-q-test.true is c.loop-q.invariant.0
          (subst Q c.in_default.is c.in_ok-p.ensures.taken),
      one_more parts q name c.loop-q-test.true is c.loop-q.invariant.1
          (ap (λ (ns : List (List ℕ)). number_of ns name) (sym c.loop-q.invariant.0) ∙ unknown),
    )
