use Rattle.std.proofs.Common.{◌≡◌, List, ◌++◌, length, refl, sym, ap, ◌∙◌}
use Rattle.std.specs.Prelude.{slice_get, Some}
use Rattle.std.specs.List.{flat_map}
use Rattle.std.proofs.lemmas.List.{take_all}
use Rattle.std.proofs.lemmas.Option.{get_or_from_slice_get, slice_get_read}
use Rattle.eq_config.specs.declared.config.Strategy.{Strategy}
use Rattle.eq_induct.specs.declared.types.Try.{Try}
use Rattle.eq_wit.specs.Line.{Line, line_text, lines_text}
use Rattle.eq_wit.specs.Texts.{attempt_lines}
use Rattle.eq_wit.specs.Tried.{head_of, strategy_at}
use Rattle.eq_wit.specs.inner.Tries.{lines_of_try}
use Rattle.eq_wit.proofs.Written.{some_more, tries_one_by_one}
use Rattle.eq_wit.proofs.print.put_tries.Goals as goal

pub put_try-requires : goal.put_try-requires
put_try-requires c = c.requires.tries c.loop-t.t-index c.t-item.result
    (slice_get_read c.args.tries.now (length c.args.tries.now) c.loop-t.t-index c.t-item.result refl
    c.loop-t-test.true c.t-item.is)

pub loop-t-preserved : goal.loop-t-preserved
loop-t-preserved c =
    let tries : List Try = c.args.tries.now in
    let strategies : List Strategy = c.args.s.now in
    let place = c.loop-t.t-index in
    let t : Try = c.t-item.result in
    let s : Strategy = c.index-s-t.result in
    let there : slice_get tries place ≡ Some t =
    slice_get_read tries (length tries) place t refl c.loop-t-test.true c.t-item.is in
    let at : slice_get strategies t.strategy ≡ Some s = slice_get_read strategies (length strategies) t.strategy s refl
    (c.requires.known place t there) c.index-s-t.is in
    let same : strategy_at strategies t.strategy ≡ s = get_or_from_slice_get strategies t.strategy s _ at in
    some_more line_text (lines_of_try c.args.part.now strategies) tries place t t c.args.out.now.items c.loop-t.out.items
    c.put_try.new.out.items c.loop-t-test.true (sym c.t-item.is) c.loop-t.invariant
    (c.in_ok-put_try.ensures ∙ ap (λ (v : Strategy). c.loop-t.out.items
    ++ lines_text (attempt_lines c.args.part.now (head_of v) t.attempt)) (sym same))

pub returns : goal.returns
returns c =
    let tries : List Try = c.args.tries.now in
    c.loop-t.invariant
    ∙ ap (λ (ts : List Try). c.args.out.now.items
    ++ lines_text (flat_map (lines_of_try c.args.part.now c.args.s.now) ts)) (take_all c.loop-t.t-index tries c.loop-t-test.false)
    ∙ ap (λ (ls : List Line). c.args.out.now.items ++ lines_text ls)
    (sym (tries_one_by_one c.args.part.now c.args.s.now tries))
