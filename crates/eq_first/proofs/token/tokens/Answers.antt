use Rattle.std.proofs.Common.{◌∙◌, ap, sym, length, arith, rules}
use Rattle.std.proofs.lemmas.List.{map_push}
use Rattle.eq_first.specs.Lexing.{token_of, tokens_in}
use Rattle.eq_first.proofs.Lexed.{cut_start, cut_more, cut_end, cut_none, token_shortens, skip_le}
use Rattle.eq_first.proofs.token.tokens.Goals as goal

pub loop-rest-init : goal.loop-rest-init
loop-rest-init c = cut_start c.args.text.now c.without_space-rest.result.now _ c.without_space-rest.ensures (ap tokens_in c.new-found.ensures.items)

pub returns-in_default-clause-none : goal.returns-in_default-clause-none
returns-in_default-clause-none c = cut_none c.args.text.now c.loop-rest.rest.now _ c.loop-rest.invariant (search rules) (sym c.in_default.ensures)

pub loop-rest-smaller : goal.loop-rest-smaller
loop-rest-smaller c =
    let a = token_shortens c.loop-rest.rest.now c.in-Some.after.now (token_of c.in-Some.lexeme) (sym c.in-Some.ensures) in
    let b = skip_le c.in-Some.after.now in
    let e = ap length c.without_space-rest-in-loop-rest.ensures in
    omega arith

pub loop-rest-preserved : goal.loop-rest-preserved
loop-rest-preserved c =
    cut_more c.args.text.now c.loop-rest.rest.now c.in-Some.after.now c.without_space-rest-in-loop-rest.result.now (tokens_in c.loop-rest.found.items) (tokens_in c.push.new.self.items) (token_of c.in-Some.lexeme) c.loop-rest.invariant (sym c.in-Some.ensures) c.without_space-rest-in-loop-rest.ensures
    (ap tokens_in c.in_ok-push.ensures.items ∙ map_push token_of c.loop-rest.found.items c.in-Some.lexeme)

pub returns-clause-some : goal.returns-clause-some
returns-clause-some c = cut_end c.args.text.now c.loop-rest.rest.now _ c.loop-rest.invariant (search rules)
