use Rattle.std.proofs.Common.{◌≡◌, ◌+◌, drop, sym, ap, subst, ◌∙◌, Some, rules}
use Rattle.eq_first.specs.declared.token.Mark.{Mark}
use Rattle.eq_first.specs.Lexing.{tokens_in}
use Rattle.eq_first.specs.Headers.{head_of}
use Rattle.eq_first.specs.Sentence.{start, ports_at}
use Rattle.eq_first.proofs.Sentences.{goes_on, stops, continues, long_is, wrong_mark, rest_is}
use Rattle.eq_first.proofs.sentence.ports.Goals as goal

pub returns-in_default-clause-read : goal.returns-in_default-clause-read
returns-in_default-clause-read c = stops (head_of c.loop-more.header) c.loop-more.at c.args.tokens.now c.in_ok-more.field-0 _ c.in_ok-more.ensures.read c.in_default.is c.loop-more.invariant.read

pub loop-more-preserved : goal.loop-more-preserved
loop-more-preserved c =
    let next = continues (head_of c.loop-more.header) c.loop-more.at c.args.tokens.now c.in_ok-more.field-0 c.in-Some.more c.in-Some.behind _ c.in_ok-more.ensures.read c.in-Some.is c.loop-more.invariant.read in
    let P : Mark → Type 0 = λ m. goes_on (head_of c.in-Some.more) m (tokens_in (drop (c.loop-more.at + 3) c.args.tokens.now)) ≡ ports_at start (tokens_in c.args.tokens.now) in
    record {
      known = search rules;
      few = search rules;
      within = long_is c.loop-more.at c.args.tokens.now c.in_ok-more.field-0 _ c.in_ok-more.ensures.long c.in-Some.is c.loop-more.invariant.within;
      read = subst P c.in-Comma.is next;
    }

pub returns-in-Close-clause-read : goal.returns-in-Close-clause-read
returns-in-Close-clause-read c =
    let next = continues (head_of c.loop-more.header) c.loop-more.at c.args.tokens.now c.in_ok-more.field-0 c.in-Some.more c.in-Some.behind _ c.in_ok-more.ensures.read c.in-Some.is c.loop-more.invariant.read in
    let P : Mark → Type 0 = λ m. goes_on (head_of c.in-Some.more) m (tokens_in (drop (c.loop-more.at + 3) c.args.tokens.now)) ≡ ports_at start (tokens_in c.args.tokens.now) in
    ap (λ ts. Some (head_of c.in-Some.more, ts)) (rest_is _ c.args.tokens.now) ∙ subst P c.in-Close.is next

pub returns-in_default-behind : goal.returns-in_default-behind
returns-in_default-behind c =
    let next = continues (head_of c.loop-more.header) c.loop-more.at c.args.tokens.now c.in_ok-more.field-0 c.in-Some.more c.in-Some.behind _ c.in_ok-more.ensures.read c.in-Some.is c.loop-more.invariant.read in
    record { known = tt; few = tt; read = sym (wrong_mark (head_of c.in-Some.more) c.in-Some.behind _ c.in_default-behind.not-Comma c.in_default-behind.not-Close) ∙ next }
