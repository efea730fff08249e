-- A text is read as a module exactly where it is the design of this module.
use Rattle.std.proofs.Common.{◌≡◌, ℕ, ◌<◌, ◌≤◌, Bool, cond, List, [], ◌∷◌, ◌++◌, length, Option, Some, None, refl, sym, ap, subst, ◌∙◌, arith}
use Rattle.std.specs.Global.{Vec}
use Rattle.std.specs.Prelude.{Result, Ok, Err, IfOk, IfSome, IfNone, All, slice_get, codes, count_by}
use Rattle.std.proofs.lemmas.Bool.{lt-ltb, le-ltb}
use Rattle.std.proofs.lemmas.List.Elements.{All-nil, All-cons, All-append}
use Rattle.std.proofs.lemmas.Option.{same_Some, none-some, slice_get_within}
use Rattle.eq_first.specs.declared.module.Direction.{Direction}
use Rattle.eq_first.specs.declared.module.Direction.TheVariants.{Input, Output}
use Rattle.eq_first.specs.declared.module.Port.{Port}
use Rattle.eq_first.specs.declared.module.Expr.{Expr}
use Rattle.eq_first.specs.declared.module.Module.{Module}
use Rattle.eq_first.specs.declared.token.Operator.{Operator}
use Rattle.eq_first.specs.declared.token.Operator.TheVariants as operators
use Rattle.eq_first.specs.declared.token.Mark.TheVariants.{Open, Close, Semicolon, Equals}
use Rattle.eq_first.specs.Value.{reads_of}
use Rattle.eq_first.specs.Well.{Goes, IsWellFormed}
use Rattle.eq_first.specs.declared.token.Lexeme.{Lexeme}
use Rattle.eq_first.specs.Lexing.{tokens_in}
use Rattle.std.specs.declared.alloc.AllocError.{AllocError}
use Rattle.eq_first.specs.Tokens.{Token, word, mark, HasTokens}
use Rattle.eq_first.specs.Phrases.{Phrase, named, grouped, negated, joined, tokens_of, IsGrouped, is_counted, IsPortAt, join, Denotes}
use Rattle.eq_first.specs.Design.{IsPlain, header_tokens, module_tokens, IsSentence, IsModule}
use Rattle.eq_first.specs.Lines.{◌>>=◌}
use Rattle.eq_first.specs.Header.{Head, place_of}
use Rattle.eq_first.specs.Sentence.{opening_at, start, ports_at, target_at, output_of, body_at, is_ending, expr_at, module_at}
use Rattle.eq_first.proofs.Operators.{few_operators}
use Rattle.eq_first.proofs.Texts.{bind_some}
use Rattle.eq_first.proofs.Jobs.{guarded}
use Rattle.eq_first.proofs.Lexed.{same_tokens}
use Rattle.eq_first.proofs.Operands.{reads-Port, reads-Not, reads-And, reads-Xor, reads-Or}
use Rattle.eq_first.proofs.Parsed.{some_at, at_some, place_again, place_is, phrase_again, phrase_takes}
use Rattle.eq_first.proofs.Designs.{opening_takes, opening_again, target_takes, target_again, body_takes, body_again, phrase_plain, ending_is, ending_again, OutputIs, is_start, ports_takes, IsPorts, seen_by, after, ports_again, output_takes, output_of_again, expr_takes, expr_again}

-- the port of the output has the target's name
output_port : (ports : List Port) (target : List ℕ) (n : ℕ) → Goes ports Output n → place_of ports target ≡ Some n → IsPortAt ports Output target n
output_port ports target n goes place =
    let p = some_at (λ q. q.direction ≡ Output) (slice_get ports n) goes in
    let q = place_is ports target n place in
    let same : q.0 ≡ p.0 = same_Some q.0 p.0 (sym q.1 ∙ p.1) in
    at_some (λ x. (x.direction ≡ Output) × (x.name ≡ target)) (slice_get ports n) p.0 p.1 (p.2, sym (ap (λ (x : Port). x.name) same) ∙ q.2)

pub sentence_takes : (top : List ℕ) (ts : List Token) (m : Module) → module_at top ts ≡ Some m → IsSentence ts top m
unfolding module_at
sentence_takes top ts m e =
    let a = bind_some (opening_at top ts) (λ rest. ports_at start rest >>= λ head. target_at head.1 >>= λ target. output_of head.0 target.0 >>= λ output. body_at target.1 >>= λ body. cond (is_ending body.1) (expr_at head.0.ports body.0) None >>= λ expr. Some (record { ports = head.0.ports; output = output; expr = expr })) m e in
    let b = bind_some (ports_at start a.0) (λ head. target_at head.1 >>= λ target. output_of head.0 target.0 >>= λ output. body_at target.1 >>= λ body. cond (is_ending body.1) (expr_at head.0.ports body.0) None >>= λ expr. Some (record { ports = head.0.ports; output = output; expr = expr })) m a.2 in
    let h = b.0.0 in
    let c = bind_some (target_at b.0.1) (λ target. output_of h target.0 >>= λ output. body_at target.1 >>= λ body. cond (is_ending body.1) (expr_at h.ports body.0) None >>= λ expr. Some (record { ports = h.ports; output = output; expr = expr })) m b.2 in
    let target = c.0.0 in
    let d = bind_some (output_of h target) (λ output. body_at c.0.1 >>= λ body. cond (is_ending body.1) (expr_at h.ports body.0) None >>= λ expr. Some (record { ports = h.ports; output = output; expr = expr })) m c.2 in
    let f = bind_some (body_at c.0.1) (λ body. cond (is_ending body.1) (expr_at h.ports body.0) None >>= λ expr. Some (record { ports = h.ports; output = d.0; expr = expr })) m d.2 in
    let body = f.0.0 in
    let g = bind_some (cond (is_ending f.0.1) (expr_at h.ports body) None) (λ expr. Some (record { ports = h.ports; output = d.0; expr = expr })) m f.2 in
    let i = guarded (is_ending f.0.1) (expr_at h.ports body) g.0 g.1 in
    let opened = opening_takes top ts a.0 a.1 in
    let ported = ports_takes start h a.0 b.0.1 is_start b.1 in
    let o = ported.2 in
    let out = output_takes h target d.0 d.1 in
    let x = expr_takes h.ports body g.0 i.1 in
    let phrased = phrase_takes h.ports body g.0 x.1 in
    let phrase = phrased.0 in
    let O : Option ℕ → Type 0 = λ r. OutputIs h.ports r in
    let outputs = subst O out.0 o.head.output_is in
    let from_body : c.0.1 ≡ tokens_of phrase ++ mark Semicolon ∷ word (codes "endmodule") ∷ [] =
    body_takes c.0.1 body f.0.1 f.1 ∙ ap (λ (r : List Token). body ++ mark Semicolon ∷ r) (ending_is f.0.1 i.0) ∙ ap (λ (r : List Token). r ++ mark Semicolon ∷ word (codes "endmodule") ∷ []) phrased.3 in
    let from_target : b.0.1 ≡ mark Semicolon ∷ word (codes "assign") ∷ word target ∷ mark Equals ∷ (tokens_of phrase ++ mark Semicolon ∷ word (codes "endmodule") ∷ []) =
    target_takes b.0.1 target c.0.1 c.1 ∙ ap (λ (r : List Token). mark Semicolon ∷ word (codes "assign") ∷ word target ∷ mark Equals ∷ r) from_body in
    let from_ports : a.0 ≡ header_tokens h.ports ++ mark Close ∷ mark Semicolon ∷ word (codes "assign") ∷ word target ∷ mark Equals ∷ (tokens_of phrase ++ mark Semicolon ∷ word (codes "endmodule") ∷ []) =
    o.parts ∙ ap (λ (r : List Token). header_tokens (ported.0 ∷ ported.1) ++ mark Close ∷ r) from_target
    ∙ ap (λ (ps : List Port). header_tokens ps ++ mark Close ∷ mark Semicolon ∷ word (codes "assign") ∷ word target ∷ mark Equals ∷ (tokens_of phrase ++ mark Semicolon ∷ word (codes "endmodule") ∷ [])) (sym o.ports) in
    let counted : count_by is_counted (tokens_of phrase) ≤ 1000 = let P : List Token → Type 0 = λ r. count_by is_counted r ≤ 1000 in subst P phrased.3 x.0 in
    let M : Module → Type 0 = λ n. IsSentence ts top n in
    subst M (same_Some _ m g.2) (record {
      target = target;
      phrase = phrase;
      spelling = opened.0 ∙ ap (λ (r : List Token). word (codes "module") ∷ word top ∷ mark Open ∷ r) from_ports;
      called = opened.1;
      names = o.head.names;
      distinct = o.head.apart;
      few = o.head.few;
      output = output_port h.ports target d.0 outputs.0 out.1;
      inputs = outputs.1;
      grouping = phrased.1;
      marks = counted;
      meaning = phrased.2;
    })

-- ---- what is a sentence is read

start_is : (k : ℕ) → start ≡ after [] k
start_is k = rw (le-ltb k 0 (omega arith)) refl

goes_at : (ports : List Port) (d : Direction) (name : List ℕ) (n : ℕ) → IsPortAt ports d name n → Goes ports d n
goes_at ports d name n h =
    let p = some_at (λ q. (q.direction ≡ d) × (q.name ≡ name)) (slice_get ports n) h in
    at_some (λ q. q.direction ≡ d) (slice_get ports n) p.0 p.1 p.2.0

inside_at : (ports : List Port) (d : Direction) (name : List ℕ) (n : ℕ) → IsPortAt ports d name n → n < length ports
inside_at ports d name n h =
    let p = some_at (λ q. (q.direction ≡ d) × (q.name ≡ name)) (slice_get ports n) h in
    slice_get_within ports n p.0 p.1

read_again : (top : List ℕ) (all : List Port) (k : ℕ) (target : List ℕ) (phrase : Phrase) (e : Expr) → IsPlain top → IsPorts all k → IsPortAt all Output target k → IsGrouped phrase
    → count_by is_counted (tokens_of phrase) ≤ 1000 → Denotes all phrase e → module_at top (module_tokens top all target phrase) ≡ Some (record { ports = all; output = k; expr = e })
unfolding module_at
read_again top [] k target phrase e called is out grouping marks meaning = absurd out
read_again top (p ∷ ps) k target phrase e called is out grouping marks meaning =
    let ending = word (codes "endmodule") ∷ [] in
    let body = tokens_of phrase ++ mark Semicolon ∷ ending in
    let assign = mark Semicolon ∷ word (codes "assign") ∷ word target ∷ mark Equals ∷ body in
    let all = p ∷ ps in
    let header : ports_at start (header_tokens all ++ mark Close ∷ assign) ≡ Some (after all k, assign) =
    ap (λ (h : Head). ports_at h (header_tokens all ++ mark Close ∷ assign)) (start_is k) ∙ ports_again [] p ps k assign is in
    let seen : seen_by k (length all) ≡ Some k = rw (lt-ltb k (length all) (inside_at all Output target k out)) refl in
    let output : output_of (after all k) target ≡ Some k = output_of_again (after all k) target k seen (place_again all Output target k is.apart out) in
    let expr : expr_at all (tokens_of phrase) ≡ Some e = expr_again all (tokens_of phrase) e marks (phrase_again all phrase e is.apart grouping meaning) in
    ap (λ (o : Option (List Token)). o >>= λ rest. ports_at start rest >>= λ head. target_at head.1 >>= λ target. output_of head.0 target.0 >>= λ output. body_at target.1 >>= λ body. cond (is_ending body.1) (expr_at head.0.ports body.0) None >>= λ expr. Some (record { ports = head.0.ports; output = output; expr = expr })) (opening_again top (header_tokens all ++ mark Close ∷ assign) called)
    ∙ ap (λ (o : Option (Head × List Token)). o >>= λ head. target_at head.1 >>= λ target. output_of head.0 target.0 >>= λ output. body_at target.1 >>= λ body. cond (is_ending body.1) (expr_at head.0.ports body.0) None >>= λ expr. Some (record { ports = head.0.ports; output = output; expr = expr })) header
    ∙ ap (λ (o : Option (List ℕ × List Token)). o >>= λ target. output_of (after all k) target.0 >>= λ output. body_at target.1 >>= λ body. cond (is_ending body.1) (expr_at all body.0) None >>= λ expr. Some (record { ports = all; output = output; expr = expr })) (target_again target body)
    ∙ ap (λ (o : Option ℕ). o >>= λ output. body_at body >>= λ body. cond (is_ending body.1) (expr_at all body.0) None >>= λ expr. Some (record { ports = all; output = output; expr = expr })) output
    ∙ ap (λ (o : Option (List Token × List Token)). o >>= λ body. cond (is_ending body.1) (expr_at all body.0) None >>= λ expr. Some (record { ports = all; output = k; expr = expr })) (body_again (tokens_of phrase) ending (phrase_plain phrase))
    ∙ ap (λ (b : Bool). cond b (expr_at all (tokens_of phrase)) None >>= λ expr. Some (record { ports = all; output = k; expr = expr })) ending_again
    ∙ ap (λ (o : Option Expr). o >>= λ expr. Some (record { ports = all; output = k; expr = expr })) expr

pub sentence_again : (top : List ℕ) (ts : List Token) (m : Module) → IsSentence ts top m → module_at top ts ≡ Some m
sentence_again top ts m h =
    ap (module_at top) h.spelling
    ∙ read_again top m.ports m.output h.target h.phrase m.expr h.called
    (record { names = h.names; apart = h.distinct; few = h.few; goes = goes_at m.ports Output h.target m.output h.output; others = h.inputs }) h.output h.grouping h.marks h.meaning

-- ---- what each module keeps

reads_join : (ports : List Port) (o : Operator) (a b : Expr) → All (Goes ports Input) (reads_of a) → All (Goes ports Input) (reads_of b) → All (Goes ports Input) (reads_of (join o a b))
reads_join ports operators.And a b h k = let P : List ℕ → Type 0 = λ l. All (Goes ports Input) l in subst P (sym (reads-And a b)) (All-append (Goes ports Input) (reads_of a) (reads_of b) h k)
reads_join ports operators.Xor a b h k = let P : List ℕ → Type 0 = λ l. All (Goes ports Input) l in subst P (sym (reads-Xor a b)) (All-append (Goes ports Input) (reads_of a) (reads_of b) h k)
reads_join ports operators.Or a b h k = let P : List ℕ → Type 0 = λ l. All (Goes ports Input) l in subst P (sym (reads-Or a b)) (All-append (Goes ports Input) (reads_of a) (reads_of b) h k)

reads_inputs : (ports : List Port) (p : Phrase) (e : Expr) → Denotes ports p e → All (Goes ports Input) (reads_of e)
reads_inputs ports (named w) e d =
    let P : Expr → Type 0 = λ x. All (Goes ports Input) (reads_of x) in
    let L : List ℕ → Type 0 = λ l. All (Goes ports Input) l in
    subst P (sym d.2) (subst L (sym (reads-Port d.0)) (All-cons (Goes ports Input) d.0 [] (goes_at ports Input w d.0 d.1) (All-nil (Goes ports Input))))
reads_inputs ports (grouped p) e d = reads_inputs ports p e d
reads_inputs ports (negated p) e d =
    let P : Expr → Type 0 = λ x. All (Goes ports Input) (reads_of x) in
    let L : List ℕ → Type 0 = λ l. All (Goes ports Input) l in
    subst P (sym d.2) (subst L (sym (reads-Not d.0)) (reads_inputs ports p d.0 d.1))
reads_inputs ports (joined o p q) e d =
    let P : Expr → Type 0 = λ x. All (Goes ports Input) (reads_of x) in
    subst P (sym d.4) (reads_join ports o d.0 d.1 (reads_inputs ports p d.0 d.2) (reads_inputs ports q d.1 d.3))

pub well : (ts : List Token) (top : List ℕ) (m : Module) → IsSentence ts top m → IsWellFormed m
well ts top m h = record {
  few = h.few;
  distinct = h.distinct;
  output = goes_at m.ports Output h.target m.output h.output;
  inputs = h.inputs;
  reads = reads_inputs m.ports h.phrase m.expr h.meaning;
  small = (let marks = h.marks in let few = few_operators m.ports h.phrase m.expr h.meaning in omega arith);
}

pub well_formed : (text top : List ℕ) (m : Module) → IsModule text top m → IsWellFormed m
well_formed text top m h = well h.tokens top m h.sentence

pub same_module : (text top : List ℕ) (a b : Module) → IsModule text top a → IsModule text top b → a ≡ b
same_module text top a b h k =
    let same = same_tokens text h.tokens k.tokens h.lexed k.lexed in
    same_Some a b (sym (sentence_again top h.tokens a h.sentence) ∙ ap (module_at top) same ∙ sentence_again top k.tokens b k.sentence)

-- ---- the answers of the reader

pub answers_some : (text top : List ℕ) (ts : List Token) (r : Result (Option Module) AllocError) → HasTokens text ts → IfOk r (λ o. o ≡ module_at top ts) → IfOk r (λ o. IfSome o (IsModule text top))
answers_some text top ts (Err e) h is = tt
answers_some text top ts (Ok None) h is = tt
answers_some text top ts (Ok (Some m)) h is = record { tokens = ts; lexed = h; sentence = sentence_takes top ts m (sym is) }

pub answers_none : (text top : List ℕ) (ts : List Token) (r : Result (Option Module) AllocError) → HasTokens text ts → IfOk r (λ o. o ≡ module_at top ts) → IfOk r (λ o. IfNone o ((m : Module) → IsModule text top m → ⊥))
answers_none text top ts (Err e) h is = tt
answers_none text top ts (Ok (Some m)) h is = tt
answers_none text top ts (Ok None) h is = λ m k.
    let same = same_tokens text k.tokens ts k.lexed h in
    none-some m (is ∙ ap (module_at top) (sym same) ∙ sentence_again top k.tokens m k.sentence)

pub answers_well : (top : List ℕ) (ts : List Token) (r : Result (Option Module) AllocError) → IfOk r (λ o. o ≡ module_at top ts) → IfOk r (λ o. IfSome o IsWellFormed)
answers_well top ts (Err e) is = tt
answers_well top ts (Ok None) is = tt
answers_well top ts (Ok (Some m)) is = well ts top m (sentence_takes top ts m (sym is))

pub tokens_of_some : (text : List ℕ) (o : Option (Vec Lexeme)) (v : Vec Lexeme) → IfSome o (λ w. HasTokens text (tokens_in w.items)) → o ≡ Some v → HasTokens text (tokens_in v.items)
tokens_of_some text o v h is = let P : Option (Vec Lexeme) → Type 0 = λ r. IfSome r (λ w. HasTokens text (tokens_in w.items)) in subst P is h
