-- An expression has no more operators than its spelling has counted marks.
use Rattle.std.proofs.Common.{◌≡◌, ℕ, ◌+◌, ◌≤◌, cond, List, [], ◌∷◌, ◌++◌, refl, sym, ap, ◌∙◌, arith}
use Rattle.std.specs.Prelude.{fold, count_by}
use Rattle.eq_first.specs.declared.module.Port.{Port as PortInfo}
use Rattle.eq_first.specs.declared.module.Expr.{Expr}
use Rattle.eq_first.specs.declared.module.Expr.TheVariants.{Port, rolls-Port, rolls-Not, rolls-And, rolls-Xor, rolls-Or}
use Rattle.eq_first.specs.declared.module.Expr.TheViews.{Not}
use Rattle.eq_first.specs.declared.module.Expr.TheOpen.{Port as port_layer, Not as not_layer, And as and_layer, Xor as xor_layer, Or as or_layer}
use Rattle.eq_first.specs.declared.module.Expr.TheFolds.{fold-roll-Expr}
use Rattle.eq_first.specs.declared.token.Operator.{Operator}
use Rattle.eq_first.specs.declared.token.Operator.TheVariants as operators
use Rattle.eq_first.specs.declared.token.Mark.TheVariants.{Close}
use Rattle.eq_first.specs.Tokens.{Token, mark}
use Rattle.eq_first.specs.Phrases.{Phrase, named, grouped, negated, joined, tokens_of, mark_of, is_counted, join, Denotes}
use Rattle.eq_first.specs.Value.{operators_of, operators_layer}

-- how many tokens are counted, from the last
counted : List Token → ℕ
counted [] = 0
counted (t ∷ ts) = cond {A = ℕ} (is_counted t) 1 0 + counted ts

counted-append : (ts us : List Token) → counted (ts ++ us) ≡ counted ts + counted us
unfolding counted
counted-append [] us = omega arith
counted-append (t ∷ ts) us = (let e = counted-append ts us in omega arith)

counted_on : (n : ℕ) (ts : List Token) → fold (λ a t. a + cond {A = ℕ} (is_counted t) 1 0) n ts ≡ n + counted ts
unfolding counted
counted_on n [] = omega arith
counted_on n (t ∷ ts) = (let e = counted_on (n + cond {A = ℕ} (is_counted t) 1 0) ts in omega arith)

count_is : (ts : List Token) → count_by is_counted ts ≡ counted ts
count_is ts = (let e = counted_on 0 ts in omega arith)

operators-Port : (n : ℕ) → operators_of (Port n) ≡ 0
operators-Port n = ap operators_of (sym (rolls-Port n)) ∙ fold-roll-Expr ℕ operators_layer (port_layer n)

operators-Not : (a : Expr) → operators_of (Not a) ≡ operators_of a + 1
operators-Not a = ap operators_of (sym (rolls-Not a)) ∙ fold-roll-Expr ℕ operators_layer (not_layer a)

operators-join : (o : Operator) (a b : Expr) → operators_of (join o a b) ≡ operators_of a + operators_of b + 1
operators-join operators.And a b = ap operators_of (sym (rolls-And a b)) ∙ fold-roll-Expr ℕ operators_layer (and_layer a b)
operators-join operators.Xor a b = ap operators_of (sym (rolls-Xor a b)) ∙ fold-roll-Expr ℕ operators_layer (xor_layer a b)
operators-join operators.Or a b = ap operators_of (sym (rolls-Or a b)) ∙ fold-roll-Expr ℕ operators_layer (or_layer a b)

counted_operator : (o : Operator) (ts : List Token) → counted (mark (mark_of o) ∷ ts) ≡ 1 + counted ts
unfolding counted
counted_operator operators.And ts = refl
counted_operator operators.Xor ts = refl
counted_operator operators.Or ts = refl

few : (ports : List PortInfo) (p : Phrase) (e : Expr) → Denotes ports p e → operators_of e ≤ counted (tokens_of p)
unfolding counted
few ports (named w) e d = (let n = ap operators_of d.2 ∙ operators-Port d.0 in omega arith)
few ports (grouped p) e d =
    let inner = few ports p e d in
    let split = counted-append (tokens_of p) (mark Close ∷ []) in
    omega arith
few ports (negated p) e d =
    let inner = few ports p d.0 d.1 in
    let n = ap operators_of d.2 ∙ operators-Not d.0 in
    omega arith
few ports (joined o p q) e d =
    let left = few ports p d.0 d.2 in
    let right = few ports q d.1 d.3 in
    let n = ap operators_of d.4 ∙ operators-join o d.0 d.1 in
    let split = counted-append (tokens_of p) (mark (mark_of o) ∷ tokens_of q) in
    let one = counted_operator o (tokens_of q) in
    omega arith

pub few_operators : (ports : List PortInfo) (p : Phrase) (e : Expr) → Denotes ports p e → operators_of e ≤ count_by is_counted (tokens_of p)
few_operators ports p e d = (let f = few ports p e d in let c = count_is (tokens_of p) in omega arith)
