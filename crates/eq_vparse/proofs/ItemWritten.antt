-- What is written of an item is a sentence of the grammar with this item.
use Rattle.std.proofs.Common.{◌≡◌, ℕ, suc, ◌≤◌, max, true, List, [], ◌∷◌, ◌++◌, map, Option, Some, None, refl, sym, ap, subst, ◌∙◌, append_assoc, arith, inl, inr}
use Rattle.std.specs.Prelude.{◌≢◌}
use Rattle.std.specs.List.{AllByRecursion}
use Rattle.std.proofs.lemmas.List.{append-nil}
use Rattle.eq_vlex.specs.declared.key.Key.TheVariants as key
use Rattle.eq_vlex.specs.declared.mark.Mark.TheVariants as mark
use Rattle.eq_vlex.specs.declared.token.Constant.{Constant}
use Rattle.eq_vlex.specs.declared.token.TokenKind.{TokenKind}
use Rattle.eq_vlex.specs.declared.token.TokenKind.TheVariants as kind
use Rattle.eq_vparse.specs.declared.tree.Conns.{Conns}
use Rattle.eq_vparse.specs.declared.tree.Conns.TheVariants.{ByOrder, ByName}
use Rattle.eq_vparse.specs.declared.tree.DeclKind.{DeclKind}
use Rattle.eq_vparse.specs.declared.tree.DeclKind.TheVariants as decl
use Rattle.eq_vparse.specs.declared.tree.Expr.{Expr}
use Rattle.eq_vparse.specs.declared.tree.GateKind.{GateKind}
use Rattle.eq_vparse.specs.declared.tree.GateKind.TheVariants as gate
use Rattle.eq_vparse.specs.declared.tree.Item.{Item}
use Rattle.eq_vparse.specs.declared.tree.Item.TheVariants.{Decl, Assign, Gate, Instance, Always, Init}
use Rattle.eq_vparse.specs.declared.tree.Named.{Named}
use Rattle.eq_vparse.specs.declared.tree.Range.{Range}
use Rattle.eq_vparse.specs.declared.tree.Stmt.{Stmt}
use Rattle.eq_vparse.specs.declared.tree.Target.{Target}
use Rattle.eq_vparse.specs.declared.tree.Target.TheVariants.{Net, Bit}
use Rattle.eq_vparse.specs.Rules.{Rule, ◌>>=◌, name, maybe, separated as separated_rule}
use Rattle.eq_vparse.specs.Limits.{Limits}
use Rattle.eq_vparse.specs.Phrases.{index_tokens}
use Rattle.eq_vparse.specs.Targets.{range}
use Rattle.eq_vparse.specs.Statements.{expr_within, target_within}
use Rattle.eq_vparse.specs.Grammar.{port, reg, wire, assignment, gate as gate_rule, terminals, named, conns, instance, clock, init, listed, item}
use Rattle.eq_vparse.specs.Layout.{follows}
use Rattle.eq_vparse.specs.Depths.{largest, expr_marks, target_marks, maybe_marks, conns_marks, Fits}
use Rattle.eq_vparse.specs.Printing.{more, parenthesized, expr_tokens, exprs_tokens, target_tokens, stmt_tokens, gate_key, maybe_range, maybe_name, maybe_expr, maybe_exprs, named_tokens, all_named, conns_tokens, decl_tokens, assign_tokens, gate_tokens, instance_tokens, always_tokens, init_tokens, item_tokens}
use Rattle.eq_vparse.proofs.Printed.{target_net, target_bit}
use Rattle.eq_vparse.proofs.RuleParts.{Some', separated_written}
use Rattle.eq_vparse.proofs.ExprAgain.{IsAgain, written_expr, expr_part}
use Rattle.eq_vparse.proofs.TargetAgain.{index_written, range_written}
use Rattle.eq_vparse.proofs.StmtAgain.{IsStmt}
use Rattle.eq_vparse.proofs.ItemAgain.{HasExpr, HasTarget, IsNamed, AreConns, IsClock, net_clock, bit_clock, IsItem}

-- ---- one of many

one_written : {A : Type 0} (g : Rule A) (ts : List TokenKind) (a : A) → g.sentence ts a → (separated_rule g).sentence ts (a ∷ [])
one_written g ts a h = (ts, [], a, sym (append-nil ts), h, ([], [], [], refl, refl, (refl, refl)))

-- one thing and `;`
listed_one : (g : Rule (List Item)) (ts : List TokenKind) (i : Item) → g.sentence ts (i ∷ []) → (listed g).sentence (ts ++ kind.Mark mark.Semicolon ∷ []) (i ∷ [])
listed_one g ts i h = (ts, kind.Mark mark.Semicolon ∷ [], (i ∷ []) ∷ [], refl, one_written g ts (i ∷ []) h, (kind.Mark mark.Semicolon ∷ [], [], tt, refl, refl, (refl, refl)))

maybe_range_written : (r : Option Range) → (maybe range).sentence (maybe_range r) r
maybe_range_written None = refl
maybe_range_written (Some r) = range_written r.left r.right

maybe_name_written : (n : Option (List ℕ)) → (maybe name).sentence (maybe_name n) n
maybe_name_written None = refl
maybe_name_written (Some n) = refl

-- the largest number bounds each
all_below : {A : Type 0} (f : A → ℕ) (k : ℕ) (all : List A) → largest (map f all) ≤ k → AllByRecursion (λ a. f a ≤ k) all
all_below f k [] h = tt
all_below f k (a ∷ all) h = (omega arith, all_below f k all (omega arith))

all_both : {A : Type 0} (P Q R : A → Type 0) → ((a : A) → P a → Q a → R a) → (all : List A) → AllByRecursion P all → AllByRecursion Q all → AllByRecursion R all
all_both P Q R each [] p q = tt
all_both P Q R each (a ∷ all) p q = (each a p.0 q.0, all_both P Q R each all p.1 q.1)

expr_written : (l : Limits) (e : Expr) → IsAgain e → expr_marks e ≤ l.marks → (expr_within l).sentence (expr_tokens e) e
expr_written l e a few = (written_expr e a, few)

target_written : (l : Limits) (t : Target) → HasTarget t → target_marks t ≤ l.marks → (target_within l).sentence (target_tokens t) t
target_written l t a few = ((a.0, a.1.sentence), few)

-- ---- declarations

-- a range and what is declared behind it
ranged : (r : Option Range) (g : Option Range → Rule (List Item)) (n : List ℕ) (i : Item) → (g r).sentence (kind.Word n ∷ []) (i ∷ []) → (maybe range >>= λ x. listed (g x)).sentence (maybe_range r ++ kind.Word n ∷ kind.Mark mark.Semicolon ∷ []) (i ∷ [])
ranged r g n i h = (maybe_range r, kind.Word n ∷ kind.Mark mark.Semicolon ∷ [], r, refl, maybe_range_written r, listed_one (g r) (kind.Word n ∷ []) i h)

port_written : (k : DeclKind) (r : Option Range) (n : List ℕ) → (port k r).sentence (kind.Word n ∷ []) (Decl k r n ∷ [])
port_written k r n = (kind.Word n ∷ [], [], n, refl, refl, (refl, refl))

decl_written : (l : Limits) (k : DeclKind) (r : Option Range) (n : List ℕ) → (item l).sentence (decl_tokens k r n) (Decl k r n ∷ [])
decl_written l decl.Input r n =
    let rest : List TokenKind = maybe_range r ++ kind.Word n ∷ kind.Mark mark.Semicolon ∷ [] in
    inl (kind.Key key.Input ∷ [], rest, tt, refl, refl, ([], rest, None, refl, refl, ranged r (port decl.Input) n (Decl decl.Input r n) (port_written decl.Input r n)))
decl_written l decl.Output r n =
    let rest : List TokenKind = maybe_range r ++ kind.Word n ∷ kind.Mark mark.Semicolon ∷ [] in
    inr (inl (kind.Key key.Output ∷ [], rest, tt, refl, refl, ([], rest, None, refl, refl, ranged r (port decl.Output) n (Decl decl.Output r n) (port_written decl.Output r n))))
decl_written l decl.Reg r n =
    let rest : List TokenKind = maybe_range r ++ kind.Word n ∷ kind.Mark mark.Semicolon ∷ [] in
    inr (inr (inr (inl (kind.Key key.Reg ∷ [], rest, tt, refl, refl, ranged r reg n (Decl decl.Reg r n) (kind.Word n ∷ [], [], n, refl, refl, ([], [], None, refl, refl, (refl, refl)))))))
decl_written l decl.Wire r n =
    let rest : List TokenKind = maybe_range r ++ kind.Word n ∷ kind.Mark mark.Semicolon ∷ [] in
    inr (inr (inr (inr (inl (kind.Key key.Wire ∷ [], rest, tt, refl, refl, ranged r (wire l) n (Decl decl.Wire r n) (kind.Word n ∷ [], [], n, refl, refl, ([], [], None, refl, refl, (refl, refl))))))))

-- ---- assignments and first values

assign_written : (l : Limits) (t : Target) (e : Expr) → HasTarget t → IsAgain e → max (target_marks t) (expr_marks e) ≤ l.marks → (item l).sentence (assign_tokens t e) (Assign t e ∷ [])
assign_written l t e a b few =
    let end : List TokenKind = kind.Mark mark.Semicolon ∷ [] in
    let body : List TokenKind = target_tokens t ++ kind.Mark mark.Assign ∷ expr_tokens e in
    let one : (assignment l).sentence body (Assign t e ∷ []) = (
      target_tokens t,
      kind.Mark mark.Assign ∷ expr_tokens e,
      t,
      refl,
      target_written l t a (omega arith),
      (kind.Mark mark.Assign ∷ [], expr_tokens e, tt, refl, refl, (expr_tokens e, [], e, sym (append-nil (expr_tokens e)), expr_written l e b (omega arith), (refl, refl))),
    ) in
    let S : List TokenKind → Type 0 = λ ts. (listed (assignment l)).sentence ts (Assign t e ∷ []) in
    let all = subst S (append_assoc (target_tokens t) (kind.Mark mark.Assign ∷ expr_tokens e) end) (listed_one (assignment l) body (Assign t e) one) in
    inr (inr (inr (inr (inr (inl (kind.Key key.Assign ∷ [], target_tokens t ++ kind.Mark mark.Assign ∷ (expr_tokens e ++ end), tt, refl, refl, all))))))

init_written : (l : Limits) (t : Target) (c : Constant) → HasTarget t → target_marks t ≤ l.marks → (item l).sentence (init_tokens t c) (Init t c ∷ [])
init_written l t c a few =
    let after : List TokenKind = kind.Mark mark.Assign ∷ kind.Sized c ∷ kind.Mark mark.Semicolon ∷ [] in
    let one : (init l).sentence (target_tokens t ++ after) (Init t c) = (
      target_tokens t,
      after,
      t,
      refl,
      target_written l t a few,
      (kind.Mark mark.Assign ∷ [], kind.Sized c ∷ kind.Mark mark.Semicolon ∷ [], tt, refl, refl, (kind.Sized c ∷ [], kind.Mark mark.Semicolon ∷ [], c, refl, refl, (kind.Mark mark.Semicolon ∷ [], [], tt, refl, refl, (refl, refl)))),
    ) in
    inr (inr (inr (inr (inr (inr (inr (inr (inr (inl (
      kind.Key key.Initial ∷ [],
      target_tokens t ++ after,
      tt,
      refl,
      refl,
      (target_tokens t ++ after, [], Init t c, sym (append-nil (target_tokens t ++ after)), one, (refl, refl)),
    ))))))))))

-- ---- gates

gate_key_written : (k : GateKind) → gate_rule.sentence (kind.Key (gate_key k) ∷ []) k
gate_key_written gate.And = inl (kind.Key key.And ∷ [], [], tt, refl, refl, (refl, refl))
gate_key_written gate.Nand = inr (inl (kind.Key key.Nand ∷ [], [], tt, refl, refl, (refl, refl)))
gate_key_written gate.Or = inr (inr (inl (kind.Key key.Or ∷ [], [], tt, refl, refl, (refl, refl))))
gate_key_written gate.Nor = inr (inr (inr (inl (kind.Key key.Nor ∷ [], [], tt, refl, refl, (refl, refl)))))
gate_key_written gate.Xor = inr (inr (inr (inr (inl (kind.Key key.Xor ∷ [], [], tt, refl, refl, (refl, refl))))))
gate_key_written gate.Xnor = inr (inr (inr (inr (inr (inl (kind.Key key.Xnor ∷ [], [], tt, refl, refl, (refl, refl)))))))
gate_key_written gate.Buf = inr (inr (inr (inr (inr (inr (inl (kind.Key key.Buf ∷ [], [], tt, refl, refl, (refl, refl))))))))
gate_key_written gate.Not = inr (inr (inr (inr (inr (inr (inr (kind.Key key.Not ∷ [], [], tt, refl, refl, (refl, refl))))))))

terms_written : (l : Limits) (es : List Expr) → Some' IsAgain es → largest (map expr_marks es) ≤ l.marks → (separated_rule (expr_within l)).sentence (exprs_tokens es) es
terms_written l es some few =
    let P : List Expr → Type 0 = λ xs. (separated_rule (expr_within l)).sentence (exprs_tokens xs) xs in
    let low = subst (λ (xs : List Expr). largest (map expr_marks xs) ≤ l.marks) some.is few in
    subst P (sym some.is) (separated_written (expr_within l) expr_tokens some.first some.rest (expr_written l some.first some.first_has (omega arith))
    (all_both IsAgain (λ e. expr_marks e ≤ l.marks) (λ e. (expr_within l).sentence (expr_tokens e) e) (expr_written l) some.rest some.rest_have (all_below expr_marks l.marks some.rest (omega arith))))

gate_written : (l : Limits) (k : GateKind) (n : Option (List ℕ)) (es : List Expr) → Some' IsAgain es → largest (map expr_marks es) ≤ l.marks → (item l).sentence (gate_tokens k n es) (Gate k n es ∷ [])
gate_written l k n es some few =
    let terms : List TokenKind = kind.Mark mark.LeftParen ∷ (exprs_tokens es ++ kind.Mark mark.RightParen ∷ []) in
    let end : List TokenKind = kind.Mark mark.Semicolon ∷ [] in
    let one : (terminals l k).sentence (maybe_name n ++ terms) (Gate k n es ∷ []) = (
      maybe_name n,
      terms,
      n,
      refl,
      maybe_name_written n,
      (
        kind.Mark mark.LeftParen ∷ [],
        exprs_tokens es ++ kind.Mark mark.RightParen ∷ [],
        tt,
        refl,
        refl,
        (exprs_tokens es, kind.Mark mark.RightParen ∷ [], es, refl, terms_written l es some few, (kind.Mark mark.RightParen ∷ [], [], tt, refl, refl, (refl, refl))),
      ),
    ) in
    let inner : terms ++ end ≡ kind.Mark mark.LeftParen ∷ (exprs_tokens es ++ kind.Mark mark.RightParen ∷ end) = ap (λ (ts : List TokenKind). kind.Mark mark.LeftParen ∷ ts) (append_assoc (exprs_tokens es) (kind.Mark mark.RightParen ∷ []) end) in
    let whole : (maybe_name n ++ terms) ++ end ≡ maybe_name n ++ kind.Mark mark.LeftParen ∷ (exprs_tokens es ++ kind.Mark mark.RightParen ∷ end) = append_assoc (maybe_name n) terms end ∙ ap (λ (ts : List TokenKind). maybe_name n ++ ts) inner in
    let S : List TokenKind → Type 0 = λ ts. (listed (terminals l k)).sentence ts (Gate k n es ∷ []) in
    inr (inr (inr (inr (inr (inr (inl (kind.Key (gate_key k) ∷ [], maybe_name n ++ kind.Mark mark.LeftParen ∷ (exprs_tokens es ++ kind.Mark mark.RightParen ∷ end), k, refl, gate_key_written k, subst S whole (listed_one (terminals l k) (maybe_name n ++ terms) (Gate k n es) one))))))))

-- ---- instances

maybe_expr_written : (l : Limits) (e : Option Expr) → HasExpr e → maybe_marks e ≤ l.marks → (maybe (expr_within l)).sentence (maybe_expr e) e
maybe_expr_written l None h few = refl
maybe_expr_written l (Some e) h few = expr_written l e h few

named_written : (l : Limits) (n : Named) → IsNamed n → maybe_marks n.expr ≤ l.marks → (named l).sentence (named_tokens n) n
named_written l n h few = (
  kind.Mark mark.Dot ∷ [],
  kind.Word n.port ∷ parenthesized (maybe_expr n.expr),
  tt,
  refl,
  refl,
  (
    kind.Word n.port ∷ [],
    parenthesized (maybe_expr n.expr),
    n.port,
    refl,
    refl,
    (
      kind.Mark mark.LeftParen ∷ [],
      maybe_expr n.expr ++ kind.Mark mark.RightParen ∷ [],
      tt,
      refl,
      refl,
      (maybe_expr n.expr, kind.Mark mark.RightParen ∷ [], n.expr, refl, maybe_expr_written l n.expr h.expr few, (kind.Mark mark.RightParen ∷ [], [], tt, refl, refl, (refl, refl))),
    ),
  ),
)

nil_front : (us vs : List TokenKind) → us ++ vs ≡ [] → us ≡ []
nil_front [] vs e = refl
nil_front (u ∷ us) vs e = absurd cc

-- an expression has a token
expr_some : (e : Expr) → IsAgain e → expr_tokens e ≢ []
expr_some e a none =
    let P : List TokenKind → Type 0 = λ us. follows (kind.Mark mark.Assign) (us ++ kind.Mark mark.Assign ∷ []) ≡ true in
    let clash : follows (kind.Mark mark.Assign) (kind.Mark mark.Assign ∷ []) ≡ true = subst P none ((expr_part e a).starts (kind.Mark mark.Assign) (kind.Mark mark.Assign ∷ []) refl) in
    absurd (cc)

order_seen : (e : Option Expr) (es : List (Option Expr)) → HasExpr e → e ∷ es ≢ None ∷ [] → maybe_exprs (e ∷ es) ≢ []
order_seen None [] h seen nil = seen refl
order_seen None (x ∷ es) h seen nil = absurd cc
order_seen (Some e) es h seen nil = expr_some e h (nil_front (expr_tokens e) (more (map maybe_expr es)) nil)

order_written : (l : Limits) (e : Option Expr) (es : List (Option Expr)) → HasExpr e → AllByRecursion HasExpr es → e ∷ es ≢ None ∷ [] → largest (map maybe_marks (e ∷ es)) ≤ l.marks → (conns l).sentence (maybe_exprs (e ∷ es)) (ByOrder (e ∷ es))
order_written l e es h all seen few =
    let ts : List TokenKind = maybe_exprs (e ∷ es) in
    let rule = separated_written (maybe (expr_within l)) maybe_expr e es (maybe_expr_written l e h (omega arith))
    (all_both HasExpr (λ x. maybe_marks x ≤ l.marks) (λ x. (maybe (expr_within l)).sentence (maybe_expr x) x) (maybe_expr_written l) es all (all_below maybe_marks l.marks es (omega arith))) in
    inr (inl (ts, [], e ∷ es, sym (append-nil ts), (rule, order_seen e es h seen), (refl, refl)))

conns_written : (l : Limits) (all : Conns) → AreConns all → conns_marks all ≤ l.marks → (conns l).sentence (conns_tokens all) all
conns_written l (ByOrder es) h few =
    let P : List (Option Expr) → Type 0 = λ xs. (conns l).sentence (maybe_exprs xs) (ByOrder xs) in
    let seen = subst (λ (xs : List (Option Expr)). xs ≢ None ∷ []) h.some.is h.seen in
    let low = subst (λ (xs : List (Option Expr)). largest (map maybe_marks xs) ≤ l.marks) h.some.is few in
    subst P (sym h.some.is) (order_written l h.some.first h.some.rest h.some.first_has h.some.rest_have seen low)
conns_written l (ByName []) h few = inl (refl, refl)
conns_written l (ByName (n ∷ ns)) h few =
    let ts : List TokenKind = all_named (n ∷ ns) in
    let rule = separated_written (named l) named_tokens n ns (named_written l n h.0 (omega arith))
    (all_both IsNamed (λ (x : Named). maybe_marks x.expr ≤ l.marks) (λ x. (named l).sentence (named_tokens x) x) (named_written l) ns h.1 (all_below (λ (x : Named). maybe_marks x.expr) l.marks ns (omega arith))) in
    inr (inr (ts, [], n ∷ ns, sym (append-nil ts), rule, (refl, refl)))

instance_written : (l : Limits) (m n : List ℕ) (all : Conns) → AreConns all → conns_marks all ≤ l.marks → (item l).sentence (instance_tokens m n all) (Instance m n all ∷ [])
instance_written l m n all a few =
    let inner : List TokenKind = kind.Word n ∷ kind.Mark mark.LeftParen ∷ (conns_tokens all ++ kind.Mark mark.RightParen ∷ []) in
    let end : List TokenKind = kind.Mark mark.Semicolon ∷ [] in
    let one : (instance l m).sentence inner (Instance m n all ∷ []) = (
      kind.Word n ∷ [],
      kind.Mark mark.LeftParen ∷ (conns_tokens all ++ kind.Mark mark.RightParen ∷ []),
      n,
      refl,
      refl,
      (
        kind.Mark mark.LeftParen ∷ [],
        conns_tokens all ++ kind.Mark mark.RightParen ∷ [],
        tt,
        refl,
        refl,
        (conns_tokens all, kind.Mark mark.RightParen ∷ [], all, refl, conns_written l all a few, (kind.Mark mark.RightParen ∷ [], [], tt, refl, refl, (refl, refl))),
      ),
    ) in
    let whole : inner ++ end ≡ kind.Word n ∷ kind.Mark mark.LeftParen ∷ (conns_tokens all ++ kind.Mark mark.RightParen ∷ end) = ap (λ (ts : List TokenKind). kind.Word n ∷ kind.Mark mark.LeftParen ∷ ts) (append_assoc (conns_tokens all) (kind.Mark mark.RightParen ∷ []) end) in
    let S : List TokenKind → Type 0 = λ ts. (listed (instance l m)).sentence ts (Instance m n all ∷ []) in
    inr (inr (inr (inr (inr (inr (inr (inl (kind.Word m ∷ [], kind.Word n ∷ kind.Mark mark.LeftParen ∷ (conns_tokens all ++ kind.Mark mark.RightParen ∷ end), m, refl, refl, subst S whole (listed_one (instance l m) inner (Instance m n all) one)))))))))

-- ---- what runs at a clock's edge

clock_written : (c : Target) → IsClock c → clock.sentence (target_tokens c) c
clock_written _ (net_clock n h) = let P : List TokenKind → Type 0 = λ ts. clock.sentence ts (Net n) in subst P (sym (target_net n)) (kind.Word n ∷ [], [], n, refl, refl, ([], [], None, refl, refl, (refl, refl)))
clock_written _ (bit_clock n d h small) = let P : List TokenKind → Type 0 = λ ts. clock.sentence ts (Bit n d) in subst P (sym (target_bit n d)) (kind.Word n ∷ [], index_tokens d, n, refl, refl, (index_tokens d, [], Some d, refl, index_written d, (refl, refl)))

always_written : (l : Limits) (c : Target) (s : Stmt) → IsClock c → IsStmt true s → Fits l (Always c s) → (item l).sentence (always_tokens c s) (Always c s ∷ [])
always_written l c s h a fits =
    let after : List TokenKind = kind.Mark mark.RightParen ∷ stmt_tokens s in
    let timed : List TokenKind = target_tokens c ++ after in
    inr (inr (inr (inr (inr (inr (inr (inr (inl (
      kind.Key key.Always ∷ [],
      kind.Mark mark.At ∷ kind.Mark mark.LeftParen ∷ kind.Key key.Posedge ∷ timed,
      tt,
      refl,
      refl,
      (
        kind.Mark mark.At ∷ [],
        kind.Mark mark.LeftParen ∷ kind.Key key.Posedge ∷ timed,
        tt,
        refl,
        refl,
        (
          kind.Mark mark.LeftParen ∷ [],
          kind.Key key.Posedge ∷ timed,
          tt,
          refl,
          refl,
          (
            kind.Key key.Posedge ∷ [],
            timed,
            tt,
            refl,
            refl,
            (
              target_tokens c,
              after,
              c,
              refl,
              clock_written c h,
              (
                kind.Mark mark.RightParen ∷ [],
                stmt_tokens s,
                tt,
                refl,
                refl,
                (stmt_tokens s, [], s, sym (append-nil (stmt_tokens s)), a.sentence l (suc l.levels) fits.levels fits.marks, (refl, refl)),
              ),
            ),
          ),
        ),
      ),
    )))))))))

-- ---- all items

pub item_written : (l : Limits) (i : Item) → IsItem i → Fits l i → (item l).sentence (item_tokens i) (i ∷ [])
item_written l (Decl k r n) h fits = decl_written l k r n
item_written l (Assign t e) h fits = assign_written l t e h.0 h.1 fits.marks
item_written l (Gate k n es) h fits = gate_written l k n es h.1 fits.marks
item_written l (Instance m n all) h fits = instance_written l m n all h.2 fits.marks
item_written l (Always c s) h fits = always_written l c s h.0 h.1 fits
item_written l (Init t c) h fits = init_written l t c h.0 fits.marks
