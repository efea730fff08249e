-- What is written of an item is an item with the same tree.
use Rattle.std.proofs.Common.{◌≡◌, ℕ, ◌^◌, ◌<◌, true, List, [], ◌∷◌, ◌++◌, map, Option, Some, None, refl, sym, subst, append_assoc}
use Rattle.std.specs.Prelude.{◌≢◌}
use Rattle.std.specs.List.{AllByRecursion}
use Rattle.eq_names.specs.Name.{IsName}
use Rattle.eq_vlex.specs.declared.key.Key.TheVariants as key
use Rattle.eq_vlex.specs.declared.mark.Mark.{Mark}
use Rattle.eq_vlex.specs.declared.mark.Mark.TheVariants as mark
use Rattle.eq_vlex.specs.declared.token.Constant.{Constant}
use Rattle.eq_vlex.specs.declared.token.TokenKind.{TokenKind}
use Rattle.eq_vlex.specs.declared.token.TokenKind.TheVariants as kind
use Rattle.eq_vparse.specs.declared.tree.Conns.{Conns}
use Rattle.eq_vparse.specs.declared.tree.Conns.TheVariants.{ByOrder, ByName}
use Rattle.eq_vparse.specs.declared.tree.DeclKind.{DeclKind}
use Rattle.eq_vparse.specs.declared.tree.DeclKind.TheVariants as decl
use Rattle.eq_vparse.specs.declared.tree.Expr.{Expr}
use Rattle.eq_vparse.specs.declared.tree.GateKind.{GateKind}
use Rattle.eq_vparse.specs.declared.tree.GateKind.TheVariants as gate
use Rattle.eq_vparse.specs.declared.tree.Item.{Item}
use Rattle.eq_vparse.specs.declared.tree.Item.TheVariants.{Decl, Assign, Gate, Instance, Always, Init}
use Rattle.eq_vparse.specs.declared.tree.Named.{Named}
use Rattle.eq_vparse.specs.declared.tree.Range.{Range}
use Rattle.eq_vparse.specs.declared.tree.Stmt.{Stmt}
use Rattle.eq_vparse.specs.declared.tree.Target.{Target}
use Rattle.eq_vparse.specs.declared.tree.Target.TheVariants.{Net, Bit}
use Rattle.eq_vparse.specs.Layout.{IsConstant, may_follow, follows, all_follow}
use Rattle.eq_vparse.specs.Printing.{more, parenthesized, expr_tokens, exprs_tokens, target_tokens, stmt_tokens, decl_key, gate_key, maybe_range, maybe_name, maybe_expr, maybe_exprs, named_tokens, all_named, conns_tokens, decl_tokens, assign_tokens, gate_tokens, instance_tokens, always_tokens, init_tokens, item_tokens}
use Rattle.eq_vparse.proofs.Parts.{ArePrintable, printable_append, any_token, any_list, opens, no_question, Part, paren_follows, paren_part, step_word, step_key, step_plain, step_part}
use Rattle.eq_vparse.proofs.Printed.{target_net, target_bit}
use Rattle.eq_vparse.proofs.RuleParts.{IsGood, Some', separated_good, all_of}
use Rattle.eq_vparse.proofs.ExprAgain.{IsAgain, expr_part}
use Rattle.eq_vparse.proofs.TargetAgain.{IsTarget, IsRange}
use Rattle.eq_vparse.proofs.StmtAgain.{IsStmt}

-- ---- what is known of the items of a text

abbrev pub HasRange : Option Range → Type 0
HasRange None = Unit {0}
HasRange (Some r) = IsRange r

abbrev pub HasName : Option (List ℕ) → Type 0
HasName None = Unit {0}
HasName (Some n) = IsName n

abbrev pub HasExpr : Option Expr → Type 0
HasExpr None = Unit {0}
HasExpr (Some e) = IsAgain e

abbrev pub HasTarget : Target → Type 0
HasTarget t = (n : ℕ) × IsTarget n t

pub record IsNamed (n : Named) : Type 0 where
  pub port : IsName n.port
  pub expr : HasExpr n.expr

-- connections by order have an expression or a comma
pub record IsOrder (es : List (Option Expr)) : Type 0 where
  pub some : Some' HasExpr es
  pub seen : es ≢ None ∷ []

abbrev pub AreConns : Conns → Type 0
AreConns (ByOrder es) = IsOrder es
AreConns (ByName ns) = AllByRecursion IsNamed ns

-- a net or a bit
pub data IsClock : Target → Type 0 where
  net_clock : (n : List ℕ) → IsName n → IsClock (Net n)
  bit_clock : (n : List ℕ) (d : ℕ) → IsName n → d < 2 ^ 31 → IsClock (Bit n d)

abbrev pub IsItem : Item → Type 0
IsItem (Decl k r n) = HasRange r × IsName n
IsItem (Assign t e) = HasTarget t × IsAgain e
IsItem (Gate k n terms) = HasName n × Some' IsAgain terms
IsItem (Instance m n all) = IsName m × IsName n × AreConns all
IsItem (Always c s) = IsClock c × IsStmt true s
IsItem (Init t c) = HasTarget t × IsConstant c

-- ---- connections

maybe_printable : (e : Option Expr) → HasExpr e → ArePrintable (maybe_expr e)
maybe_printable None h = tt
maybe_printable (Some e) h = h.printable

-- any token may stand before a comma, `)` and `.`
comma_follows : (t : TokenKind) → may_follow t (kind.Mark mark.Comma) ≡ true
comma_follows (kind.Mark m) = by m
  where
    by : (m : Mark) → may_follow (kind.Mark m) (kind.Mark mark.Comma) ≡ true
    by mark.Assign = refl
    by _ = refl
comma_follows (kind.Word n) = refl
comma_follows (kind.Key k) = refl
comma_follows (kind.Decimal d) = refl
comma_follows (kind.Sized c) = refl

close_follows : (t : TokenKind) → may_follow t (kind.Mark mark.RightParen) ≡ true
close_follows (kind.Mark m) = by m
  where
    by : (m : Mark) → may_follow (kind.Mark m) (kind.Mark mark.RightParen) ≡ true
    by mark.Assign = refl
    by _ = refl
close_follows (kind.Word n) = refl
close_follows (kind.Key k) = refl
close_follows (kind.Decimal d) = refl
close_follows (kind.Sized c) = refl

dot_follows : (t : TokenKind) → may_follow t (kind.Mark mark.Dot) ≡ true
dot_follows (kind.Mark m) = by m
  where
    by : (m : Mark) → may_follow (kind.Mark m) (kind.Mark mark.Dot) ≡ true
    by mark.Assign = refl
    by _ = refl
dot_follows (kind.Word n) = refl
dot_follows (kind.Key k) = refl
dot_follows (kind.Decimal d) = refl
dot_follows (kind.Sized c) = refl

-- what stands in parentheses or is nothing
in_parens : (e : Option Expr) → HasExpr e → Part any_token any_list (parenthesized (maybe_expr e))
in_parens None h = record { starts = λ t vs o. paren_follows t; flows = λ vs g f. step_plain mark.RightParen vs refl f }
in_parens (Some e) h = paren_part (expr_tokens e) (expr_part e h)

named_good : (n : Named) → IsNamed n → IsGood any_token any_list (named_tokens n)
named_good n h =
    let inner : List TokenKind = parenthesized (maybe_expr n.expr) in
    record {
      printable = (tt, (h.port, (tt, printable_append (maybe_expr n.expr) (kind.Mark mark.RightParen ∷ []) (maybe_printable n.expr h.expr) (tt, tt))));
      part = record { starts = λ t vs o. dot_follows t; flows = λ vs g f. step_plain mark.Dot (kind.Word n.port ∷ (inner ++ vs)) refl (step_word n.port (inner ++ vs) ((in_parens n.expr h.expr).flows vs refl f)) };
    }

-- what stands behind an expression or nothing: a comma or `)`
record Ends (us : List TokenKind) : Type 0 where
  pub follow : (t : TokenKind) → follows t us ≡ true
  pub no_question : no_question us ≡ true
  pub all : all_follow us ≡ true

order_step : (t : TokenKind) (e : Option Expr) (us : List TokenKind) → opens t ≡ true → HasExpr e → Ends us → all_follow (t ∷ (maybe_expr e ++ us)) ≡ true
order_step t None us o h ends = rw (ends.follow t, ends.all) refl
order_step t (Some e) us o h ends = step_part t opens no_question (expr_tokens e) us (expr_part e h) o ends.no_question ends.all

order_ends : (es : List (Option Expr)) (vs : List TokenKind) → AllByRecursion HasExpr es → all_follow (kind.Mark mark.RightParen ∷ vs) ≡ true → Ends (more (map maybe_expr es) ++ kind.Mark mark.RightParen ∷ vs)
order_ends [] vs h f = record { follow = close_follows; no_question = refl; all = f }
order_ends (e ∷ es) vs h f =
    let rest : List TokenKind = more (map maybe_expr es) ++ kind.Mark mark.RightParen ∷ vs in
    let P : List TokenKind → Type 0 = λ ts. all_follow (kind.Mark mark.Comma ∷ ts) ≡ true in
    record {
      follow = comma_follows;
      no_question = refl;
      all = subst P (sym (append_assoc (maybe_expr e) (more (map maybe_expr es)) (kind.Mark mark.RightParen ∷ vs))) (order_step (kind.Mark mark.Comma) e rest refl h.0 (order_ends es vs h.1 f));
    }

order_flows : (e : Option Expr) (es : List (Option Expr)) (vs : List TokenKind) → HasExpr e → AllByRecursion HasExpr es → all_follow (kind.Mark mark.RightParen ∷ vs) ≡ true
    → all_follow (kind.Mark mark.LeftParen ∷ (maybe_exprs (e ∷ es) ++ kind.Mark mark.RightParen ∷ vs)) ≡ true
order_flows e es vs h all f =
    let rest : List TokenKind = more (map maybe_expr es) ++ kind.Mark mark.RightParen ∷ vs in
    let P : List TokenKind → Type 0 = λ ts. all_follow (kind.Mark mark.LeftParen ∷ ts) ≡ true in
    subst P (sym (append_assoc (maybe_expr e) (more (map maybe_expr es)) (kind.Mark mark.RightParen ∷ vs))) (order_step (kind.Mark mark.LeftParen) e rest refl h (order_ends es vs all f))

all_named_good : (n : Named) (ns : List Named) → IsNamed n → AllByRecursion IsNamed ns → IsGood any_token any_list (all_named (n ∷ ns))
all_named_good n ns h all = separated_good any_token any_list refl (λ ts. refl) named_tokens n ns (named_good n h) (all_of IsNamed (λ x. IsGood any_token any_list (named_tokens x)) named_good ns all)

conns_flows : (all : Conns) (vs : List TokenKind) → AreConns all → all_follow (kind.Mark mark.RightParen ∷ vs) ≡ true → all_follow (kind.Mark mark.LeftParen ∷ (conns_tokens all ++ kind.Mark mark.RightParen ∷ vs)) ≡ true
conns_flows (ByOrder es) vs h f =
    let P : List (Option Expr) → Type 0 = λ xs. all_follow (kind.Mark mark.LeftParen ∷ (maybe_exprs xs ++ kind.Mark mark.RightParen ∷ vs)) ≡ true in
    subst P (sym h.some.is) (order_flows h.some.first h.some.rest vs h.some.first_has h.some.rest_have f)
conns_flows (ByName []) vs h f = f
conns_flows (ByName (n ∷ ns)) vs h f = step_part (kind.Mark mark.LeftParen) any_token any_list (all_named (n ∷ ns)) (kind.Mark mark.RightParen ∷ vs) (all_named_good n ns h.0 h.1).part refl refl f

order_printable : (es : List (Option Expr)) → AllByRecursion HasExpr es → ArePrintable (more (map maybe_expr es))
order_printable [] h = tt
order_printable (e ∷ es) h = printable_append (kind.Mark mark.Comma ∷ maybe_expr e) (more (map maybe_expr es)) (tt, maybe_printable e h.0) (order_printable es h.1)

conns_printable : (all : Conns) → AreConns all → ArePrintable (conns_tokens all)
conns_printable (ByOrder es) h =
    let P : List (Option Expr) → Type 0 = λ xs. ArePrintable (maybe_exprs xs) in
    subst P (sym h.some.is) (printable_append (maybe_expr h.some.first) (more (map maybe_expr h.some.rest)) (maybe_printable h.some.first h.some.first_has) (order_printable h.some.rest h.some.rest_have))
conns_printable (ByName []) h = tt
conns_printable (ByName (n ∷ ns)) h = (all_named_good n ns h.0 h.1).printable

-- ---- what is written may stand before anything

abbrev pub Flows : List TokenKind → Type 0
Flows us = (vs : List TokenKind) → all_follow vs ≡ true → all_follow (us ++ vs) ≡ true

range_printable : (r : Option Range) (us : List TokenKind) → HasRange r → ArePrintable us → ArePrintable (maybe_range r ++ us)
range_printable None us h p = p
range_printable (Some r) us h p = (tt, (h.left_small, (tt, (h.right_small, (tt, p)))))

decl_flows : (k : DeclKind) (r : Option Range) (n : List ℕ) → Flows (decl_tokens k r n)
decl_flows k None n vs h = step_plain mark.Semicolon vs refl h
decl_flows k (Some r) n vs h = step_plain mark.Semicolon vs refl h

decl_some : (k : DeclKind) → decl_key k ≢ key.Reserved
decl_some decl.Input e = absurd cc
decl_some decl.Output e = absurd cc
decl_some decl.Wire e = absurd cc
decl_some decl.Reg e = absurd cc

gate_some : (k : GateKind) → gate_key k ≢ key.Reserved
gate_some gate.And e = absurd cc
gate_some gate.Nand e = absurd cc
gate_some gate.Or e = absurd cc
gate_some gate.Nor e = absurd cc
gate_some gate.Xor e = absurd cc
gate_some gate.Xnor e = absurd cc
gate_some gate.Buf e = absurd cc
gate_some gate.Not e = absurd cc

assign_flows : (t : Target) (e : Expr) → HasTarget t → IsAgain e → Flows (assign_tokens t e)
assign_flows t e a b vs h =
    let es : List TokenKind = expr_tokens e in
    let P : List TokenKind → Type 0 = λ us. all_follow us ≡ true in
    let Q : List TokenKind → Type 0 = λ us. all_follow (kind.Mark mark.Assign ∷ us) ≡ true in
    let inner = step_part (kind.Mark mark.Assign) opens no_question es (kind.Mark mark.Semicolon ∷ vs) (expr_part e b) refl refl (step_plain mark.Semicolon vs refl h) in
    step_key key.Assign ((target_tokens t ++ kind.Mark mark.Assign ∷ (es ++ kind.Mark mark.Semicolon ∷ [])) ++ vs)
    (subst P (sym (append_assoc (target_tokens t) (kind.Mark mark.Assign ∷ (es ++ kind.Mark mark.Semicolon ∷ [])) vs))
    (a.1.good.part.flows (kind.Mark mark.Assign ∷ ((es ++ kind.Mark mark.Semicolon ∷ []) ++ vs)) refl (subst Q (sym (append_assoc es (kind.Mark mark.Semicolon ∷ []) vs)) inner)))

init_flows : (t : Target) (c : Constant) → HasTarget t → Flows (init_tokens t c)
init_flows t c a vs h =
    let after : List TokenKind = kind.Mark mark.Assign ∷ kind.Sized c ∷ kind.Mark mark.Semicolon ∷ [] in
    let P : List TokenKind → Type 0 = λ us. all_follow us ≡ true in
    step_key key.Initial ((target_tokens t ++ after) ++ vs) (subst P (sym (append_assoc (target_tokens t) after vs)) (a.1.good.part.flows (after ++ vs) refl (step_plain mark.Semicolon vs refl h)))

terms_good : (es : List Expr) → Some' IsAgain es → IsGood opens no_question (exprs_tokens es)
terms_good es some =
    let good : (e : Expr) → IsAgain e → IsGood opens no_question (expr_tokens e) = λ e a. record { printable = a.printable; part = expr_part e a } in
    let G : List Expr → Type 0 = λ xs. IsGood opens no_question (exprs_tokens xs) in
    subst G (sym some.is) (separated_good opens no_question refl (λ ts. refl) expr_tokens some.first some.rest (good some.first some.first_has) (all_of IsAgain (λ e. IsGood opens no_question (expr_tokens e)) good some.rest some.rest_have))

-- `(`, what stands in it, `)` and `;`
closed_flows : (us : List TokenKind) → Part opens no_question us → Flows (kind.Mark mark.LeftParen ∷ (us ++ kind.Mark mark.RightParen ∷ kind.Mark mark.Semicolon ∷ []))
closed_flows us p vs h =
    let P : List TokenKind → Type 0 = λ ts. all_follow (kind.Mark mark.LeftParen ∷ ts) ≡ true in
    subst P (sym (append_assoc us (kind.Mark mark.RightParen ∷ kind.Mark mark.Semicolon ∷ []) vs))
    (step_part (kind.Mark mark.LeftParen) opens no_question us (kind.Mark mark.RightParen ∷ kind.Mark mark.Semicolon ∷ vs) p refl refl (step_plain mark.Semicolon vs refl h))

gate_flows : (k : GateKind) (n : Option (List ℕ)) (es : List Expr) → Some' IsAgain es → Flows (gate_tokens k n es)
gate_flows k None es some vs h = step_key (gate_key k) ((kind.Mark mark.LeftParen ∷ (exprs_tokens es ++ kind.Mark mark.RightParen ∷ kind.Mark mark.Semicolon ∷ [])) ++ vs) (closed_flows (exprs_tokens es) (terms_good es some).part vs h)
gate_flows k (Some n) es some vs h =
    let rest : List TokenKind = (kind.Mark mark.LeftParen ∷ (exprs_tokens es ++ kind.Mark mark.RightParen ∷ kind.Mark mark.Semicolon ∷ [])) ++ vs in
    step_key (gate_key k) (kind.Word n ∷ rest) (step_word n rest (closed_flows (exprs_tokens es) (terms_good es some).part vs h))

always_flows : (c : Target) (s : Stmt) → IsClock c → IsStmt true s → Flows (always_tokens c s)
always_flows c s clock-is a vs h = clocked c clock-is
  where
    after : all_follow (kind.Mark mark.RightParen ∷ (stmt_tokens s ++ vs)) ≡ true
    after = step_plain mark.RightParen (stmt_tokens s ++ vs) refl (a.good.part.flows vs refl h)

    clocked : (c : Target) → IsClock c → all_follow (always_tokens c s ++ vs) ≡ true
    clocked _ (net_clock n is) =
        let P : List TokenKind → Type 0 = λ ts. all_follow (kind.Key key.Always ∷ kind.Mark mark.At ∷ kind.Mark mark.LeftParen ∷ kind.Key key.Posedge ∷ ((ts ++ kind.Mark mark.RightParen ∷ stmt_tokens s) ++ vs)) ≡ true in
        subst P (sym (target_net n)) after
    clocked _ (bit_clock n d is small) =
        let P : List TokenKind → Type 0 = λ ts. all_follow (kind.Key key.Always ∷ kind.Mark mark.At ∷ kind.Mark mark.LeftParen ∷ kind.Key key.Posedge ∷ ((ts ++ kind.Mark mark.RightParen ∷ stmt_tokens s) ++ vs)) ≡ true in
        subst P (sym (target_bit n d)) after

instance_flows : (m n : List ℕ) (all : Conns) → AreConns all → Flows (instance_tokens m n all)
instance_flows m n all a vs h =
    let after : List TokenKind = kind.Mark mark.RightParen ∷ kind.Mark mark.Semicolon ∷ [] in
    let inner : List TokenKind = kind.Mark mark.LeftParen ∷ (conns_tokens all ++ (after ++ vs)) in
    let P : List TokenKind → Type 0 = λ ts. all_follow (kind.Word m ∷ kind.Word n ∷ kind.Mark mark.LeftParen ∷ ts) ≡ true in
    subst P (sym (append_assoc (conns_tokens all) after vs)) (step_word m (kind.Word n ∷ inner) (step_word n inner (conns_flows all (kind.Mark mark.Semicolon ∷ vs) a (step_plain mark.Semicolon vs refl h))))

pub item_flows : (i : Item) → IsItem i → Flows (item_tokens i)
item_flows (Decl k r n) h = decl_flows k r n
item_flows (Assign t e) h = assign_flows t e h.0 h.1
item_flows (Gate k n es) h = gate_flows k n es h.1
item_flows (Instance m n all) h = instance_flows m n all h.2
item_flows (Always c s) h = always_flows c s h.0 h.1
item_flows (Init t c) h = init_flows t c h.0

-- ---- what is written is printable

name_printable : (n : Option (List ℕ)) (us : List TokenKind) → HasName n → ArePrintable us → ArePrintable (maybe_name n ++ us)
name_printable None us h p = p
name_printable (Some n) us h p = (h, p)

clock_printable : (c : Target) (us : List TokenKind) → IsClock c → ArePrintable us → ArePrintable (target_tokens c ++ us)
clock_printable _ us (net_clock n h) p = let P : List TokenKind → Type 0 = λ ts. ArePrintable (ts ++ us) in subst P (sym (target_net n)) (h, p)
clock_printable _ us (bit_clock n d h small) p = let P : List TokenKind → Type 0 = λ ts. ArePrintable (ts ++ us) in subst P (sym (target_bit n d)) (h, (tt, (small, (tt, p))))

pub item_printable : (i : Item) → IsItem i → ArePrintable (item_tokens i)
item_printable (Decl k r n) h = (decl_some k, range_printable r (kind.Word n ∷ kind.Mark mark.Semicolon ∷ []) h.0 (h.1, (tt, tt)))
item_printable (Assign t e) h =
    ((λ x. absurd cc), printable_append (target_tokens t) (kind.Mark mark.Assign ∷ (expr_tokens e ++ kind.Mark mark.Semicolon ∷ [])) h.0.1.good.printable (tt, printable_append (expr_tokens e) (kind.Mark mark.Semicolon ∷ []) h.1.printable (tt, tt)))
item_printable (Gate k n es) h =
    (gate_some k, name_printable n (kind.Mark mark.LeftParen ∷ (exprs_tokens es ++ kind.Mark mark.RightParen ∷ kind.Mark mark.Semicolon ∷ [])) h.0 (tt, printable_append (exprs_tokens es) (kind.Mark mark.RightParen ∷ kind.Mark mark.Semicolon ∷ []) (terms_good es h.1).printable (tt, (tt, tt))))
item_printable (Instance m n all) h = (h.0, (h.1, (tt, printable_append (conns_tokens all) (kind.Mark mark.RightParen ∷ kind.Mark mark.Semicolon ∷ []) (conns_printable all h.2) (tt, (tt, tt)))))
item_printable (Always c s) h = ((λ x. absurd cc), (tt, (tt, ((λ x. absurd cc), clock_printable c (kind.Mark mark.RightParen ∷ stmt_tokens s) h.0 (tt, h.1.good.printable)))))
item_printable (Init t c) h = ((λ x. absurd cc), printable_append (target_tokens t) (kind.Mark mark.Assign ∷ kind.Sized c ∷ kind.Mark mark.Semicolon ∷ []) h.0.1.good.printable (tt, (h.1, (tt, tt))))
