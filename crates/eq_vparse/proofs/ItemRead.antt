-- What is known of the items of a text whose tokens were read.
use Rattle.std.proofs.Common.{◌≡◌, ℕ, zero, suc, true, List, [], ◌∷◌, ◌++◌, map, Option, Some, None, sym, subst, ◌∙◌, inl, inr}
use Rattle.std.specs.List.{AllByRecursion}
use Rattle.eq_names.specs.Name.{IsName}
use Rattle.eq_vlex.specs.declared.token.Constant.{Constant}
use Rattle.eq_vlex.specs.declared.token.TokenKind.{TokenKind}
use Rattle.eq_vparse.specs.declared.tree.Conns.{Conns}
use Rattle.eq_vparse.specs.declared.tree.DeclKind.{DeclKind}
use Rattle.eq_vparse.specs.declared.tree.DeclKind.TheVariants as decl
use Rattle.eq_vparse.specs.declared.tree.Expr.{Expr}
use Rattle.eq_vparse.specs.declared.tree.GateKind.{GateKind}
use Rattle.eq_vparse.specs.declared.tree.Item.{Item}
use Rattle.eq_vparse.specs.declared.tree.Named.{Named}
use Rattle.eq_vparse.specs.declared.tree.Range.{Range}
use Rattle.eq_vparse.specs.declared.tree.Target.{Target}
use Rattle.eq_vparse.specs.Rules.{Rule, ◌>>=◌, name, maybe, separated as separated_rule}
use Rattle.eq_vparse.specs.Limits.{Limits}
use Rattle.eq_vparse.specs.Targets.{range}
use Rattle.eq_vparse.specs.Statements.{expr_within}
use Rattle.eq_vparse.specs.Layout.{IsConstant}
use Rattle.eq_vparse.specs.declared.header.PortKind.{PortKind}
use Rattle.eq_vparse.specs.declared.header.PortKind.TheVariants as port_kind
use Rattle.eq_vparse.specs.Grammar.{joined, value, init_of, port_items, port, reg, output_reg, wire, assignment, terminals, named, conns, instance, clock, init, listed, item}
use Rattle.eq_vparse.proofs.LexedTokens.{AreLexed, lexed_split}
use Rattle.eq_vparse.proofs.RuleParts.{Some', each_of_many, each_of_separated}
use Rattle.eq_vparse.proofs.ExprAgain.{IsAgain}
use Rattle.eq_vparse.proofs.TargetAgain.{name_lexed, index_lexed, range_lexed}
use Rattle.eq_vparse.proofs.StmtAgain.{expr_read, target_read, stmt_again}
use Rattle.eq_vparse.specs.Rules.{sized}
use Rattle.eq_vparse.proofs.TargetAgain.{net_again}
use Rattle.eq_vparse.proofs.ItemAgain.{HasRange, HasName, HasExpr, IsNamed, AreConns, IsClock, net_clock, bit_clock, IsItem}

-- ---- lists

all_some : {A : Type 0} (P : A → Type 0) (all : List A) → Some' P all → AllByRecursion P all
all_some {A = A} P all some = let Q : List A → Type 0 = λ xs. AllByRecursion P xs in subst Q (sym some.is) (some.first_has, some.rest_have)

pub all_append : {A : Type 0} (P : A → Type 0) (xs ys : List A) → AllByRecursion P xs → AllByRecursion P ys → AllByRecursion P (xs ++ ys)
all_append P [] ys p q = q
all_append P (x ∷ xs) ys p q = (p.0, all_append P xs ys p.1 q)

pub all_joined : {A : Type 0} (P : A → Type 0) (all : List (List A)) → AllByRecursion (λ (xs : List A). AllByRecursion P xs) all → AllByRecursion P (joined all)
all_joined P [] h = tt
all_joined P (xs ∷ all) h = all_append P xs (joined all) h.0 (all_joined P all h.1)

pub all_map : {A B : Type 0} (P : B → Type 0) (Q : A → Type 0) (f : A → B) → ((a : A) → Q a → P (f a)) → (all : List A) → AllByRecursion Q all → AllByRecursion P (map f all)
all_map P Q f each [] h = tt
all_map P Q f each (a ∷ all) h = (each a h.0, all_map P Q f each all h.1)

abbrev pub AreItems : List Item → Type 0
AreItems is = AllByRecursion IsItem is

-- ---- names, ranges and first values

pub names_read : (ts : List TokenKind) (ns : List (List ℕ)) → AreLexed ts → (separated_rule name).sentence ts ns → AllByRecursion IsName ns
names_read ts ns l h = all_some IsName ns (each_of_separated name IsName name_lexed ts ns l h)

pub maybe_range_read : (ts : List TokenKind) (r : Option Range) → AreLexed ts → (maybe range).sentence ts r → HasRange r
maybe_range_read ts None l h = tt
maybe_range_read ts (Some r) l h = range_lexed ts r l h

sized_read : (ts : List TokenKind) (c : Constant) → AreLexed ts → sized.sentence ts c → IsConstant c
sized_read ts c l h = (subst AreLexed h l).0

abbrev pub HasValue : Option Constant → Type 0
HasValue None = Unit {0}
HasValue (Some c) = IsConstant c

pub value_read : (ts : List TokenKind) (c : Option Constant) → AreLexed ts → value.sentence ts c → HasValue c
value_read ts None l h = tt
value_read ts (Some c) l (us, vs, _, eq, equals, one) = sized_read vs c (lexed_split ts us vs eq l).1 one

init_items : (n : List ℕ) (c : Option Constant) → IsName n → HasValue c → AreItems (init_of n c)
init_items n None h v = tt
init_items n (Some c) h v = (((suc zero, net_again zero n h), v), tt)

pub port_items_are : (k : PortKind) (r : Option Range) (n : List ℕ) (c : Option Constant) → HasRange r → IsName n → HasValue c → AreItems (port_items k r n c)
port_items_are port_kind.Input r n c range-is named valued = ((range-is, named), tt)
port_items_are port_kind.Output r n c range-is named valued = ((range-is, named), tt)
port_items_are port_kind.OutputReg r n c range-is named valued = ((range-is, named), ((range-is, named), init_items n c named valued))

-- ---- the parts of items

port_read : (k : DeclKind) (r : Option Range) → HasRange r → (ts : List TokenKind) (is : List Item) → AreLexed ts → (port k r).sentence ts is → AreItems is
port_read k r range-is ts is lexed (us, vs, n, eq, front, last) =
    let one = lexed_split ts us vs eq lexed in
    subst AreItems (sym last.1) ((range-is, name_lexed us n one.0 front), tt)

reg_read : (r : Option Range) → HasRange r → (ts : List TokenKind) (is : List Item) → AreLexed ts → (reg r).sentence ts is → AreItems is
reg_read r range-is ts is lexed (us, vs, n, eq, front, (us', vs', c, eq', first, last)) =
    let one = lexed_split ts us vs eq lexed in
    let two = lexed_split vs us' vs' eq' one.1 in
    let called = name_lexed us n one.0 front in
    subst AreItems (sym last.1) ((range-is, called), init_items n c called (value_read us' c two.0 first))

output_reg_read : (r : Option Range) → HasRange r → (ts : List TokenKind) (is : List Item) → AreLexed ts → (output_reg r).sentence ts is → AreItems is
output_reg_read r range-is ts is lexed (us, vs, n, eq, front, (us', vs', c, eq', first, last)) =
    let one = lexed_split ts us vs eq lexed in
    let two = lexed_split vs us' vs' eq' one.1 in
    subst AreItems (sym last.1) (port_items_are port_kind.OutputReg r n c range-is (name_lexed us n one.0 front) (value_read us' c two.0 first))

wire_read : (l : Limits) (r : Option Range) → HasRange r → (ts : List TokenKind) (is : List Item) → AreLexed ts → (wire l r).sentence ts is → AreItems is
wire_read l r range-is ts is lexed (us, vs, n, eq, front, (us', vs', None, eq', driven, last)) =
    let parts = lexed_split ts us vs eq lexed in
    subst AreItems (sym last.1) ((range-is, name_lexed us n parts.0 front), tt)
wire_read l r range-is ts is lexed (us, vs, n, eq, front, (us', vs', Some e, eq', driven, last)) =
    let parts = lexed_split ts us vs eq lexed in
    let more = lexed_split vs us' vs' eq' parts.1 in
    let behind = lexed_split us' driven.0 driven.1 driven.3 more.0 in
    let called = name_lexed us n parts.0 front in
    subst AreItems (sym last.1) ((range-is, called), (((suc zero, net_again zero n called), expr_read l driven.1 e behind.1 driven.5), tt))

assignment_read : (l : Limits) (ts : List TokenKind) (is : List Item) → AreLexed ts → (assignment l).sentence ts is → AreItems is
assignment_read l ts is lexed (us, vs, t, eq, front, (us', vs', _, eq', equals, (ws, xs, e, eq'', driver, last))) =
    let one = lexed_split ts us vs eq lexed in
    let two = lexed_split vs us' vs' eq' one.1 in
    let three = lexed_split vs' ws xs eq'' two.1 in
    subst AreItems (sym last.1) ((target_read l us t one.0 front, expr_read l ws e three.0 driver), tt)

init_read : (l : Limits) (ts : List TokenKind) (i : Item) → AreLexed ts → (init l).sentence ts i → IsItem i
init_read l ts i lexed (us, vs, t, eq, front, (us', vs', _, eq', equals, (ws, xs, c, eq'', first, last))) =
    let one = lexed_split ts us vs eq lexed in
    let two = lexed_split vs us' vs' eq' one.1 in
    let three = lexed_split vs' ws xs eq'' two.1 in
    subst IsItem (sym last.5.1) (target_read l us t one.0 front, sized_read ws c three.0 first)

maybe_name_read : (ts : List TokenKind) (n : Option (List ℕ)) → AreLexed ts → (maybe name).sentence ts n → HasName n
maybe_name_read ts None l h = tt
maybe_name_read ts (Some n) l h = name_lexed ts n l h

maybe_expr_read : (l : Limits) (ts : List TokenKind) (e : Option Expr) → AreLexed ts → (maybe (expr_within l)).sentence ts e → HasExpr e
maybe_expr_read l ts None lexed h = tt
maybe_expr_read l ts (Some e) lexed h = expr_read l ts e lexed h

terminals_read : (l : Limits) (g : GateKind) (ts : List TokenKind) (is : List Item) → AreLexed ts → (terminals l g).sentence ts is → AreItems is
terminals_read l g ts is lexed (us, vs, n, eq, front, (us', vs', _, eq', paren, (ws, xs, es, eq'', terms, last))) =
    let one = lexed_split ts us vs eq lexed in
    let two = lexed_split vs us' vs' eq' one.1 in
    let three = lexed_split vs' ws xs eq'' two.1 in
    subst AreItems (sym last.5.1) ((maybe_name_read us n one.0 front, each_of_separated (expr_within l) IsAgain (expr_read l) ws es three.0 terms), tt)

named_read : (l : Limits) (ts : List TokenKind) (n : Named) → AreLexed ts → (named l).sentence ts n → IsNamed n
named_read l ts n lexed (us, vs, _, eq, dot, (us', vs', p, eq', called, (ws, xs, _, eq'', paren, (ws', xs', e, eq''', driver, last)))) =
    let one = lexed_split ts us vs eq lexed in
    let two = lexed_split vs us' vs' eq' one.1 in
    let three = lexed_split vs' ws xs eq'' two.1 in
    let four = lexed_split xs ws' xs' eq''' three.1 in
    subst IsNamed (sym last.5.1) (record { port = name_lexed us' p two.0 called; expr = maybe_expr_read l ws' e four.0 driver })

-- one connection that is nothing has no token
bare_is_nothing : (l : Limits) (ts : List TokenKind) (es : List (Option Expr)) → (separated_rule (maybe (expr_within l))).sentence ts es → es ≡ None ∷ [] → ts ≡ []
bare_is_nothing l ts es (us, vs, None, eq, first, (us', vs', [], eq', rest, last)) e =
    eq ∙ (λ i. first i ++ vs) ∙ eq' ∙ (λ i. rest i ++ last.0 i)
bare_is_nothing l ts es (us, vs, None, eq, first, (us', vs', x ∷ xs, eq', rest, last)) e = let clash : ◌≡◌ {A = List (Option Expr)} (None ∷ x ∷ xs) (None ∷ []) = sym last.1 ∙ e in absurd cc
bare_is_nothing l ts es (us, vs, Some x, eq, first, (us', vs', xs, eq', rest, last)) e = let clash : ◌≡◌ {A = List (Option Expr)} (Some x ∷ xs) (None ∷ []) = sym last.1 ∙ e in absurd cc

conns_read : (l : Limits) (ts : List TokenKind) (all : Conns) → AreLexed ts → (conns l).sentence ts all → AreConns all
conns_read l ts all lexed (inl h) = subst AreConns (sym h.1) tt
conns_read l ts all lexed (inr (inl (us, vs, es, eq, (front, seen), last))) =
    let one = lexed_split ts us vs eq lexed in
    subst AreConns (sym last.1) (record {
      some = each_of_separated (maybe (expr_within l)) HasExpr (maybe_expr_read l) us es one.0 front;
      seen = λ bare. seen (bare_is_nothing l us es front bare);
    })
conns_read l ts all lexed (inr (inr (us, vs, ns, eq, front, last))) =
    let one = lexed_split ts us vs eq lexed in
    subst AreConns (sym last.1) (all_some IsNamed ns (each_of_separated (named l) IsNamed (named_read l) us ns one.0 front))

instance_read : (l : Limits) (m : List ℕ) → IsName m → (ts : List TokenKind) (is : List Item) → AreLexed ts → (instance l m).sentence ts is → AreItems is
instance_read l m called ts is lexed (us, vs, n, eq, front, (us', vs', _, eq', paren, (ws, xs, all, eq'', inner, last))) =
    let one = lexed_split ts us vs eq lexed in
    let two = lexed_split vs us' vs' eq' one.1 in
    let three = lexed_split vs' ws xs eq'' two.1 in
    subst AreItems (sym last.5.1) ((called, name_lexed us n one.0 front, conns_read l ws all three.0 inner), tt)

clock_read : (ts : List TokenKind) (c : Target) → AreLexed ts → clock.sentence ts c → IsClock c
clock_read ts c lexed (us, vs, n, eq, front, (us', vs', None, eq', place, last)) =
    let one = lexed_split ts us vs eq lexed in
    subst IsClock (sym last.1) (net_clock n (name_lexed us n one.0 front))
clock_read ts c lexed (us, vs, n, eq, front, (us', vs', Some d, eq', place, last)) =
    let one = lexed_split ts us vs eq lexed in
    let two = lexed_split vs us' vs' eq' one.1 in
    subst IsClock (sym last.1) (bit_clock n d (name_lexed us n one.0 front) (index_lexed us' d two.0 place))

-- ---- items

listed_read : (g : Rule (List Item)) → ((ts : List TokenKind) (is : List Item) → AreLexed ts → g.sentence ts is → AreItems is) → (ts : List TokenKind) (is : List Item) → AreLexed ts → (listed g).sentence ts is → AreItems is
listed_read g each ts is lexed (us, vs, lists, eq, front, (ws, xs, _, eq', semicolon, last)) =
    let one = lexed_split ts us vs eq lexed in
    subst AreItems (sym last.1) (all_joined IsItem lists (all_some AreItems lists (each_of_separated g AreItems each us lists one.0 front)))

-- a range, and what is declared behind it
ranged_read : (g : Option Range → Rule (List Item)) → ((r : Option Range) → HasRange r → (ts : List TokenKind) (is : List Item) → AreLexed ts → (g r).sentence ts is → AreItems is)
    → (ts : List TokenKind) (is : List Item) → AreLexed ts → (maybe range >>= λ r. listed (g r)).sentence ts is → AreItems is
ranged_read g each ts is lexed (us, vs, r, eq, front, all) =
    let one = lexed_split ts us vs eq lexed in
    listed_read (g r) (each r (maybe_range_read us r one.0 front)) vs is one.1 all

pub item_read : (l : Limits) (ts : List TokenKind) (is : List Item) → AreLexed ts → (item l).sentence ts is → AreItems is
item_read l ts is lexed (inl (us, vs, _, eq, word, (us', vs', _, eq', wired, all))) =
    ranged_read (port decl.Input) (port_read decl.Input) vs' is (lexed_split vs us' vs' eq' (lexed_split ts us vs eq lexed).1).1 all
item_read l ts is lexed (inr (inl (us, vs, _, eq, word, (us', vs', _, eq', wired, all)))) =
    ranged_read (port decl.Output) (port_read decl.Output) vs' is (lexed_split vs us' vs' eq' (lexed_split ts us vs eq lexed).1).1 all
item_read l ts is lexed (inr (inr (inl (us, vs, _, eq, word, (us', vs', _, eq', second, all))))) =
    ranged_read output_reg output_reg_read vs' is (lexed_split vs us' vs' eq' (lexed_split ts us vs eq lexed).1).1 all
item_read l ts is lexed (inr (inr (inr (inl (us, vs, _, eq, word, all))))) = ranged_read reg reg_read vs is (lexed_split ts us vs eq lexed).1 all
item_read l ts is lexed (inr (inr (inr (inr (inl (us, vs, _, eq, word, all)))))) = ranged_read (wire l) (wire_read l) vs is (lexed_split ts us vs eq lexed).1 all
item_read l ts is lexed (inr (inr (inr (inr (inr (inl (us, vs, _, eq, word, all))))))) = listed_read (assignment l) (assignment_read l) vs is (lexed_split ts us vs eq lexed).1 all
item_read l ts is lexed (inr (inr (inr (inr (inr (inr (inl (us, vs, g, eq, word, all)))))))) = listed_read (terminals l g) (terminals_read l g) vs is (lexed_split ts us vs eq lexed).1 all
item_read l ts is lexed (inr (inr (inr (inr (inr (inr (inr (inl (us, vs, m, eq, word, all))))))))) =
    let one = lexed_split ts us vs eq lexed in
    listed_read (instance l m) (instance_read l m (name_lexed us m one.0 word)) vs is one.1 all
item_read l ts is lexed (inr (inr (inr (inr (inr (inr (inr (inr (inl (us, vs, _, eq, word, (us', vs', _, eq', at, (ws, xs, _, eq'', paren, (ws', xs', _, eq''', edge, (zs, ys, c, eq4, timed, (zs', ys', _, eq5, close, (as', bs, s, eq6, body, last)))))))))))))))) =
    let one = lexed_split ts us vs eq lexed in
    let two = lexed_split vs us' vs' eq' one.1 in
    let three = lexed_split vs' ws xs eq'' two.1 in
    let four = lexed_split xs ws' xs' eq''' three.1 in
    let five = lexed_split xs' zs ys eq4 four.1 in
    let six = lexed_split ys zs' ys' eq5 five.1 in
    let seven = lexed_split ys' as' bs eq6 six.1 in
    subst AreItems (sym last.1) ((clock_read zs c five.0 timed, stmt_again l (suc l.levels) true as' s seven.0 body), tt)
item_read l ts is lexed (inr (inr (inr (inr (inr (inr (inr (inr (inr (inl (us, vs, _, eq, word, (ws, xs, i, eq', first, last)))))))))))) =
    let one = lexed_split ts us vs eq lexed in
    let two = lexed_split vs ws xs eq' one.1 in
    subst AreItems (sym last.1) (init_read l ws i two.0 first, tt)
item_read l ts is lexed (inr (inr (inr (inr (inr (inr (inr (inr (inr (inr (us, vs, _, eq, word, (us', vs', _, eq', begin, (ws, xs, all, eq'', values, (zs, ys, _, eq''', end, last)))))))))))))) =
    let one = lexed_split ts us vs eq lexed in
    let two = lexed_split vs us' vs' eq' one.1 in
    let three = lexed_split vs' ws xs eq'' two.1 in
    subst AreItems (sym last.1) (each_of_many (init l) IsItem (init_read l) ws all three.0 values)
