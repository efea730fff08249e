-- What the header of a module declares is spelled, whatever it is read of: ports and their first values.
use Rattle.std.proofs.Common.{ℕ, List, [], ◌∷◌, map, Option, Some, None, sym, ap, subst, ◌∙◌, inl, inr}
use Rattle.std.specs.List.{AllByRecursion}
use Rattle.eq_vlex.specs.declared.mark.Mark.TheVariants.{Comma}
use Rattle.eq_vlex.specs.declared.token.Constant.{Constant}
use Rattle.eq_vlex.specs.declared.token.TokenKind.{TokenKind}
use Rattle.eq_vparse.specs.Grammar.{joined, init_of, port_items, decl, Entry, whole, bare, entry, like, declared, decls, names, header}
use Rattle.eq_vparse.specs.Rules.{Rule, ◌>>=◌, ◌or◌, mark}
use Rattle.eq_vparse.proofs.ItemRead.{all_append}
use Rattle.eq_vparse.proofs.LexedTokens.{AreLexed, lexed_split}
use Rattle.eq_vparse.proofs.RuleParts.{each_of_many}
use Rattle.eq_verilog.specs.TargetRefusals.{is_target}
use Rattle.eq_verilog.proofs.PureTrees.{of_target_net}
use Rattle.eq_spelled.proofs.Items.{ItemSpelled}

-- what a rule's sentences have as their values: the types of ports and headers have no name outside of their crate
abbrev ValueOf : {A : Type 0} → Rule A → Type 0
ValueOf {A = A} g = A

abbrev Port : Type 0
Port = ValueOf decl

abbrev Header : Type 0
Header = ValueOf header

-- what a port of this kind gives is spelled, whatever its name and its first value
abbrev PortSpelled : Port → Type 0
PortSpelled p = (n : List ℕ) (c : Option Constant) → AllByRecursion ItemSpelled (port_items p.kind p.range n c)

abbrev EntrySpelled : Entry → Type 0
EntrySpelled (whole p) = PortSpelled p
EntrySpelled (bare n) = Unit {0}

abbrev HeaderSpelled : Header → Type 0
HeaderSpelled h = AllByRecursion ItemSpelled h.items

-- ---- ports

init_spelled : (n : List ℕ) (c : Option Constant) → AllByRecursion ItemSpelled (init_of n c)
init_spelled n None = tt
init_spelled n (Some c) = (ap is_target (of_target_net n), tt)

decl_spelled : (ts : List TokenKind) (p : Port) → decl.sentence ts p → PortSpelled p
decl_spelled ts p (inl h) = subst PortSpelled (sym h.5.5.5.5.1) (λ n c. (tt, tt))
decl_spelled ts p (inr (inl h)) = subst PortSpelled (sym h.5.5.5.5.1) (λ n c. (tt, tt))
decl_spelled ts p (inr (inr h)) = subst PortSpelled (sym h.5.5.5.5.5.1) (λ n c. (tt, (tt, init_spelled n c)))

entry_spelled : (ts : List TokenKind) (e : Entry) → AreLexed ts → (mark Comma >>= λ _. entry).sentence ts e
    → EntrySpelled e
entry_spelled ts e lexed (us, vs, _, eq, comma, inl (ws, xs, p, eq', front, last)) =
    subst EntrySpelled (sym last.1) (decl_spelled ws p front)
entry_spelled ts e lexed (us, vs, _, eq, comma, inr (ws, xs, n, eq', front, last)) =
    subst EntrySpelled (sym last.1) tt

declared_spelled : (p : Port) (entries : List Entry) → PortSpelled p → AllByRecursion EntrySpelled entries
    → AllByRecursion PortSpelled (declared p entries)
declared_spelled p [] h all = (h, tt)
declared_spelled p (whole q ∷ entries) h all = (h, declared_spelled q entries all.0 all.1)
declared_spelled p (bare n ∷ entries) h all = (h, declared_spelled (like p n) entries h all.1)

ports_spelled : (ports : List Port) → AllByRecursion PortSpelled ports
    → AllByRecursion ItemSpelled (joined (map (λ (p : Port). port_items p.kind p.range p.name p.value) ports))
ports_spelled [] h = tt
ports_spelled (p ∷ ports) h =
    all_append ItemSpelled (port_items p.kind p.range p.name p.value)
    (joined (map (λ (q : Port). port_items q.kind q.range q.name q.value) ports))
    (h.0 p.name p.value) (ports_spelled ports h.1)

-- ---- headers

ports_read : (ts : List TokenKind) (h : Header) → AreLexed ts → (names or decls).sentence ts h → HeaderSpelled h
ports_read ts h lexed (inl (us, vs, ns, eq, listed, last)) = subst HeaderSpelled (sym last.1) tt
ports_read ts h lexed (inr (us, vs, first, eq, front, (us', vs', rest, eq', entries, last))) =
    let one = lexed_split ts us vs eq lexed in
    let two = lexed_split vs us' vs' eq' one.1 in
    let each = each_of_many (mark Comma >>= λ _. entry) EntrySpelled entry_spelled us' rest two.0 entries in
    let ports = declared_spelled first rest (decl_spelled us first front) each in
    subst HeaderSpelled (sym last.1) (ports_spelled (declared first rest) ports)

-- a header declares nothing but ports and their first values
pub header_spelled : (ts : List TokenKind) (h : Header) → AreLexed ts → header.sentence ts h
    → AllByRecursion ItemSpelled h.items
header_spelled ts h lexed (inl (us, vs, _, eq, paren, (us', vs', p, eq', inl none, behind))) =
    subst HeaderSpelled (sym (behind.5.1 ∙ none.1)) tt
header_spelled ts h lexed (inl (us, vs, _, eq, paren, (us', vs', p, eq', inr ports, behind))) =
    let one = lexed_split ts us vs eq lexed in
    let two = lexed_split vs us' vs' eq' one.1 in
    subst HeaderSpelled (sym behind.5.1) (ports_read us' p two.0 ports)
header_spelled ts h lexed (inr none) = subst HeaderSpelled (sym none.1) tt
