-- What is written of a tree has this tree again.
use Rattle.std.proofs.Common.{◌≡◌, ℕ, true, List, [], ◌∷◌, ◌++◌, map, refl, sym, ap, subst, ◌∙◌, append_assoc, inl, inr}
use Rattle.std.specs.List.{flat_map, AllByRecursion}
use Rattle.std.proofs.lemmas.List.{append-nil}
use Rattle.eq_names.specs.Name.{IsName}
use Rattle.eq_vlex.specs.declared.key.Key.TheVariants as key
use Rattle.eq_vlex.specs.declared.mark.Mark.TheVariants as mark
use Rattle.eq_vlex.specs.declared.token.TokenKind.{TokenKind}
use Rattle.eq_vlex.specs.declared.token.TokenKind.TheVariants as kind
use Rattle.eq_vparse.specs.declared.tree.Item.{Item}
use Rattle.eq_vparse.specs.declared.tree.Module.{Module}
use Rattle.eq_vparse.specs.declared.tree.Source.{Source}
use Rattle.eq_vparse.specs.Rules.{◌>>=◌, ◌or◌, name, mark as mark_rule, AreMany}
use Rattle.eq_vparse.specs.Limits.{Limits}
use Rattle.eq_vparse.specs.Grammar.{joined, port_items, decl, Entry, whole, bare, entry, like, declared, header_of, decls, names, header, item, design, HasTreeWithin}
use Rattle.eq_vparse.specs.declared.header.Header.{Header}
use Rattle.eq_vparse.specs.declared.header.Port.{Port}
use Rattle.eq_vparse.specs.Layout.{Written, token, space, line, bytes_of, tokens_of, spaced, all_follow}
use Rattle.eq_vparse.specs.ReadBack.{IsTree, IsTextOf}
use Rattle.eq_vparse.specs.Reading.{kinds}
use Rattle.eq_vparse.proofs.Spaced.{spaced_read}
use Rattle.eq_vparse.specs.Depths.{Fits, IsWithin}
use Rattle.eq_vparse.specs.Printing.{names_tokens, header_tokens, item_tokens, line_of, item_written, items_written, module_written, modules_written, written}
use Rattle.eq_vparse.proofs.LexedTokens.{AreLexed, lexed_split, tokens_lexed}
use Rattle.eq_vparse.proofs.Parts.{ArePrintable, printable_append, any_token, any_list, name_part, step_word, step_key, step_plain, step_part}
use Rattle.eq_vparse.proofs.RuleParts.{IsGood, each_of_many, separated_written, separated_good, all_of}
use Rattle.eq_vparse.proofs.TargetAgain.{name_lexed}
use Rattle.eq_vparse.proofs.ItemAgain.{HasRange, IsItem, item_flows, item_printable}
use Rattle.eq_vparse.proofs.ItemWritten.{item_written as item_sentence}
use Rattle.eq_vparse.proofs.ItemRead.{AreItems, HasValue, all_append, all_joined, all_map, names_read, maybe_range_read, value_read, port_items_are, item_read}

-- ---- headers

record IsPort (p : Port) : Type 0 where
  pub name : IsName p.name
  pub range : HasRange p.range
  pub value : HasValue p.value

IsEntry : Entry → Type 0
IsEntry (whole p) = IsPort p
IsEntry (bare n) = IsName n

decl_read : (ts : List TokenKind) (p : Port) → AreLexed ts → decl.sentence ts p → IsPort p
decl_read ts p lexed (inl (us, vs, _, eq, word, (us', vs', _, eq', wired, (ws, xs, r, eq'', ranged, (ws', xs', n, eq''', named, last))))) =
    let one = lexed_split ts us vs eq lexed in
    let two = lexed_split vs us' vs' eq' one.1 in
    let three = lexed_split vs' ws xs eq'' two.1 in
    let four = lexed_split xs ws' xs' eq''' three.1 in
    subst IsPort (sym last.1) (record { name = name_lexed ws' n four.0 named; range = maybe_range_read ws r three.0 ranged; value = tt })
decl_read ts p lexed (inr (inl (us, vs, _, eq, word, (us', vs', _, eq', wired, (ws, xs, r, eq'', ranged, (ws', xs', n, eq''', named, last)))))) =
    let one = lexed_split ts us vs eq lexed in
    let two = lexed_split vs us' vs' eq' one.1 in
    let three = lexed_split vs' ws xs eq'' two.1 in
    let four = lexed_split xs ws' xs' eq''' three.1 in
    subst IsPort (sym last.1) (record { name = name_lexed ws' n four.0 named; range = maybe_range_read ws r three.0 ranged; value = tt })
decl_read ts p lexed (inr (inr (us, vs, _, eq, word, (us', vs', _, eq', second, (ws, xs, r, eq'', ranged, (ws', xs', n, eq''', named, (zs, ys, c, eq4, valued, last))))))) =
    let one = lexed_split ts us vs eq lexed in
    let two = lexed_split vs us' vs' eq' one.1 in
    let three = lexed_split vs' ws xs eq'' two.1 in
    let four = lexed_split xs ws' xs' eq''' three.1 in
    let five = lexed_split xs' zs ys eq4 four.1 in
    subst IsPort (sym last.1) (record { name = name_lexed ws' n four.0 named; range = maybe_range_read ws r three.0 ranged; value = value_read zs c five.0 valued })

declared_are : (p : Port) (entries : List Entry) → IsPort p → AllByRecursion IsEntry entries → AllByRecursion IsPort (declared p entries)
unfolding IsEntry
declared_are p [] h all = (h, tt)
declared_are p (whole q ∷ entries) h all = (h, declared_are q entries all.0 all.1)
declared_are p (bare n ∷ entries) h all = (h, declared_are (like p n) entries (record { name = all.0; range = h.range; value = tt }) all.1)

record IsHeader (h : Header) : Type 0 where
  pub ports : AllByRecursion IsName h.ports
  pub items : AreItems h.items

header_of_is : (ports : List Port) → AllByRecursion IsPort ports → IsHeader (header_of ports)
header_of_is ports h =
    let items : Port → List Item = λ p. port_items p.kind p.range p.name p.value in
    record {
      ports = all_map IsName IsPort (λ (p : Port). p.name) (λ p is. is.name) ports h;
      items = all_joined IsItem (map items ports) (all_map (λ (xs : List Item). AreItems xs) IsPort items (λ p is. port_items_are p.kind p.range p.name p.value is.range is.name is.value) ports h);
    }

entry_read : (ts : List TokenKind) (e : Entry) → AreLexed ts → (mark_rule mark.Comma >>= λ _. entry).sentence ts e → IsEntry e
unfolding IsEntry
entry_read ts e lexed (us, vs, _, eq, comma, inl (ws, xs, p, eq', front, last)) =
    let one = lexed_split ts us vs eq lexed in
    let two = lexed_split vs ws xs eq' one.1 in
    subst IsEntry (sym last.1) (decl_read ws p two.0 front)
entry_read ts e lexed (us, vs, _, eq, comma, inr (ws, xs, n, eq', front, last)) =
    let one = lexed_split ts us vs eq lexed in
    let two = lexed_split vs ws xs eq' one.1 in
    subst IsEntry (sym last.1) (name_lexed ws n two.0 front)

no_header : IsHeader (record { ports = []; items = [] })
no_header = record { ports = tt; items = tt }

ports_read : (ts : List TokenKind) (h : Header) → AreLexed ts → (names or decls).sentence ts h → IsHeader h
ports_read ts h lexed (inl (us, vs, ns, eq, front, last)) =
    let one = lexed_split ts us vs eq lexed in
    subst IsHeader (sym last.1) (record { ports = names_read us ns one.0 front; items = tt })
ports_read ts h lexed (inr (us, vs, first, eq, front, (ws, xs, rest, eq', entries, last))) =
    let one = lexed_split ts us vs eq lexed in
    let two = lexed_split vs ws xs eq' one.1 in
    let all = each_of_many (mark_rule mark.Comma >>= λ _. entry) IsEntry entry_read ws rest two.0 entries in
    subst IsHeader (sym last.1) (header_of_is (declared first rest) (declared_are first rest (decl_read us first one.0 front) all))

header_read : (ts : List TokenKind) (h : Header) → AreLexed ts → header.sentence ts h → IsHeader h
header_read ts h lexed (inl (us, vs, _, eq, paren, (ws, xs, p, eq', inl none, (zs, ys, _, eq'', close, last)))) = subst IsHeader (sym (last.1 ∙ none.1)) no_header
header_read ts h lexed (inl (us, vs, _, eq, paren, (ws, xs, p, eq', inr ports, (zs, ys, _, eq'', close, last)))) =
    let one = lexed_split ts us vs eq lexed in
    let two = lexed_split vs ws xs eq' one.1 in
    subst IsHeader (sym last.1) (ports_read ws p two.0 ports)
header_read ts h lexed (inr none) = subst IsHeader (sym none.1) no_header

-- ---- modules as they are read

record IsModule (m : Module) : Type 0 where
  pub name : IsName m.name
  pub ports : AllByRecursion IsName m.ports
  pub items : AreItems m.items

module_read : (l : Limits) (ts : List TokenKind) (m : Module) → AreLexed ts → (design l).sentence ts m → IsModule m
module_read l ts m lexed (us, vs, _, eq, word, (us', vs', n, eq', named, (ws, xs, h, eq'', head, (ws', xs', _, eq''', semicolon, (zs, ys, items, eq4, listed, (zs', ys', _, eq5, end, last)))))) =
    let one = lexed_split ts us vs eq lexed in
    let two = lexed_split vs us' vs' eq' one.1 in
    let three = lexed_split vs' ws xs eq'' two.1 in
    let four = lexed_split xs ws' xs' eq''' three.1 in
    let five = lexed_split xs' zs ys eq4 four.1 in
    let header-is = header_read ws h three.0 head in
    let items-are = all_joined IsItem items (each_of_many (item l) AreItems (item_read l) zs items five.0 listed) in
    subst IsModule (sym last.1) (record { name = name_lexed us' n two.0 named; ports = header-is.ports; items = all_append IsItem h.items (joined items) header-is.items items-are })

source_read : (l : Limits) (ts : List TokenKind) (s : Source) → AreLexed ts → HasTreeWithin l ts s → AllByRecursion IsModule s.modules
source_read l ts s lexed (us, vs, ms, eq, listed, last) =
    let one = lexed_split ts us vs eq lexed in
    subst (λ (x : Source). AllByRecursion IsModule x.modules) (sym last.1) (each_of_many (design l) IsModule (module_read l) us ms one.0 listed)

-- ---- the tokens of a text

items_tokens : List Item → List TokenKind
items_tokens is = flat_map item_tokens is

module_tokens : Module → List TokenKind
unfolding items_tokens
module_tokens m = header_tokens m.name m.ports ++ (items_tokens m.items ++ kind.Key key.Endmodule ∷ [])

tokens_append : (ws vs : List Written) → tokens_of (ws ++ vs) ≡ tokens_of ws ++ tokens_of vs
tokens_append [] vs = refl
tokens_append (token t ∷ ws) vs = ap (λ (ts : List TokenKind). t ∷ ts) (tokens_append ws vs)
tokens_append (space ∷ ws) vs = tokens_append ws vs
tokens_append (line ∷ ws) vs = tokens_append ws vs

line_tokens : (ts : List TokenKind) → tokens_of (line_of ts) ≡ ts
line_tokens [] = refl
line_tokens (t ∷ ts) = ap (λ (us : List TokenKind). t ∷ us) (line_tokens ts)

tokens_items : (is : List Item) → tokens_of (items_written is) ≡ items_tokens is
unfolding items_tokens
tokens_items [] = refl
tokens_items (i ∷ is) = tokens_append (item_written i) (items_written is) ∙ (λ j. line_tokens (item_tokens i) j ++ tokens_items is j)

tokens_module : (m : Module) → tokens_of (module_written m) ≡ module_tokens m
unfolding module_tokens
tokens_module m =
    let end : List Written = line_of (kind.Key key.Endmodule ∷ []) in
    tokens_append (line_of (header_tokens m.name m.ports)) (items_written m.items ++ end)
    ∙ (λ j. line_tokens (header_tokens m.name m.ports) j ++ (tokens_append (items_written m.items) end ∙ ap (λ (ts : List TokenKind). ts ++ kind.Key key.Endmodule ∷ []) (tokens_items m.items)) j)

modules_tokens : List Module → List TokenKind
unfolding module_tokens
modules_tokens ms = flat_map module_tokens ms

tokens_modules : (ms : List Module) → tokens_of (modules_written ms) ≡ modules_tokens ms
unfolding modules_tokens
tokens_modules [] = refl
tokens_modules (m ∷ ms) = tokens_append (module_written m) (modules_written ms) ∙ (λ j. tokens_module m j ++ tokens_modules ms j)

-- ---- headers as they are written

name_good : (n : List ℕ) → IsName n → IsGood any_token any_list (kind.Word n ∷ [])
name_good n h = record { printable = (h, tt); part = name_part n }

ports_good : (n : List ℕ) (ns : List (List ℕ)) → IsName n → AllByRecursion IsName ns → IsGood any_token any_list (names_tokens (n ∷ ns))
ports_good n ns h all = separated_good any_token any_list refl (λ ts. refl) (λ w. kind.Word w ∷ []) n ns (name_good n h) (all_of IsName (λ w. IsGood any_token any_list (kind.Word w ∷ [])) name_good ns all)

ports_printable : (ns : List (List ℕ)) → AllByRecursion IsName ns → ArePrintable (names_tokens ns)
ports_printable [] h = tt
ports_printable (n ∷ ns) h = (ports_good n ns h.0 h.1).printable

ports_flows : (ns : List (List ℕ)) (vs : List TokenKind) → AllByRecursion IsName ns → all_follow (kind.Mark mark.RightParen ∷ vs) ≡ true → all_follow (kind.Mark mark.LeftParen ∷ (names_tokens ns ++ kind.Mark mark.RightParen ∷ vs)) ≡ true
ports_flows [] vs h f = f
ports_flows (n ∷ ns) vs h f = step_part (kind.Mark mark.LeftParen) any_token any_list (names_tokens (n ∷ ns)) (kind.Mark mark.RightParen ∷ vs) (ports_good n ns h.0 h.1).part refl refl f

closing : List TokenKind
closing = kind.Mark mark.RightParen ∷ kind.Mark mark.Semicolon ∷ []

header_printable : (n : List ℕ) (ns : List (List ℕ)) → IsName n → AllByRecursion IsName ns → ArePrintable (header_tokens n ns)
header_printable n ns h all = ((λ e. absurd cc), (h, (tt, printable_append (names_tokens ns) (kind.Mark mark.RightParen ∷ kind.Mark mark.Semicolon ∷ []) (ports_printable ns all) (tt, (tt, tt)))))

header_flows : (n : List ℕ) (ns : List (List ℕ)) (vs : List TokenKind) → AllByRecursion IsName ns → all_follow vs ≡ true → all_follow (header_tokens n ns ++ vs) ≡ true
unfolding closing
header_flows n ns vs all f =
    let P : List TokenKind → Type 0 = λ ts. all_follow (kind.Key key.Module ∷ kind.Word n ∷ kind.Mark mark.LeftParen ∷ ts) ≡ true in
    let inner : List TokenKind = kind.Mark mark.LeftParen ∷ (names_tokens ns ++ (closing ++ vs)) in
    subst P (sym (append_assoc (names_tokens ns) closing vs)) (step_key key.Module (kind.Word n ∷ inner) (step_word n inner (ports_flows ns (kind.Mark mark.Semicolon ∷ vs) all (step_plain mark.Semicolon vs refl f))))

names_only : List (List ℕ) → Header
names_only ns = record { ports = ns; items = [] }

header_written : (ns : List (List ℕ)) → header.sentence (kind.Mark mark.LeftParen ∷ (names_tokens ns ++ kind.Mark mark.RightParen ∷ [])) (names_only ns)
unfolding names_only
header_written [] = inl (kind.Mark mark.LeftParen ∷ [], kind.Mark mark.RightParen ∷ [], tt, refl, refl, ([], kind.Mark mark.RightParen ∷ [], names_only [], refl, inl (refl, refl), (kind.Mark mark.RightParen ∷ [], [], tt, refl, refl, (refl, refl))))
header_written (n ∷ ns) =
    let ts : List TokenKind = names_tokens (n ∷ ns) in
    inl (
      kind.Mark mark.LeftParen ∷ [],
      ts ++ kind.Mark mark.RightParen ∷ [],
      tt,
      refl,
      refl,
      (
        ts,
        kind.Mark mark.RightParen ∷ [],
        names_only (n ∷ ns),
        refl,
        inr (inl (ts, [], n ∷ ns, sym (append-nil ts), separated_written name (λ w. kind.Word w ∷ []) n ns refl (all_names ns), (refl, refl))),
        (kind.Mark mark.RightParen ∷ [], [], tt, refl, refl, (refl, refl)),
      ),
    )
  where
    all_names : (ns : List (List ℕ)) → AllByRecursion (λ w. name.sentence (kind.Word w ∷ []) w) ns
    all_names [] = tt
    all_names (n ∷ ns) = (refl, all_names ns)

-- ---- modules as they are written

items_printable : (is : List Item) → AreItems is → ArePrintable (items_tokens is)
unfolding items_tokens
items_printable [] h = tt
items_printable (i ∷ is) h = printable_append (item_tokens i) (items_tokens is) (item_printable i h.0) (items_printable is h.1)

items_flow : (is : List Item) (vs : List TokenKind) → AreItems is → all_follow vs ≡ true → all_follow (items_tokens is ++ vs) ≡ true
unfolding items_tokens
items_flow [] vs h f = f
items_flow (i ∷ is) vs h f =
    let P : List TokenKind → Type 0 = λ ts. all_follow ts ≡ true in
    subst P (sym (append_assoc (item_tokens i) (items_tokens is) vs)) (item_flows i h.0 (items_tokens is ++ vs) (items_flow is vs h.1 f))

ones : List Item → List (List Item)
ones is = map (λ i. i ∷ []) is

joined_ones : (is : List Item) → joined (ones is) ≡ is
unfolding ones
joined_ones [] = refl
joined_ones (i ∷ is) = ap (λ (xs : List Item). i ∷ xs) (joined_ones is)

items_sentence : (l : Limits) (is : List Item) → AreItems is → AllByRecursion (Fits l) is → AreMany (item l) (items_tokens is) (ones is)
unfolding items_tokens ones
items_sentence l [] h fits = refl
items_sentence l (i ∷ is) h fits = (item_tokens i, items_tokens is, refl, item_sentence l i h.0 fits.0, items_sentence l is h.1 fits.1)

module_printable : (m : Module) → IsModule m → ArePrintable (module_tokens m)
unfolding module_tokens
module_printable m h =
    printable_append (header_tokens m.name m.ports) (items_tokens m.items ++ kind.Key key.Endmodule ∷ []) (header_printable m.name m.ports h.name h.ports)
    (printable_append (items_tokens m.items) (kind.Key key.Endmodule ∷ []) (items_printable m.items h.items) ((λ e. absurd cc), tt))

module_flows : (m : Module) (vs : List TokenKind) → IsModule m → all_follow vs ≡ true → all_follow (module_tokens m ++ vs) ≡ true
unfolding module_tokens
module_flows m vs h f =
    let end : List TokenKind = kind.Key key.Endmodule ∷ [] in
    let P : List TokenKind → Type 0 = λ ts. all_follow ts ≡ true in
    let Q : List TokenKind → Type 0 = λ ts. all_follow (header_tokens m.name m.ports ++ ts) ≡ true in
    subst P (sym (append_assoc (header_tokens m.name m.ports) (items_tokens m.items ++ end) vs))
    (subst Q (sym (append_assoc (items_tokens m.items) end vs)) (header_flows m.name m.ports (items_tokens m.items ++ kind.Key key.Endmodule ∷ vs) h.ports (items_flow m.items (kind.Key key.Endmodule ∷ vs) h.items (step_key key.Endmodule vs f))))

module_sentence : (l : Limits) (m : Module) → IsModule m → AllByRecursion (Fits l) m.items → (design l).sentence (module_tokens m) m
unfolding module_tokens names_only
module_sentence l m h fits =
    let names : List TokenKind = names_tokens m.ports in
    let body : List TokenKind = items_tokens m.items ++ kind.Key key.Endmodule ∷ [] in
    let front : List TokenKind = kind.Mark mark.LeftParen ∷ (names ++ kind.Mark mark.RightParen ∷ []) in
    let parts : kind.Mark mark.LeftParen ∷ ((names ++ kind.Mark mark.RightParen ∷ kind.Mark mark.Semicolon ∷ []) ++ body) ≡ front ++ kind.Mark mark.Semicolon ∷ body =
    ap (λ (ts : List TokenKind). kind.Mark mark.LeftParen ∷ ts) (append_assoc names (kind.Mark mark.RightParen ∷ kind.Mark mark.Semicolon ∷ []) body ∙ sym (append_assoc names (kind.Mark mark.RightParen ∷ []) (kind.Mark mark.Semicolon ∷ body))) in
    let whole : List TokenKind = kind.Mark mark.LeftParen ∷ ((names ++ kind.Mark mark.RightParen ∷ kind.Mark mark.Semicolon ∷ []) ++ body) in
    let there = sym (joined_ones m.items) in (
      kind.Key key.Module ∷ [],
      kind.Word m.name ∷ whole,
      tt,
      refl,
      refl,
      (
        kind.Word m.name ∷ [],
        whole,
        m.name,
        refl,
        refl,
        (
          front,
          kind.Mark mark.Semicolon ∷ body,
          names_only m.ports,
          parts,
          header_written m.ports,
          (
            kind.Mark mark.Semicolon ∷ [],
            body,
            tt,
            refl,
            refl,
            (
              items_tokens m.items,
              kind.Key key.Endmodule ∷ [],
              ones m.items,
              refl,
              items_sentence l m.items h.items fits,
              (kind.Key key.Endmodule ∷ [], [], tt, refl, refl, (refl, λ j. record { name = m.name; ports = m.ports; items = there j })),
            ),
          ),
        ),
      ),
    )

-- ---- texts

modules_printable : (ms : List Module) → AllByRecursion IsModule ms → ArePrintable (modules_tokens ms)
unfolding modules_tokens
modules_printable [] h = tt
modules_printable (m ∷ ms) h = printable_append (module_tokens m) (modules_tokens ms) (module_printable m h.0) (modules_printable ms h.1)

modules_flow : (ms : List Module) → AllByRecursion IsModule ms → all_follow (modules_tokens ms) ≡ true
unfolding modules_tokens
modules_flow [] h = refl
modules_flow (m ∷ ms) h = module_flows m (modules_tokens ms) h.0 (modules_flow ms h.1)

modules_sentence : (l : Limits) (ms : List Module) → AllByRecursion IsModule ms → AllByRecursion (λ (m : Module). AllByRecursion (Fits l) m.items) ms → AreMany (design l) (modules_tokens ms) ms
unfolding modules_tokens
modules_sentence l [] h fits = refl
modules_sentence l (m ∷ ms) h fits = (module_tokens m, modules_tokens ms, refl, module_sentence l m h.0 fits.0, modules_sentence l ms h.1 fits.1)

source_sentence : (l : Limits) (s : Source) → AllByRecursion IsModule s.modules → IsWithin l s → HasTreeWithin l (modules_tokens s.modules) s
source_sentence l s h fits = (modules_tokens s.modules, [], s.modules, sym (append-nil (modules_tokens s.modules)), modules_sentence l s.modules h fits, (refl, refl))

-- what is written of the tree of a text is read as this tree
pub read_back : (l : Limits) (s : Source) → IsTree s → IsWithin l s → IsTextOf l s (bytes_of (spaced (written s)))
read_back l s tree fits =
    let lexed = tokens_lexed tree.text tree.tokens tree.lexed in
    let modules = source_read tree.tree.0 (kinds tree.tokens) s lexed tree.tree.1 in
    let same = tokens_modules s.modules in
    let printable = subst ArePrintable (sym same) (modules_printable s.modules modules) in
    let flows = subst (λ (ts : List TokenKind). all_follow ts ≡ true) (sym same) (modules_flow s.modules modules) in
    let read = spaced_read (written s) printable flows in
    record {
      tokens = read.0;
      lexed = read.1;
      tree = subst (λ (ts : List TokenKind). HasTreeWithin l ts s) (sym (read.2 ∙ same)) (source_sentence l s modules fits);
    }

pub reads_back : (s : Source) (text : List ℕ) → text ≡ bytes_of (spaced (written s)) → (l : Limits) → IsTree s → IsWithin l s → IsTextOf l s text
reads_back s text is l tree fits = subst (IsTextOf l s) (sym is) (read_back l s tree fits)
