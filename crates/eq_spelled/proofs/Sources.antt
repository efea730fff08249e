-- The modules of texts are spelled.
use Rattle.std.proofs.Common.{ℕ, List, [], ◌∷◌, ◌++◌, map, sym, subst}
use Rattle.std.specs.Prelude.{All}
use Rattle.std.specs.List.{AllByRecursion}
use Rattle.std.proofs.lemmas.List.Elements.{All-from_recursion, All-head, All-tail, All-append, All-nil}
use Rattle.eq_vlex.specs.declared.token.Token.{Token}
use Rattle.eq_vlex.specs.declared.token.TokenKind.{TokenKind}
use Rattle.eq_vlex.specs.Tokens.{HasTokens}
use Rattle.eq_vparse.specs.declared.tree.Item.{Item}
use Rattle.eq_vparse.specs.declared.tree.Module.{Module}
use Rattle.eq_vparse.specs.declared.tree.Source.{Source}
use Rattle.eq_vparse.specs.Grammar.{joined, item, design, HasTreeWithin}
use Rattle.eq_vparse.specs.Limits.{Limits}
use Rattle.eq_vparse.specs.Reading.{kinds}
use Rattle.eq_vparse.proofs.ItemAgain.{IsItem}
use Rattle.eq_vparse.proofs.ItemRead.{AreItems, all_append, all_joined, item_read}
use Rattle.eq_vparse.proofs.LexedTokens.{AreLexed, lexed_split, tokens_lexed}
use Rattle.eq_vparse.proofs.RuleParts.{all_of, all_mapped, each_of_many}
use Rattle.eq_verilog.specs.Trees.{item_tree, module_tree, modules_of}
use Rattle.eq_flatten.specs.Spelled.{AreItemsSpelled, IsModuleSpelled}
use Rattle.eq_spelled.specs.Spelling.{IsFromText}
use Rattle.eq_spelled.proofs.Items.{ItemSpelled, item_spelled}
use Rattle.eq_spelled.proofs.Headers.{header_spelled}

-- ---- modules

items_spelled : (is : List Item) → AllByRecursion ItemSpelled is → AreItemsSpelled (map item_tree is)
items_spelled [] h = tt
items_spelled (i ∷ is) h = (h.0, items_spelled is h.1)

abbrev ModuleSpelled : Module → Type 0
ModuleSpelled m = IsModuleSpelled (module_tree m)

module_spelled : (l : Limits) (ts : List TokenKind) (m : Module) → AreLexed ts → (design l).sentence ts m
    → ModuleSpelled m
module_spelled l ts m lexed h =
    let one = lexed_split ts h.0 h.1 h.3 lexed in
    let name = h.5 in
    let two = lexed_split h.1 name.0 name.1 name.3 one.1 in
    let head = name.5 in
    let three = lexed_split name.1 head.0 head.1 head.3 two.1 in
    let semicolon = head.5 in
    let four = lexed_split head.1 semicolon.0 semicolon.1 semicolon.3 three.1 in
    let body = semicolon.5 in
    let five = lexed_split semicolon.1 body.0 body.1 body.3 four.1 in
    let read = each_of_many (item l) AreItems (item_read l) body.0 body.2 five.0 body.4 in
    let items = all_of IsItem ItemSpelled item_spelled (joined body.2) (all_joined IsItem body.2 read) in
    let ports = header_spelled head.0 head.2 three.0 head.4 in
    let whole = all_append ItemSpelled head.2.items (joined body.2) ports items in
    subst ModuleSpelled (sym body.5.5.1) (items_spelled (head.2.items ++ joined body.2) whole)

-- ---- texts

source_spelled : (l : Limits) (ts : List TokenKind) (s : Source) → AreLexed ts → HasTreeWithin l ts s
    → AllByRecursion ModuleSpelled s.modules
source_spelled l ts s lexed (us, vs, ms, eq, listed, last) =
    let one = lexed_split ts us vs eq lexed in
    subst (λ (x : Source). AllByRecursion ModuleSpelled x.modules) (sym last.1)
    (each_of_many (design l) ModuleSpelled (module_spelled l) us ms one.0 listed)

-- the modules of a text are spelled
pub text_spelled : (text : List ℕ) (tokens : List Token) (l : Limits) (s : Source) → HasTokens text tokens
    → HasTreeWithin l (kinds tokens) s → All IsModuleSpelled (map module_tree s.modules)
text_spelled text tokens l s lexed tree =
    let each = source_spelled l (kinds tokens) s (tokens_lexed text tokens lexed) tree in
    All-from_recursion IsModuleSpelled (map module_tree s.modules)
    (all_mapped IsModuleSpelled module_tree s.modules each)

-- and so are those of several
pub texts_spelled : (sources : List Source) → All IsFromText sources → All IsModuleSpelled (modules_of sources)
texts_spelled [] h = All-nil IsModuleSpelled
texts_spelled (s ∷ ss) h =
    let of = All-head IsFromText s ss h in
    All-append IsModuleSpelled (map module_tree s.modules) (modules_of ss)
    (text_spelled of.0 of.1 of.2 s of.3 of.4) (texts_spelled ss (All-tail IsFromText s ss h))
