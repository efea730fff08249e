-- The grammar of a Verilog text (IEEE 1364-2005, annex A, in the profile of a structural netlist), rule by rule, and
-- what a list of tokens means by it.
use Rattle.std.specs.Prelude.{◌≢◌, ℕ, List, [], ◌∷◌, ◌++◌, map, Option, Some, None}
use Rattle.eq_vlex.specs.declared.key.Key.{Key}
use Rattle.eq_vlex.specs.declared.key.Key.TheVariants as word
use Rattle.eq_vlex.specs.declared.mark.Mark.TheVariants.{LeftParen, RightParen, Semicolon, Comma, Dot, At, Assign as Equals}
use Rattle.eq_vlex.specs.declared.token.Constant.{Constant}
use Rattle.eq_vlex.specs.declared.token.TokenKind.{TokenKind}
use Rattle.eq_vparse.specs.declared.header.Header.{Header}
use Rattle.eq_vparse.specs.declared.header.Port.{Port}
use Rattle.eq_vparse.specs.declared.header.PortKind.{PortKind}
use Rattle.eq_vparse.specs.declared.header.PortKind.TheVariants as kind
use Rattle.eq_vparse.specs.declared.tree.Conns.{Conns}
use Rattle.eq_vparse.specs.declared.tree.Conns.TheVariants.{ByOrder, ByName}
use Rattle.eq_vparse.specs.declared.tree.DeclKind.{DeclKind}
use Rattle.eq_vparse.specs.declared.tree.DeclKind.TheVariants.{Input, Output, Wire, Reg}
use Rattle.eq_vparse.specs.declared.tree.Expr.{Expr}
use Rattle.eq_vparse.specs.declared.tree.GateKind.{GateKind}
use Rattle.eq_vparse.specs.declared.tree.GateKind.TheVariants.{And, Nand, Or, Nor, Xor, Xnor, Buf, Not}
use Rattle.eq_vparse.specs.declared.tree.Item.{Item}
use Rattle.eq_vparse.specs.declared.tree.Item.TheVariants.{Decl, Assign, Gate, Instance, Always, Init}
use Rattle.eq_vparse.specs.declared.tree.Module.{Module}
use Rattle.eq_vparse.specs.declared.tree.Named.{Named}
use Rattle.eq_vparse.specs.declared.tree.Range.{Range}
use Rattle.eq_vparse.specs.declared.tree.Source.{Source}
use Rattle.eq_vparse.specs.declared.tree.Target.{Target}
use Rattle.eq_vparse.specs.declared.tree.Target.TheVariants.{Net, Bit}
use Rattle.eq_vparse.specs.Rules.{Rule, ◌>>=◌, ◌or◌, name, sized, key, mark, give, maybe, many, separated}
use Rattle.eq_vparse.specs.Limits.{Limits}
use Rattle.eq_vparse.specs.Targets.{range, index}
use Rattle.eq_vparse.specs.Statements.{expr_within, target_within, stmt}

abbrev pub joined : {A : Type 0} → List (List A) → List A
joined [] = []
joined (xs ∷ rest) = xs ++ joined rest

-- ---- what is declared

-- `[ "=" sized ]`: the value that something has at first
abbrev pub value : Rule (Option Constant)
value = maybe (mark Equals >>= λ _. sized)

-- an initial item, where there is a value
abbrev pub init_of : List ℕ → Option Constant → List Item
init_of n None = []
init_of n (Some c) = Init (Net n) c ∷ []

-- ---- the header

-- what a port's declaration gives
abbrev pub port_items : PortKind → Option Range → List ℕ → Option Constant → List Item
port_items kind.Input r n c = Decl Input r n ∷ []
port_items kind.Output r n c = Decl Output r n ∷ []
port_items kind.OutputReg r n c = Decl Output r n ∷ Decl Reg r n ∷ init_of n c

abbrev pub decl : Rule Port
decl =
    (do
      _ ← key word.Input
      _ ← maybe (key word.Wire)
      r ← maybe range
      n ← name
      give (record { kind = kind.Input; range = r; name = n; value = None }))
    or (do
      _ ← key word.Output
      _ ← maybe (key word.Wire)
      r ← maybe range
      n ← name
      give (record { kind = kind.Output; range = r; name = n; value = None }))
    or (do
      _ ← key word.Output
      _ ← key word.Reg
      r ← maybe range
      n ← name
      c ← value
      give (record { kind = kind.OutputReg; range = r; name = n; value = c }))

-- a whole declaration, or a bare name
pub data Entry : Type 0 where
  whole : Port → Entry
  bare : List ℕ → Entry

abbrev pub entry : Rule Entry
entry = (decl >>= λ p. give (whole p)) or (name >>= λ n. give (bare n))

-- a bare name takes the kind and the range of the declaration before it, without a value
abbrev pub like : Port → List ℕ → Port
like port n = record port { name = n; value = None }

abbrev pub declared : Port → List Entry → List Port
declared port [] = port ∷ []
declared port (whole next ∷ entries) = port ∷ declared next entries
declared port (bare n ∷ entries) = port ∷ declared (like port n) entries

-- what a header gives: the names of its ports, and items
abbrev pub header_of : List Port → Header
header_of ports = record { ports = map (λ p. p.name) ports; items = joined (map (λ p. port_items p.kind p.range p.name p.value) ports) }

abbrev pub names : Rule Header
names = do
  ns ← separated name
  give (record { ports = ns; items = [] })

abbrev pub decls : Rule Header
decls = do
  first ← decl
  rest ← many (mark Comma >>= λ _. entry)
  give (header_of (declared first rest))

abbrev pub header : Rule Header
header =
    (do
      _ ← mark LeftParen
      h ← give (record { ports = []; items = [] }) or names or decls
      _ ← mark RightParen
      give h)
    or give (record { ports = []; items = [] })

-- ---- items: each gives the items of the tree for the things that it names

abbrev pub port : DeclKind → Option Range → Rule (List Item)
port k r = do
  n ← name
  give (Decl k r n ∷ [])

abbrev pub reg : Option Range → Rule (List Item)
reg r = do
  n ← name
  c ← value
  give (Decl Reg r n ∷ init_of n c)

abbrev pub output_reg : Option Range → Rule (List Item)
output_reg r = do
  n ← name
  c ← value
  give (port_items kind.OutputReg r n c)

abbrev pub assign_of : List ℕ → Option Expr → List Item
assign_of n None = []
assign_of n (Some e) = Assign (Net n) e ∷ []

abbrev pub wire : Limits → Option Range → Rule (List Item)
wire l r = do
  n ← name
  e ← maybe (mark Equals >>= λ _. expr_within l)
  give (Decl Wire r n ∷ assign_of n e)

abbrev pub assignment : Limits → Rule (List Item)
assignment l = do
  t ← target_within l
  _ ← mark Equals
  e ← expr_within l
  give (Assign t e ∷ [])

abbrev pub gate_word : Key → GateKind → Rule GateKind
gate_word k g = key k >>= λ _. give g

abbrev pub gate : Rule GateKind
gate =
    gate_word word.And And or gate_word word.Nand Nand or gate_word word.Or Or or gate_word word.Nor Nor
    or gate_word word.Xor Xor or gate_word word.Xnor Xnor or gate_word word.Buf Buf or gate_word word.Not Not

-- a gate's terminals, before which its name may stand
abbrev pub terminals : Limits → GateKind → Rule (List Item)
terminals l g = do
  n ← maybe name
  _ ← mark LeftParen
  es ← separated (expr_within l)
  _ ← mark RightParen
  give (Gate g n es ∷ [])

abbrev pub named : Limits → Rule Named
named l = do
  _ ← mark Dot
  p ← name
  _ ← mark LeftParen
  e ← maybe (expr_within l)
  _ ← mark RightParen
  give (record { port = p; expr = e })

-- a sentence with at least one token
abbrev pub visible : {A : Type 0} → Rule A → Rule A
visible g = record { sentence = λ ts a. g.sentence ts a × (ts ≢ []); front = g.front }

-- no connections are a named list of none
abbrev pub conns : Limits → Rule Conns
conns l =
    give (ByName [])
    or (visible (separated (maybe (expr_within l))) >>= λ es. give (ByOrder es))
    or (separated (named l) >>= λ ns. give (ByName ns))

abbrev pub instance : Limits → List ℕ → Rule (List Item)
instance l m = do
  n ← name
  _ ← mark LeftParen
  cs ← conns l
  _ ← mark RightParen
  give (Instance m n cs ∷ [])

abbrev pub clock_of : List ℕ → Option ℕ → Target
clock_of n None = Net n
clock_of n (Some d) = Bit n d

abbrev pub clock : Rule Target
clock = do
  n ← name
  d ← maybe index
  give (clock_of n d)

abbrev pub init : Limits → Rule Item
init l = do
  t ← target_within l
  _ ← mark Equals
  c ← sized
  _ ← mark Semicolon
  give (Init t c)

-- things with commas between them, and `;`
abbrev pub listed : Rule (List Item) → Rule (List Item)
listed g = do
  lists ← separated g
  _ ← mark Semicolon
  give (joined lists)

abbrev pub item : Limits → Rule (List Item)
item l =
    (do
      _ ← key word.Input
      _ ← maybe (key word.Wire)
      r ← maybe range
      listed (port Input r))
    or (do
      _ ← key word.Output
      _ ← maybe (key word.Wire)
      r ← maybe range
      listed (port Output r))
    or (do
      _ ← key word.Output
      _ ← key word.Reg
      r ← maybe range
      listed (output_reg r))
    or (do
      _ ← key word.Reg
      r ← maybe range
      listed (reg r))
    or (do
      _ ← key word.Wire
      r ← maybe range
      listed (wire l r))
    or (do
      _ ← key word.Assign
      listed (assignment l))
    or (do
      g ← gate
      listed (terminals l g))
    or (do
      m ← name
      listed (instance l m))
    or (do
      _ ← key word.Always
      _ ← mark At
      _ ← mark LeftParen
      _ ← key word.Posedge
      c ← clock
      _ ← mark RightParen
      s ← stmt l
      give (Always c s ∷ []))
    or (do
      _ ← key word.Initial
      i ← init l
      give (i ∷ []))
    or (do
      _ ← key word.Initial
      _ ← key word.Begin
      list ← many (init l)
      _ ← key word.End
      give list)

-- ---- modules

abbrev pub module_of : List ℕ → Header → List Item → Module
module_of n h items = record { name = n; ports = h.ports; items = h.items ++ items }

abbrev pub design : Limits → Rule Module
design l = do
  _ ← key word.Module
  n ← name
  h ← header
  _ ← mark Semicolon
  lists ← many (item l)
  _ ← key word.Endmodule
  give (module_of n h (joined lists))

abbrev pub source : Limits → Rule Source
source l = do
  ms ← many (design l)
  give (record { modules = ms })

-- ---- what a list of tokens means

-- a list of tokens has this tree within limits
abbrev pub HasTreeWithin : Limits → List TokenKind → Source → Type 0
HasTreeWithin l ts s = (source l).sentence ts s

abbrev pub HasTree : List TokenKind → Source → Type 0
HasTree ts s = (l : Limits) × HasTreeWithin l ts s

-- some source begins with these tokens
abbrev pub IsFront : List TokenKind → Type 0
IsFront ts = (l : Limits) × (source l).front ts
