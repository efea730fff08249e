-- Reading the header of a module.
use Rattle.std.specs.Prelude.{ℕ, List, [], ◌∷◌, ◌++◌, Bool, true, false, not, Option, None, if◌then◌else◌}
use Rattle.eq_vlex.specs.declared.key.Key.TheVariants as word
use Rattle.eq_vlex.specs.declared.mark.Mark.TheVariants.{LeftParen, RightParen, Comma}
use Rattle.eq_vlex.specs.declared.token.Constant.{Constant}
use Rattle.eq_vlex.specs.declared.token.TokenKind.{TokenKind}
use Rattle.eq_vparse.specs.declared.header.Header.{Header}
use Rattle.eq_vparse.specs.declared.header.Port.{Port}
use Rattle.eq_vparse.specs.declared.header.PortKind.{PortKind}
use Rattle.eq_vparse.specs.declared.header.PortKind.TheVariants as kind
use Rattle.eq_vparse.specs.declared.header.Ports.{Ports}
use Rattle.eq_vparse.specs.declared.tree.DeclKind.TheVariants.{Input, Output}
use Rattle.eq_vparse.specs.declared.tree.Item.{Item}
use Rattle.eq_vparse.specs.declared.tree.Range.{Range}
use Rattle.eq_vparse.specs.Tests.{is_mark, is_word}
use Rattle.eq_vparse.specs.Reading.{Reading, read, ◌>>=◌, done, name_at, takes, takes_key, expect, expect_key}
use Rattle.eq_vparse.specs.Looping.{comma_list, repeat_until}
use Rattle.eq_vparse.specs.Grammar.{like}
use Rattle.eq_vparse.specs.TargetReading.{maybe_range_at}
use Rattle.eq_vparse.specs.DeclarationReading.{maybe_value_at, with_decl, with_reg}

-- a port that is no register, behind its first key
unfoldable pub plain_port_at : PortKind → List TokenKind → Reading Port
plain_port_at k = do
  _ ← takes_key word.Wire
  r ← maybe_range_at
  n ← name_at
  done (record { kind = k; range = r; name = n; value = None })

-- behind `output reg`
unfoldable pub reg_port_at : List TokenKind → Reading Port
reg_port_at = do
  r ← maybe_range_at
  n ← name_at
  c ← maybe_value_at
  done (record { kind = kind.OutputReg; range = r; name = n; value = c })

-- behind `output`
unfoldable pub output_if : Bool → List TokenKind → Reading Port
output_if true = reg_port_at
output_if false = plain_port_at kind.Output

unfoldable pub decl_if : Bool → List TokenKind → Reading Port
decl_if true = plain_port_at kind.Input
decl_if false = do
  _ ← expect_key word.Output
  b ← takes_key word.Reg
  output_if b

unfoldable pub decl_at : List TokenKind → Reading Port
decl_at = takes_key word.Input >>= decl_if

-- a whole declaration, or a bare name that is like the port before it
unfoldable pub next_port_at : Port → List TokenKind → Reading Port
next_port_at last ts = if is_word ts then (name_at >>= λ n. done (like last n)) ts else decl_at ts

abbrev pub with_port : List Item → PortKind → Option Range → List ℕ → Option Constant → List Item
with_port items kind.Input r n c = with_decl items Input r n
with_port items kind.Output r n c = with_decl items Output r n
with_port items kind.OutputReg r n c = with_reg (with_decl items Output r n) r n c

-- a header with one port more
unfoldable pub put : Header → Port → Header
put h p = record { ports = h.ports ++ p.name ∷ []; items = with_port h.items p.kind p.range p.name p.value }

abbrev pub empty : Header
empty = record { ports = []; items = [] }

unfoldable pub more_ports_at : Ports → List TokenKind → Reading Ports
more_ports_at ports = do
  _ ← expect Comma
  p ← next_port_at ports.last
  done (record { header = put ports.header p; last = p })

-- no comma comes next
abbrev pub ends_ports : List TokenKind → Bool
ends_ports ts = not (is_mark Comma ts)

unfoldable pub all_ports_at : Ports → List TokenKind → Reading Ports
all_ports_at ports ts = repeat_until ends_ports more_ports_at ports ts

unfoldable pub decls_at : List TokenKind → Reading Header
decls_at = do
  p ← decl_at
  ports ← all_ports_at (record { header = put empty p; last = p })
  done ports.header

unfoldable pub port_name_at : List (List ℕ) → List TokenKind → Reading (List (List ℕ))
port_name_at past = do
  n ← name_at
  done (past ++ n ∷ [])

unfoldable pub port_names_at : List TokenKind → Reading (List (List ℕ))
port_names_at ts = comma_list port_name_at [] ts

unfoldable pub some_ports_at : Bool → List TokenKind → Reading Header
some_ports_at true = port_names_at >>= λ ns. done (record { ports = ns; items = [] })
some_ports_at false = decls_at

unfoldable pub ports_at : List TokenKind → Reading Header
ports_at ts = if is_mark RightParen ts then read empty ts else some_ports_at (is_word ts) ts

unfoldable pub header_if : Bool → List TokenKind → Reading Header
header_if true = do
  h ← ports_at
  _ ← expect RightParen
  done h
header_if false = done empty

unfoldable pub header_at : List TokenKind → Reading Header
header_at = takes LeftParen >>= header_if
