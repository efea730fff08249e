-- Reading the items of a module.
use Rattle.std.specs.Prelude.{suc, List, [], ◌∷◌, ◌++◌, Bool, true, false, drop}
use Rattle.eq_vlex.specs.declared.key.Key.{Key}
use Rattle.eq_vlex.specs.declared.key.Key.TheVariants as word
use Rattle.eq_vlex.specs.declared.mark.Mark.TheVariants.{LeftParen, RightParen, Semicolon, At, Assign as Equals}
use Rattle.eq_vlex.specs.declared.token.TokenKind.{TokenKind}
use Rattle.eq_vlex.specs.declared.token.TokenKind.TheVariants as token
use Rattle.eq_vparse.specs.declared.item.Head.{Head}
use Rattle.eq_vparse.specs.declared.item.Head.TheVariants as head
use Rattle.eq_vparse.specs.declared.tree.DeclKind.TheVariants.{Input, Output}
use Rattle.eq_vparse.specs.declared.tree.GateKind.TheVariants.{And, Nand, Or, Nor, Xor, Xnor, Buf, Not}
use Rattle.eq_vparse.specs.declared.tree.Item.{Item}
use Rattle.eq_vparse.specs.declared.tree.Item.TheVariants.{Always, Init}
use Rattle.eq_vparse.specs.declared.tree.Target.{Target}
use Rattle.eq_vparse.specs.Limits.{Limits}
use Rattle.eq_vparse.specs.Tests.{is_key}
use Rattle.eq_vparse.specs.Reading.{Reading, wrong, ◌>>=◌, done, name_at, sized_at, takes_key, expect, expect_key}
use Rattle.eq_vparse.specs.Looping.{comma_list, repeat_until}
use Rattle.eq_vparse.specs.Grammar.{clock_of}
use Rattle.eq_vparse.specs.TargetReading.{target_at, maybe_range_at, maybe_index_at}
use Rattle.eq_vparse.specs.StatementReading.{stmt_at}
use Rattle.eq_vparse.specs.DeclarationReading.{port_at, reg_at, output_reg_at, wire_at, assignment_at}
use Rattle.eq_vparse.specs.ConnectionReading.{gate_at, instance_at}

-- one entry of an item that begins so
abbrev pub entry_at : Limits → Head → List Item → List TokenKind → Reading (List Item)
entry_at l (head.Port k r) items = port_at k r items
entry_at l (head.Reg r) items = reg_at r items
entry_at l (head.OutputReg r) items = output_reg_at r items
entry_at l (head.Wire r) items = wire_at l r items
entry_at l head.Assign items = assignment_at l items
entry_at l (head.Gate g) items = gate_at l g items
entry_at l (head.Instance m) items = instance_at l m items

unfoldable pub entries_at : Limits → Head → List Item → List TokenKind → Reading (List Item)
entries_at l h items ts = comma_list (entry_at l h) items ts

-- entries with commas between them, and `;`
unfoldable pub listed_at : Limits → Head → List Item → List TokenKind → Reading (List Item)
listed_at l h items = do
  all ← entries_at l h items
  _ ← expect Semicolon
  done all

unfoldable pub inputs_at : Limits → List Item → List TokenKind → Reading (List Item)
inputs_at l items = do
  _ ← takes_key word.Wire
  r ← maybe_range_at
  listed_at l (head.Port Input r) items

unfoldable pub outputs_if : Limits → Bool → List Item → List TokenKind → Reading (List Item)
outputs_if l true items = maybe_range_at >>= λ r. listed_at l (head.OutputReg r) items
outputs_if l false items = do
  _ ← takes_key word.Wire
  r ← maybe_range_at
  listed_at l (head.Port Output r) items

unfoldable pub outputs_at : Limits → List Item → List TokenKind → Reading (List Item)
outputs_at l items = takes_key word.Reg >>= λ b. outputs_if l b items

unfoldable pub regs_at : Limits → List Item → List TokenKind → Reading (List Item)
regs_at l items = maybe_range_at >>= λ r. listed_at l (head.Reg r) items

unfoldable pub wires_at : Limits → List Item → List TokenKind → Reading (List Item)
wires_at l items = maybe_range_at >>= λ r. listed_at l (head.Wire r) items

unfoldable pub instances_at : Limits → List Item → List TokenKind → Reading (List Item)
instances_at l items = name_at >>= λ m. listed_at l (head.Instance m) items

unfoldable pub clock_at : List TokenKind → Reading Target
clock_at = do
  n ← name_at
  d ← maybe_index_at
  done (clock_of n d)

unfoldable pub always_at : Limits → List Item → List TokenKind → Reading (List Item)
always_at l items = do
  _ ← expect At
  _ ← expect LeftParen
  _ ← expect_key word.Posedge
  c ← clock_at
  _ ← expect RightParen
  s ← stmt_at l (suc l.levels)
  done (items ++ Always c s ∷ [])

unfoldable pub init_at : Limits → List Item → List TokenKind → Reading (List Item)
init_at l items = do
  t ← target_at l.marks
  _ ← expect Equals
  c ← sized_at
  _ ← expect Semicolon
  done (items ++ Init t c ∷ [])

unfoldable pub inits_at : Limits → List Item → List TokenKind → Reading (List Item)
inits_at l items ts = repeat_until (is_key word.End) (init_at l) items ts

unfoldable pub initial_if : Limits → Bool → List Item → List TokenKind → Reading (List Item)
initial_if l true items = do
  all ← inits_at l items
  _ ← expect_key word.End
  done all
initial_if l false items = init_at l items

unfoldable pub initial_at : Limits → List Item → List TokenKind → Reading (List Item)
initial_at l items = takes_key word.Begin >>= λ b. initial_if l b items

-- an item that begins with this key, which stands at the front
unfoldable pub keyed_at : Limits → Key → List Item → List TokenKind → Reading (List Item)
keyed_at l word.Input items ts = inputs_at l items (drop 1 ts)
keyed_at l word.Output items ts = outputs_at l items (drop 1 ts)
keyed_at l word.Reg items ts = regs_at l items (drop 1 ts)
keyed_at l word.Wire items ts = wires_at l items (drop 1 ts)
keyed_at l word.Assign items ts = listed_at l head.Assign items (drop 1 ts)
keyed_at l word.And items ts = listed_at l (head.Gate And) items (drop 1 ts)
keyed_at l word.Nand items ts = listed_at l (head.Gate Nand) items (drop 1 ts)
keyed_at l word.Or items ts = listed_at l (head.Gate Or) items (drop 1 ts)
keyed_at l word.Nor items ts = listed_at l (head.Gate Nor) items (drop 1 ts)
keyed_at l word.Xor items ts = listed_at l (head.Gate Xor) items (drop 1 ts)
keyed_at l word.Xnor items ts = listed_at l (head.Gate Xnor) items (drop 1 ts)
keyed_at l word.Buf items ts = listed_at l (head.Gate Buf) items (drop 1 ts)
keyed_at l word.Not items ts = listed_at l (head.Gate Not) items (drop 1 ts)
keyed_at l word.Always items ts = always_at l items (drop 1 ts)
keyed_at l word.Initial items ts = initial_at l items (drop 1 ts)
keyed_at l _ items ts = wrong ts

unfoldable pub item_at : Limits → List Item → List TokenKind → Reading (List Item)
item_at l items (token.Key k ∷ ts) = keyed_at l k items (token.Key k ∷ ts)
item_at l items ts = instances_at l items ts
