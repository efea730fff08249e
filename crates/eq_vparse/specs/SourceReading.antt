-- Reading modules and a whole source.
use Rattle.std.specs.Prelude.{List, [], ◌∷◌, ◌++◌}
use Rattle.eq_vlex.specs.declared.key.Key.TheVariants as word
use Rattle.eq_vlex.specs.declared.mark.Mark.TheVariants.{Semicolon}
use Rattle.eq_vlex.specs.declared.token.TokenKind.{TokenKind}
use Rattle.eq_vparse.specs.declared.tree.Item.{Item}
use Rattle.eq_vparse.specs.declared.tree.Module.{Module}
use Rattle.eq_vparse.specs.declared.tree.Source.{Source}
use Rattle.eq_vparse.specs.Limits.{Limits}
use Rattle.eq_vparse.specs.Tests.{is_key, is_end}
use Rattle.eq_vparse.specs.Reading.{Reading, ◌>>=◌, done, name_at, expect, expect_key}
use Rattle.eq_vparse.specs.Looping.{repeat_until}
use Rattle.eq_vparse.specs.HeaderReading.{header_at}
use Rattle.eq_vparse.specs.ItemReading.{item_at}

unfoldable pub items_at : Limits → List Item → List TokenKind → Reading (List Item)
items_at l items ts = repeat_until (is_key word.Endmodule) (item_at l) items ts

unfoldable pub design_at : Limits → List TokenKind → Reading Module
design_at l = do
  _ ← expect_key word.Module
  n ← name_at
  h ← header_at
  _ ← expect Semicolon
  items ← items_at l h.items
  _ ← expect_key word.Endmodule
  done (record { name = n; ports = h.ports; items = items })

unfoldable pub more_designs_at : Limits → List Module → List TokenKind → Reading (List Module)
more_designs_at l past = do
  m ← design_at l
  done (past ++ m ∷ [])

unfoldable pub designs_at : Limits → List Module → List TokenKind → Reading (List Module)
designs_at l past ts = repeat_until is_end (more_designs_at l) past ts

unfoldable pub source_at : Limits → List TokenKind → Reading Source
source_at l = do
  ms ← designs_at l []
  done (record { modules = ms })
