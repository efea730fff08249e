use Rattle.std.proofs.Common.{◌∙◌, sym}
use Rattle.eq_vlex.proofs.Beginnings.{block_two, attribute_two}
use Rattle.eq_vlex.proofs.piece.front_piece.Goals as goal

pub block_comment-requires : goal.block_comment-requires
block_comment-requires c = block_two c.args.text.now (sym c.begins.ensures ∙ c.in-BlockComment.is)

pub attribute-requires : goal.attribute-requires
attribute-requires c = attribute_two c.args.text.now (sym c.begins.ensures ∙ c.in-Attribute.is)
