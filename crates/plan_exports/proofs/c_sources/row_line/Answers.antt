use Rattle.std.proofs.Common.{string_bytes, ◌∙◌}
use Rattle.plan_exports.proofs.Pieces.{said_so, row_is}
use Rattle.plan_exports.proofs.c_sources.row_line.Goals as goal

pub returns : goal.returns
returns c =
    said_so string_bytes _ _ _
    (row_is _ _ _ _ _ _ (c.deref.ensures ∙ c.in_ok-numbers.ensures) (c.deref-2.ensures ∙ c.in_ok-address.ensures) c.node_name.ensures) c.row_of_words.ensures
