use Rattle.std.proofs.Common.{string_bytes, ◌∙◌}
use Rattle.plan_exports.proofs.Pieces.{said_so, three_are}
use Rattle.plan_exports.proofs.c_sources.repository_parts.Goals as goal

pub returns : goal.returns
returns c =
    said_so string_bytes _ _ _
    (three_are _ _ _ _ _ _ (c.deref.ensures ∙ c.in_ok-tid.ensures) (c.deref-2.ensures ∙ c.in_ok-repository.ensures) (c.deref-3.ensures ∙ c.in_ok-index.ensures)) c.three_texts.ensures
