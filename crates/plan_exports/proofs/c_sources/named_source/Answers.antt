use Rattle.std.proofs.Common.{string_bytes, ap, ◌∙◌}
use Rattle.plan_exports.{specs.CSources.{eid_text, head_text, pool_first, pool_size, pool_text}, proofs.Pieces.{said_so, six_are}}
use Rattle.plan_exports.proofs.c_sources.named_source.Goals as goal

pub returns : goal.returns
returns c =
    let id = c.args.id.now in
    let head = c.in_ok-head.ensures ∙ ap head_text c.node_name.ensures in
    let eid = c.in_ok-eid.ensures ∙ ap (eid_text id) c.eid_of.ensures in
    let pool = c.in_ok-pool.ensures ∙ ap (λ p. pool_text id (pool_first p) (pool_size p)) c.pool_at.ensures in
    said_so string_bytes _ _ _
    (six_are _ _ _ _ _ _ _ _ _ _ _ _ (c.deref.ensures ∙ head) (c.deref-2.ensures ∙ c.in_ok-unit.ensures) (c.deref-3.ensures ∙ eid) (c.deref-4.ensures ∙ pool)
    (c.deref-5.ensures ∙ c.in_ok-rows.ensures) (c.deref-6.ensures ∙ c.in_ok-terminus.ensures)) c.six_texts.ensures
