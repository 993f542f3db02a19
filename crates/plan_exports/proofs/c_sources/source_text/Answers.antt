use Rattle.std.{proofs.Common.{map, string_bytes, ap, ◌∙◌}, specs.Prelude.{option_map}}
use Rattle.plan_exports.{specs.CSources.{identifier, named_text, terminus_facts}, specs.PlannedRows.{row_facts}, proofs.Pieces.{said_so}}
use Rattle.plan_exports.proofs.c_sources.source_text.Goals as goal

pub returns : goal.returns
returns c =
    let id = c.deref.ensures ∙ c.in_ok-id.ensures ∙ ap identifier c.node_name.ensures in
    said_so string_bytes _ _ _
    (ap (λ i. named_text c.args.plan.now c.args.node i (map row_facts c.args.rows.now) (option_map terminus_facts c.args.terminus)) id) c.named_source.ensures
