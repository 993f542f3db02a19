use Rattle.std.{proofs.Common.{map, ap, ◌∙◌}, specs.Prelude.{option_map}}
use Rattle.plan_exports.{specs.CSources.{c_text, terminus_facts}, specs.PlannedRows.{row_facts}}
use Rattle.plan_exports.proofs.c_sources.c_source.Goals as goal

pub returns : goal.returns
returns c = record {
  rows = map row_facts c.in_ok-rows.rows.items;
  planned = c.in_ok-rows.ensures;
  text_is = c.in_ok-text.ensures ∙ ap (λ rs. c_text c.args.plan.now c.args.node (map row_facts rs) (option_map terminus_facts c.args.terminus)) c.deref.ensures.value;
}
