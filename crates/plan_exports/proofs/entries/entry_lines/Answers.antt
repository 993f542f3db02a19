use Rattle.std.{proofs.Common.{map, ap, ◌∙◌}, specs.List.{flat_map}}
use Rattle.plan_exports.specs.TableAnswers.{hex_line}
use Rattle.plan_exports.proofs.entries.entry_lines.Goals as goal

pub returns : goal.returns
returns c = record {
  messages = map (λ m. m.items) c.in_ok-messages.messages.items;
  told = c.in_ok-messages.ensures;
  lines = c.in_ok-lines.ensures ∙ ap (λ ms. flat_map hex_line (map (λ m. m.items) ms)) c.deref.ensures.value;
}
