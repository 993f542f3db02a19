use Rattle.std.proofs.Common.{ap, ◌∙◌}
use Rattle.serde_json.{specs.Data.{array}, specs.View.{items_view}, proofs.Views.{view-Array}}
use Rattle.json_commands.proofs.lists.empty_list.Goals as goal

pub returns : goal.returns
returns c = view-Array c.new.result ∙ ap (λ vs. array (items_view vs)) c.new.ensures.items
