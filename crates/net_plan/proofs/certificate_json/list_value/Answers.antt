use Rattle.std.proofs.Common.{rules, ◌≡◌, map, take, take_all, ap, ◌∙◌}
use Rattle.serde_json.{specs.Data.{array}, specs.View.{items_of}, proofs.Views.{view-Array}}
use Rattle.net_plan.proofs.WrittenJson.{map_map}
use Rattle.net_plan.proofs.certificate_json.list_value.Goals as goal

pub returns : goal.returns
returns g c =
    let made = g.W.WriteItem.data_of c.args.writer.now in
    let meaning = g.W.WriteItem.meaning in
    let items = c.args.items.now in
    let all : take c.loop-item.item-index items ≡ items = take_all c.loop-item.item-index items (search rules) in
    view-Array c.loop-item.list ∙ ap (λ ds. array (items_of ds)) (c.loop-item.invariant ∙ ap (map (λ x. made (meaning x))) all ∙ map_map made meaning items)
