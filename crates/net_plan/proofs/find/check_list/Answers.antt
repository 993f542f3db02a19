use Rattle.std.proofs.Common.{rules, ◌≡◌, length, true, false, refl, ap, ◌∙◌}
use Rattle.serde_json.specs.Data.{array}
use Rattle.net_plan.{specs.Trees.{view, items_view}, proofs.Trees.{view-Array}, proofs.Items.{items_count_of_view}, specs.Finding.{is_within}}
use Rattle.net_plan.proofs.find.check_list.Goals as goal

pub returns-then-not-is_within : goal.returns-then-not-is_within
returns-then-not-is_within c =
    let items = c.in-Array.items.items in
    let seen : view c.args.value.now ≡ array (items_view items) = ap view c.in-Array.is ∙ view-Array c.in-Array.items in
    let many : is_within c.args.most (length items) ≡ false = search rules in
    rw (seen, items_count_of_view items, many) refl

pub returns : goal.returns
returns c =
    let items = c.in-Array.items.items in
    let seen : view c.args.value.now ≡ array (items_view items) = ap view c.in-Array.is ∙ view-Array c.in-Array.items in
    let few : is_within c.args.most (length items) ≡ true = search rules in
    rw (seen, items_count_of_view items, few) refl
