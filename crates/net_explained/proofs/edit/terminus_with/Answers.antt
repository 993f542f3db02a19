use Rattle.std.proofs.Common.{◌<◌, length, ap, rules}
use Rattle.plan_values.specs.NodeValues.{record_value, terminus_value}
use Rattle.net_explained.{specs.Edits.{changed_record}, proofs.Editing.{item_changed, item_there}}
use Rattle.net_explained.proofs.edit.terminus_with.Goals as goal

pub returns : goal.returns
returns c =
    let listed = c.args.terminus.records.items in
    let within : c.args.at < length listed = search rules in
    let found = item_there listed c.args.at c.index.result.now within c.index.ensures in
    let records = item_changed record_value (changed_record c.args.change.now) listed c.args.at c.index.result.now c.in_ok-record.record found c.in_ok-record.ensures in
    ap (λ rs. record (terminus_value c.args.terminus) { records = rs }) records
