use Rattle.std.proofs.Common.{◌≡◌, ◌++◌, [], map, drop, drop_of_length-le, sym, ap, ◌∙◌, append-nil, rules}
use Rattle.net_plan.{specs.NameIndexes.{find_in}, specs.RowParts.{named_row}, specs.Skeleton.{found_row}, specs.declared.row_parts.NamedRow.{NamedRow}, proofs.StandIns.{map_twice}}
use Rattle.plan_values.specs.NodeValues.{RowValue, row_value}
use Rattle.net_plan.proofs.skeleton.found_rows.Goals as goal

pub returns : goal.returns
returns c =
    let l = c.loop-row in
    let rows = c.args.rows.now in
    let f : NamedRow → RowValue = (λ r. found_row (find_in c.args.nodes.now) (named_row r)) in
    let past : drop l.row-index rows ≡ [] = drop_of_length-le rows (search rules) in
    sym (append-nil (map row_value l.list.items)) ∙ ap (λ xs. map row_value l.list.items ++ map f xs) (sym past) ∙ sym l.invariant.0 ∙ sym (map_twice (found_row (find_in c.args.nodes.now)) named_row rows)
