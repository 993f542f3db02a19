-- What was made stands before what is left.
use Rattle.std.{proofs.Common.{◌≡◌, ◌++◌, map, drop}, specs.Prelude.{IfSome}}
use Rattle.net_plan.{specs.NameIndexes.{find_in}, specs.RowParts.{named_row}, specs.Skeleton.{found_row}}
use Rattle.plan_values.specs.NodeValues.{row_value}
use Rattle.net_plan.proofs.skeleton.found_rows.Given as goal

abbrev pub invariant-loop-row : goal.invariant-loop-row
invariant-loop-row l = (map (λ r. found_row (find_in l.nodes) (named_row r)) l.rows ≡ map row_value l.list.items ++ map (λ r. found_row (find_in l.nodes) (named_row r)) (drop l.row-index l.rows))
    × IfSome l.last (λ f. f.index ≡ find_in l.nodes f.name.now)
