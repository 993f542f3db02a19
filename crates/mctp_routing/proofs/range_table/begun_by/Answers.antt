use Rattle.std.{proofs.Common.{ℕ, Bool, get_or, rules}, proofs.Math.Dec.{leb}, proofs.lemmas.List.Sorted.{IsPartitionedBy-leb, IsPartitionPoint-from_clause}}
use Rattle.mctp_routing.{specs.declared.row.TableRow.{TableRow}, proofs.Halving.{rows_ascend, begins_by, begins_past}}
use Rattle.mctp_routing.proofs.range_table.begun_by.Goals as goal

pub returns-clause-begun : goal.returns-clause-begun
returns-clause-begun c =
    let e = c.args.eid.value in
    let p : TableRow → Bool = λ row. leb row.first.value e in
    let first : TableRow → ℕ = λ row. row.first.value in
    let parts = IsPartitionPoint-from_clause p _ _ c.partition_point.ensures.partitioned (IsPartitionedBy-leb first c.args.rows.now e (rows_ascend c.args.rows.now c.requires)) (λ a r q k. search rules) in
    λ k d low high. begins_by (get_or c.args.rows.now k d) e (parts.0 k d low high)

pub returns-clause-past : goal.returns-clause-past
returns-clause-past c =
    let e = c.args.eid.value in
    let p : TableRow → Bool = λ row. leb row.first.value e in
    let first : TableRow → ℕ = λ row. row.first.value in
    let parts = IsPartitionPoint-from_clause p _ _ c.partition_point.ensures.partitioned (IsPartitionedBy-leb first c.args.rows.now e (rows_ascend c.args.rows.now c.requires)) (λ a r q k. search rules) in
    λ k d low high. begins_past (get_or c.args.rows.now k d) e (parts.1 k d low high)
