use Rattle.std.{proofs.Common.{ℕ, ◌+◌, Bool, get_or, rules}, proofs.Math.Dec.{leb}, proofs.lemmas.List.Sorted.{IsPartitionedBy-leb, IsPartitionPoint-from_clause}}
use Rattle.mctp_routing.{specs.declared.row.TableRow.{TableRow}, proofs.PieceSteps.{ends_ascend, ended_by, not_ended_by}}
use Rattle.mctp_routing.proofs.pieces.ended_before.Goals as goal

pub returns-clause-ended : goal.returns-clause-ended
returns-clause-ended c =
    let e = c.args.eid.value in
    let p : TableRow → Bool = λ row. leb (row.first.value + row.size) e in
    let end : TableRow → ℕ = λ row. row.first.value + row.size in
    let parts = IsPartitionPoint-from_clause p _ _ c.partition_point.ensures.partitioned (IsPartitionedBy-leb end c.args.rows.now e (ends_ascend c.args.rows.now c.requires)) (λ a r q k. search rules) in
    λ k d low high. ended_by (get_or c.args.rows.now k d) e (parts.0 k d low high)

pub returns-clause-reaching : goal.returns-clause-reaching
returns-clause-reaching c =
    let e = c.args.eid.value in
    let p : TableRow → Bool = λ row. leb (row.first.value + row.size) e in
    let end : TableRow → ℕ = λ row. row.first.value + row.size in
    let parts = IsPartitionPoint-from_clause p _ _ c.partition_point.ensures.partitioned (IsPartitionedBy-leb end c.args.rows.now e (ends_ascend c.args.rows.now c.requires)) (λ a r q k. search rules) in
    λ k d low high. not_ended_by (get_or c.args.rows.now k d) e (parts.1 k d low high)
