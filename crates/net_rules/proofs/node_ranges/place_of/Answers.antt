use Rattle.std.{proofs.Common.{ℕ, ◌≤◌, Bool, arith, rules}, proofs.Math.Dec.{leb}, proofs.lemmas.List.Sorted.{IsPartitionPoint-from_clause}}
use Rattle.plan_values.specs.declared.certificate.RankRange.{RankRange}
use Rattle.net_rules.{specs.RanksByEid.{range_past}, proofs.FollowingLaws.{parted, ended_by}}
use Rattle.net_rules.proofs.node_ranges.place_of.Goals as goal

pub returns : goal.returns
returns c =
    let e = c.args.eid.value in
    let first : RankRange → ℕ = λ x. x.first.value in
    let grows : (x : RankRange) → first x ≤ range_past x = λ x. omega arith in
    let p : RankRange → Bool = λ x. leb (range_past x) e in
    let parts = IsPartitionPoint-from_clause p _ _ c.partition_point.ensures.partitioned (parted first range_past grows c.args.ranges.now c.requires e) (λ a r q k. search rules) in
    ended_by first range_past grows c.args.ranges.now c.requires e c.partition_point.result c.partition_point.ensures.bound parts.0 parts.1
