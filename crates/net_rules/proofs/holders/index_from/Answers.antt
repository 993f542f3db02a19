use Rattle.std.{proofs.Common.{ℕ, ◌+◌, ◌≤◌, Bool, arith, rules}, proofs.Math.Dec.{leb}, proofs.lemmas.List.Sorted.{IsPartitionPoint-from_clause}}
use Rattle.net_rules.{specs.declared.holders.Holder.{Holder}, proofs.FollowingLaws.{parted, ended_by}}
use Rattle.net_rules.proofs.holders.index_from.Goals as goal

pub returns : goal.returns
returns c =
    let e = c.args.eid.value in
    let first : Holder → ℕ = λ x. x.eid.value in
    let past : Holder → ℕ = λ x. x.eid.value + 1 in
    let grows : (x : Holder) → first x ≤ past x = λ x. omega arith in
    let p : Holder → Bool = λ x. leb (past x) e in
    let parts = IsPartitionPoint-from_clause p _ _ c.partition_point.ensures.partitioned (parted first past grows c.args.holders.now c.requires e) (λ a r q k. search rules) in
    ended_by first past grows c.args.holders.now c.requires e c.partition_point.result c.partition_point.ensures.bound parts.0 parts.1
