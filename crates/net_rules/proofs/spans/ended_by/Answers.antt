use Rattle.std.{proofs.Common.{ℕ, ◌≤◌, Bool, rules}, proofs.Math.Dec.{leb}, proofs.lemmas.List.Sorted.{IsPartitionPoint-from_clause}}
use Rattle.net_rules.{specs.declared.span.Span.{Span}, proofs.FollowingLaws.{parted, ended_by}}
use Rattle.net_rules.proofs.spans.ended_by.Goals as goal

pub returns : goal.returns
returns c =
    let at = c.args.at in
    let first : Span → ℕ = λ s. s.first in
    let past : Span → ℕ = λ s. s.end in
    let grows : (s : Span) → first s ≤ past s = λ s. s.ordered in
    let p : Span → Bool = λ s. leb (past s) at in
    let parts = IsPartitionPoint-from_clause p _ _ c.partition_point.ensures.partitioned (parted first past grows c.args.spans.now c.requires at) (λ a r q k. search rules) in
    ended_by first past grows c.args.spans.now c.requires at c.partition_point.result c.partition_point.ensures.bound parts.0 parts.1
