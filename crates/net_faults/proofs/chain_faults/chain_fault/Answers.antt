use Rattle.std.proofs.Common.{None, rules}
use Rattle.net_rules.{specs.Circles.{HasNoCircle}, specs.RecordChains.{HasNext, HasNewNext, IsFollowedBy}, specs.Search.{IsFirstItem}}
use Rattle.net_faults.proofs.RecordLaws.{nothing_wrong}
use Rattle.net_faults.proofs.chain_faults.chain_fault.Goals as goal

pub returns : goal.returns
returns c =
    let records = c.args.records.now in
    let nexts : IsFirstItem records (λ _ r. HasNext records r) None = search rules in
    let apart : IsFirstItem records (HasNewNext records) None = search rules in
    let none : HasNoCircle (IsFollowedBy records) = rw c.in-None.is at c.in_ok-record.ensures in
    nothing_wrong records nexts apart none
