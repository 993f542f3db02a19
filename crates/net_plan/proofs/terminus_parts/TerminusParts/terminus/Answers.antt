use Rattle.std.proofs.Common.{map, codes, refl, rules}
use Rattle.net_plan.{specs.JsonWords.{IsNumberWithin, IsShortListOf}, specs.Keys.{terminus_keys}, specs.PlanText.{IsRecordOf}, proofs.Gathered.{here, all_keys, object_plain}}
use Rattle.plan_values.specs.NodeValues.{record_value}
use Rattle.net_plan.proofs.terminus_parts.TerminusParts.terminus.Goals as goal

pub returns : goal.returns
returns c ms h =
    let p = c.args.self in
    let tid = here (codes "tid") (IsNumberWithin 0 254) p.tid ms h.read.0 c.in_ok-tid.tid (search rules) in
    let records = here (codes "records") (λ d v. IsShortListOf 4096 IsRecordOf d (map record_value v.items)) p.records ms h.read.1.0 c.in_ok-records.records (search rules) in
    (record { keys = all_keys terminus_keys ms h.plain (rw (tid.1, records.1) refl); tid = tid.2; records = records.2 }, object_plain terminus_keys ms h.plain)
