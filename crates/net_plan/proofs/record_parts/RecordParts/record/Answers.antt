use Rattle.std.proofs.Common.{codes, refl, rules}
use Rattle.net_plan.{specs.JsonWords.{IsHex}, specs.Keys.{record_keys}, specs.PlanText.{IsWord}, proofs.Gathered.{here, all_keys, object_plain}}
use Rattle.net_plan.proofs.record_parts.RecordParts.record.Goals as goal

pub returns : goal.returns
returns c ms h =
    let p = c.args.self in
    let handle = here (codes "handle") IsWord p.handle ms h.read.0 c.in_ok-self.field-0 (search rules) in
    let next = here (codes "next") IsWord p.next ms h.read.1.0 c.in_ok-self-2.field-0 (search rules) in
    let bytes = here (codes "bytes") (λ d v. IsHex d v.items) p.bytes ms h.read.1.1.0 c.in_ok-self-3.field-0 (search rules) in
    (record { keys = all_keys record_keys ms h.plain (rw (handle.1, next.1, bytes.1) refl); handle = handle.2; next = next.2; bytes = bytes.2 }, object_plain record_keys ms h.plain)
