use Rattle.std.proofs.Common.{codes, refl, rules}
use Rattle.net_plan.{specs.JsonWords.{IsString, IsNumberWithin}, specs.Keys.{row_keys}, specs.PlanText.{IsByte}, proofs.Gathered.{here, all_keys, object_plain}}
use Rattle.net_plan.proofs.row_parts.RowParts.row.Goals as goal

pub returns : goal.returns
returns c ms h =
    let p = c.args.self.now in
    let first = here (codes "first") IsByte p.first ms h.read.0 c.in_ok-self.field-0 (search rules) in
    let size = here (codes "size") IsByte p.size ms h.read.1.0 c.in_ok-self-2.field-0 (search rules) in
    let port = here (codes "port") (IsNumberWithin 0 31) p.port ms h.read.1.1.0 c.in_ok-self-3.field-0 (search rules) in
    let next = here (codes "next") (λ d name. IsString d name.now) p.next ms h.read.1.1.1.0 c.in_ok-self-4.field-0 (search rules) in
    (record { keys = all_keys row_keys ms h.plain (rw (first.1, size.1, port.1, next.1) refl); first = first.2; size = size.2; port = port.2; next = next.2 }, object_plain row_keys ms h.plain)
