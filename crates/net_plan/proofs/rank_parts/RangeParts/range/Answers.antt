use Rattle.std.proofs.Common.{codes, refl, sym, subst, rules}
use Rattle.json.specs.Json.{object}
use Rattle.net_plan.{specs.CertificateText.{IsRangeOf}, specs.Gathered.{IsPlain}, specs.JsonWords.{IsNumberWithin}, specs.Keys.{range_keys}, specs.PlanText.{IsByte}, specs.Trees.{data_of}, proofs.Gathered.{here, all_keys, object_plain}}
use Rattle.net_plan.proofs.rank_parts.RangeParts.range.Goals as goal

pub returns : goal.returns
returns c ms h =
    let p = c.args.self.now in
    let first = here (codes "first") IsByte p.first ms h.read.0 c.in_ok-first.first (search rules) in
    let rank = here (codes "rank") (IsNumberWithin 1 255) p.rank ms h.read.1.0 c.in_ok-rank.rank (search rules) in
    let size = here (codes "size") (IsNumberWithin 1 255) p.size ms h.read.1.1.0 c.in_ok-size.size (search rules) in
    subst (λ v. IsRangeOf (data_of (object ms)) (record { first = v; rank = c.in_ok-rank.rank; size = c.in_ok-size.size }) × IsPlain (object ms)) (sym c.new.ensures)
    (record { keys = all_keys range_keys ms h.plain (rw (first.1, rank.1, size.1) refl); first = first.2; rank = rank.2; size = size.2; within = search rules }, object_plain range_keys ms h.plain)
