use Rattle.std.proofs.Common.{map, codes, refl, rules}
use Rattle.json.specs.Json.{object}
use Rattle.net_plan.{specs.Trees.{data_of}, specs.CertificateText.{IsRangeOf}, specs.JsonWords.{IsName, IsListOf}, specs.Keys.{ranks_keys}, specs.NameIndexes.{noted}, proofs.CertificateLaw.{ascends_sound}, proofs.Gathered.{here, all_keys, object_plain, placed_at}}
use Rattle.plan_values.specs.CertificateValues.{range_value}
use Rattle.net_plan.proofs.rank_parts.RanksParts.ranks.Goals as goal

pub returns : goal.returns
returns c ms h =
    let p = c.args.self in
    let node = here (codes "node") (λ d name. IsName d name.now) p.node ms h.read.0 c.in_ok-node.node (search rules) in
    let ranges = here (codes "ranges") (λ d v. IsListOf IsRangeOf d (map range_value v.items)) p.ranges ms h.read.1.0 c.in_ok-ranges.ranges (search rules) in (
      λ names places. record {
        keys = all_keys ranks_keys ms h.plain (rw (node.1, ranges.1) refl);
        node = placed_at names (noted c.args.nodes.now) places c.in_ok-node.node.now c.in_ok-index.index (search rules) (data_of (object ms)) node.2;
        ranges = ranges.2;
        ascending = (ascends_sound 0 (map range_value c.in_ok-ranges.ranges.items) (search rules)).1;
      },
      object_plain ranks_keys ms h.plain,
    )
