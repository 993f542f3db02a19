use Rattle.std.proofs.Common.{codes, refl, rules}
use Rattle.json.specs.Json.{object}
use Rattle.net_plan.{specs.Trees.{data_of}, specs.JsonWords.{IsName, IsNumberWithin}, specs.Keys.{level_keys}, specs.NameIndexes.{noted}, proofs.Gathered.{here, all_keys, object_plain, placed_at}}
use Rattle.net_plan.proofs.level_parts.LevelParts.level.Goals as goal

pub returns : goal.returns
returns c ms h =
    let p = c.args.self.now in
    let level = here (codes "level") (IsNumberWithin 1 63) p.level ms h.read.0 c.in_ok-level.level (search rules) in
    let node = here (codes "node") (λ d name. IsName d name.now) p.node ms h.read.1.0 c.in_ok-node.node (search rules) in (
      λ names places. record {
        keys = all_keys level_keys ms h.plain (rw (level.1, node.1) refl);
        level = level.2;
        node = placed_at names (noted c.args.nodes.now) places c.in_ok-node.node.now c.in_ok-index.index (search rules) (data_of (object ms)) node.2;
      },
      object_plain level_keys ms h.plain,
    )
