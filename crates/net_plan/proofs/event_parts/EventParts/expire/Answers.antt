use Rattle.std.proofs.Common.{Some, sym, subst, rules}
use Rattle.net_plan.{specs.EventParts.{IsEventBy}, specs.Gathered.{IsPlain}, specs.Trees.{data_of}, specs.NameIndexes.{noted}, proofs.EventParts.{expire_of}}
use Rattle.json.specs.Json.{object}
use Rattle.plan_values.specs.EventValues.{expire}
use Rattle.net_plan.proofs.event_parts.EventParts.expire.Goals as goal

pub returns : goal.returns
returns c =
    λ ms h does. subst (λ v. IsEventBy (noted c.args.nodes.now) (data_of (object ms)) (expire c.in_ok-index.index v c.in_ok-tag.tag.value c.in_ok-owner.owner) × IsPlain (object ms)) (sym c.new.ensures)
    (expire_of c.args.self.now ms h (noted c.args.nodes.now) c.in_ok-node.node c.in_ok-source.source c.in_ok-tag.tag c.in_ok-owner.owner c.in_ok-index.index (search rules) (search rules) (search rules) (search rules) (search rules) (search rules) does)
