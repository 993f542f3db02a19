use Rattle.std.proofs.Common.{rules}
use Rattle.plan_commands.proofs.Exchanging.{fewer_left, all_collected}
use Rattle.plan_commands.proofs.walk.collecting.collect.Goals as goal

pub loop-walker-smaller : goal.loop-walker-smaller
loop-walker-smaller c =
    let kept = c.loop-walker.invariant in
    fewer_left _ _ c.requires.lawful c.requires.few c.args.part.bytes c.args.part.least c.args.part.most kept.1 _ _ kept.2.0 _ kept.2.1 (c.in_ok-exchange.ensures.goes c.args.part.bytes) (search rules)

pub returns-clause-collected : goal.returns-clause-collected
returns-clause-collected c =
    let kept = c.loop-walker.invariant in
    all_collected _ _ c.requires.lawful c.requires.few c.args.part.bytes c.args.part.least c.args.part.most kept.1 _ _ kept.2.0 _ kept.2.1 (c.in_ok-exchange.ensures.goes c.args.part.bytes) (search rules)
