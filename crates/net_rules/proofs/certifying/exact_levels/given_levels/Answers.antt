use Rattle.std.proofs.lemmas.Option.{slice_get-get_or}
use Rattle.net_rules.proofs.certifying.exact_levels.given_levels.Goals as goal

pub add_level-requires : goal.add_level-requires
add_level-requires c = c.requires c.loop-node.node _ (slice_get-get_or c.args.levels.now c.loop-node.node 0 c.loop-node-test.true)

pub loop-node-preserved : goal.loop-node-preserved
loop-node-preserved c = c.in_ok-add_level.ensures c.args.levels.now (slice_get-get_or c.args.levels.now c.loop-node.node 0 c.loop-node-test.true) c.loop-node.invariant
